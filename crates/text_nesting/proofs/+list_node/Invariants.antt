-- `text_nesting::list` and `text_nesting::node`, which call one another.
use Rattle.std.proofs.Common.{◌≡◌, false, length, get_or, ◌+◌, ◌-◌, ◌*◌, ◌<◌}
use Rattle.meaning.specs.Text.{is_blank, inside}
use Rattle.text_nesting.specs.Nesting.{Ready, Same}
use Rattle.text_nesting.proofs.+list_node.Given as goal

abbrev pub decreases-list : goal.decreases-list
decreases-list l = 2 * l.left + 1

abbrev pub decreases-node : goal.decreases-node
decreases-node l = 2 * l.left

abbrev pub invariant-list-loop-at : goal.invariant-list-loop-at
invariant-list-loop-at l =
    Ready l.text l.at l.levels × Same l.text l.from l.at (inside (64 - l.left) l.left) (inside (64 - l.left) l.left) l.initial.levels l.levels
    × (l.at < length l.text → is_blank (get_or l.text l.at 0) ≡ false)

abbrev pub decreases-list-loop-at : goal.decreases-list-loop-at
decreases-list-loop-at l = length l.text - l.at
