-- `list_write::list_node`, which calls itself.
use Rattle.std.proofs.Common.{◌≡◌, ℕ, length, ◌+◌, ◌-◌, ◌<◌}
use Rattle.list_measure.specs.Levels.{ones_before_in}
use Rattle.list_write.proofs.Writing.{Going}
use Rattle.list_write.proofs.+list_node.Given as goal

abbrev pub decreases-list_node : goal.decreases-list_node
decreases-list_node l = l.left

-- the children up to some a are listed, and there are more of them exactly if `more` says so
abbrev pub invariant-loop-more : goal.invariant-loop-more
invariant-loop-more l =
    (a : ℕ) × Going l.b l.x l.left l.initial.cursors l.initial.out l.cursors l.out l.filled a × (l.more ≡ 1 → a < ones_before_in l.b (l.x + 1))
    × ((l.more ≡ 1 → ⊥) → a ≡ ones_before_in l.b (l.x + 1))

abbrev pub decreases-loop-more : goal.decreases-loop-more
decreases-loop-more l = length l.initial.out - l.filled
