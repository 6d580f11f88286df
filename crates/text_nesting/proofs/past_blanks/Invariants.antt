use mathlib.Core.List.{List}
use Prim.Native.Nat.{ℕ, ◌-◌, ◌≤◌}
use lib.ListN.{length}
use Rattle.meaning.specs.Text.{Reading}
use Rattle.text_nesting.specs.Nesting.{Going, Same}
use Rattle.text_nesting.proofs.past_blanks.Given as goal

abbrev pub invariant-loop-at : goal.invariant-loop-at
invariant-loop-at l = (l.at ≤ length l.text) × ((s : Reading) (levels : List ℕ) → Going s → Same l.text l.from l.at s s levels levels)

abbrev pub decreases-loop-at : goal.decreases-loop-at
decreases-loop-at l = length l.text - l.at
