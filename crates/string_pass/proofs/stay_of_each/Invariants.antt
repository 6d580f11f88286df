use mathlib.Core.Path.{◌≡◌}
use Prim.Native.Nat.{◌+◌}
use Rattle.string_pass.specs.Heights.{heights, stays}
use Rattle.string_pass.proofs.stay_of_each.Given as goal

abbrev pub invariant-loop-i : goal.invariant-loop-i
invariant-loop-i l = (l.height ≡ heights l.i (128 + l.pending) l.word 8) × (l.stay ≡ stays l.i (128 + l.pending) l.word 8)
