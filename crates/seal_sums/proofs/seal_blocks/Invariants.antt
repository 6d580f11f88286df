use mathlib.Core.Path.{◌≡◌}
use Rattle.seal_sums.proofs.Laws.{sealed_to}
use Rattle.seal_sums.proofs.seal_blocks.Given as goal

abbrev pub invariant-loop-i : goal.invariant-loop-i
invariant-loop-i l = l.b ≡ sealed_to l.initial.b l.i
