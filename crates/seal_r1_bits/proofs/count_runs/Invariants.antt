use Prim.Native.Nat.{◌+◌, ◌-◌}
use lib.ListN.{take}
use mathlib.Core.Path.{◌≡◌}
use Rattle.meaning.specs.Strings.{ones, R1, string_of}
use Rattle.seal_r1_bits.proofs.count_runs.Given as goal

abbrev pub invariant-loop-i : goal.invariant-loop-i
invariant-loop-i l = l.k + 1 ≡ ones (take (l.i - 1) (R1 (string_of l.ps))) + 1
