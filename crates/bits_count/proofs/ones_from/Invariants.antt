use mathlib.Core.Path.{◌≡◌}
use Prim.Native.Nat.{◌*◌, ◌≤◌}
use Rattle.meaning.specs.Strings.{ones}
use Rattle.meaning.specs.Bytes.{bits_from}
use Rattle.bits_count.proofs.ones_from.Given as goal

abbrev pub invariant-loop-i : goal.invariant-loop-i
invariant-loop-i l = l.count ≡ ones (bits_from l.b (8 * l.at) (8 * (8 * l.i)))

abbrev pub invariant-loop-i-2 : goal.invariant-loop-i-2
invariant-loop-i-2 l = (l.i ≤ l.whole) × (l.count ≡ ones (bits_from l.b (8 * l.at) (8 * l.i)))
