use mathlib.Core.Path.{◌≡◌}
use Prim.Native.Nat.{◌-◌, ◌*◌}
use lib.ListN.{length}
use Rattle.meaning.specs.Strings.{ones}
use Rattle.meaning.specs.Bytes.{bits_from}
use Rattle.bits_select.proofs.Reaching.{Reached}
use Rattle.bits_select.proofs.place_from.Given as goal

abbrev pub invariant-loop-here : goal.invariant-loop-here
invariant-loop-here l = Reached l.b l.at (length l.b - 7 - l.at) l.k l.i (length l.b - 7 - l.i) l.need × (l.here ≡ ones (bits_from l.b (8 * l.i) 64))

abbrev pub decreases-loop-here : goal.decreases-loop-here
decreases-loop-here l = length l.b - l.i
