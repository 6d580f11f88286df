use mathlib.Core.Path.{◌≡◌}
use Prim.Native.Nat.{ℕ, ◌+◌, ◌*◌, ◌<◌}
use lib.ListN.{length, get_or}
use Rattle.meaning.specs.Strings.{ones}
use Rattle.meaning.specs.Bytes.{bits_from}
use Rattle.check_sample_table.proofs.count_words.Given as goal

abbrev pub invariant-loop-w : goal.invariant-loop-w
invariant-loop-w l = (length l.table ≡ 63) × ((q : ℕ) → q < l.w → get_or l.table q 0 ≡ ones (bits_from l.b (8 * (l.at + 8 * q)) 64))
