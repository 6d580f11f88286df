use mathlib.Core.Path.{◌≡◌}
use mathlib.Core.List.{List}
use Prim.Native.Nat.{ℕ, ◌^◌, ◌<◌}
use lib.ListN.{get_or}
use Rattle.meaning.specs.Strings.{Bit, O}
use Rattle.meaning.specs.Bytes.{number, value}
use Rattle.seal_r1_bits.proofs.byte_of.Given as goal

abbrev pub invariant-loop-j : goal.invariant-loop-j
invariant-loop-j g l = record {
  small : l.x < 2 ^ l.j;
  made : (bits : List Bit) → ((j r : ℕ) → j < 8 → goal.F-post g l.bit j r → r ≡ value (get_or bits j O)) → l.x ≡ number l.j bits;
}
