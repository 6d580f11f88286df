-- The bits of all bytes of a word, one of each at a time, and the ones of the first bits of a byte.
use mathlib.Core.Path.{◌≡◌, sym, ap, ◌∙◌}
use mathlib.Core.Bool.{Bool}
use Prim.Native.Nat.{ℕ, suc, ◌+◌, ◌-◌, ◌/◌, ◌^◌, ◌<◌, ◌≤◌}
use native.Mathlib.Nat.{lt_of_lt_of_le}
use native.Mathlib.Omega.{arith}
use lib.Bits.{bit_and}
use lib.Dec.{eqb, eqb→eq}
use lib.ListN.{take}
use lib.Pow.{pow_mono}
use Rattle.meaning.specs.Strings.{ones}
use Rattle.meaning.specs.Bytes.{bit, bit_at, bits_from}
use Rattle.bits_byte.specs.Byte.{byte_bits}
use Rattle.bits_byte.proofs.Table.{all, at}
use Rattle.bits_lanes.specs.Lanes.{each}
use Rattle.bits_lanes.proofs.Lanes.{each_byte, each_and}

pub bits_of_each : (s w : ℕ) → s ≤ 7 → w < 2 ^ 64 → bit_and (w / 2 ^ s) 72340172838076673 ≡ each (λ x. bit_and (x / 2 ^ s) 1) w 8
unfolding each
bits_of_each s w h l =
    ap (λ v. bit_and (v / 2 ^ s) 72340172838076673) (sym (each_byte 8 w l))
    ∙ each_and (λ x. x) s 1 (omega arith) (lt_of_lt_of_le (let e : 1 < 2 ^ 1 = omega arith in e) (pow_mono {i = 1} {j = 8 - s} (omega arith))) (λ x g. g) w 8

abbrev adds : ℕ → ℕ → Bool
adds i x = eqb (ones (take i (byte_bits x)) + bit_and (x / 2 ^ (7 - i)) 1) (ones (take (suc i) (byte_bits x)))

-- one bit more
pub bit_more : (i x : ℕ) → i < 8 → x < 256 → ones (take i (byte_bits x)) + bit_and (x / 2 ^ (7 - i)) 1 ≡ ones (take (suc i) (byte_bits x))
unfolding bits_from bit_at bit
bit_more i x h g =
    eqb→eq (ones (take i (byte_bits x)) + bit_and (x / 2 ^ (7 - i)) 1) (ones (take (suc i) (byte_bits x))) (at (adds i) 256 (at (λ j. all (adds j) 256) 8 tt i h) x g)
