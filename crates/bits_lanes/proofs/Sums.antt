-- The ones of each byte of a word, as sums of two digits, of four and of eight.
use mathlib.Core.Path.{◌≡◌, refl, sym, ap, ap₂, ◌∙◌}
use mathlib.Core.Bool.{Bool}
use Prim.Native.Nat.{ℕ, ◌+◌, ◌-◌, ◌/◌, ◌^◌, ◌<◌, ◌≤◌}
use native.Mathlib.Nat.{div-one}
use native.Mathlib.Omega.{arith}
use lib.Bits.{bit_and, and_le_l, and_le_r}
use lib.Dec.{eqb, eqb→eq}
use Rattle.meaning.specs.Bytes.{bit, bit_at, bits_from}
use Rattle.bits_byte.proofs.Table.{at}
use Rattle.bits_lanes.specs.Lanes.{each, ones_in}
use Rattle.bits_lanes.proofs.Lanes.{each-add, each-sub, each-le, each_byte, each_and}
use Rattle.bits_lanes.proofs.Counts.{byte_few}

-- ---- of a byte

abbrev twos : ℕ → ℕ
twos x = x - bit_and (x / 2 ^ 1) 85

abbrev fours : ℕ → ℕ
fours x = bit_and (twos x / 2 ^ 0) 51 + bit_and (twos x / 2 ^ 2) 51

abbrev eights : ℕ → ℕ
eights x = bit_and (fours x / 2 ^ 0) 15 + bit_and (fours x / 2 ^ 4) 15

abbrev summed : ℕ → Bool
summed x = eqb (eights x) (ones_in x)

eights-ones : (x : ℕ) → x < 256 → eights x ≡ ones_in x
unfolding bits_from bit_at bit
eights-ones x h = eqb→eq (eights x) (ones_in x) (at summed 256 tt x h)

twos-lt : (x : ℕ) → x < 256 → twos x < 256
twos-lt x h = omega arith

fours-lt : (x : ℕ) → x < 256 → fours x < 256
fours-lt x h = omega (arith, and_le_r (twos x / 2 ^ 0) 51, and_le_r (twos x / 2 ^ 2) 51)

-- ---- of all bytes at once, as code has them

module _ (w : ℕ) (l : w < 2 ^ 64) where
  abbrev pub two : ℕ
  two = w - bit_and (w / 2 ^ 1) 6148914691236517205

  abbrev pub four : ℕ
  four = bit_and two 3689348814741910323 + bit_and (two / 2 ^ 2) 3689348814741910323

  abbrev pub eight : ℕ
  eight = bit_and four 1085102592571150095 + bit_and (four / 2 ^ 4) 1085102592571150095

  -- a mask in every lane
  mask : (f : ℕ → ℕ) (m v : ℕ) → m < 256 → ((x : ℕ) → x < 256 → f x < 256) → v ≡ each f w 8 → bit_and v (each (λ x. m) w 8) ≡ each (λ x. bit_and (f x / 2 ^ 0) m) w 8
  mask f m v lm lf e = ap (λ a. bit_and a (each (λ x. m) w 8)) (e ∙ sym (div-one (each f w 8))) ∙ each_and f 0 m (omega arith) lm lf w 8

  -- a mask in every lane, of the digits s places up
  mask_up : (f : ℕ → ℕ) (s m v : ℕ) → s ≤ 8 → m < 2 ^ (8 - s) → ((x : ℕ) → x < 256 → f x < 256) → v ≡ each f w 8
      → bit_and (v / 2 ^ s) (each (λ x. m) w 8) ≡ each (λ x. bit_and (f x / 2 ^ s) m) w 8
  mask_up f s m v ls lm lf e = ap (λ a. bit_and (a / 2 ^ s) (each (λ x. m) w 8)) e ∙ each_and f s m ls lm lf w 8

  whole : w ≡ each (λ x. x) w 8
  whole = sym (each_byte 8 w l)

  two_is : two ≡ each twos w 8
  unfolding each
  two_is =
      ap₂ (λ a b. a - b) whole (mask_up (λ x. x) 1 85 w (omega arith) (omega arith) (λ x h. h) whole)
      ∙ each-sub (λ x. x) (λ x. bit_and (x / 2 ^ 1) 85) twos (λ x h. omega (arith, and_le_l (x / 2 ^ 1) 85)) w 8

  four_is : four ≡ each fours w 8
  unfolding each
  four_is =
      ap₂ (λ a b. a + b) (mask twos 51 two (omega arith) twos-lt two_is) (mask_up twos 2 51 two (omega arith) (omega arith) twos-lt two_is)
      ∙ each-add (λ x. bit_and (twos x / 2 ^ 0) 51) (λ x. bit_and (twos x / 2 ^ 2) 51) fours (λ x h. refl) w 8

  pub eight_is : eight ≡ each ones_in w 8
  unfolding each
  eight_is =
      ap₂ (λ a b. a + b) (mask fours 15 four (omega arith) fours-lt four_is) (mask_up fours 4 15 four (omega arith) (omega arith) fours-lt four_is)
      ∙ each-add (λ x. bit_and (fours x / 2 ^ 0) 15) (λ x. bit_and (fours x / 2 ^ 4) 15) ones_in eights-ones w 8

  pub half_fits : bit_and (w / 2 ^ 1) 6148914691236517205 ≤ w
  half_fits = omega (arith, and_le_l (w / 2 ^ 1) 6148914691236517205)

  pub four_fits : four < 2 ^ 64
  unfolding each
  four_fits = omega (arith, four_is, each-le fours (λ x. 255) (λ x h. omega (arith, fours-lt x h)) w 8)

  pub eight_fits : eight < 2 ^ 64
  unfolding each
  eight_fits = omega (arith, eight_is, each-le ones_in (λ x. 8) (λ x h. byte_few x) w 8)
