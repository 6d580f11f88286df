-- How far bits take the pending nodes down.
use mathlib.Core.List.{List, [], ◌∷◌, ◌++◌}
use Prim.Native.Nat.{ℕ, zero, suc, ◌+◌, ◌-◌, ◌*◌, ◌/◌, ◌%◌, ◌≤◌}
use native.Mathlib.Omega.{arith}
use lib.ListN.{length, take}
use Rattle.meaning.specs.Strings.{Bit, O, I, ones}
use Rattle.bits_byte.specs.Byte.{byte_bits}
use Rattle.bits_lanes.specs.Lanes.{word_bits}
use Rattle.string_pass.specs.Falls.{fall}

pub fall-le : (bs : List Bit) → fall bs ≤ length bs
unfolding fall
fall-le [] = omega arith
fall-le (O ∷ bs) = omega (arith, fall-le bs)
fall-le (I ∷ bs) = omega (arith, fall-le bs)

-- after all the bits they are not below where they fall at most
pub fall-whole : (bs : List Bit) → length bs ≤ fall bs + 2 * ones bs
unfolding fall
fall-whole [] = omega arith
fall-whole (O ∷ bs) = omega (arith, fall-whole bs)
fall-whole (I ∷ bs) = omega (arith, fall-whole bs)

-- a height that is at least c before and after each bit falls by no more than what is above c
pub fall_above : (bs : List Bit) (c h : ℕ) → c ≤ h → ((i : ℕ) → i ≤ length bs → c + i ≤ h + 2 * ones (take i bs)) → fall bs + c ≤ h
unfolding fall
fall_above [] c h l above = omega arith
fall_above (O ∷ bs) c h l above =
    let first = above 1 (omega arith) in
    omega (arith, fall_above bs c (h - 1) (omega (arith, first)) (λ i g. omega (arith, first, above (suc i) (omega arith))))
fall_above (I ∷ bs) c h l above = omega (arith, fall_above bs c (suc h) (omega arith) (λ i g. omega (arith, above (suc i) (omega arith))))

pub fall-append : (as' bs : List Bit) (c h : ℕ) → c ≤ h → fall as' + c ≤ h → fall bs + c + length as' ≤ h + 2 * ones as' → fall (as' ++ bs) + c ≤ h
unfolding fall
fall-append [] bs c h l f g = omega arith
fall-append (O ∷ as') bs c h l f g = omega (arith, fall-append as' bs c (h - 1) (omega arith) (omega arith) (omega arith))
fall-append (I ∷ as') bs c h l f g = omega (arith, fall-append as' bs c (suc h) (omega arith) (omega arith) (omega arith))

fall_mono : (as' bs cs : List Bit) → fall bs ≤ fall cs → fall (as' ++ bs) ≤ fall (as' ++ cs)
unfolding fall
fall_mono [] bs cs l = l
fall_mono (O ∷ as') bs cs l = omega (arith, fall_mono as' bs cs l)
fall_mono (I ∷ as') bs cs l = omega (arith, fall_mono as' bs cs l)

-- fewer bytes do not fall further
pub fewer_fall : (k m w : ℕ) → k ≤ m → fall (word_bits w k) ≤ fall (word_bits w m)
unfolding fall word_bits
fewer_fall zero m w l = omega arith
fewer_fall (suc k) zero w l = absurd (omega arith)
fewer_fall (suc k) (suc m) w l = fall_mono (byte_bits (w % 256)) (word_bits (w / 256) k) (word_bits (w / 256) m) (fewer_fall k m (w / 256) (omega arith))
