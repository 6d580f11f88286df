-- The leftover bits of the last byte are what a shift leaves of it.
use mathlib.Core.Path.{◌≡◌, refl, sym, ap, ap₂, ◌∙◌}
use mathlib.Core.Bool.{Bool, true, false, not}
use mathlib.Core.List.{List, [], ◌∷◌}
use Prim.Native.Nat.{ℕ, ◌+◌, ◌-◌, ◌*◌, ◌/◌, ◌%◌, ◌^◌, ◌<◌}
use native.Mathlib.Omega.{arith}
use lib.Dec.{T, eqb, ltb}
use lib.ListN.{get_or}
use Rattle.meaning.specs.Strings.{ones}
use Rattle.meaning.specs.Bytes.{bits_from, bytes_for, leftover}
use Rattle.theory.proofs.Packing.{bits_of_byte}
use Rattle.bits_byte.proofs.Table.{all, at}

abbrev alike : Bool → Bool → Bool
alike true b = b
alike false b = not b

alike-eq : (a b : Bool) → T (alike a b) → a ≡ b
alike-eq true true t = refl
alike-eq true false t = absurd t
alike-eq false true t = absurd t
alike-eq false false t = refl

-- whether the bits of byte x after the first r are all zero, by a shift and by counting them
right : ℕ → ℕ → Bool
right x r = alike (not (eqb (x * 2 ^ r % 2 ^ 8) 0)) (ltb 0 (ones (bits_from (x ∷ []) r (8 - r))))

rights : T (all (λ x. all (right x) 8) 256)
unfolding right bits_from
rights = tt

pub shifted_out : (x r : ℕ) → x < 256 → r < 8 → not (eqb (x * 2 ^ r % 2 ^ 8) 0) ≡ ltb 0 (ones (bits_from (x ∷ []) r (8 - r)))
unfolding right
shifted_out x r h g =
    alike-eq (not (eqb (x * 2 ^ r % 2 ^ 8) 0)) (ltb 0 (ones (bits_from (x ∷ []) r (8 - r))))
    (at (right x) 8 (at (λ y. all (right y) 8) 256 rights x h) r g)

pub no_leftover : (bytes : List ℕ) (n : ℕ) → n % 8 ≡ 0 → false ≡ leftover bytes n
unfolding leftover bits_from
no_leftover bytes n e = ap (λ k. ltb 0 (ones (bits_from bytes n k))) (let z : 0 ≡ 8 * bytes_for n - n = omega arith in z)

pub leftover_is : (bytes : List ℕ) (n : ℕ) → get_or bytes (n / 8) 0 < 256 → (n % 8 ≡ 0 → ⊥)
    → not (eqb (get_or bytes (n / 8) 0 * 2 ^ (n % 8) % 2 ^ 8) 0) ≡ leftover bytes n
unfolding leftover
leftover_is bytes n h e =
    let i = n / 8 in
    let r = n % 8 in
    shifted_out (get_or bytes i 0) r h (omega arith)
    ∙ ap (λ bs. ltb 0 (ones bs)) (sym (bits_of_byte bytes i r (8 - r) (omega arith)))
    ∙ ap₂ (λ p k. ltb 0 (ones (bits_from bytes p k))) (let z : 8 * i + r ≡ n = omega arith in z) (let z : 8 - r ≡ 8 * bytes_for n - n = omega arith in z)
