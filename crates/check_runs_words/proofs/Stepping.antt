-- Eight bytes in step that need not be looked at bit by bit: the ones that both strings have move
-- neither ahead.
use mathlib.Core.Path.{◌≡◌, sym, ap, ◌∙◌}
use mathlib.Core.List.{List, [], ◌∷◌}
use Prim.Native.Nat.{ℕ, zero, suc, ◌+◌, ◌*◌, ◌≤◌}
use native.Mathlib.Omega.{arith}
use lib.ListN.{length, take}
use Rattle.meaning.specs.Strings.{Bit, O, I, ones}
use Rattle.meaning.specs.Bytes.{bits_from}
use Rattle.theory.proofs.Packing.{bits-length}
use Rattle.bits_count.specs.Without.{without}
use Rattle.bits_count.proofs.Runs.{bits-take}
use Rattle.check_runs_words.specs.Steps.{StepAt}

-- R1 gains no more than its ones where R0 has none
gain : (xs ys : List Bit) (p : ℕ) → length xs ≡ length ys → ones (take p xs) ≤ ones (take p ys) + ones (without xs ys)
gain [] ys zero h = omega arith
gain [] ys (suc p) h = omega arith
gain (x ∷ xs) [] p h = absurd (omega arith)
gain (x ∷ xs) (y ∷ ys) zero h = omega arith
gain (O ∷ xs) (O ∷ ys) (suc p) h = omega (arith, gain xs ys p (omega arith))
gain (O ∷ xs) (I ∷ ys) (suc p) h = omega (arith, gain xs ys p (omega arith))
gain (I ∷ xs) (O ∷ ys) (suc p) h = omega (arith, gain xs ys p (omega arith))
gain (I ∷ xs) (I ∷ ys) (suc p) h = omega (arith, gain xs ys p (omega arith))

-- what one gains on the other and the other on it, after them
apart : (xs ys : List Bit) → length xs ≡ length ys → ones xs + ones (without ys xs) ≡ ones ys + ones (without xs ys)
apart [] [] h = omega arith
apart [] (y ∷ ys) h = absurd (omega arith)
apart (x ∷ xs) [] h = absurd (omega arith)
apart (O ∷ xs) (O ∷ ys) h = apart xs ys (omega arith)
apart (O ∷ xs) (I ∷ ys) h = omega (arith, apart xs ys (omega arith))
apart (I ∷ xs) (O ∷ ys) h = omega (arith, apart xs ys (omega arith))
apart (I ∷ xs) (I ∷ ys) h = omega (arith, apart xs ys (omega arith))

few : (xs ys : List Bit) → ones (without xs ys) ≤ ones xs
few [] ys = omega arith
few (x ∷ xs) [] = omega arith
few (O ∷ xs) (O ∷ ys) = few xs ys
few (O ∷ xs) (I ∷ ys) = few xs ys
few (I ∷ xs) (O ∷ ys) = omega (arith, few xs ys)
few (I ∷ xs) (I ∷ ys) = omega (arith, few xs ys)

module _ (bytes : List ℕ) (at1 at0 : ℕ) where
  abbrev xs : List Bit
  xs = bits_from bytes (8 * at1) 64

  abbrev ys : List Bit
  ys = bits_from bytes (8 * at0) 64

  same_length : length xs ≡ length ys
  same_length = bits-length bytes (8 * at1) 64 ∙ sym (bits-length bytes (8 * at0) 64)

  pub step-over-word : (k1 k0 more : ℕ) → more ≡ ones (without xs ys) → k1 + more ≤ k0 → StepAt bytes at1 at0 64 k1 k0
  step-over-word k1 k0 more e h p l =
      omega (
        arith,
        gain xs ys p same_length,
        ap (λ l. ones l) (bits-take bytes (8 * at1) p 64 (omega arith)),
        ap (λ l. ones l) (bits-take bytes (8 * at0) p 64 (omega arith)),
      )

  -- both have as many ones besides
  pub word_apart : ones xs + ones (without ys xs) ≡ ones ys + ones (without xs ys)
  word_apart = apart xs ys same_length

  pub word-few : ones (without xs ys) ≤ ones xs
  word-few = few xs ys
