-- Two strings in step: no bits, a bit more, some passed over, and bytes after bytes.
use mathlib.Core.Path.{◌≡◌, ap}
use mathlib.Core.List.{List}
use Prim.Native.Nat.{ℕ, ◌+◌, ◌-◌, ◌*◌, ◌≤◌}
use native.Mathlib.Decide.{dec_lt}
use native.Mathlib.Omega.{arith}
use borrow.Author.Count.{below_more}
use Rattle.meaning.specs.Strings.{ones}
use Rattle.meaning.specs.Bytes.{bits_from}
use Rattle.bits_count.proofs.Runs.{ones_cut, ones-after}
use Rattle.check_runs_words.specs.Steps.{StepAt}

module _ (bytes : List ℕ) (at1 at0 k1 k0 : ℕ) where
  pub step-none : StepAt bytes at1 at0 0 k1 k0
  step-none p h = absurd (omega arith)

  -- one bit more
  pub step-bit : (i : ℕ) → StepAt bytes at1 at0 i k1 k0 → k1 + ones (bits_from bytes (8 * at1) i) ≤ k0 + ones (bits_from bytes (8 * at0) i) → StepAt bytes at1 at0 (i + 1) k1 k0
  step-bit i all here = below_more (λ p. k1 + ones (bits_from bytes (8 * at1) p) ≤ k0 + ones (bits_from bytes (8 * at0) p)) i all here

  -- n bits in which R1 does not come to have more
  pub step-over : (n more : ℕ) → more ≡ ones (bits_from bytes (8 * at1) n) → k1 + more ≤ k0 → StepAt bytes at1 at0 n k1 k0
  step-over n more e h p l =
      let k = n - p in
      omega (arith, ones_cut bytes (8 * at1) p k, ap (λ m. ones (bits_from bytes (8 * at1) m)) (let f : p + k ≡ n = omega arith in f))

  -- after i bytes, n bits more
  module _ (i c1 c0 : ℕ) (e1 : c1 ≡ k1 + ones (bits_from bytes (8 * at1) (8 * i))) (e0 : c0 ≡ k0 + ones (bits_from bytes (8 * at0) (8 * i))) where
    pub step_join : (n m : ℕ) → 8 * i + n ≡ m → StepAt bytes at1 at0 (8 * i) k1 k0 → StepAt bytes (at1 + i) (at0 + i) n c1 c0 → StepAt bytes at1 at0 m k1 k0
    step_join n m e before after p h = elim (dec_lt p (8 * i)) [
      | yes l ↦ before p l
      | no l ↦
          let q = p - 8 * i in
          let f : 8 * i + q ≡ p = omega arith in
          omega (
            arith,
            after q (omega arith),
            ones-after bytes at1 i q,
            ones-after bytes at0 i q,
            ap (λ k. ones (bits_from bytes (8 * at1) k)) f,
            ap (λ k. ones (bits_from bytes (8 * at0) k)) f,
          )
    ]

    pub step_part : (n m : ℕ) → 8 * i + n ≤ m → StepAt bytes at1 at0 m k1 k0 → StepAt bytes (at1 + i) (at0 + i) n c1 c0
    step_part n m h all p l = omega (arith, all (8 * i + p) (omega arith), ones-after bytes at1 i p, ones-after bytes at0 i p)
