-- Two strings of an image in step, block by block: the ones among the first bits of each.
use mathlib.Core.Path.{◌≡◌, sym, ap, ◌∙◌}
use mathlib.Core.List.{List}
use Prim.Native.Nat.{ℕ, ◌+◌, ◌-◌, ◌*◌, ◌/◌, ◌≤◌, ◌<◌}
use native.Mathlib.Decide.{dec_lt}
use native.Mathlib.Omega.{arith}
use Rattle.meaning.specs.Strings.{Bit}
use Rattle.meaning.specs.Bytes.{value, bit_at}
use Rattle.meaning.specs.Image.{string_in}
use Rattle.theory.specs.Layout.{bit_place, word_at}
use Rattle.theory.specs.Stages.{InStep}
use Rattle.theory.proofs.Bits.{I≢O}
use Rattle.theory.proofs.TreeImages.{length-string_in}
use Rattle.bits_byte.proofs.Values.{is_O, is_I}
use Rattle.image_string.specs.Parts.{Counted, ones_to}
use Rattle.image_string.proofs.Ones.{ones_to-take, ones_to_mono, ones_to-block, string-at}
use Rattle.check_runs_words.specs.Steps.{StepAt}
use Rattle.check_counts_and_samples.specs.Samples.{Placed}
use Rattle.check_runs_samples.specs.Ahead.{Ahead}
use Rattle.check_runs.specs.Steps.{StepWithin}

-- what the block after block j counts
pub next-count : (bytes : List ℕ) (n j : ℕ) → Counted bytes 1 n → 4000 * (j + 1) < n → word_at bytes (512 * (1 + j + 1)) ≡ ones_to bytes 1 (4000 * j + 4000)
next-count bytes n j counted h =
    ap (word_at bytes) (let e : 512 * (1 + j + 1) ≡ 512 * (1 + (j + 1)) = omega arith in e)
    ∙ counted (j + 1) (omega arith)
    ∙ ap (ones_to bytes 1) (let e : 4000 * (j + 1) ≡ 4000 * j + 4000 = omega arith in e)

module _ (bytes : List ℕ) (zeros : ℕ) where
  -- a block
  module _ (j n k1 k0 : ℕ) (most : n ≤ 4000) (e1 : k1 ≡ ones_to bytes 1 (4000 * j)) (e0 : k0 ≡ ones_to bytes zeros (4000 * j)) where
    pub step_block : StepAt bytes (512 * (1 + j) + 4) (512 * (zeros + j) + 4) n k1 k0 → StepWithin bytes zeros (4000 * j) (4000 * j + n)
    step_block s p h l =
        let q = p - 4000 * j in
        let f : 4000 * j + q ≡ p = omega arith in
        omega (
          arith,
          s q (omega arith),
          ones_to-block bytes 1 j q (omega arith),
          ones_to-block bytes zeros j q (omega arith),
          ap (ones_to bytes 1) f,
          ap (ones_to bytes zeros) f,
        )

    pub block-step : StepWithin bytes zeros (4000 * j) (4000 * j + n) → StepAt bytes (512 * (1 + j) + 4) (512 * (zeros + j) + 4) n k1 k0
    block-step s p h =
        omega (arith, s (4000 * j + p) (omega arith) (omega arith), ones_to-block bytes 1 j p (omega arith), ones_to-block bytes zeros j p (omega arith))

  -- a block after which R1 has no more than R0 before it
  pub step-behind : (a b : ℕ) → ones_to bytes 1 b ≤ ones_to bytes zeros a → StepWithin bytes zeros a b
  step-behind a b e p h l = omega (arith, ones_to_mono bytes 1 p b (omega arith), ones_to_mono bytes zeros a p (omega arith))

  -- a block where R0's samples are ahead
  pub step-sampled : (s1 s0 m k end by a b : ℕ) → Placed bytes s1 1 m → Placed bytes s0 zeros m → k ≡ ones_to bytes 1 a → end ≡ ones_to bytes 1 b → Ahead bytes s1 s0 k end m by
      → StepWithin bytes zeros a b
  step-sampled s1 s0 m k end by a b placed1 placed0 ek ee ahead p h l =
      let more = ones_to_mono bytes 1 a p h in
      let most = ones_to_mono bytes 1 p b (omega arith) in
      let seen = ahead.2 ((ones_to bytes 1 p - 1) / 64) (omega (arith, ahead.0)) (omega (arith, ahead.0)) in
      let q = seen.0 in
      let own = placed1 q (omega (arith, ahead.0, ahead.1, seen.1, seen.2)) in
      let next = placed0 (q + by) (omega (arith, ahead.0, ahead.1, seen.1, seen.2)) in
      elim (dec_lt own.0 p) [
        | yes g ↦ omega (arith, ahead.0, seen.2, next.2, ones_to_mono bytes zeros (next.0 + 1) p (omega (arith, seen.3, own.3, next.3)))
        | no g ↦ absurd (omega (arith, ahead.0, seen.1, own.1, ones_to_mono bytes 1 p own.0 (omega arith)))
      ]

  module _ (n : ℕ) where
    abbrev r1 : List Bit
    r1 = string_in bytes 1 0 n

    abbrev r0 : List Bit
    r0 = string_in bytes zeros 0 (n + 1)

    pub no_first : 1 ≤ n → (x : ℕ) → x ≡ value (bit_at bytes (bit_place 1 0)) → x ≡ 0 → InStep r1 r0 → ⊥
    no_first h x e g s = I≢O (sym s.first ∙ string-at bytes 1 n 0 (omega arith) ∙ is_O (bit_at bytes (bit_place 1 0)) x e g)

    pub in_step : 1 ≤ n → (x : ℕ) → x ≡ value (bit_at bytes (bit_place 1 0)) → (x ≡ 0 → ⊥) → StepWithin bytes zeros 0 n → InStep r1 r0
    in_step h x e g s = record {
      first = string-at bytes 1 n 0 (omega arith) ∙ is_I (bit_at bytes (bit_place 1 0)) x e g;
      never = λ p l.
          let k : p < n = omega (arith, length-string_in bytes 1 0 n) in
          omega (arith, ones_to-take bytes 1 p n (omega arith), ones_to-take bytes zeros p (n + 1) (omega arith), s p (omega arith) k);
    }

    pub step-within : InStep r1 r0 → StepWithin bytes zeros 0 n
    step-within s p h l =
        omega (arith, ones_to-take bytes 1 p n (omega arith), ones_to-take bytes zeros p (n + 1) (omega arith), s.never p (omega (arith, length-string_in bytes 1 0 n)))
