-- A sample names a one by the ones before it.
use mathlib.Core.Path.{◌≡◌, refl, sym, ap, ◌∙◌}
use mathlib.Core.List.{List}
use Prim.Native.Nat.{ℕ, ◌+◌, ◌-◌, ◌*◌, ◌/◌, ◌%◌, ◌≤◌, ◌<◌}
use native.Mathlib.Decide.{dec_lt}
use native.Mathlib.Omega.{arith}
use Rattle.meaning.specs.Strings.{Bit, O, I, ones}
use Rattle.meaning.specs.Bytes.{value, bit_at, bits_from}
use Rattle.theory.proofs.Navigate.{one-there}
use Rattle.theory.proofs.Packing.{bits-length, bits_at}
use Rattle.check_sample.specs.Words.{NamesOne}
use Rattle.bits_count.proofs.Runs.{bits-next, bits_mono, bits-take, ones-after}

-- ---- a piece of a string

module _ (bytes : List ℕ) (at : ℕ) where
  pub one_more : (p : ℕ) → bit_at bytes (8 * at + p) ≡ I → ones (bits_from bytes (8 * at) (p + 1)) ≡ ones (bits_from bytes (8 * at) p) + 1
  unfolding value
  one_more p e = bits-next bytes (8 * at) p 1 (ap value (sym e))

  -- a one before another has fewer ones before it
  fewer : (p q : ℕ) → bit_at bytes (8 * at + p) ≡ I → p < q → ones (bits_from bytes (8 * at) p) < ones (bits_from bytes (8 * at) q)
  fewer p q e h = omega (arith, one_more p e, bits_mono bytes (8 * at) (p + 1) q (omega arith))

  -- so the number of ones before a one tells which it is
  same-one : (p q : ℕ) → bit_at bytes (8 * at + p) ≡ I → bit_at bytes (8 * at + q) ≡ I → ones (bits_from bytes (8 * at) p) ≡ ones (bits_from bytes (8 * at) q) → p ≡ q
  same-one p q e f c = elim (dec_lt p q) [
    | yes l ↦ absurd (omega (arith, fewer p q e l))
    | no l ↦ elim (dec_lt q p) [
      | yes g ↦ absurd (omega (arith, fewer q p f g))
      | no g ↦ omega arith
    ]
  ]

-- one number nth of n bits, the first of which has position `first`
module _ (bytes : List ℕ) (at n first nth place : ℕ) where
  pub named : first ≤ place → bit_at bytes (8 * at + (place - first)) ≡ I → ones (bits_from bytes (8 * at) (place - first)) + 1 ≡ nth → NamesOne bytes at n first nth place
  named h e c q l f d =
      let g : place - first ≡ q = same-one bytes at (place - first) q e f (omega arith) in
      omega arith

  module _ (some : 1 ≤ nth) (few : nth ≤ ones (bits_from bytes (8 * at) n)) (all : NamesOne bytes at n first nth place) where
    there : (p : ℕ) × (bit_at bytes (8 * at + p) ≡ I) × (ones (bits_from bytes (8 * at) p) + 1 ≡ nth) × (place ≡ first + p) × (p < n)
    there =
        let o = one-there (bits_from bytes (8 * at) n) (nth - 1) (omega arith) in
        let p = o.0 in
        let l : p < n = omega (arith, o.1, bits-length bytes (8 * at) n) in
        let e : bit_at bytes (8 * at + p) ≡ I = sym (bits_at bytes (8 * at) n p l) ∙ o.2 in
        let c : ones (bits_from bytes (8 * at) p) + 1 ≡ nth = omega (arith, o.3, ap (λ l. ones l) (bits-take bytes (8 * at) p n (omega arith))) in
        (p, e, c, all p l e c, l)

    -- what a right sample tells: it lies among the bits, at a one that is number nth
    pub named_inside : (first ≤ place) × (place < first + n)
    named_inside = let o = there in (omega (arith, o.3), omega (arith, o.3, o.4))

    pub named-one : (bit_at bytes (8 * at + (place - first)) ≡ I) × (ones (bits_from bytes (8 * at) (place - first)) + 1 ≡ nth)
    named-one =
        let o = there in
        let e : o.0 ≡ place - first = omega (arith, o.3) in
        (ap (λ p. bit_at bytes (8 * at + p)) (sym e) ∙ o.1, ap (λ p. ones (bits_from bytes (8 * at) p) + 1) (sym e) ∙ o.2)

-- bit o in its word of eight bytes: t ones before the word, and r from its beginning up to the bit,
-- if that is one
module _ (bytes : List ℕ) (at o t r : ℕ) (before : t ≡ ones (bits_from bytes (8 * at) (64 * (o / 64))))
    (count : r ≡ value (bit_at bytes (8 * (at + 8 * (o / 64)) + o % 64)) * ones (bits_from bytes (8 * (at + 8 * (o / 64))) (o % 64 + 1))) where
  abbrev word : ℕ
  word = at + 8 * (o / 64)

  same_bit : bit_at bytes (8 * at + o) ≡ bit_at bytes (8 * word + o % 64)
  same_bit = ap (bit_at bytes) (let e : 8 * at + o ≡ 8 * (at + 8 * (o / 64)) + o % 64 = omega arith in e)

  up_to : (x : Bit) → bit_at bytes (8 * at + o) ≡ x → r ≡ value x * ones (bits_from bytes (8 * word) (o % 64 + 1))
  up_to x e = count ∙ ap (λ y. value y * ones (bits_from bytes (8 * word) (o % 64 + 1))) (sym same_bit ∙ e)

  pub one-counted : bit_at bytes (8 * at + o) ≡ I → (1 ≤ r) × (t + r ≡ ones (bits_from bytes (8 * at) o) + 1)
  unfolding value
  one-counted e =
      let u = up_to I e in
      let here = one_more bytes word (o % 64) (sym same_bit ∙ e) in
      let after = ones-after bytes at (8 * (o / 64)) (o % 64 + 1) in
      let front = ap (λ m. ones (bits_from bytes (8 * at) m)) (let f : 8 * (8 * (o / 64)) ≡ 64 * (o / 64) = omega arith in f) in
      let whole = ap (λ m. ones (bits_from bytes (8 * at) m)) (let f : 8 * (8 * (o / 64)) + (o % 64 + 1) ≡ o + 1 = omega arith in f) in
      let last = one_more bytes at o e in
      (omega arith, omega arith)

  pub counted-one : (r ≡ 0 → ⊥) → bit_at bytes (8 * at + o) ≡ I
  unfolding value
  counted-one h = go (bit_at bytes (8 * at + o)) refl
    where
      go : (x : Bit) → bit_at bytes (8 * at + o) ≡ x → bit_at bytes (8 * at + o) ≡ I
      go O f = absurd (h (let u = up_to O f in omega arith))
      go I f = f
