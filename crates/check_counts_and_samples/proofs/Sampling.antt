-- The samples of a string: each is the position of one number 64 s + 1, block by block, and zeros
-- after the last.
use mathlib.Core.Path.{◌≡◌, sym, ap, ap₂, ◌∙◌}
use mathlib.Core.List.{List}
use Prim.Native.Nat.{ℕ, suc, ◌+◌, ◌-◌, ◌*◌, ◌/◌, ◌%◌, ◌≤◌, ◌<◌}
use native.Mathlib.Decide.{dec_lt}
use native.Mathlib.Numerals.{add-one}
use native.Mathlib.Omega.{arith}
use lib.ListN.{length, get_or, take, get_or-eq_default}
use Rattle.meaning.specs.Strings.{Bit, O, I, ones}
use Rattle.meaning.specs.Bytes.{value, bit_at, bits_from}
use Rattle.meaning.specs.Image.{samples, string_in}
use Rattle.theory.specs.Rank.{position}
use Rattle.theory.specs.Layout.{bit_place, word_at, sample_in, sample_word}
use Rattle.theory.specs.Stages.{Sampled}
use Rattle.theory.proofs.Navigate.{one-there, place_of_one}
use Rattle.theory.proofs.Payloads.{length-samples, sample_at}
use Rattle.theory.proofs.TreeImages.{length-string_in}
use Rattle.theory.proofs.Stages.{sampled-word}
use Rattle.image_string.specs.Parts.{Counted, ones_to}
use Rattle.image_string.proofs.Ones.{ones_to-take, ones_to-next, ones_to_mono, ones_to-block, string-at}
use Rattle.check_sample.specs.Words.{RestZero}
use Rattle.check_counts_and_samples.specs.Pieces.{SampledHere, PieceSampled}
use Rattle.check_counts_and_samples.specs.Samples.{SampledWithin, BlocksRight, Placed}

-- ---- one sample

-- sample number q is the position of a one that 64 q others come before
sample_of_one : (r : List Bit) (i q : ℕ) → i < length r → get_or r i O ≡ I → ones (take i r) ≡ 64 * q → 64 * q < ones r → get_or (samples r) q 0 ≡ i + 1
sample_of_one r i q h e c l =
    sample_at r q (omega (arith, length-samples r))
    ∙ ap (position r) (let f : 64 * q + 1 ≡ suc (ones (take i r)) = omega arith in f)
    ∙ place_of_one r i h e ∙ sym (add-one i)

-- ---- a block

-- from the first position of block number j, n positions
pub piece_bits : (j n : ℕ) → 4000 * j + n + 1 - (4000 * j + 1) ≡ n
piece_bits j n = omega arith

-- what is said of a one by its place, its count and its position holds by equal ones too
moved : (bytes : List ℕ) (from a z x b y w : ℕ) → a ≡ b → z ≡ y → x ≡ w
    → (bit_at bytes a ≡ I → SampledHere bytes from z x) → bit_at bytes b ≡ I → SampledHere bytes from y w
moved bytes from a z x b y w e f g s one d =
    ap (sample_in bytes from) (let h : y / 64 ≡ z / 64 = omega arith in h) ∙ s (ap (bit_at bytes) e ∙ one) (omega arith) ∙ g

-- the bits of a block
module _ (bytes : List ℕ) (from first j n k : ℕ) (most : n ≤ 4000) (e : k ≡ ones_to bytes first (4000 * j)) where
  abbrev at : ℕ
  at = 512 * (first + j) + 4

  pub sampled-block : PieceSampled bytes from at n (4000 * j + 1) k → SampledWithin bytes from first (4000 * j) (4000 * j + n)
  sampled-block s p h l =
      let q = p - 4000 * j in
      let f : 4000 * j + q ≡ p = omega arith in
      moved bytes from (8 * at + q) (k + ones (bits_from bytes (8 * at) q)) (4000 * j + 1 + q) (bit_place first p) (ones_to bytes first p) (p + 1)
      (omega arith) (omega (arith, ones_to-block bytes first j q (omega arith), ap (ones_to bytes first) f)) (omega arith) (s q (omega arith))

  pub block-sampled : SampledWithin bytes from first (4000 * j) (4000 * j + n) → PieceSampled bytes from at n (4000 * j + 1) k
  block-sampled s q l =
      let p = 4000 * j + q in
      moved bytes from (bit_place first p) (ones_to bytes first p) (p + 1) (8 * at + q) (k + ones (bits_from bytes (8 * at) q)) (4000 * j + 1 + q)
      (omega arith) (omega (arith, ones_to-block bytes first j q (omega arith))) (omega arith) (s p (omega arith) (omega arith))

-- ---- all words of the samples' blocks

module _ (bytes : List ℕ) (from first n m : ℕ) (count : m ≡ ones_to bytes first n) where
  abbrev r : List Bit
  r = string_in bytes first 0 n

  -- the sample of a one that 64 q others come before
  sample_here : (p q : ℕ) → p < n → bit_at bytes (bit_place first p) ≡ I → ones_to bytes first p ≡ 64 * q → get_or (samples r) q 0 ≡ p + 1
  unfolding value
  sample_here p q h e c =
      sample_of_one r p q (omega (arith, length-string_in bytes first 0 n)) (string-at bytes first n p h ∙ e) (ones_to-take bytes first p n (omega arith) ∙ c)
      (omega (arith, ones_to-next bytes first p 1 (ap value (sym e)), ones_to_mono bytes first (p + 1) n (omega arith)))

  -- where the one of a sample is
  there : SampledWithin bytes from first 0 n → (q : ℕ) → 64 * q < m → (p : ℕ) × (p < n) × (bit_at bytes (bit_place first p) ≡ I) × (ones_to bytes first p ≡ 64 * q) × (sample_in bytes from q ≡ p + 1)
  there all q h =
      let o = one-there r (64 * q) (omega arith) in
      let p = o.0 in
      let l : p < n = omega (arith, o.1, length-string_in bytes first 0 n) in
      let c : ones_to bytes first p ≡ 64 * q = sym (ones_to-take bytes first p n (omega arith)) ∙ o.3 in
      let e = sym (string-at bytes first n p l) ∙ o.2 in
      (p, l, e, c, ap (sample_in bytes from) (let f : q ≡ ones_to bytes first p / 64 = omega arith in f) ∙ all p (omega arith) l e (omega arith))

  matched : SampledWithin bytes from first 0 n → (q : ℕ) → q < length (samples r) → sample_in bytes from q ≡ get_or (samples r) q 0
  matched all q h =
      let o = there all q (omega (arith, length-samples r)) in
      o.4 ∙ sym (sample_here o.0 q o.1 o.2 o.3)

  pub sampled : SampledWithin bytes from first 0 n → RestZero bytes from m → Sampled bytes from m r
  unfolding sample_word
  sampled all z j w h g =
      elim (dec_lt (126 * j + w) (length (samples r))) [
        | yes l ↦ place ∙ matched all (126 * j + w) l
        | no l ↦
            let n = length-samples r in
            let past : length (samples r) ≤ 126 * j + w = omega arith in
            place ∙ z (126 * j + w) (omega arith) (omega arith) ∙ sym (get_or-eq_default (samples r) 0 past)
      ]
    where
      place : word_at bytes (512 * (from + j) + 4 * w) ≡ sample_in bytes from (126 * j + w)
      place = ap₂ (λ u v. word_at bytes (512 * (from + u) + 4 * v))
          (let e : j ≡ (126 * j + w) / 126 = omega arith in e) (let e : w ≡ (126 * j + w) % 126 = omega arith in e)

  pub sampled-within : Sampled bytes from m r → SampledWithin bytes from first 0 n
  unfolding value
  sampled-within s p l h e d =
      let more = ones_to-next bytes first p 1 (ap value (sym e)) in
      let most = ones_to_mono bytes first (p + 1) n (omega arith) in
      sampled-word bytes from m r s (ones_to bytes first p / 64) (omega arith) ∙ sample_here p (ones_to bytes first p / 64) h e (omega arith)

  pub sampled-rest : Sampled bytes from m r → RestZero bytes from m
  sampled-rest s q h g = sampled-word bytes from m r s q g ∙ get_or-eq_default (samples r) 0 (let l : length (samples r) ≤ q = omega (arith, length-samples r) in l)

  -- what the blocks and the samples tell together of those that are full
  pub blocks_right : Counted bytes first n → Sampled bytes from m r → BlocksRight bytes from m first n
  blocks_right c s = record {
    counted = c;
    few = omega (arith, ones_to_mono bytes first (4000 * ((n - 1) / 4000)) n (omega arith));
    sampled = λ p h g. sampled-within s p h (omega arith);
  }

  pub placed : Sampled bytes from m r → Placed bytes from first m
  unfolding value
  placed s q h =
      let o = there (sampled-within s) q h in
      (o.0, o.3, ones_to-next bytes first o.0 1 (ap value (sym o.2)) ∙ ap (λ k. k + 1) o.3, o.4)
