-- The lowest block with a wrong sample, from the samples that were found right, and the first that
-- was not.
use mathlib.Core.Path.{◌≡◌, sym, ap, subst, ◌∙◌}
use mathlib.Core.List.{List}
use Prim.Native.Nat.{ℕ, suc, ◌+◌, ◌*◌, ◌/◌, ◌%◌, ◌≤◌, ◌<◌}
use native.Mathlib.Decide.{dec_lt}
use native.Mathlib.Omega.{arith}
use lib.ListN.{length, get_or, take, get_or-eq_default}
use Rattle.std.specs.Prelude.{Option, Some, None, unwrap_or}
use Rattle.meaning.specs.Strings.{Bit, ones}
use Rattle.meaning.specs.Image.{samples, string_in}
use Rattle.meaning.specs.Faults.{wrong_sample}
use Rattle.theory.specs.Rank.{position}
use Rattle.theory.specs.Layout.{AreBytes, word_at, sample_place, sample_in, sample_word}
use Rattle.theory.specs.Stages.{samples_of, blocks_of_samples, nodes_of, runs_of, r0_block, r1_samples, read_r1, read_r0}
use Rattle.theory.specs.Faults.{RestKept, BlockSampled}
use Rattle.theory.specs.Places.{place_of}
use Rattle.theory.proofs.Places.{no_place, the_place}
use Rattle.theory.proofs.Navigate.{one-there, place_of_one}
use Rattle.theory.proofs.Payloads.{length-samples, sample_at}
use Rattle.theory.proofs.TreeImages.{length-string_in}
use Rattle.theory.proofs.Faults.{in_samples, lowest_in_samples, sample_in_S1, sample_in_S0}
use Rattle.image_string.specs.Parts.{ones_to}
use Rattle.image_string.proofs.Ones.{ones_to_mono, ones_to-take, string-at}
use Rattle.check_counts_and_samples.specs.Samples.{SampledWithin}
use Rattle.image_layout.specs.declared.Layout.{Layout}
use Rattle.image_layout.specs.Layout.{layout_in}
use Rattle.image_layout.specs.Fits.{LaidOut}
use Rattle.fault_strings.specs.Lowest.{LowestBlock, all_right, wrong_at}
use Rattle.fault_strings.proofs.Lowest.{lowest_number, lowest_place}
use Rattle.fault_samples.specs.AllBut.{AllButSamples}

-- ---- of one string

-- the first s samples are right
abbrev pub SampledTo : List ℕ → ℕ → List Bit → ℕ → Type 0
SampledTo bytes from r s = (q : ℕ) → q < s → sample_in bytes from q ≡ position r (64 * q + 1)

pub sampled_more : (bytes : List ℕ) (from : ℕ) (r : List Bit) (s : ℕ) → SampledTo bytes from r s → sample_in bytes from s ≡ position r (64 * s + 1) → SampledTo bytes from r (s + 1)
sampled_more bytes from r s f e q h = elim (dec_lt q s) [
  | yes l ↦ f q l
  | no l ↦ let same : s ≡ q = omega arith in subst (λ i. sample_in bytes from i ≡ position r (64 * i + 1)) same e
]

-- a sample of a one in the front of a string whose samples are right
pub front-sampled : (bytes : List ℕ) (from first n e q : ℕ) → e ≤ n → SampledWithin bytes from first 0 e → 64 * q < ones_to bytes first e
    → sample_in bytes from q ≡ position (string_in bytes first 0 n) (64 * q + 1)
front-sampled bytes from first n e q few s h =
    let r = string_in bytes first 0 n in
    let o = one-there r (64 * q) (omega (arith, ones_to_mono bytes first e n few)) in
    let p = o.0 in
    let l : p < n = omega (arith, o.1, length-string_in bytes first 0 n) in
    let before : ones_to bytes first p ≡ 64 * q = sym (ones_to-take bytes first p n (omega arith)) ∙ o.3 in
    let inside : p < e = within p before in
    let named = s p (omega arith) inside (sym (string-at bytes first n p l) ∙ o.2) (omega (arith, before)) in
    ap (sample_in bytes from) (let f : q ≡ ones_to bytes first p / 64 = omega (arith, before) in f) ∙ named
    ∙ (let f : p + 1 ≡ suc p = omega arith in f)
    ∙ sym (place_of_one r p o.1 o.2) ∙ ap (position r) (let f : suc (ones (take p r)) ≡ 64 * q + 1 = omega (arith, o.3) in f)
  where
    within : (p : ℕ) → ones_to bytes first p ≡ 64 * q → p < e
    within p f = elim (dec_lt p e) [
      | yes g ↦ g
      | no g ↦ absurd (omega (arith, ones_to_mono bytes first e p (omega arith)))
    ]

module _ (bytes : List ℕ) (from m : ℕ) (r : List Bit) (count : m ≡ ones r) where
  at-word : (j w : ℕ) → w < 126 → word_at bytes (512 * (from + j) + 4 * w) ≡ sample_in bytes from (126 * j + w)
  at-word j w h = ap (word_at bytes) (let e : 512 * (from + j) + 4 * w ≡ sample_place from (126 * j + w) = omega arith in e)

  right_word : (j w : ℕ) → w < 126 → 126 * j + w < (m + 63) / 64 → sample_in bytes from (126 * j + w) ≡ position r (64 * (126 * j + w) + 1)
      → word_at bytes (512 * (from + j) + 4 * w) ≡ sample_word r j w
  unfolding sample_word
  right_word j w h l e = at-word j w h ∙ e ∙ sym (sample_at r (126 * j + w) (omega (arith, length-samples r)))

  pub none_wrong : (x : Option ℕ) → SampledTo bytes from r ((m + 63) / 64) → ((j : ℕ) → j < blocks_of_samples m → RestKept bytes from (samples_of m) j) → x ≡ None
      → LowestBlock (BlockSampled bytes from r) from (blocks_of_samples m) x
  unfolding sample_word
  none_wrong x f rest e = all_right e (λ j h w g. elim (dec_lt (126 * j + w) ((m + 63) / 64)) [
    | yes l ↦ right_word j w g l (f (126 * j + w) l)
    | no l ↦ rest j h w g (omega arith) ∙ sym (get_or-eq_default (samples r) 0 (omega (arith, length-samples r)))
  ])

  pub wrong_sample_lem : (s : ℕ) (x : Option ℕ) → s < (m + 63) / 64 → SampledTo bytes from r s → (sample_in bytes from s ≡ position r (64 * s + 1) → ⊥) → x ≡ Some (from + s / 126)
      → LowestBlock (BlockSampled bytes from r) from (blocks_of_samples m) x
  unfolding sample_word
  wrong_sample_lem s x l f wrong e =
      wrong_at (s / 126) (omega arith) e (λ i h w g. right_word i w g (omega arith) (f (126 * i + w) (omega arith)))
      (λ b. wrong (sym (at-word (s / 126) (s % 126) (omega arith)
      ∙ ap (sample_in bytes from) (let e : 126 * (s / 126) + s % 126 ≡ s = omega arith in e))
      ∙ b (s % 126) (omega arith)
      ∙ ap (λ i. get_or (samples r) i 0) (let e : 126 * (s / 126) + s % 126 ≡ s = omega arith in e)
      ∙ sample_at r s (omega (arith, length-samples r))))

-- ---- of both

module _ (bytes : List ℕ) (layout : Layout) (are : AreBytes bytes) (laid : LaidOut bytes layout) (is : layout ≡ layout_in bytes) (right : AllButSamples bytes) where
  abbrev n : ℕ
  n = nodes_of bytes

  abbrev m : ℕ
  m = runs_of bytes

  fits : LaidOut bytes (layout_in bytes)
  fits = subst (LaidOut bytes) is laid

  long : 504 ≤ length bytes
  long = omega (arith, fits.room)

  module _ (o1 : Option ℕ) (l1 : LowestBlock (BlockSampled bytes layout.r1_samples (string_in bytes 1 0 layout.nodes)) layout.r1_samples (blocks_of_samples layout.runs) o1) where
    in_S1 : o1 ≡ place_of (in_samples bytes (read_r1 bytes) (r1_samples n))
    in_S1 =
        let R = BlockSampled bytes (r1_samples n) (read_r1 bytes) in
        let l = subst (λ (x : Layout). LowestBlock (BlockSampled bytes x.r1_samples (string_in bytes 1 0 x.nodes)) x.r1_samples (blocks_of_samples x.runs) o1) is l1 in
        lowest_place R (r1_samples n) (blocks_of_samples m) o1 (omega arith) l
        ∙ ap place_of (lowest_in_samples bytes are (r1_samples n) m (read_r1 bytes) right.ended1.count (omega (arith, length-string_in bytes 1 0 n, fits.most)) (omega (arith, fits.room))
        (unwrap_or o1 0) (lowest_number R (r1_samples n) (blocks_of_samples m) o1 l))

    pub named_S1 : (p : ℕ) → o1 ≡ Some p → Some p ≡ place_of (wrong_sample bytes)
    named_S1 p is_some =
        let e = sym is_some ∙ in_S1 in
        let at = the_place _ p (sym e) in
        e ∙ sym (ap place_of (sample_in_S1 bytes long right.ended1 (λ z. omega (arith, at.0, at.1))))

    pub named_S0 : o1 ≡ None → (o0 : Option ℕ)
        → LowestBlock (BlockSampled bytes layout.r0_samples (string_in bytes layout.r0_block 0 (layout.nodes + 1))) layout.r0_samples (blocks_of_samples layout.runs) o0
        → o0 ≡ place_of (wrong_sample bytes)
    named_S0 none1 o0 l0 =
        let from = r1_samples n + blocks_of_samples m in
        let R = BlockSampled bytes from (read_r0 bytes) in
        let l = subst (λ (x : Layout). LowestBlock (BlockSampled bytes x.r0_samples (string_in bytes x.r0_block 0 (x.nodes + 1))) x.r0_samples (blocks_of_samples x.runs) o0) is l0 in
        lowest_place R from (blocks_of_samples m) o0 (omega arith) l
        ∙ ap place_of (lowest_in_samples bytes are from m (read_r0 bytes) right.ended0.count
        (omega (arith, length-string_in bytes (r0_block n) 0 (n + 1), fits.most)) (omega (arith, fits.room)) (unwrap_or o0 0) (lowest_number R from (blocks_of_samples m) o0 l)
        ∙ sym (sample_in_S0 bytes long right.ended1 (no_place _ (sym in_S1 ∙ none1))))
