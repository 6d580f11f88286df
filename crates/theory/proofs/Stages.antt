-- The stages of the check of an image: every image passes them all, and bytes whose sums check and
-- that pass them all are an image.
use mathlib.Core.Path.{◌≡◌, refl, sym, ap, ap₂, ◌∙◌, subst, subst₃}
use mathlib.Core.Bool.{Bool, true, false, true≢false, cond}
use mathlib.Core.List.{List, [], ◌∷◌}
use mathlib.Core.Option.{Option, none, some}
use Prim.Native.Nat.{ℕ, zero, suc, ◌+◌, ◌-◌, ◌*◌, ◌/◌, ◌%◌, ◌^◌, ◌≤◌, ◌<◌}
use native.Mathlib.Decide.{dec_lt}
use native.Mathlib.Omega.{arith}
use borrow.Author.Tests.{eqb-true, eq-eqb}
use lib.Dec.{eqb}
use lib.ListN.{length, get_or, take, drop, length-take, length-drop, get_or-eq_default}
use lib.Seq.{get_or-take, get_or-drop, drop-drop}
use Rattle.meaning.specs.Trees.{Tree, nodes}
use Rattle.meaning.specs.Strings.{Bit, O, I, ones, lbs, R1, R0, parents_of, string_of, woven}
use Rattle.meaning.specs.Bytes.{bit, bit_at, bytes_of}
use Rattle.meaning.specs.Blocks.{blocks_in, wrong_block}
use Rattle.meaning.specs.Image.{Content, Measured, FitImage, version_of, list_of, string_blocks, samples, image_of_parts, image, header_word, string_in, numbers_in, parents_in, metres_in, is_image}
use Rattle.theory.specs.Layout.{Runs, AreBytes, word_at, bit_place, sample_place, sample_in, list_word, sample_word, bit_word, string_word, start_r0, start_s1, start_s0, start_metres, total, Laid}
use Rattle.theory.specs.Stages.{nodes_of, runs_of, version_in, held_in, word_blocks, blocks_of_samples, r0_block, r1_samples, metres_block, metres_held}
use Rattle.theory.specs.Stages.{blocks_needed, read_r1, read_r0, Known, Header, Ended, InStep, CountsAndPadding, Sampled, Stages}
use Rattle.theory.proofs.Bits.{I≢O}
use Rattle.theory.specs.Faults.{BlockKept, RestKept}
use Rattle.theory.proofs.Digits.{same_bits_lem, bytes_of_lt, bytes_of-bit, bytes_of-word, length-bytes_of, take_bytes, drop_bytes, word_at-take, word_at-drop}
use Rattle.theory.proofs.Forms.{length-parents, length-R1, length-R0, string-parents, tree-runs, tree_rule, runs-ones, marks-count}
use Rattle.theory.proofs.Payloads.{ones-le, length-samples}
use Rattle.theory.proofs.InBlocks.{string_in-take}
use Rattle.theory.proofs.Images.{measured-word, measured-held, version_small, laid}
use Rattle.theory.proofs.InStep.{runs_ended, one_missing, in_step}
use Rattle.theory.proofs.TreeImages.{header_at, length-string_in, string_in-at, length-numbers_in, numbers_in-at, R1-bit, R0-bit, R1_in}
use Rattle.theory.proofs.TreeImages.{R0_in, words-measured, image_parts, measured-R1, parents_in_lem, is_image_lem, image_laid}

-- ---- every image passes

-- R1 begins and ends with a one
two_runs : (a : List Bit) (m : ℕ) → Runs m a → get_or a 0 O ≡ I → 2 ≤ length a → 2 ≤ m
two_runs [] m h f l = absurd (omega arith)
two_runs (x ∷ a) zero h f l = absurd h
two_runs (O ∷ a) (suc m) h f l = I≢O (sym f)
two_runs (I ∷ a) (suc m) h f l = omega (arith, one_missing a m 0 h (omega arith))

module _ (ms : Option (List ℕ)) (a b : List Bit) (longer : length b ≡ suc (length a)) (most : length a ≤ 65535) (measured : Measured (length a) ms) where
  made : Laid (image_of_parts ms a b) ms a b
  made = laid ms a b most (omega arith) measured

  made-nodes : nodes_of (image_of_parts ms a b) ≡ length a
  made-nodes = made.head 1 (omega arith)

  made-version : version_in (image_of_parts ms a b) ≡ version_of ms
  made-version = made.head 0 (omega arith)

  made-R1 : read_r1 (image_of_parts ms a b) ≡ a
  made-R1 = ap (string_in (image_of_parts ms a b) 1 0) made-nodes ∙ R1_in ms a b

  made-R0 : read_r0 (image_of_parts ms a b) ≡ b
  made-R0 =
      ap (λ n. string_in (image_of_parts ms a b) (r0_block n) 0 (n + 1)) made-nodes
      ∙ ap (string_in (image_of_parts ms a b) (r0_block (length a)) 0) (let e : length a + 1 ≡ length b = omega arith in e) ∙ R0_in ms a b

  kept-R1 : CountsAndPadding (image_of_parts ms a b) 1 a
  unfolding string_word
  kept-R1 = record {
    counts = λ j h. ap (word_at (image_of_parts ms a b)) (let e : 512 * (1 + j) ≡ 512 * (1 + j) + 4 * 0 = omega arith in e) ∙ made.in_r1 j 0 (omega arith) (omega arith);
    unused = λ i h g. R1-bit ms a b i g ∙ get_or-eq_default a O h;
  }

  kept-R0 : CountsAndPadding (image_of_parts ms a b) (r0_block (length a)) b
  unfolding string_word
  kept-R0 = record {
    counts = λ j h. ap (word_at (image_of_parts ms a b)) (let e : 512 * (r0_block (length a) + j) ≡ 512 * (start_r0 a b + j) + 4 * 0 = omega arith in e)
        ∙ made.in_r0 j 0 (omega arith) (omega arith);
    unused = λ i h g. R0-bit ms a b i g ∙ get_or-eq_default b O h;
  }

  module _ (m : ℕ) (ra : Runs m a) (rb : Runs m b) (some : 1 ≤ length a) where
    made-marks : runs_of (image_of_parts ms a b) ≡ m
    made-marks = made.head 2 (omega arith) ∙ runs-ones m a ra

    made-header : InStep a b → Header (image_of_parts ms a b)
    made-header step =
        let n = made-nodes in
        let k = made-marks in
        let t : total ms a b ≡ blocks_needed (version_of ms) (length a) m =
        omega (arith, length-samples a, length-samples b, runs-ones m a ra, runs-ones m b rb, measured-held (length a) ms measured) in
        let c : blocks_in (image_of_parts ms a b) ≡ total ms a b = omega (arith, made.size) in
        record {
          some = omega arith;
          most = omega arith;
          runs_some = omega (arith, one_missing a m 0 ra some);
          runs_most = omega (arith, ones-le a, runs-ones m a ra);
          runs_two = λ two. omega (arith, two_runs a m ra step.first (omega arith));
          blocks = made.head 3 (omega arith) ∙ sym c;
          needed = c ∙ t ∙ ap (λ v. blocks_needed v (length a) m) (sym made-version) ∙ ap₂ (blocks_needed (version_in (image_of_parts ms a b))) (sym n) (sym k);
          reserved = λ w h g. made.head w g ∙ get_or-eq_default (version_of ms ∷ length a ∷ ones a ∷ total ms a b ∷ []) 0 h;
        }

    sampled-R1 : Sampled (image_of_parts ms a b) (r1_samples (length a)) m a
    sampled-R1 j w h g =
        ap (λ n. word_at (image_of_parts ms a b) (512 * (n + j) + 4 * w)) (let e : r1_samples (length a) ≡ start_s1 a b = omega arith in e)
        ∙ made.in_s1 j w (omega (arith, length-samples a, runs-ones m a ra)) g

    sampled-R0 : Sampled (image_of_parts ms a b) (r1_samples (length a) + blocks_of_samples m) m b
    sampled-R0 j w h g =
        ap (λ n. word_at (image_of_parts ms a b) (512 * (n + j) + 4 * w))
        (let e : r1_samples (length a) + blocks_of_samples m ≡ start_s0 a b = omega (arith, length-samples a, runs-ones m a ra) in e)
        ∙ made.in_s0 j w (omega (arith, length-samples b, runs-ones m b rb)) g

    -- behind the last number of metres
    metres-end : (j : ℕ) → j < word_blocks (length (list_of ms)) → RestKept (image_of_parts ms a b) (metres_block (length a) m) (length (list_of ms)) j
    metres-end j h w g after =
        ap (λ n. word_at (image_of_parts ms a b) (512 * (n + j) + 4 * w))
        (let e : metres_block (length a) m ≡ start_metres a b = omega (arith, length-samples a, length-samples b, runs-ones m a ra, runs-ones m b rb) in e)
        ∙ made.in_metres j w (omega arith) g
        ∙ get_or-eq_default (list_of ms) 0 after

    parts_stages : InStep a b → Stages (image_of_parts ms a b)
    parts_stages step =
        let x = image_of_parts ms a b in
        let n = sym made-nodes in
        let k = sym made-marks in
        let p = sym made-R1 in
        let q = sym made-R0 in
        record {
          version = record { some = omega (arith, made-version, (version_small ms).0); most = omega (arith, made-version, (version_small ms).1) };
          header = made-header step;
          ended1 = subst₃ (λ n k r. Ended k r) n k p ((runs_ended m a some).0 ra);
          ended0 = subst₃ (λ n k r. Ended k r) n k q ((runs_ended m b (omega arith)).0 rb);
          in_step = subst₃ (λ n p q. InStep p q) n p q step;
          kept1 = subst (CountsAndPadding x 1) p kept-R1;
          kept0 = subst₃ (λ n k r. CountsAndPadding x (r0_block n) r) n k q kept-R0;
          sampled1 = subst₃ (λ n k r. Sampled x (r1_samples n) k r) n k p sampled-R1;
          sampled0 = subst₃ (λ n k r. Sampled x (r1_samples n + blocks_of_samples k) k r) n k q sampled-R0;
          metres_end = subst₃ (λ n k h. (j : ℕ) → j < word_blocks h → RestKept x (metres_block n k) h j) n k
              (measured-held (length a) ms measured ∙ ap₂ metres_held (sym made-version) n) metres-end;
        }

module _ (c : Content) (fit : FitImage c) where
  abbrev t : Tree
  t = c.tree

  longer-R0 : length (R0 (lbs t)) ≡ suc (length (R1 (lbs t)))
  longer-R0 = length-R0 t ∙ ap suc (sym (length-R1 t))

  short-R1 : length (R1 (lbs t)) ≤ 65535
  short-R1 = omega (arith, length-R1 t, fit.small)

  tree_stages : Stages (image c)
  tree_stages =
      let a = R1 (lbs t) in
      let b = R0 (lbs t) in
      let q = tree-runs t in
      subst Stages (sym (image_parts c))
      (parts_stages c.metres a b longer-R0 short-R1 (measured-R1 c fit) q.0 q.1 q.2 (omega (arith, marks-count t, ones-le a))
      ((in_step q.0 a b q.1 q.2 longer-R0).0 (tree_rule t)))

  pub tree-R1 : read_r1 (image c) ≡ R1 (lbs t)
  tree-R1 = ap read_r1 (image_parts c) ∙ made-R1 c.metres (R1 (lbs t)) (R0 (lbs t)) longer-R0 short-R1 (measured-R1 c fit)

  pub tree-R0 : read_r0 (image c) ≡ R0 (lbs t)
  tree-R0 = ap read_r0 (image_parts c) ∙ made-R0 c.metres (R1 (lbs t)) (R0 (lbs t)) longer-R0 short-R1 (measured-R1 c fit)

  tree-nodes : nodes_of (image c) ≡ nodes t
  tree-nodes = ap nodes_of (image_parts c) ∙ made-nodes c.metres (R1 (lbs t)) (R0 (lbs t)) longer-R0 short-R1 (measured-R1 c fit) ∙ length-R1 t

pub image_stages : (bytes : List ℕ) → is_image bytes ≡ true → Stages bytes
image_stages bytes e = let r = (is_image_lem bytes).0 e in subst Stages r.2 (tree_stages r.0 r.1)

-- ---- bytes that pass are an image

slice_bit : (bytes : List ℕ) (o p : ℕ) → p < 4000 → bit_at (take 500 (drop o bytes)) p ≡ bit_at bytes (8 * o + p)
unfolding bit_at
slice_bit bytes o p h =
    ap (λ x. bit (x / 2 ^ (7 - p % 8) % 2)) (get_or-take 500 (drop o bytes) (p / 8) 0 (omega arith) ∙ get_or-drop o bytes (p / 8) 0)
    ∙ ap₂ (λ q e. bit (get_or bytes q 0 / 2 ^ (7 - e) % 2))
    (let e : o + p / 8 ≡ (8 * o + p) / 8 = omega arith in e) (let e : p % 8 ≡ (8 * o + p) % 8 = omega arith in e)

-- the words of block j of n bits that are from block `from` on, with zeros after them
module _ (bytes : List ℕ) (are : AreBytes bytes) (from n j : ℕ) (has : j < string_blocks n) (fits : 512 * (from + j + 1) ≤ length bytes) (k : BlockKept bytes from n j) where
  bit_is : (p : ℕ) → p < 4000 → bit_at bytes (bit_place from (4000 * j + p)) ≡ get_or (string_in bytes from 0 n) (4000 * j + p) O
  bit_is p h =
      let i = 4000 * j + p in
      let l = length-string_in bytes from 0 n in
      elim (dec_lt i n) [
        | yes g ↦ ap (λ q. bit_at bytes (bit_place from q)) (let e : i ≡ 0 + i = omega arith in e) ∙ sym (string_in-at bytes from 0 n i g)
        | no g ↦ k.unused i (omega arith) (omega arith) (omega arith) ∙ sym (get_or-eq_default (string_in bytes from 0 n) O (omega arith))
      ]

  part_is : take 500 (drop (512 * (from + j) + 4) bytes) ≡ bytes_of 500 (drop (4000 * j) (string_in bytes from 0 n))
  part_is =
      let o = 512 * (from + j) + 4 in
      let y = drop (4000 * j) (string_in bytes from 0 n) in
      let l : length (take 500 (drop o bytes)) ≡ 500 = omega (arith, length-take 500 (drop o bytes), length-drop o bytes) in
      same_bits_lem (take 500 (drop o bytes)) (bytes_of 500 y) (take_bytes 500 (drop o bytes) (drop_bytes o bytes are)) (bytes_of_lt 500 y) (l ∙ sym (length-bytes_of 500 y))
      (λ p g. slice_bit bytes o p (omega arith)
      ∙ ap (bit_at bytes) (let e : 8 * o + p ≡ bit_place from (4000 * j + p) = omega arith in e)
      ∙ bit_is p (omega arith)
      ∙ sym (get_or-drop (4000 * j) (string_in bytes from 0 n) p O) ∙ sym (bytes_of-bit 500 y p (omega arith)))

  pub block-word : (w : ℕ) → w < 126 → word_at bytes (512 * (from + j) + 4 * w) ≡ string_word (string_in bytes from 0 n) j w
  unfolding string_word
  block-word zero g =
      ap (word_at bytes) (let e : 512 * (from + j) + 4 * 0 ≡ 512 * (from + j) = omega arith in e)
      ∙ k.count ∙ ap (λ r. ones r) (sym (string_in-take bytes from (4000 * j) n (omega arith)))
  block-word (suc w) g =
      let o = 512 * (from + j) + 4 in
      let r = string_in bytes from 0 n in
      ap (word_at bytes) (let e : 512 * (from + j) + 4 * suc w ≡ o + 4 * w = omega arith in e)
      ∙ sym (word_at-drop o bytes (4 * w)) ∙ sym (word_at-take 500 (drop o bytes) (4 * w) (omega arith))
      ∙ ap (λ x. word_at x (4 * w)) part_is
      ∙ bytes_of-word 500 (drop (4000 * j) r) w (omega arith) ∙ ap bit_word (drop-drop (32 * w) (4000 * j) r)

-- a string's counts and padding, block by block
module _ (bytes : List ℕ) (from n : ℕ) where
  pub kept-blocks : CountsAndPadding bytes from (string_in bytes from 0 n) → (j : ℕ) → j < string_blocks n → BlockKept bytes from n j
  kept-blocks k j h =
      let l = length-string_in bytes from 0 n in
      record {
        count = k.counts j (omega arith) ∙ ap (λ r. ones r) (string_in-take bytes from (4000 * j) n (omega arith));
        unused = λ i a b c. k.unused i (omega arith) (omega arith);
      }

  pub blocks-kept : ((j : ℕ) → j < string_blocks n → BlockKept bytes from n j) → CountsAndPadding bytes from (string_in bytes from 0 n)
  blocks-kept k =
      let l = length-string_in bytes from 0 n in
      record {
        counts = λ j h. (k j (omega arith)).count ∙ ap (λ r. ones r) (sym (string_in-take bytes from (4000 * j) n (omega arith)));
        unused = λ i a b. (k (i / 4000) (omega arith)).unused i (omega arith) (omega arith) (omega arith);
      }

pub word_is : (bytes : List ℕ) → AreBytes bytes → (from n : ℕ) → 512 * (from + string_blocks n) ≤ length bytes → CountsAndPadding bytes from (string_in bytes from 0 n)
    → (j w : ℕ) → j < string_blocks n → w < 126 → word_at bytes (512 * (from + j) + 4 * w) ≡ string_word (string_in bytes from 0 n) j w
word_is bytes are from n fits k j w h g = block-word bytes are from n j h (omega arith) (kept-blocks bytes from n k j h) w g

-- the metres as the bytes have them: as many as the version says, and each the word at its place
module _ (bytes : List ℕ) (long : 504 ≤ length bytes) where
  abbrev from : ℕ
  from = metres_block (nodes_of bytes) (runs_of bytes)

  abbrev stored : List ℕ
  stored = numbers_in bytes from 0 (nodes_of bytes)

  pub metres_read_lem : metres_in bytes ≡ cond (eqb (version_in bytes) 2) (some stored) none
  unfolding metres_in
  metres_read_lem =
      ap (λ v. cond (eqb v 2) (some (numbers_in bytes (metres_block (header_word bytes 1) (header_word bytes 2)) 0 (header_word bytes 1))) none) (header_at bytes 0 long (omega arith))
      ∙ ap₂ (λ n m. cond (eqb (version_in bytes) 2) (some (numbers_in bytes (metres_block n m) 0 n)) none) (header_at bytes 1 long (omega arith)) (header_at bytes 2 long (omega arith))

  pub metres-count : length (list_of (metres_in bytes)) ≡ held_in bytes
  metres-count = ap (λ m. length (list_of m)) metres_read_lem ∙ go (eqb (version_in bytes) 2)
    where
      go : (t : Bool) → length (list_of (cond t (some stored) none)) ≡ cond t (nodes_of bytes) 0
      go true = length-numbers_in bytes from 0 (nodes_of bytes)
      go false = refl

  pub metres-at : (i : ℕ) → i < held_in bytes → get_or (list_of (metres_in bytes)) i 0 ≡ sample_in bytes from i
  metres-at i h = ap (λ m. get_or (list_of m) i 0) metres_read_lem ∙ go (eqb (version_in bytes) 2) h
    where
      go : (t : Bool) → i < cond t (nodes_of bytes) 0
          → get_or (list_of (cond t (some stored) none)) i 0 ≡ sample_in bytes from i
      go true g =
          numbers_in-at bytes from 0 (nodes_of bytes) i g
          ∙ ap (sample_in bytes from) (let e : 0 + i ≡ i = omega arith in e)
      go false g = absurd (omega arith)

  pub metres_small : AreBytes bytes → (i : ℕ) → get_or (list_of (metres_in bytes)) i 0 < 2 ^ 32
  metres_small are i = measured-word (header_word bytes 1) (metres_in bytes) (words-measured bytes are) i

  -- word w of block j of the metres: one of them, or zero behind the last
  pub metre_word : (j w : ℕ) → (held_in bytes ≤ 126 * j + w → word_at bytes (512 * (metres_block (nodes_of bytes) (runs_of bytes) + j) + 4 * w) ≡ 0) → j < word_blocks (held_in bytes) → w < 126
      → word_at bytes (512 * (metres_block (nodes_of bytes) (runs_of bytes) + j) + 4 * w) ≡ list_word (list_of (metres_in bytes)) j w
  metre_word j w rest h g = elim (dec_lt (126 * j + w) (held_in bytes)) [
    | yes l ↦ ap (word_at bytes)
        (let e : 512 * (metres_block (nodes_of bytes) (runs_of bytes) + j) + 4 * w ≡ sample_place (metres_block (nodes_of bytes) (runs_of bytes)) (126 * j + w) = omega arith in e)
        ∙ sym (metres-at (126 * j + w) l)
    | no l ↦ rest (omega arith) ∙ sym (get_or-eq_default (list_of (metres_in bytes)) 0 (let e : length (list_of (metres_in bytes)) ≤ 126 * j + w = omega (arith, metres-count) in e))
  ]

  -- of a known version they tell the version
  pub metres-version : Known (version_in bytes) → version_in bytes ≡ version_of (metres_in bytes)
  metres-version known = go (eqb (version_in bytes) 2) refl ∙ ap version_of (sym metres_read_lem)
    where
      go : (t : Bool) → eqb (version_in bytes) 2 ≡ t → version_in bytes ≡ version_of (cond (eqb (version_in bytes) 2) (some stored) none)
      go true e = eqb-true (version_in bytes) 2 e ∙ ap (λ t. version_of (cond t (some stored) none)) (sym e)
      go false e = one ∙ ap (λ t. version_of (cond t (some stored) none)) (sym e)
        where
          one : version_in bytes ≡ 1
          one = elim (dec_lt (version_in bytes) 2) [
            | yes l ↦ omega (arith, known.some)
            | no l ↦ absurd (true≢false (sym (eq-eqb (version_in bytes) 2 (omega (arith, known.most))) ∙ e))
          ]

module _ (bytes : List ℕ) (are : AreBytes bytes) (whole : length bytes ≡ 512 * blocks_in bytes) (sums : wrong_block bytes ≡ blocks_in bytes) (s : Stages bytes) where
  long1 : length (read_r1 bytes) ≡ nodes_of bytes
  long1 = length-string_in bytes 1 0 (nodes_of bytes)

  long0 : length (read_r0 bytes) ≡ nodes_of bytes + 1
  long0 = length-string_in bytes (r0_block (nodes_of bytes)) 0 (nodes_of bytes + 1)

  long : 504 ≤ length bytes
  long = omega (arith, s.header.needed)

  start_is : start_metres (read_r1 bytes) (read_r0 bytes) ≡ metres_block (nodes_of bytes) (runs_of bytes)
  start_is = omega (arith, long1, long0, length-samples (read_r1 bytes), length-samples (read_r0 bytes), s.ended1.count, s.ended0.count)

  total_is : total (metres_in bytes) (read_r1 bytes) (read_r0 bytes) ≡ blocks_in bytes
  total_is = omega (arith, start_is, metres-count bytes long, s.header.needed)

  head_is : (w : ℕ) → w < 126
      → word_at bytes (4 * w) ≡ get_or (version_of (metres_in bytes) ∷ length (read_r1 bytes) ∷ ones (read_r1 bytes) ∷ total (metres_in bytes) (read_r1 bytes) (read_r0 bytes) ∷ []) w 0
  head_is zero h = metres-version bytes long s.version
  head_is (suc zero) h = sym long1
  head_is (suc (suc zero)) h = sym s.ended1.count
  head_is (suc (suc (suc zero))) h = s.header.blocks ∙ sym total_is
  head_is (suc (suc (suc (suc w)))) h = s.header.reserved (suc (suc (suc (suc w)))) (omega arith) h

  read_laid : Laid bytes (metres_in bytes) (read_r1 bytes) (read_r0 bytes)
  read_laid =
      let a = read_r1 bytes in
      let b = read_r0 bytes in
      let n = nodes_of bytes in
      let la = long1 in
      let lb = long0 in
      let t = total_is in
      let o = start_is in
      let c = metres-count bytes long in
      let sa = length-samples a in
      let sb = length-samples b in
      let ca = s.ended1.count in
      let cb = s.ended0.count in
      record {
        size = omega arith;
        sums = sums ∙ sym t;
        head = head_is;
        in_r1 = λ j w h g. word_is bytes are 1 n (omega arith) s.kept1 j w (omega arith) g;
        in_r0 = λ j w h g. ap (λ o. word_at bytes (512 * (o + j) + 4 * w)) (let e : start_r0 a b ≡ r0_block n = omega arith in e)
            ∙ word_is bytes are (r0_block n) (n + 1) (omega arith) s.kept0 j w (omega arith) g;
        in_s1 = λ j w h g. ap (λ o. word_at bytes (512 * (o + j) + 4 * w)) (let e : start_s1 a b ≡ r1_samples n = omega arith in e) ∙ s.sampled1 j w (omega arith) g;
        in_s0 = λ j w h g. ap (λ o. word_at bytes (512 * (o + j) + 4 * w)) (let e : start_s0 a b ≡ r1_samples n + blocks_of_samples (runs_of bytes) = omega arith in e)
            ∙ s.sampled0 j w (omega arith) g;
        in_metres = λ j w h g. ap (λ o. word_at bytes (512 * (o + j) + 4 * w)) start_is ∙ metre_word bytes long j w (s.metres_end j (omega arith) w g) (omega arith) g;
      }

pub stages_image : (bytes : List ℕ) → AreBytes bytes → length bytes ≡ 512 * blocks_in bytes → wrong_block bytes ≡ blocks_in bytes → Stages bytes → is_image bytes ≡ true
stages_image bytes are whole sums s =
    let a = read_r1 bytes in
    let b = read_r0 bytes in
    let m = runs_of bytes in
    let la = long1 bytes are whole sums s in
    let lb = long0 bytes are whole sums s in
    let some = s.header.some in
    let most = s.header.most in
    let ra = (runs_ended m a (omega arith)).1 s.ended1 in
    let rb = (runs_ended m b (omega arith)).1 s.ended0 in
    let l : length b ≡ suc (length a) = omega arith in
    let measured = subst (λ n. Measured n (metres_in bytes)) (header_at bytes 1 (long bytes are whole sums s) (omega arith) ∙ sym la) (words-measured bytes are) in
    (is_image_lem bytes).1 ((image_laid bytes are).1 (m, metres_in bytes, a, b, ra, rb, l, omega arith, measured, (in_step m a b ra rb l).1 s.in_step, read_laid bytes are whole sums s))

-- ---- what the strings of an image give

pub parents_read : (bytes : List ℕ) → 504 ≤ length bytes → parents_of (woven (read_r1 bytes) (read_r0 bytes)) ≡ parents_in bytes
unfolding parents_in
parents_read bytes h =
    ap (λ n. parents_of (woven (string_in bytes 1 0 n) (string_in bytes (r0_block n) 0 (n + 1)))) (sym (header_at bytes 1 h (omega arith)))

pub record PartsRead (bytes : List ℕ) : Type 0 where
  pub given : parents_of (woven (read_r1 bytes) (read_r0 bytes)) ≡ parents_in bytes
  pub count : length (parents_in bytes) ≡ nodes_of bytes
  pub marks : ones (R1 (string_of (parents_in bytes))) ≡ runs_of bytes
  pub first : R1 (string_of (parents_in bytes)) ≡ read_r1 bytes
  pub second : R0 (string_of (parents_in bytes)) ≡ read_r0 bytes

pub parts_read : (bytes : List ℕ) → is_image bytes ≡ true → PartsRead bytes
parts_read bytes e = let r = (is_image_lem bytes).0 e in subst PartsRead r.2 (tree_read r.0 r.1)
  where
    tree_read : (c : Content) → FitImage c → PartsRead (image c)
    tree_read c h =
        let s = tree_stages c h in
        let ps = parents_in_lem c h in
        let string : string_of (parents_in (image c)) ≡ lbs c.tree = ap string_of ps ∙ string-parents c.tree in
        let one : R1 (string_of (parents_in (image c))) ≡ read_r1 (image c) = ap R1 string ∙ sym (tree-R1 c h) in
        record {
          given = parents_read (image c) (omega (arith, s.header.needed));
          count = ap length ps ∙ length-parents c.tree ∙ sym (tree-nodes c h);
          marks = ap ones one ∙ s.ended1.count;
          first = one;
          second = ap R0 string ∙ sym (tree-R0 c h);
        }

-- ---- samples that are right, by their numbers

pub sampled-word : (bytes : List ℕ) (from m : ℕ) (r : List Bit) → Sampled bytes from m r → (q : ℕ) → q < 126 * blocks_of_samples m
    → sample_in bytes from q ≡ get_or (samples r) q 0
unfolding sample_word
sampled-word bytes from m r s q h =
    s (q / 126) (q % 126) (omega arith) (omega arith) ∙ ap (λ j. get_or (samples r) j 0) (let e : 126 * (q / 126) + q % 126 ≡ q = omega arith in e)
