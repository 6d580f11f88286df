-- Images of trees and their metres: what is read back is the tree and its metres, which bytes are
-- an image, and how many blocks there are.
use mathlib.Core.Path.{◌≡◌, refl, sym, ap, ap₂, ◌∙◌, subst}
use mathlib.Core.Logic.{◌↔◌}
use mathlib.Core.Bool.{Bool, true, false, cond, ◌&&◌}
use mathlib.Core.List.{List, []}
use mathlib.Core.Option.{Option, none, some}
use Prim.Native.Nat.{ℕ, zero, suc, ◌+◌, ◌-◌, ◌*◌, ◌/◌, ◌%◌, ◌^◌, ◌≤◌, ◌<◌}
use native.Mathlib.Omega.{arith}
use borrow.Author.Tests.{leb-true, le-leb, eqb-true, eq-eqb}
use lib.Dec.{leb, eqb}
use lib.ListN.{length, get_or, take, drop}
use lib.Seq.{get_or-append-add, get_or-take, get_or-drop, ext_get_or, length-take-le}
use Rattle.meaning.specs.Trees.{Tree, nodes}
use Rattle.meaning.specs.Strings.{Bit, O, ones, lbs, R1, R0, parents_of, string_of, woven}
use Rattle.meaning.specs.Parents.{parents, IsParents, bad_entry}
use Rattle.meaning.specs.Bytes.{bit, bit_at, bytes_of}
use Rattle.meaning.specs.Blocks.{le32, sum_start, sealed, same, blocks_in, wrong_block}
use Rattle.meaning.specs.Image.{Content, Measured, FitImage, version_of, list_of, string_blocks, metres_block}
use Rattle.meaning.specs.Image.{image_of_parts, image_of_string, image, header_word, string_in, numbers_in, parents_in, metres_in, is_tree, is_image}
use Rattle.theory.specs.Layout.{Runs, AreBytes, word_at, sample_place, sample_in, start_r0, start_metres, total, Laid}
pub use Rattle.theory.specs.Layout.{bit_place}
use Rattle.theory.proofs.Navigate.{parents-bits}
use Rattle.theory.proofs.Parents.{are_parents, parents_are, parents_injective}
use Rattle.theory.proofs.Lowest.{no_bad, parents-bad_entry}
use Rattle.theory.proofs.Forms.{length-parents, length-R1, length-R0, string-parents, string_parts, tree_of_parts, tree-runs, tree_rule, marks-count, marks-same}
use Rattle.theory.proofs.Digits.{bytes_of-bit, words-at, word_at-take, word_lt}
use Rattle.theory.proofs.Sealing.{padded-at, sealed-at, and_both, same_refl, same-eq}
use Rattle.theory.proofs.Payloads.{ones-le, length-samples}
use Rattle.theory.proofs.Images.{measured_most, parts_bytes, head-word, string_payload, blocks, image_blocks, length-blocks, parts_size, parts_check, payload-R1, payload-R0, laid, unlaid}

-- ---- reading the strings

pub header_at : (bytes : List ℕ) (w : ℕ) → 504 ≤ length bytes → w < 126 → header_word bytes w ≡ word_at bytes (4 * w)
unfolding header_word
header_at bytes w h g =
    sym (words-at w (take 504 bytes) (omega (arith, length-take-le 504 bytes h))) ∙ word_at-take 504 bytes (4 * w) (omega arith)

pub length-string_in : (bytes : List ℕ) (b i n : ℕ) → length (string_in bytes b i n) ≡ n
unfolding string_in
length-string_in bytes b i zero = refl
length-string_in bytes b i (suc n) = ap suc (length-string_in bytes b (suc i) n)

pub string_in-at : (bytes : List ℕ) (b i n k : ℕ) → k < n → get_or (string_in bytes b i n) k O ≡ bit_at bytes (bit_place b (i + k))
unfolding string_in
string_in-at bytes b i zero k h = absurd (omega arith)
string_in-at bytes b i (suc n) zero h = ap (λ q. bit_at bytes (bit_place b q)) (let e : i ≡ i + 0 = omega arith in e)
string_in-at bytes b i (suc n) (suc k) h =
    string_in-at bytes b (suc i) n k (omega arith) ∙ ap (λ q. bit_at bytes (bit_place b q)) (let e : suc i + k ≡ i + suc k = omega arith in e)

-- bit i of a string whose blocks begin at block o, and zeros after the last bit
module _ (ps : List (List ℕ)) (o : ℕ) (r : List Bit)
    (there : (j : ℕ) → j < string_blocks (length r) → (o + j < length ps) × (get_or ps (o + j) [] ≡ string_payload r j)) where
  string-bit : (i : ℕ) → i < 4000 * string_blocks (length r) → bit_at (sealed sum_start ps 0) (bit_place o i) ≡ get_or r i O
  unfolding bit_at
  string-bit i h =
      let j = i / 4000 in
      let q = i % 4000 / 8 in
      let c = ones (take (4000 * j) r) in
      let y = take 4000 (drop (4000 * j) r) in
      let w = there j (omega arith) in
      let at : get_or (sealed sum_start ps 0) (512 * (o + j) + (4 + q)) 0 ≡ get_or (bytes_of 500 y) q 0 =
      sealed-at sum_start ps 0 (o + j) (4 + q) w.0 (omega arith)
      ∙ padded-at (get_or ps (o + j) []) (4 + q) (omega arith)
      ∙ ap (λ z. get_or z (4 + q) 0) w.1
      ∙ get_or-append-add (le32 c) (bytes_of 500 y) q 0 in
      ap₂ (λ a e. bit (get_or (sealed sum_start ps 0) a 0 / 2 ^ (7 - e) % 2))
      (let e : bit_place o i / 8 ≡ 512 * (o + j) + (4 + q) = omega arith in e)
      (let e : bit_place o i % 8 ≡ i % 4000 % 8 = omega arith in e)
      ∙ ap (λ z. bit (z / 2 ^ (7 - i % 4000 % 8) % 2)) at
      ∙ bytes_of-bit 500 y (i % 4000) (omega arith)
      ∙ get_or-take 4000 (drop (4000 * j) r) (i % 4000) O (omega arith)
      ∙ get_or-drop (4000 * j) r (i % 4000) O
      ∙ ap (λ k. get_or r k O) (let e : 4000 * j + i % 4000 ≡ i = omega arith in e)

  string_in_lem : string_in (sealed sum_start ps 0) o 0 (length r) ≡ r
  string_in_lem =
      let l = length-string_in (sealed sum_start ps 0) o 0 (length r) in
      ext_get_or O (string_in (sealed sum_start ps 0) o 0 (length r)) r l
      (λ i h. string_in-at (sealed sum_start ps 0) o 0 (length r) i (omega arith)
      ∙ ap (λ q. bit_at (sealed sum_start ps 0) (bit_place o q)) (let e : 0 + i ≡ i = omega arith in e)
      ∙ string-bit i (omega arith))

-- both strings are in the image
module _ (ms : Option (List ℕ)) (a b : List Bit) where
  there1 : (j : ℕ) → j < string_blocks (length a) → (1 + j < length (blocks ms a b)) × (get_or (blocks ms a b) (1 + j) [] ≡ string_payload a j)
  there1 j h = (omega (arith, length-blocks ms a b), payload-R1 ms a b j (omega arith))

  there0 : (j : ℕ) → j < string_blocks (length b) → (start_r0 a b + j < length (blocks ms a b)) × (get_or (blocks ms a b) (start_r0 a b + j) [] ≡ string_payload b j)
  there0 j h = (omega (arith, length-blocks ms a b), payload-R0 ms a b j (omega arith))

  pub R1-bit : (i : ℕ) → i < 4000 * string_blocks (length a) → bit_at (image_of_parts ms a b) (bit_place 1 i) ≡ get_or a i O
  R1-bit i h = ap (λ x. bit_at x (bit_place 1 i)) (image_blocks ms a b) ∙ string-bit (blocks ms a b) 1 a there1 i h

  pub R0-bit : (i : ℕ) → i < 4000 * string_blocks (length b) → bit_at (image_of_parts ms a b) (bit_place (start_r0 a b) i) ≡ get_or b i O
  R0-bit i h = ap (λ x. bit_at x (bit_place (start_r0 a b) i)) (image_blocks ms a b) ∙ string-bit (blocks ms a b) (start_r0 a b) b there0 i h

  pub R1_in : string_in (image_of_parts ms a b) 1 0 (length a) ≡ a
  R1_in = ap (λ x. string_in x 1 0 (length a)) (image_blocks ms a b) ∙ string_in_lem (blocks ms a b) 1 a there1

  pub R0_in : string_in (image_of_parts ms a b) (1 + string_blocks (length a)) 0 (length b) ≡ b
  R0_in = ap (λ x. string_in x (start_r0 a b) 0 (length b)) (image_blocks ms a b) ∙ string_in_lem (blocks ms a b) (start_r0 a b) b there0

-- ---- reading a list of numbers

pub length-numbers_in : (bytes : List ℕ) (b i n : ℕ) → length (numbers_in bytes b i n) ≡ n
unfolding numbers_in
length-numbers_in bytes b i zero = refl
length-numbers_in bytes b i (suc n) = ap suc (length-numbers_in bytes b (suc i) n)

pub numbers_in-at : (bytes : List ℕ) (b i n k : ℕ) → k < n → get_or (numbers_in bytes b i n) k 0 ≡ sample_in bytes b (i + k)
unfolding numbers_in
numbers_in-at bytes b i zero k h = absurd (omega arith)
numbers_in-at bytes b i (suc n) zero h = ap (sample_in bytes b) (let e : i ≡ i + 0 = omega arith in e)
numbers_in-at bytes b i (suc n) (suc k) h =
    numbers_in-at bytes b (suc i) n k (omega arith) ∙ ap (sample_in bytes b) (let e : suc i + k ≡ i + suc k = omega arith in e)

-- ---- the header of an image, and its metres

module _ (ms : Option (List ℕ)) (a b : List Bit) (la : length a ≤ 65535) (lb : length b ≤ 65536) (measured : Measured (length a) ms) where
  here : Laid (image_of_parts ms a b) ms a b
  here = laid ms a b la lb measured

  long : 504 ≤ length (image_of_parts ms a b)
  long = omega (arith, here.size)

  pub header-nodes : header_word (image_of_parts ms a b) 1 ≡ length a
  header-nodes = header_at (image_of_parts ms a b) 1 long (omega arith) ∙ here.head 1 (omega arith)

  header-version : header_word (image_of_parts ms a b) 0 ≡ version_of ms
  header-version = header_at (image_of_parts ms a b) 0 long (omega arith) ∙ here.head 0 (omega arith)

  header-runs : header_word (image_of_parts ms a b) 2 ≡ ones a
  header-runs = header_at (image_of_parts ms a b) 2 long (omega arith) ∙ here.head 2 (omega arith)

  -- number w of the metres
  metre_in : (w : ℕ) → w < length (list_of ms) → sample_in (image_of_parts ms a b) (start_metres a b) w ≡ get_or (list_of ms) w 0
  metre_in w h =
      here.in_metres (w / 126) (w % 126) (omega arith) (omega arith)
      ∙ ap (λ i. get_or (list_of ms) i 0) (let e : 126 * (w / 126) + w % 126 ≡ w = omega arith in e)

  numbers_in_lem : (from : ℕ) → from ≡ start_metres a b → numbers_in (image_of_parts ms a b) from 0 (length (list_of ms)) ≡ list_of ms
  numbers_in_lem from at =
      let n = length (list_of ms) in
      let x = image_of_parts ms a b in
      let l = length-numbers_in x from 0 n in
      ext_get_or 0 (numbers_in x from 0 n) (list_of ms) l
      (λ i h. numbers_in-at x from 0 n i (omega arith)
      ∙ ap₂ (sample_in x) at (let e : 0 + i ≡ i = omega arith in e)
      ∙ metre_in i (omega arith))

-- the metres are those that the image was made with
pub metres_in_parts : (ms : Option (List ℕ)) (a b : List Bit) → length a ≤ 65535 → length b ≤ 65536 → Measured (length a) ms → ones a ≡ ones b → length b ≡ suc (length a)
    → metres_in (image_of_parts ms a b) ≡ ms
unfolding metres_in
metres_in_parts none a b la lb measured same longer =
    let x = image_of_parts none a b in
    ap (λ v. cond (eqb v 2) (some (numbers_in x (metres_block (header_word x 1) (header_word x 2)) 0 (header_word x 1))) none) (header-version none a b la lb measured)
metres_in_parts (some ms) a b la lb measured same longer =
    let x = image_of_parts (some ms) a b in
    let n = header-nodes (some ms) a b la lb measured in
    let m = header-runs (some ms) a b la lb measured in
    let at : metres_block (length a) (ones a) ≡ start_metres a b = omega (arith, length-samples a, length-samples b) in
    ap (λ v. cond (eqb v 2) (some (numbers_in x (metres_block (header_word x 1) (header_word x 2)) 0 (header_word x 1))) none) (header-version (some ms) a b la lb measured)
    ∙ ap₂ (λ n m. some (numbers_in x (metres_block n m) 0 n)) n m
    ∙ ap (λ n. some (numbers_in x (metres_block (length a) (ones a)) 0 n)) (sym measured.0)
    ∙ ap some (numbers_in_lem (some ms) a b la lb measured (metres_block (length a) (ones a)) at)

-- ---- the image of a tree and its metres

module _ (c : Content) where
  abbrev own : Tree
  own = c.tree

  pub image_parts : image c ≡ image_of_parts c.metres (R1 (lbs own)) (R0 (lbs own))
  unfolding image image_of_string
  image_parts = refl

  module _ (fit : FitImage c) where
    short1 : length (R1 (lbs own)) ≤ 65535
    short1 = omega (arith, length-R1 own, fit.small)

    short0 : length (R0 (lbs own)) ≤ 65536
    short0 = omega (arith, length-R0 own, fit.small)

    pub measured-R1 : Measured (length (R1 (lbs own))) c.metres
    measured-R1 = subst (λ n. Measured n c.metres) (sym (length-R1 own)) fit.measured

    pub tree_laid : Laid (image c) c.metres (R1 (lbs own)) (R0 (lbs own))
    tree_laid =
        subst (λ x. Laid x c.metres (R1 (lbs own)) (R0 (lbs own))) (sym image_parts)
        (laid c.metres (R1 (lbs own)) (R0 (lbs own)) short1 short0 measured-R1)

    -- what is read back is the tree's parent list
    pub parents_in_lem : parents_in (image c) ≡ parents own
    unfolding parents_in parents_of
    parents_in_lem =
        ap parents_in image_parts
        ∙ ap (λ n. parents_of (woven (string_in x 1 0 n) (string_in x (1 + string_blocks n) 0 (n + 1)))) n_is
        ∙ ap₂ (λ p q. parents_of (woven p q)) (R1_in c.metres a b) (ap (string_in x (1 + string_blocks (length a)) 0) longer ∙ R0_in c.metres a b)
        ∙ back
      where
        a : List Bit
        a = R1 (lbs own)

        b : List Bit
        b = R0 (lbs own)

        x : List ℕ
        x = image_of_parts c.metres a b

        n_is : header_word x 1 ≡ length a
        n_is = header-nodes c.metres a b short1 short0 measured-R1

        longer : length a + 1 ≡ length b
        longer = omega (arith, length-R1 own, length-R0 own)

        back : parents_of (woven a b) ≡ parents own
        back = ap parents_of (string_parts own) ∙ sym (parents-bits own)

    -- and its metres, if it has any
    pub metres_in_lem : metres_in (image c) ≡ c.metres
    metres_in_lem =
        ap metres_in image_parts
        ∙ metres_in_parts c.metres (R1 (lbs own)) (R0 (lbs own)) short1 short0 measured-R1 (sym (marks-same own)) (length-R0 own ∙ ap suc (sym (length-R1 own)))

-- contents with the same tree and the same metres
pub one_content : (c d : Content) → c.tree ≡ d.tree → c.metres ≡ d.metres → c ≡ d
one_content c d e f = ap₂ (λ t ms. record { tree = t; metres = ms }) e f

-- an image has one tree, and its metres are one
pub image_injective : (c d : Content) → FitImage c → FitImage d → image c ≡ image d → c ≡ d
image_injective c d h g e =
    one_content c d
    (parents_injective c.tree d.tree (sym (parents_in_lem c h) ∙ ap parents_in e ∙ parents_in_lem d g))
    (sym (metres_in_lem c h) ∙ ap metres_in e ∙ metres_in_lem d g)

-- ---- which bytes are an image

pub is_tree_lem : (ps : List ℕ) → is_tree ps ≡ true ↔ (IsParents ps × (length ps ≤ 65535))
unfolding is_tree
is_tree_lem ps = (there, back)
  where
    there : is_tree ps ≡ true → IsParents ps × (length ps ≤ 65535)
    there e =
        let p = and_both (leb 1 (length ps) && leb (length ps) 65535) (eqb (bad_entry ps) 0) e in
        let q = and_both (leb 1 (length ps)) (leb (length ps) 65535) p.0 in
        (no_bad ps (leb-true 1 (length ps) q.0) (eqb-true (bad_entry ps) 0 p.1), leb-true (length ps) 65535 q.1)

    back : IsParents ps × (length ps ≤ 65535) → is_tree ps ≡ true
    back p = ap₂ ◌&&◌ (ap₂ ◌&&◌ (le-leb 1 (length ps) p.0.some) (le-leb (length ps) 65535 p.1)) (eq-eqb (bad_entry ps) 0 (parents-bad_entry ps p.0))

-- some content that fits gives these bytes
abbrev pub Given : List ℕ → Type 0
Given bytes = (c : Content) × FitImage c × (image c ≡ bytes)

-- where the version tells of metres, they are one 32-bit number for each node
pub words-measured : (bytes : List ℕ) → AreBytes bytes → Measured (header_word bytes 1) (metres_in bytes)
unfolding metres_in
words-measured bytes are = go (eqb (header_word bytes 0) 2)
  where
    go : (t : Bool) → Measured (header_word bytes 1) (cond t (some (numbers_in bytes (metres_block (header_word bytes 1) (header_word bytes 2)) 0 (header_word bytes 1))) none)
    go true =
        let n = header_word bytes 1 in
        let b = metres_block n (header_word bytes 2) in
        (length-numbers_in bytes b 0 n, λ i h. omega (arith, numbers_in-at bytes b 0 n i h, word_lt bytes are (sample_place b (0 + i))))
    go false = tt

-- the metres fit wherever they are those that the image itself has
pub fitting : (c : Content) → nodes c.tree ≤ 65535 → metres_in (image c) ≡ c.metres → FitImage c
fitting c few same = record { small = few; measured = subst (λ k. Measured k ms) n (subst (Measured (header_word bytes 1)) same (words-measured bytes are)) }
  where
    ms : Option (List ℕ)
    ms = c.metres

    a : List Bit
    a = R1 (lbs c.tree)

    b : List Bit
    b = R0 (lbs c.tree)

    bytes : List ℕ
    bytes = image c

    are : AreBytes bytes
    are = subst AreBytes (sym (image_parts c)) (parts_bytes ms a b)

    n : header_word bytes 1 ≡ nodes c.tree
    n =
        ap (λ y. header_word y 1) (image_parts c)
        ∙ header_at (image_of_parts ms a b) 1 (omega (arith, parts_size ms a b)) (omega arith)
        ∙ head-word ms a b 1 (omega arith) (omega (arith, length-R1 c.tree)) ∙ length-R1 c.tree

module _ (bytes : List ℕ) where
  image-made : Given bytes → is_image bytes ≡ true
  unfolding is_image image
  image-made r =
      let c = r.0 in
      let fit = r.1 in
      let t = c.tree in
      let ps : parents_in bytes ≡ parents t = ap parents_in (sym r.2) ∙ parents_in_lem c fit in
      let ms : metres_in bytes ≡ c.metres = ap metres_in (sym r.2) ∙ metres_in_lem c fit in
      ap₂ (λ x m. is_tree x && same (image_of_string m (string_of x)) bytes) ps ms
      ∙ ap₂ ◌&&◌ ((is_tree_lem (parents t)).1 (parents_are t, omega (arith, fit.small, length-parents t)))
      (ap (λ x. same x bytes) (ap (image_of_string c.metres) (string-parents t) ∙ r.2) ∙ same_refl bytes)

  -- a tree and the metres that the bytes have
  pub made-image : (c : Content) → nodes c.tree ≤ 65535 → c.metres ≡ metres_in bytes → image c ≡ bytes → is_image bytes ≡ true
  made-image c few same e = image-made (c, fitting c few (ap metres_in e ∙ sym same), e)

  image-given : is_image bytes ≡ true → Given bytes
  unfolding is_image image
  image-given e =
      let ps = parents_in bytes in
      let ms = metres_in bytes in
      let p = and_both (is_tree ps) (same (image_of_string ms (string_of ps)) bytes) e in
      let q = (is_tree_lem ps).0 p.0 in
      let r = are_parents ps q.0 in
      let t = r.0 in
      let c : Content = record { tree = t; metres = ms } in
      let made : image c ≡ bytes = ap (image_of_string ms) (sym (string-parents t) ∙ ap string_of r.1) ∙ same-eq (image_of_string ms (string_of ps)) bytes p.1 in
      (c, fitting c (omega (arith, q.1, length-parents t, ap length r.1)) (ap metres_in made), made)

  pub is_image_lem : is_image bytes ≡ true ↔ Given bytes
  is_image_lem = (image-given, image-made)

-- which bytes are an image, word by word, as a check of an image goes
abbrev pub LaidParts : List ℕ → Type 0
LaidParts bytes = (m : ℕ) × (ms : Option (List ℕ)) × (a : List Bit) × (b : List Bit) × Runs m a × Runs m b
    × (length b ≡ suc (length a)) × (length a ≤ 65535) × Measured (length a) ms × IsParents (parents_of (woven a b)) × Laid bytes ms a b

pub image_laid : (bytes : List ℕ) → AreBytes bytes → Given bytes ↔ LaidParts bytes
image_laid bytes h = (there, back)
  where
    there : Given bytes → LaidParts bytes
    there r =
        let c = r.0 in
        let t = c.tree in
        let q = tree-runs t in
        let a = R1 (lbs t) in
        let b = R0 (lbs t) in
        let g = r.1 in (
          q.0,
          c.metres,
          a,
          b,
          q.1,
          q.2,
          length-R0 t ∙ ap suc (sym (length-R1 t)),
          omega (arith, length-R1 t, g.small),
          measured-R1 c g,
          tree_rule t,
          subst (λ x. Laid x c.metres a b) r.2 (tree_laid c g),
        )

    back : LaidParts bytes → Given bytes
    back r =
        let ms = r.1 in
        let a = r.2 in
        let b = r.3 in
        let u = tree_of_parts r.0 a b r.4 r.5 r.6 r.9 in
        let t = u.0 in
        let l = r.6 in
        let s = r.7 in
        let measured = subst (λ n. Measured n ms) (sym (ap length u.1) ∙ length-R1 t) r.8 in (
          record { tree = t; metres = ms },
          record { small = omega (arith, length-R1 t, ap length u.1); measured = measured },
          image_parts (record { tree = t; metres = ms }) ∙ ap₂ (image_of_parts ms) u.1 u.2 ∙ sym (unlaid bytes ms a b s (omega arith) r.8 h r.10),
        )

-- ---- the blocks of an image

module _ (c : Content) where
  abbrev held : Tree
  held = c.tree

  abbrev pub total_of : ℕ
  total_of = total c.metres (R1 (lbs held)) (R0 (lbs held))

  pub image-size : length (image c) ≡ 512 * total_of
  image-size = ap length (image_parts c) ∙ parts_size c.metres (R1 (lbs held)) (R0 (lbs held))

  pub image_checks : wrong_block (image c) ≡ blocks_in (image c)
  image_checks = ap wrong_block (image_parts c) ∙ parts_check c.metres (R1 (lbs held)) (R0 (lbs held)) ∙ omega (arith, image-size)

  pub image_least : 5 ≤ total_of
  image_least =
      let a = R1 (lbs held) in
      let b = R0 (lbs held) in
      omega (arith, length-samples a, length-samples b, marks-count held, marks-same held, ones-le a, ones-le b)

  pub image_most : FitImage c → total_of ≤ 574
  image_most fit =
      let a = R1 (lbs held) in
      let b = R0 (lbs held) in
      omega (arith, length-samples a, length-samples b, marks-same held, ones-le a, length-R1 held, length-R0 held, fit.small, measured_most (nodes held) c.metres fit.measured)

  -- without metres
  pub image_most_alone : FitImage c → c.metres ≡ none → total_of ≤ 53
  image_most_alone fit e =
      let a = R1 (lbs held) in
      let b = R0 (lbs held) in
      omega (arith, length-samples a, length-samples b, marks-same held, ones-le a, length-R1 held, length-R0 held, fit.small, ap (λ m. length (list_of m)) e)
