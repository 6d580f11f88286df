-- What is wrong with an image: each test of codes 12 to 15 by the stages of the check.
use mathlib.Core.Path.{◌≡◌, refl, sym, ap, ap₂, ◌∙◌, subst}
use mathlib.Core.Logic.{◌↔◌}
use mathlib.Core.Bool.{Bool, true, false, true≢false, cond, ◌&&◌}
use mathlib.Core.List.{List, [], ◌∷◌, ◌++◌, map}
use Prim.Native.Nat.{ℕ, zero, suc, ◌+◌, ◌*◌, ◌^◌, ◌≤◌, ◌<◌}
use native.Mathlib.Decide.{dec_lt}
use native.Mathlib.Omega.{arith}
use borrow.Author.Tests.{leb-true, le-leb, eqb-true, eq-eqb}
use lib.Dec.{leb, eqb}
use lib.ListN.{length, get_or, take, drop, length-map, length-append, get_or-eq_default}
use lib.Seq.{length-take-le}
use Rattle.meaning.specs.Trees.{Tree, nodes}
use Rattle.meaning.specs.Parents.{parents, IsParents}
use Rattle.meaning.specs.Strings.{Bit, O, I, ones, lbs, R1, R0, parents_of, string_of, woven}
use Rattle.meaning.specs.Bytes.{value}
use Rattle.meaning.specs.Blocks.{word_bytes, padded, same, blocks_in}
use Rattle.meaning.specs.Image.{list_of, list_part, string_blocks, samples, string_part, sample_part, header_word, string_in, parents_in, metres_in, is_tree}
use Rattle.meaning.specs.Faults.{some_tree, is_header, r1_in, r0_in, same_bits, are_strings, payload_at, whole, zero_after, lowest_failing, wrong_kept, wrong_sample}
use Rattle.theory.specs.Layout.{Runs, AreBytes, word_at}
use Rattle.theory.specs.Stages.{version_in, nodes_of, runs_of, held_in, word_blocks, samples_of, metres_block, blocks_of_samples, r0_block}
use Rattle.theory.specs.Stages.{r1_samples, blocks_needed, read_r1, read_r0, Header, Ended, InStep, CountsAndPadding, MetresEnd}
use Rattle.theory.specs.Faults.{LowestWrong, BlockKept, RestKept, BlockSampled}
use Rattle.theory.proofs.Parents.{are_parents, parents_are}
use Rattle.theory.proofs.Digits.{word_lt, take_bytes, words_bytes, word_bytes-at, word_at-take, same-words}
use Rattle.theory.proofs.Navigate.{parents-bits}
use Rattle.theory.proofs.Forms.{length-parents, length-R1, string-parents, string_parts, tree_of_parts, tree-runs, tree_rule, runs-ones}
use Rattle.theory.proofs.Sealing.{and_both, same_refl, same-eq, length-padded, padded_bytes, padded-word}
use Rattle.theory.proofs.TreeImages.{header_at, length-string_in, is_tree_lem}
use Rattle.theory.proofs.InStep.{runs_ended, in_step}
use Rattle.theory.proofs.Payloads.{length-samples, list_word_lem}
use Rattle.theory.proofs.Images.{list_payload, length-string, length_list, string_part_lem, list_part_lem}
use Rattle.theory.proofs.Stages.{metres-count, metre_word, metres_small, parents_read, blocks-kept}
use Rattle.theory.proofs.LowestWrong.{lowest-one, lowest-none, failing_is, is_failing, first_fails, first_passes}
use Rattle.theory.proofs.BlockTests.{whole_words, kept_tested, sampled_tested, rest_tested}

-- ---- 12: the header

some-tree : (n m : ℕ) → some_tree n m ≡ true → (1 ≤ n) × (n ≤ 65535) × (1 ≤ m) × (m ≤ n) × (2 ≤ n → 2 ≤ m)
some-tree n m e =
    let p = and_both (leb 1 n && leb n 65535) (cond (eqb n 1) (eqb m 1) (leb 2 m && leb m n)) e in
    let q = and_both (leb 1 n) (leb n 65535) p.0 in
    let some = leb-true 1 n q.0 in
    let most = leb-true n 65535 q.1 in
    go (eqb n 1) refl p.1 some most
  where
    go : (t : Bool) → eqb n 1 ≡ t → cond t (eqb m 1) (leb 2 m && leb m n) ≡ true → 1 ≤ n → n ≤ 65535
        → (1 ≤ n) × (n ≤ 65535) × (1 ≤ m) × (m ≤ n) × (2 ≤ n → 2 ≤ m)
    go true f g some most =
        let one = eqb-true n 1 f in
        let run = eqb-true m 1 g in
        (some, most, omega arith, omega arith, λ two. absurd (omega arith))
    go false f g some most =
        let q = and_both (leb 2 m) (leb m n) g in
        let two = leb-true 2 m q.0 in
        let few = leb-true m n q.1 in
        (some, most, omega arith, few, λ h. two)

tree-some : (n m : ℕ) → 1 ≤ n → n ≤ 65535 → 1 ≤ m → m ≤ n → (2 ≤ n → 2 ≤ m) → some_tree n m ≡ true
tree-some n m some most runs few two = ap₂ ◌&&◌ (ap₂ ◌&&◌ (le-leb 1 n some) (le-leb n 65535 most)) (go (eqb n 1) refl)
  where
    go : (t : Bool) → eqb n 1 ≡ t → cond (eqb n 1) (eqb m 1) (leb 2 m && leb m n) ≡ true
    go true f =
        let one = eqb-true n 1 f in
        ap (λ t. cond t (eqb m 1) (leb 2 m && leb m n)) f ∙ eq-eqb m 1 (omega arith)
    go false f =
        ap (λ t. cond t (eqb m 1) (leb 2 m && leb m n)) f
        ∙ elim (dec_lt n 2) [
          | yes h ↦ absurd (true≢false (sym (eq-eqb n 1 (omega arith)) ∙ f))
          | no h ↦ ap₂ ◌&&◌ (le-leb 2 m (two (omega arith))) (le-leb m n few)
        ]

-- the header's words as a payload
abbrev pub header_of : List ℕ → List ℕ
header_of bytes = word_bytes (header_word bytes 0 ∷ header_word bytes 1 ∷ header_word bytes 2 ∷ blocks_in bytes ∷ [])

module _ (bytes : List ℕ) (long : 504 ≤ length bytes) where
  pub version-at : header_word bytes 0 ≡ version_in bytes
  version-at = header_at bytes 0 long (omega arith)

  pub nodes-at : header_word bytes 1 ≡ nodes_of bytes
  nodes-at = header_at bytes 1 long (omega arith)

  pub runs-at : header_word bytes 2 ≡ runs_of bytes
  runs-at = header_at bytes 2 long (omega arith)

  pub r1-at : r1_in bytes ≡ read_r1 bytes
  r1-at = ap (λ n. string_in bytes 1 0 n) nodes-at

  pub r0-at : r0_in bytes ≡ read_r0 bytes
  r0-at = ap (λ n. string_in bytes (r0_block n) 0 (n + 1)) nodes-at

  needed_at : blocks_needed (header_word bytes 0) (header_word bytes 1) (header_word bytes 2) ≡ blocks_needed (version_in bytes) (nodes_of bytes) (runs_of bytes)
  needed_at = ap (λ v. blocks_needed v (header_word bytes 1) (header_word bytes 2)) version-at ∙ ap₂ (blocks_needed (version_in bytes)) nodes-at runs-at

  -- what a right header tells of any list of numbers
  pub record HeaderTold : Type 0 where
    pub some : 1 ≤ nodes_of bytes
    pub most : nodes_of bytes ≤ 65535
    pub runs_some : 1 ≤ runs_of bytes
    pub runs_most : runs_of bytes ≤ nodes_of bytes
    pub runs_two : 2 ≤ nodes_of bytes → 2 ≤ runs_of bytes
    pub needed : blocks_needed (version_in bytes) (nodes_of bytes) (runs_of bytes) ≡ blocks_in bytes
    pub words : padded (header_of bytes) ≡ take 504 bytes

  pub header_told : is_header bytes ≡ true → HeaderTold
  unfolding is_header
  header_told e =
      let v = header_word bytes 0 in
      let n = header_word bytes 1 in
      let m = header_word bytes 2 in
      let p = and_both (some_tree n m && eqb (blocks_needed v n m) (blocks_in bytes)) (same (padded (header_of bytes)) (take 504 bytes)) e in
      let q = and_both (some_tree n m) (eqb (blocks_needed v n m) (blocks_in bytes)) p.0 in
      let t = some-tree n m q.0 in
      let en = nodes-at in
      let em = runs-at in
      record {
        some = omega (arith, t.0);
        most = omega (arith, t.1);
        runs_some = omega (arith, t.2);
        runs_most = omega (arith, t.3);
        runs_two = λ two. omega (arith, t.4 (omega arith));
        needed = sym needed_at ∙ eqb-true (blocks_needed v n m) (blocks_in bytes) q.1;
        words = same-eq (padded (header_of bytes)) (take 504 bytes) p.1;
      }

  pub told_header : HeaderTold → is_header bytes ≡ true
  unfolding is_header
  told_header t =
      let v = header_word bytes 0 in
      let n = header_word bytes 1 in
      let m = header_word bytes 2 in
      let en = nodes-at in
      let em = runs-at in
      ap₂ ◌&&◌
      (ap₂ ◌&&◌ (tree-some n m (omega (arith, t.some)) (omega (arith, t.most)) (omega (arith, t.runs_some)) (omega (arith, t.runs_most)) (λ two. omega (arith, t.runs_two (omega arith))))
      (eq-eqb (blocks_needed v n m) (blocks_in bytes) (needed_at ∙ t.needed)))
      (ap (same (padded (header_of bytes))) (sym t.words) ∙ same_refl (padded (header_of bytes)))

  -- of bytes it is the header of the stages
  module _ (are : AreBytes bytes) (small : blocks_in bytes < 2 ^ 32) where
    header-word : (w : ℕ) → word_at (header_of bytes) (4 * w) ≡ get_or (header_word bytes 0 ∷ header_word bytes 1 ∷ header_word bytes 2 ∷ blocks_in bytes ∷ []) w 0
    header-word w = word_bytes-at (header_word bytes 0 ∷ header_word bytes 1 ∷ header_word bytes 2 ∷ blocks_in bytes ∷ []) w (fits w)
      where
        fits : (w : ℕ) → get_or (header_word bytes 0 ∷ header_word bytes 1 ∷ header_word bytes 2 ∷ blocks_in bytes ∷ []) w 0 < 2 ^ 32
        fits zero = omega (arith, version-at, word_lt bytes are 0)
        fits (suc zero) = omega (arith, nodes-at, word_lt bytes are 4)
        fits (suc (suc zero)) = omega (arith, runs-at, word_lt bytes are 8)
        fits (suc (suc (suc zero))) = omega arith
        fits (suc (suc (suc (suc w)))) = omega arith

    told_word : padded (header_of bytes) ≡ take 504 bytes → (w : ℕ) → w < 126
        → word_at bytes (4 * w) ≡ get_or (header_word bytes 0 ∷ header_word bytes 1 ∷ header_word bytes 2 ∷ blocks_in bytes ∷ []) w 0
    told_word e w h = sym (word_at-take 504 bytes (4 * w) (omega arith)) ∙ ap (λ x. word_at x (4 * w)) (sym e) ∙ padded-word (header_of bytes) w h ∙ header-word w

    pub header_right : is_header bytes ≡ true → Header bytes
    header_right e =
        let t = header_told e in
        record {
          some = t.some;
          most = t.most;
          runs_some = t.runs_some;
          runs_most = t.runs_most;
          runs_two = t.runs_two;
          blocks = told_word t.words 3 (omega arith);
          needed = sym t.needed;
          reserved = λ w h g. told_word t.words w g ∙ get_or-eq_default (header_word bytes 0 ∷ header_word bytes 1 ∷ header_word bytes 2 ∷ blocks_in bytes ∷ []) 0 h;
        }

    pub right_header : Header bytes → is_header bytes ≡ true
    right_header h = told_header (record {
      some = h.some;
      most = h.most;
      runs_some = h.runs_some;
      runs_most = h.runs_most;
      runs_two = h.runs_two;
      needed = sym h.needed;
      words = same-words 126 (padded (header_of bytes)) (take 504 bytes)
          (padded_bytes (header_of bytes) (words_bytes (header_word bytes 0 ∷ header_word bytes 1 ∷ header_word bytes 2 ∷ blocks_in bytes ∷ [])))
          (take_bytes 504 bytes are) (length-padded (header_of bytes)) (length-take-le 504 bytes long)
          (λ w g. padded-word (header_of bytes) w g ∙ header-word w ∙ sym (is_word w g) ∙ sym (word_at-take 504 bytes (4 * w) (omega arith)));
    })
      where
        is_word : (w : ℕ) → w < 126 → word_at bytes (4 * w) ≡ get_or (header_word bytes 0 ∷ header_word bytes 1 ∷ header_word bytes 2 ∷ blocks_in bytes ∷ []) w 0
        is_word zero g = sym version-at
        is_word (suc zero) g = sym nodes-at
        is_word (suc (suc zero)) g = sym runs-at
        is_word (suc (suc (suc zero))) g = h.blocks
        is_word (suc (suc (suc (suc w)))) g = h.reserved (suc (suc (suc (suc w)))) (omega arith) g

-- ---- 13: the strings

value-one : (a b : Bit) → value a ≡ value b → a ≡ b
unfolding value
value-one O O e = refl
value-one O I e = absurd (omega arith)
value-one I O e = absurd (omega arith)
value-one I I e = refl

values_same : (a b : List Bit) → map value a ≡ map value b → a ≡ b
values_same [] [] e = refl
values_same [] (y ∷ b) e = absurd (let z : ◌≡◌ {A = ℕ} 0 1 = cc in omega arith)
values_same (x ∷ a) [] e = absurd (let z : ◌≡◌ {A = ℕ} 0 1 = cc in omega arith)
values_same (x ∷ a) (y ∷ b) e = ap₂ ◌∷◌ (value-one x y (let f : value x ≡ value y = cc in f)) (values_same a b (let f : map value a ≡ map value b = cc in f))

pub same-string : (a b : List Bit) → (same_bits a b ≡ true) ↔ (a ≡ b)
same-string a b = (λ e. values_same a b (same-eq (map value a) (map value b) e), λ e. ap (λ x. same (map value a) (map value x)) (sym e) ∙ same_refl (map value a))

-- some tree gives them
pub record Strings (bytes : List ℕ) : Type 0 where
  pub tree : Tree
  pub few : nodes tree ≤ 65535
  pub list : parents tree ≡ parents_in bytes
  pub first : R1 (lbs tree) ≡ r1_in bytes
  pub second : R0 (lbs tree) ≡ r0_in bytes
  pub runs : ones (r1_in bytes) ≡ header_word bytes 2

module _ (bytes : List ℕ) where
  pub strings_told : are_strings bytes ≡ true → Strings bytes
  unfolding are_strings
  strings_told e =
      let ps = parents_in bytes in
      let p = and_both (is_tree ps && same_bits (R1 (string_of ps)) (r1_in bytes) && same_bits (R0 (string_of ps)) (r0_in bytes)) (eqb (ones (r1_in bytes)) (header_word bytes 2)) e in
      let q = and_both (is_tree ps && same_bits (R1 (string_of ps)) (r1_in bytes)) (same_bits (R0 (string_of ps)) (r0_in bytes)) p.0 in
      let r = and_both (is_tree ps) (same_bits (R1 (string_of ps)) (r1_in bytes)) q.0 in
      let tree = (is_tree_lem ps).0 r.0 in
      let w = are_parents ps tree.0 in
      let t = w.0 in
      let string : lbs t ≡ string_of ps = sym (string-parents t) ∙ ap string_of w.1 in
      record {
        tree = t;
        few = omega (arith, tree.1, length-parents t, ap length w.1);
        list = w.1;
        first = ap R1 string ∙ (same-string (R1 (string_of ps)) (r1_in bytes)).0 r.1;
        second = ap R0 string ∙ (same-string (R0 (string_of ps)) (r0_in bytes)).0 q.1;
        runs = eqb-true (ones (r1_in bytes)) (header_word bytes 2) p.1;
      }

  pub told_strings : Strings bytes → are_strings bytes ≡ true
  unfolding are_strings
  told_strings s =
      let ps = parents_in bytes in
      let t = s.tree in
      let string : string_of ps ≡ lbs t = ap string_of (sym s.list) ∙ string-parents t in
      ap₂ ◌&&◌
      (ap₂ ◌&&◌
      (ap₂ ◌&&◌
      ((is_tree_lem ps).1 (subst IsParents s.list (parents_are t), omega (arith, s.few, length-parents t, ap length s.list)))
      ((same-string (R1 (string_of ps)) (r1_in bytes)).1 (ap R1 string ∙ s.first)))
      ((same-string (R0 (string_of ps)) (r0_in bytes)).1 (ap R0 string ∙ s.second)))
      (eq-eqb (ones (r1_in bytes)) (header_word bytes 2) s.runs)

  -- by the stages
  pub strings_staged : 504 ≤ length bytes → 1 ≤ nodes_of bytes → Strings bytes → Ended (runs_of bytes) (read_r1 bytes) × Ended (runs_of bytes) (read_r0 bytes) × InStep (read_r1 bytes) (read_r0 bytes)
  strings_staged long some s =
      let t = s.tree in
      let q = tree-runs t in
      let a = s.first ∙ r1-at bytes long in
      let b = s.second ∙ r0-at bytes long in
      let la = length-string_in bytes 1 0 (nodes_of bytes) in
      let lb = length-string_in bytes (r0_block (nodes_of bytes)) 0 (nodes_of bytes + 1) in
      let ra = subst (Runs q.0) a q.1 in
      let rb = subst (Runs q.0) b q.2 in
      let m : q.0 ≡ runs_of bytes = sym (runs-ones q.0 (read_r1 bytes) ra) ∙ ap (λ r. ones r) (sym (r1-at bytes long)) ∙ s.runs ∙ runs-at bytes long in (
        (runs_ended (runs_of bytes) (read_r1 bytes) (omega arith)).0 (subst (λ k. Runs k (read_r1 bytes)) m ra),
        (runs_ended (runs_of bytes) (read_r0 bytes) (omega arith)).0 (subst (λ k. Runs k (read_r0 bytes)) m rb),
        (in_step q.0 (read_r1 bytes) (read_r0 bytes) ra rb (omega arith)).0
            (subst (λ x. IsParents (parents_of (woven x (read_r0 bytes)))) a (subst (λ y. IsParents (parents_of (woven (R1 (lbs t)) y))) b (tree_rule t))),
      )

  pub staged_strings : 504 ≤ length bytes → 1 ≤ nodes_of bytes → nodes_of bytes ≤ 65535 → Ended (runs_of bytes) (read_r1 bytes) → Ended (runs_of bytes) (read_r0 bytes)
      → InStep (read_r1 bytes) (read_r0 bytes)
      → Strings bytes
  unfolding parents_of
  staged_strings long some most ended1 ended0 step =
      let a = read_r1 bytes in
      let b = read_r0 bytes in
      let m = runs_of bytes in
      let la = length-string_in bytes 1 0 (nodes_of bytes) in
      let lb = length-string_in bytes (r0_block (nodes_of bytes)) 0 (nodes_of bytes + 1) in
      let ra = (runs_ended m a (omega arith)).1 ended1 in
      let rb = (runs_ended m b (omega arith)).1 ended0 in
      let l : length b ≡ suc (length a) = omega arith in
      let u = tree_of_parts m a b ra rb l ((in_step m a b ra rb l).1 step) in
      let t = u.0 in
      record {
        tree = t;
        few = omega (arith, length-R1 t, ap length u.1);
        list = parents_of_lem t ∙ ap₂ (λ x y. parents_of (woven x y)) u.1 u.2 ∙ parents_read bytes long;
        first = u.1 ∙ sym (r1-at bytes long);
        second = u.2 ∙ sym (r0-at bytes long);
        runs = ap (λ r. ones r) (r1-at bytes long) ∙ ended1.count ∙ sym (runs-at bytes long);
      }
    where
      parents_of_lem : (t : Tree) → parents t ≡ parents_of (woven (R1 (lbs t)) (R0 (lbs t)))
      parents_of_lem t = parents-bits t ∙ ap parents_of (sym (string_parts t))

-- ---- 14 and 15: the blocks after the header

-- of two groups of blocks, those of the first and then those of the second
both : (test : List ℕ → List ℕ → Bool) (xs ys : List (List ℕ)) → map test (xs ++ ys) ≡ map test xs ++ map test ys
both test [] ys = refl
both test (x ∷ xs) ys = ap (λ zs. test x ∷ zs) (both test xs ys)

abbrev pub in_string : List ℕ → List Bit → ℕ → ℕ
in_string bytes r from = lowest_failing (map whole (string_part r)) bytes from

abbrev pub after_samples : List ℕ → List Bit → ℕ → ℕ
after_samples bytes r from = lowest_failing (map zero_after (sample_part r)) bytes from

abbrev pub in_samples : List ℕ → List Bit → ℕ → ℕ
in_samples bytes r from = lowest_failing (map whole (sample_part r)) bytes from

abbrev pub in_metres : List ℕ → ℕ → ℕ
in_metres bytes from = lowest_failing (map whole (list_part (list_of (metres_in bytes)))) bytes from

module _ (bytes : List ℕ) where
  length_group : (test : List ℕ → List ℕ → Bool) (ps : List (List ℕ)) → length (map test ps) ≡ length ps
  length_group test ps = length-map ps test

  -- the first of two groups, and the second if the first has none
  group_first : (test : List ℕ → List ℕ → Bool) (xs ys : List (List ℕ)) (from : ℕ) → (lowest_failing (map test xs) bytes from ≡ 0 → ⊥)
      → lowest_failing (map test (xs ++ ys)) bytes from ≡ lowest_failing (map test xs) bytes from
  group_first test xs ys from n = ap (λ ts. lowest_failing ts bytes from) (both test xs ys) ∙ first_fails bytes (map test xs) (map test ys) from n

  group_second : (test : List ℕ → List ℕ → Bool) (xs ys : List (List ℕ)) (from then : ℕ) → 1 ≤ from → then ≡ from + length xs → lowest_failing (map test xs) bytes from ≡ 0
      → lowest_failing (map test (xs ++ ys)) bytes from ≡ lowest_failing (map test ys) bytes then
  group_second test xs ys from then one at e =
      ap (λ ts. lowest_failing ts bytes from) (both test xs ys) ∙ first_passes bytes (map test xs) (map test ys) from one e
      ∙ ap (lowest_failing (map test ys) bytes) (let e : from + length (map test xs) ≡ then = omega (arith, length_group test xs) in e)

-- where n and m are those of the strings
module _ (bytes : List ℕ) (long : 504 ≤ length bytes) (ended1 : Ended (runs_of bytes) (read_r1 bytes)) where
  abbrev n : ℕ
  n = nodes_of bytes

  abbrev m : ℕ
  m = runs_of bytes

  blocks1 : length (string_part (read_r1 bytes)) ≡ string_blocks n
  blocks1 = omega (arith, length-string (read_r1 bytes), length-string_in bytes 1 0 n)

  blocks0 : length (string_part (read_r0 bytes)) ≡ string_blocks (n + 1)
  blocks0 = omega (arith, length-string (read_r0 bytes), length-string_in bytes (r0_block n) 0 (n + 1))

  tables1 : length (sample_part (read_r1 bytes)) ≡ blocks_of_samples m
  tables1 = omega (arith, length_list (samples (read_r1 bytes)), length-samples (read_r1 bytes), ended1.count)

  -- the groups of code 14: the strings, what comes after the samples, the metres
  abbrev pub strings_read : List (List ℕ)
  strings_read = string_part (read_r1 bytes) ++ string_part (read_r0 bytes)

  abbrev pub tables_read : List (List ℕ)
  tables_read = sample_part (read_r1 bytes) ++ sample_part (read_r0 bytes)

  abbrev pub metres_read : List (List ℕ)
  metres_read = list_part (list_of (metres_in bytes))

  abbrev front : List (List ℕ → Bool)
  front = map whole strings_read ++ map zero_after tables_read

  pub kept_read : wrong_kept bytes ≡ lowest_failing (map whole strings_read ++ map zero_after tables_read ++ map whole metres_read) bytes 1
  unfolding wrong_kept
  kept_read =
      ap₂ (λ x y. lowest_failing (map whole (string_part x ++ string_part y) ++ map zero_after (sample_part x ++ sample_part y) ++ map whole metres_read) bytes 1) (r1-at bytes long) (r0-at bytes long)

  -- a block before the metres
  kept-front : (r : ℕ) → (r ≡ 0 → ⊥) → lowest_failing front bytes 1 ≡ r → wrong_kept bytes ≡ r
  kept-front r wrong e = kept_read ∙ first_fails bytes front (map whole metres_read) 1 (λ z. wrong (sym e ∙ z)) ∙ e

  -- what code 14 names: of R1, else of R0, else after the samples of R1, else after those of R0,
  -- else after the metres
  pub kept_in_R1 : (in_string bytes (read_r1 bytes) 1 ≡ 0 → ⊥) → wrong_kept bytes ≡ in_string bytes (read_r1 bytes) 1
  kept_in_R1 wrong =
      let first = group_first bytes whole (string_part (read_r1 bytes)) (string_part (read_r0 bytes)) 1 wrong in
      kept-front (in_string bytes (read_r1 bytes) 1) wrong (first_fails bytes (map whole strings_read) (map zero_after tables_read) 1 (λ e. wrong (sym first ∙ e)) ∙ first)

  module _ (right1 : in_string bytes (read_r1 bytes) 1 ≡ 0) where
    strings-second : lowest_failing (map whole strings_read) bytes 1 ≡ in_string bytes (read_r0 bytes) (r0_block n)
    strings-second = group_second bytes whole (string_part (read_r1 bytes)) (string_part (read_r0 bytes)) 1 (r0_block n) (omega arith) (omega (arith, blocks1)) right1

    pub kept_in_R0 : (in_string bytes (read_r0 bytes) (r0_block n) ≡ 0 → ⊥) → wrong_kept bytes ≡ in_string bytes (read_r0 bytes) (r0_block n)
    kept_in_R0 wrong =
        kept-front (in_string bytes (read_r0 bytes) (r0_block n)) wrong
        (first_fails bytes (map whole strings_read) (map zero_after tables_read) 1 (λ e. wrong (sym strings-second ∙ e)) ∙ strings-second)

    module _ (right0 : in_string bytes (read_r0 bytes) (r0_block n) ≡ 0) where
      rests_first : lowest_failing front bytes 1 ≡ lowest_failing (map zero_after tables_read) bytes (r1_samples n)
      rests_first =
          first_passes bytes (map whole strings_read) (map zero_after tables_read) 1 (omega arith) (strings-second ∙ right0)
          ∙ ap (lowest_failing (map zero_after tables_read) bytes)
          (let e : 1 + length (map whole strings_read) ≡ r1_samples n =
          omega (arith, length_group bytes whole strings_read, length-append (string_part (read_r1 bytes)) (string_part (read_r0 bytes)), blocks1, blocks0) in e)

      pub kept_after_S1 : (after_samples bytes (read_r1 bytes) (r1_samples n) ≡ 0 → ⊥) → wrong_kept bytes ≡ after_samples bytes (read_r1 bytes) (r1_samples n)
      kept_after_S1 wrong =
          kept-front (after_samples bytes (read_r1 bytes) (r1_samples n)) wrong
          (rests_first ∙ group_first bytes zero_after (sample_part (read_r1 bytes)) (sample_part (read_r0 bytes)) (r1_samples n) wrong)

      module _ (right_s1 : after_samples bytes (read_r1 bytes) (r1_samples n) ≡ 0) where
        front-last : lowest_failing front bytes 1 ≡ after_samples bytes (read_r0 bytes) (r1_samples n + blocks_of_samples m)
        front-last =
            rests_first
            ∙ group_second bytes zero_after (sample_part (read_r1 bytes)) (sample_part (read_r0 bytes)) (r1_samples n) (r1_samples n + blocks_of_samples m)
            (omega arith) (omega (arith, tables1)) right_s1

        pub kept_after_S0 : (after_samples bytes (read_r0 bytes) (r1_samples n + blocks_of_samples m) ≡ 0 → ⊥)
            → wrong_kept bytes ≡ after_samples bytes (read_r0 bytes) (r1_samples n + blocks_of_samples m)
        kept_after_S0 wrong = kept-front (after_samples bytes (read_r0 bytes) (r1_samples n + blocks_of_samples m)) wrong front-last

        pub kept-after-metres : Ended m (read_r0 bytes) → after_samples bytes (read_r0 bytes) (r1_samples n + blocks_of_samples m) ≡ 0 → wrong_kept bytes ≡ in_metres bytes (metres_block n m)
        kept-after-metres ended0 right_s0 =
            kept_read ∙ first_passes bytes front (map whole metres_read) 1 (omega arith) (front-last ∙ right_s0)
            ∙ ap (lowest_failing (map whole metres_read) bytes) front_long
          where
            front_long : 1 + length front ≡ metres_block n m
            front_long =
                omega (
                  arith,
                  length-append (map whole strings_read) (map zero_after tables_read),
                  length_group bytes whole strings_read,
                  length_group bytes zero_after tables_read,
                  length-append (string_part (read_r1 bytes)) (string_part (read_r0 bytes)),
                  length-append (sample_part (read_r1 bytes)) (sample_part (read_r0 bytes)),
                  blocks1,
                  blocks0,
                  tables1,
                  length_list (samples (read_r0 bytes)),
                  length-samples (read_r0 bytes),
                  ended0.count,
                )

  -- what code 15 names: of the samples of R1, else of R0
  pub sample_read : wrong_sample bytes ≡ lowest_failing (map whole (sample_part (read_r1 bytes) ++ sample_part (read_r0 bytes))) bytes (r1_samples n)
  unfolding wrong_sample
  sample_read =
      ap₂ (λ x y. lowest_failing (map whole (sample_part x ++ sample_part y)) bytes (r1_samples (header_word bytes 1))) (r1-at bytes long) (r0-at bytes long)
      ∙ ap (λ k. lowest_failing (map whole (sample_part (read_r1 bytes) ++ sample_part (read_r0 bytes))) bytes (r1_samples k)) (nodes-at bytes long)

  pub sample_in_S1 : (in_samples bytes (read_r1 bytes) (r1_samples n) ≡ 0 → ⊥) → wrong_sample bytes ≡ in_samples bytes (read_r1 bytes) (r1_samples n)
  sample_in_S1 wrong = sample_read ∙ group_first bytes whole (sample_part (read_r1 bytes)) (sample_part (read_r0 bytes)) (r1_samples n) wrong

  pub sample_in_S0 : in_samples bytes (read_r1 bytes) (r1_samples n) ≡ 0 → wrong_sample bytes ≡ in_samples bytes (read_r0 bytes) (r1_samples n + blocks_of_samples (runs_of bytes))
  sample_in_S0 right =
      sample_read
      ∙ group_second bytes whole (sample_part (read_r1 bytes)) (sample_part (read_r0 bytes)) (r1_samples n) (r1_samples n + blocks_of_samples (runs_of bytes))
      (omega arith) (omega (arith, tables1)) right

-- ---- each group by what is looked at in its blocks

module _ (bytes : List ℕ) (are : AreBytes bytes) where
  module _ (first n : ℕ) (few : n ≤ 65536) (fits : 512 * (first + string_blocks n) ≤ length bytes) where
    pub lowest-string : LowestWrong (BlockKept bytes first n) first (string_blocks n) (in_string bytes (string_in bytes first 0 n) first)
    lowest-string =
        let s = string_in bytes first 0 n in
        let l = length-string_in bytes first 0 n in
        failing_is whole bytes (string_part s) first (string_blocks n) (omega (arith, length-string s)) (BlockKept bytes first n)
        (λ j h. subst (λ p. BlockKept bytes first n j ↔ (whole p (payload_at bytes (first + j)) ≡ true)) (sym (string_part_lem s j (omega arith)))
        (kept_tested bytes are first n j few h (omega arith)))

    pub lowest_in_string : (r : ℕ) → LowestWrong (BlockKept bytes first n) first (string_blocks n) r → r ≡ in_string bytes (string_in bytes first 0 n) first
    lowest_in_string r w = lowest-one (BlockKept bytes first n) first (string_blocks n) r (in_string bytes (string_in bytes first 0 n) first) w lowest-string

  module _ (from m : ℕ) (s : List Bit) (count : ones s ≡ m) (few : length s ≤ 65536) (fits : 512 * (from + blocks_of_samples m) ≤ length bytes) where
    pub lowest-rest : LowestWrong (RestKept bytes from (samples_of m)) from (blocks_of_samples m) (after_samples bytes s from)
    lowest-rest =
        let ss = samples s in
        let k : length ss ≡ samples_of m = omega (arith, length-samples s) in
        failing_is zero_after bytes (sample_part s) from (blocks_of_samples m) (omega (arith, length_list ss)) (RestKept bytes from (samples_of m))
        (λ j h. subst (λ p. RestKept bytes from (samples_of m) j ↔ (zero_after p (payload_at bytes (from + j)) ≡ true)) (sym (list_part_lem ss j (omega arith)))
        (subst (λ i. RestKept bytes from i j ↔ (zero_after (list_payload ss j) (payload_at bytes (from + j)) ≡ true)) k (rest_tested bytes from ss j (omega arith))))

    pub lowest-after-samples : (r : ℕ) → LowestWrong (RestKept bytes from (samples_of m)) from (blocks_of_samples m) r → r ≡ after_samples bytes s from
    lowest-after-samples r w = lowest-one (RestKept bytes from (samples_of m)) from (blocks_of_samples m) r (after_samples bytes s from) w lowest-rest

    pub lowest_in_samples : (r : ℕ) → LowestWrong (BlockSampled bytes from s) from (blocks_of_samples m) r → r ≡ in_samples bytes s from
    lowest_in_samples =
        is_failing whole bytes (sample_part s) from (blocks_of_samples m) (omega (arith, length_list (samples s), length-samples s)) (BlockSampled bytes from s)
        (λ j h. subst (λ p. BlockSampled bytes from s j ↔ (whole p (payload_at bytes (from + j)) ≡ true)) (sym (list_part_lem (samples s) j (omega (arith, length-samples s))))
        (sampled_tested bytes from s j (omega arith) are few))

  -- the metres: of their words only those behind the last can differ from what was read
  module _ (long : 504 ≤ length bytes) (fits : 512 * (metres_block (nodes_of bytes) (runs_of bytes) + word_blocks (held_in bytes)) ≤ length bytes) where
    abbrev from : ℕ
    from = metres_block (nodes_of bytes) (runs_of bytes)

    abbrev ms : List ℕ
    ms = list_of (metres_in bytes)

    metres_tested : (j : ℕ) → j < word_blocks (held_in bytes) → RestKept bytes from (held_in bytes) j ↔ (whole (list_payload ms j) (payload_at bytes (from + j)) ≡ true)
    metres_tested j h =
        let t = whole_words bytes (from + j) (omega arith) are (list_payload ms j) (words_bytes (take 126 (drop (126 * j) ms))) in (
          λ f. t.0 (λ w g. metre_word bytes long j w (f w g) h g ∙ sym (list_word_lem ms j w (metres_small bytes long are (126 * j + w)) g)),
          λ e w g after. t.1 e w g ∙ list_word_lem ms j w (metres_small bytes long are (126 * j + w)) g
              ∙ get_or-eq_default ms 0 (let l : length ms ≤ 126 * j + w = omega (arith, metres-count bytes long) in l),
        )

    pub lowest-metres : LowestWrong (RestKept bytes from (held_in bytes)) from (word_blocks (held_in bytes)) (in_metres bytes from)
    lowest-metres =
        failing_is whole bytes (list_part ms) from (word_blocks (held_in bytes)) (omega (arith, length_list ms, metres-count bytes long)) (RestKept bytes from (held_in bytes))
        (λ j h. subst (λ p. RestKept bytes from (held_in bytes) j ↔ (whole p (payload_at bytes (from + j)) ≡ true)) (sym (list_part_lem ms j (omega (arith, metres-count bytes long))))
        (metres_tested j h))

    pub lowest_in_metres : (r : ℕ) → LowestWrong (RestKept bytes from (held_in bytes)) from (word_blocks (held_in bytes)) r → r ≡ in_metres bytes from
    lowest_in_metres r w = lowest-one (RestKept bytes from (held_in bytes)) from (word_blocks (held_in bytes)) r (in_metres bytes from) w lowest-metres

-- ---- where code 14 names no block, counts and unused payload are right

zero_or : (r : ℕ) → ((r ≡ 0 → ⊥) → ⊥) → r ≡ 0
zero_or zero h = refl
zero_or (suc r) h = absurd (h (λ e. omega arith))

module _ (bytes : List ℕ) (are : AreBytes bytes) (h : Header bytes)
    (ended1 : Ended (runs_of bytes) (read_r1 bytes)) (ended0 : Ended (runs_of bytes) (read_r0 bytes)) (kept : wrong_kept bytes ≡ 0) where
  abbrev nodes' : ℕ
  nodes' = nodes_of bytes

  long : 504 ≤ length bytes
  long = omega (arith, h.needed)

  none-R1 : in_string bytes (read_r1 bytes) 1 ≡ 0
  none-R1 = zero_or (in_string bytes (read_r1 bytes) 1) (λ n. n (sym (kept_in_R1 bytes long ended1 n) ∙ kept))

  none-R0 : in_string bytes (read_r0 bytes) (r0_block nodes') ≡ 0
  none-R0 = zero_or (in_string bytes (read_r0 bytes) (r0_block nodes')) (λ n. n (sym (kept_in_R0 bytes long ended1 none-R1 n) ∙ kept))

  none_S1 : after_samples bytes (read_r1 bytes) (r1_samples nodes') ≡ 0
  none_S1 = zero_or (after_samples bytes (read_r1 bytes) (r1_samples nodes')) (λ n. n (sym (kept_after_S1 bytes long ended1 none-R1 none-R0 n) ∙ kept))

  none_S0 : after_samples bytes (read_r0 bytes) (r1_samples nodes' + blocks_of_samples (runs_of bytes)) ≡ 0
  none_S0 =
      zero_or (after_samples bytes (read_r0 bytes) (r1_samples nodes' + blocks_of_samples (runs_of bytes)))
      (λ n. n (sym (kept_after_S0 bytes long ended1 none-R1 none-R0 none_S1 n) ∙ kept))

  none-metres : in_metres bytes (metres_block nodes' (runs_of bytes)) ≡ 0
  none-metres = sym (kept-after-metres bytes long ended1 none-R1 none-R0 none_S1 ended0 none_S0) ∙ kept

  pub kept-R1 : CountsAndPadding bytes 1 (read_r1 bytes)
  kept-R1 =
      blocks-kept bytes 1 nodes'
      (lowest-none (BlockKept bytes 1 nodes') 1 (string_blocks nodes') (in_string bytes (read_r1 bytes) 1) (omega arith) none-R1
      (lowest-string bytes are 1 nodes' (omega (arith, h.most)) (omega (arith, h.needed))))

  pub kept-R0 : CountsAndPadding bytes (r0_block nodes') (read_r0 bytes)
  kept-R0 =
      blocks-kept bytes (r0_block nodes') (nodes' + 1)
      (lowest-none (BlockKept bytes (r0_block nodes') (nodes' + 1)) (r0_block nodes') (string_blocks (nodes' + 1)) (in_string bytes (read_r0 bytes) (r0_block nodes')) (omega arith) none-R0
      (lowest-string bytes are (r0_block nodes') (nodes' + 1) (omega (arith, h.most)) (omega (arith, h.needed))))

  pub rest_S1 : (j : ℕ) → j < blocks_of_samples (runs_of bytes) → RestKept bytes (r1_samples nodes') (samples_of (runs_of bytes)) j
  rest_S1 =
      let l = length-string_in bytes 1 0 nodes' in
      let k = samples_of (runs_of bytes) in
      lowest-none (RestKept bytes (r1_samples nodes') k) (r1_samples nodes') (word_blocks k) (after_samples bytes (read_r1 bytes) (r1_samples nodes')) (omega arith) none_S1
      (lowest-rest bytes are (r1_samples nodes') (runs_of bytes) (read_r1 bytes) ended1.count (omega (arith, h.most)) (omega (arith, h.needed)))

  pub rest_S0 : (j : ℕ) → j < blocks_of_samples (runs_of bytes) → RestKept bytes (r1_samples nodes' + blocks_of_samples (runs_of bytes)) (samples_of (runs_of bytes)) j
  rest_S0 =
      let from = r1_samples nodes' + blocks_of_samples (runs_of bytes) in
      let l = length-string_in bytes (r0_block nodes') 0 (nodes' + 1) in
      let k = samples_of (runs_of bytes) in
      lowest-none (RestKept bytes from k) from (word_blocks k) (after_samples bytes (read_r0 bytes) from) (omega arith) none_S0
      (lowest-rest bytes are from (runs_of bytes) (read_r0 bytes) ended0.count (omega (arith, h.most)) (omega (arith, h.needed)))

  pub rest-metres : MetresEnd bytes
  rest-metres =
      let from = metres_block nodes' (runs_of bytes) in
      let k = held_in bytes in
      lowest-none (RestKept bytes from k) from (word_blocks k) (in_metres bytes from) (omega arith) none-metres
      (lowest-metres bytes are long (omega (arith, h.needed)))
