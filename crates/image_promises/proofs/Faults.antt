-- The promises of specs/Faults.antt.
use Rattle.std.specs.Prelude.{Err}
use mathlib.Core.Path.{◌≡◌, refl, sym, ap, ap₂, ◌∙◌, subst}
use mathlib.Core.Bool.{Bool, true, false, true≢false, cond, not, ◌&&◌}
use mathlib.Core.List.{List, [], ◌∷◌, ◌++◌}
use mathlib.Core.Option.{Option, none, some}
use mathlib.Core.Logic.{inl, inr, ◌↔◌}
use Prim.Native.Nat.{ℕ, zero, suc, ◌+◌, ◌*◌, ◌/◌, ◌%◌, ◌≤◌}
use native.Mathlib.Decide.{dec_lt}
use native.Mathlib.Omega.{arith}
use borrow.Author.Tests.{not-false, le-ltb}
use lib.Dec.{ltb, eqb}
use lib.ListN.{length, get_or, take, replicate, length-replicate}
use Rattle.meaning.specs.Trees.{Tree, nodes}
use Rattle.meaning.specs.Strings.{ones, lbs, R1, R0, parents_of, string_of, woven}
use Rattle.meaning.specs.Blocks.{word_bytes, words, padded, same, blocks_in, wrong_block}
use Rattle.meaning.specs.Image.{Content, Measured, FitImage, version_of, list_of, metres_held, blocks_needed, image, header_word, parents_in, metres_in}
use Rattle.meaning.specs.Faults.{some_tree, is_header, r1_in, r0_in, are_strings, wrong_kept, wrong_sample}
use Rattle.meaning.specs.declared.Answer.{Answer}
use Rattle.meaning.specs.Answers.{Row, ◌at◌when◌, refused_with, came_to, counts, settle}
use Rattle.meaning.specs.Tests.{outside, wrong_size, check_rows}
use Rattle.calls.specs.Calls.{check_image}
use Rattle.theory.specs.Rows.{NoneHolds}
use Rattle.theory.proofs.Settled.{between, or_neither, settle_on, settle-none}
use Rattle.theory.proofs.Codes.{neither, not_unequal, not-outside, Others, upper-none, row_held, settle-first}
use Rattle.theory.specs.Layout.{total}
use Rattle.theory.specs.Stages.{nodes_of, runs_of, version_in, Known}
use Rattle.theory.proofs.Navigate.{parents-bits}
use Rattle.theory.proofs.Forms.{length-R1, length-R0, string_parts, marks-same}
use Rattle.theory.proofs.Payloads.{length-samples}
use Rattle.theory.proofs.Images.{measured-held, length-blocks, payload-head}
use Rattle.theory.proofs.TreeImages.{length-string_in, words-measured, image-size, image_least, tree_laid}
use Rattle.theory.proofs.Stages.{metres-version}
use Rattle.theory.proofs.Faults.{header_of, version-at, nodes-at, runs-at, header_told, strings_told, told_strings}
use Rattle.theory.proofs.NoFault.{NoFault, image-payload, image_faultless}
use Rattle.image_found.specs.declared.Fault.{Fault}
use Rattle.image_found.specs.declared.Fault.TheVariants.{Version, Header}
use Rattle.image_found.specs.Checked.{checked, answered, numbered, fault_in}
use Rattle.image_found.proofs.Finding.{found-version, found-header, found_sound, found_fault}
use Rattle.call_check_image.proofs.Calling.{image-answered}
use Rattle.image_promises.proofs.SomeTree.{some-tree-has}
use Rattle.image_promises.specs.Faults as P
use Rattle.image_promises.specs.Faults.{Checks, Refuses, HasHeader, HasStrings, fault_of}

-- ---- the five rows of bytes whose size and sums are right

module _ (bytes : List ℕ) (checks : Checks bytes) where
  abbrev version : Row
  version = 11 at 0 when outside 1 2 (header_word bytes 0)

  abbrev header : Row
  header = 12 at 0 when not (is_header bytes)

  abbrev strings : Row
  strings = 13 at 1 when not (are_strings bytes)

  abbrev kept : Row
  kept = 14 at wrong_kept bytes when ltb 0 (wrong_kept bytes)

  abbrev sampled : Row
  sampled = 15 at wrong_sample bytes when ltb 0 (wrong_sample bytes)

  abbrev five : List Row
  five = version ∷ header ∷ strings ∷ kept ∷ sampled ∷ []

  abbrev done : Answer
  done = counts (length (parents_in bytes)) (ones (R1 (string_of (parents_in bytes))))

  pub by_five : check_image bytes ≡ settle tt five done tt
  unfolding check_image check_rows
  by_five =
      settle_on tt done tt _ _ (or_neither (wrong_size bytes) false checks.size refl)
      ∙ settle_on tt done tt _ _ (le-ltb (wrong_block bytes) (blocks_in bytes) (omega (arith, checks.sums)))

  -- code and place of a row are given exactly if it holds and no upper one does
  module _ (upper : List Row) (row : Row) (lower : List Row) (is : five ≡ upper ++ row ∷ lower) (up : Others row.code upper) (low : Others row.code lower) (some : 0 ≡ row.code → ⊥) where
    pub row_given : (p : ℕ) → Refuses bytes row.code p → NoneHolds upper × (row.holds ≡ true) × (p ≡ row.place)
    row_given p e =
        let o : settle tt (upper ++ row ∷ lower) done tt ≡ came_to (refused_with row.code p) tt = ap (λ rs. settle tt rs done tt) (sym is) ∙ sym by_five ∙ e in
        let code = ap (λ x. x.answer.code) o in
        let held = row_held tt done tt row.code upper row lower up low some code in
        (upper-none tt done tt row.code upper (row ∷ lower) up code, held.0, sym (ap (λ x. x.answer.place) o) ∙ held.1)

    pub given_row : NoneHolds upper → row.holds ≡ true → Refuses bytes row.code row.place
    given_row n h = by_five ∙ ap (λ rs. settle tt rs done tt) is ∙ settle-first tt done tt upper row lower n h

    pub exactly : (p : ℕ) → Refuses bytes row.code p ↔ (NoneHolds upper × (row.holds ≡ true) × (p ≡ row.place))
    exactly p = (row_given p, λ g. given_row g.0 g.1 ∙ ap (λ q. came_to (refused_with row.code q) tt) (sym g.2))

  pub given11 : (p : ℕ) → Refuses bytes 11 p ↔ (NoneHolds [] × (version.holds ≡ true) × (p ≡ 0))
  given11 = exactly [] version (header ∷ strings ∷ kept ∷ sampled ∷ []) refl tt (omega arith, (omega arith, (omega arith, (omega arith, tt)))) (omega arith)

  pub given12 : (p : ℕ) → Refuses bytes 12 p ↔ (NoneHolds (version ∷ []) × (header.holds ≡ true) × (p ≡ 0))
  given12 = exactly (version ∷ []) header (strings ∷ kept ∷ sampled ∷ []) refl (omega arith, tt) (omega arith, (omega arith, (omega arith, tt))) (omega arith)

  pub given13 : (p : ℕ) → Refuses bytes 13 p ↔ (NoneHolds (version ∷ header ∷ []) × (strings.holds ≡ true) × (p ≡ 1))
  given13 = exactly (version ∷ header ∷ []) strings (kept ∷ sampled ∷ []) refl (omega arith, (omega arith, tt)) (omega arith, (omega arith, tt)) (omega arith)

  pub given14 : (p : ℕ) → Refuses bytes 14 p ↔ (NoneHolds (version ∷ header ∷ strings ∷ []) × (kept.holds ≡ true) × (p ≡ wrong_kept bytes))
  given14 = exactly (version ∷ header ∷ strings ∷ []) kept (sampled ∷ []) refl (omega arith, (omega arith, (omega arith, tt))) (omega arith, tt) (omega arith)

  pub given15 : (p : ℕ) → Refuses bytes 15 p ↔ (NoneHolds (version ∷ header ∷ strings ∷ kept ∷ []) × (sampled.holds ≡ true) × (p ≡ wrong_sample bytes))
  given15 = exactly (version ∷ header ∷ strings ∷ kept ∷ []) sampled [] refl (omega arith, (omega arith, (omega arith, (omega arith, tt)))) tt (omega arith)

-- ---- what a tree's own image has

module _ (c : Content) (fit : FitImage c) where
  own : NoFault (image c)
  own = image_faultless c fit

  own-long : 504 ≤ length (image c)
  own-long = omega (arith, image-size c, image_least c)

  own_runs : header_word (image c) 2 ≡ ones (R1 (lbs c.tree))
  own_runs = runs-at (image c) own-long ∙ (tree_laid c fit).head 2 (omega arith)

-- ---- headers

pub zero-at : (n i : ℕ) → ◌≡◌ {A = ℕ} (get_or (replicate n 0) i 0) 0
zero-at zero i = refl
zero-at (suc n) zero = refl
zero-at (suc n) (suc i) = zero-at n i

-- the test of the header looks at the first 504 bytes and the length
same-header : (x y : List ℕ) → take 504 x ≡ take 504 y → length x ≡ length y → is_header x ≡ is_header y
unfolding is_header header_word
same-header x y =
    ap₂ (λ h l.
    let n = get_or (words h) 1 0 in
    let m = get_or (words h) 2 0 in
    some_tree n m && eqb (blocks_needed (get_or (words h) 0 0) n m) (l / 512) && same (padded (word_bytes (get_or (words h) 0 0 ∷ n ∷ m ∷ l / 512 ∷ []))) h)

same_word : (x y : List ℕ) (w : ℕ) → take 504 x ≡ take 504 y → header_word x w ≡ header_word y w
unfolding header_word
same_word x y w = ap (λ h. get_or (words h) w 0)

module _ (bytes : List ℕ) (checks : Checks bytes) where
  pub sizes : (length bytes ≡ 512 * blocks_in bytes) × (504 ≤ length bytes)
  sizes =
      let n = neither (not (eqb (length bytes % 512) 0)) (outside 5 574 (length bytes / 512)) checks.size in
      let whole = not_unequal (length bytes % 512) 0 n.0 in
      let some = not-outside 5 574 (length bytes / 512) n.1 in
      (omega arith, omega (arith, some.0))

  abbrev long : 504 ≤ length bytes
  long = sizes.1

  -- a header that some tree has is right
  pub has-version : (c : Content) → HasHeader c bytes → Known (header_word bytes 0)
  has-version c h = subst Known (same_word (image c) bytes 0 h.same) (own c h.fit).version

  pub has-header : (c : Content) → HasHeader c bytes → is_header bytes ≡ true
  has-header c h = sym (same-header (image c) bytes h.same h.long) ∙ (own c h.fit).header

  -- a tree with this n and m, and metres as the version says, has this header
  tree-header : is_header bytes ≡ true → (c : Content) → FitImage c → version_of c.metres ≡ version_in bytes → nodes c.tree ≡ nodes_of bytes → ones (R1 (lbs c.tree)) ≡ runs_of bytes
      → HasHeader c bytes
  tree-header right c fit v n m =
      let told = header_told bytes long right in
      let t = c.tree in
      let ms = c.metres in
      let a = R1 (lbs t) in
      let b = R0 (lbs t) in
      let held : length (list_of ms) ≡ metres_held (version_in bytes) (nodes_of bytes) = measured-held (nodes t) ms fit.measured ∙ ap₂ metres_held v n in
      let total_is : total ms a b ≡ blocks_in bytes = omega (arith, length-R1 t, length-R0 t, length-samples a, length-samples b, marks-same t, told.needed) in
      let words_are : word_bytes (version_of ms ∷ length a ∷ ones a ∷ total ms a b ∷ []) ≡ header_of bytes =
      ap₂ (λ v k. word_bytes (v ∷ k ∷ ones a ∷ total ms a b ∷ [])) (v ∙ sym (version-at bytes long)) (length-R1 t ∙ n ∙ sym (nodes-at bytes long))
      ∙ ap₂ (λ k d. word_bytes (header_word bytes 0 ∷ header_word bytes 1 ∷ k ∷ d ∷ [])) (m ∙ sym (runs-at bytes long)) total_is in
      record {
        fit = fit;
        long = image-size c ∙ omega (arith, sizes.0);
        same = sym (image-payload c fit 0 (omega (arith, length-blocks ms a b, image_least c))) ∙ ap padded (payload-head ms a b ∙ words_are) ∙ told.words;
      }

  -- metres as a version has them: all zero, or none
  zeros_for : (v n : ℕ) → Known v → (ms : Option (List ℕ)) × Measured n ms × (version_of ms ≡ v)
  zeros_for v n known = elim (dec_lt v 2) [
    | yes h ↦ (none, tt, omega (arith, known.some))
    | no h ↦ (some (replicate n 0), (length-replicate {A = ℕ} n 0, λ i l. omega (arith, zero-at n i)), omega (arith, known.most))
  ]

  header-tree : Known (header_word bytes 0) → is_header bytes ≡ true → (c : Content) × HasHeader c bytes
  header-tree version right =
      let told = header_told bytes long right in
      let w = some-tree-has (nodes_of bytes) (runs_of bytes) told.some told.runs_some told.runs_most told.runs_two in
      let z = zeros_for (version_in bytes) (nodes w.0) (subst Known (version-at bytes long) version) in
      let c : Content = record { tree = w.0; metres = z.0 } in
      (c, tree-header right c (record { small = omega (arith, told.most, w.1); measured = z.1 }) z.2 w.1 w.2)

  -- ---- strings

  pub has-strings : (c : Content) → HasStrings c bytes → are_strings bytes ≡ true
  unfolding parents_in parents_of
  has-strings c s =
      let fit = s.header.fit in
      let t = c.tree in
      told_strings bytes (record {
        tree = t;
        few = fit.small;
        list = parents-bits t ∙ ap parents_of (sym (string_parts t)) ∙ ap₂ (λ p q. parents_of (woven p q)) s.first s.second;
        first = s.first;
        second = s.second;
        runs = ap (λ r. ones r) (sym s.first) ∙ sym (own_runs c fit) ∙ same_word (image c) bytes 2 s.header.same;
      })

  -- a tree that has the strings has them with any metres of the version
  strings_with : Known (header_word bytes 0) → is_header bytes ≡ true → (t : Tree) → nodes t ≤ 65535 → R1 (lbs t) ≡ r1_in bytes → R0 (lbs t) ≡ r0_in bytes → ones (r1_in bytes) ≡ header_word bytes 2
      → (ms : Option (List ℕ)) → Measured (nodes t) ms → version_of ms ≡ version_in bytes → HasStrings (record { tree = t; metres = ms }) bytes
  strings_with version right t few first second runs ms measured v =
      let n : nodes t ≡ nodes_of bytes = sym (length-R1 t) ∙ ap length first ∙ length-string_in bytes 1 0 (header_word bytes 1) ∙ nodes-at bytes long in
      let m : ones (R1 (lbs t)) ≡ runs_of bytes = ap (λ r. ones r) first ∙ runs ∙ runs-at bytes long in
      record { header = tree-header right (record { tree = t; metres = ms }) (record { small = few; measured = measured }) v n m; first = first; second = second }

  strings-tree : Known (header_word bytes 0) → is_header bytes ≡ true → are_strings bytes ≡ true → (c : Content) × HasStrings c bytes
  strings-tree version right e =
      let s = strings_told bytes e in
      let t = s.tree in
      let z = zeros_for (version_in bytes) (nodes t) (subst Known (version-at bytes long) version) in
      (record { tree = t; metres = z.0 }, strings_with version right t s.few s.first s.second s.runs z.0 z.1 z.2)

by_cases : {X : Type 0} (b : Bool) → (b ≡ true → X) → (b ≡ false → X) → X
by_cases true f g = f refl
by_cases false f g = g refl

not-true : (b : Bool) → (b ≡ true → ⊥) → not b ≡ true
not-true b n = by_cases b (λ e. absurd (n e)) (λ e. ap not e)

-- ---- 11, 12, 13

-- a version is neither 1 nor 2, or it is known
unknown : (v : ℕ) → outside 1 2 v ≡ true → Known v → ⊥
unknown v e k = true≢false (sym e ∙ between 1 2 v k.some k.most)

is_known : (v : ℕ) → outside 1 2 v ≡ false → Known v
is_known v e = let k = not-outside 1 2 v e in record { some = k.0; most = k.1 }

known_in : (v : ℕ) → Known v → outside 1 2 v ≡ false
known_in v k = between 1 2 v k.some k.most

pub version_named : P.VersionNamed
version_named bytes checks = (
  λ e.
      let wrong = unknown (header_word bytes 0) ((given11 bytes checks 0).0 e).1 in
      (λ r. wrong (record { some = omega arith; most = omega arith }), λ r. wrong (record { some = omega arith; most = omega arith })),
  λ wrong. (given11 bytes checks 0).1 (tt, by_cases (outside 1 2 (header_word bytes 0)) (λ e. e) (λ e. absurd (neither_is (header_word bytes 0) (is_known (header_word bytes 0) e) wrong)), refl),
)
  where
    neither_is : (v : ℕ) → Known v → ((v ≡ 1 → ⊥) × (v ≡ 2 → ⊥)) → ⊥
    neither_is v k wrong = elim (dec_lt v 2) [
      | yes h ↦ wrong.0 (omega (arith, k.some))
      | no h ↦ wrong.1 (omega (arith, k.most))
    ]

pub header_named : P.HeaderNamed
header_named bytes checks = (
  λ e. let g = (given12 bytes checks 0).0 e in
      (is_known (header_word bytes 0) g.0.0, λ c h. true≢false (sym g.1 ∙ ap not (has-header bytes checks c h))),
  λ w. (given12 bytes checks 0).1 (
    (known_in (header_word bytes 0) w.0, tt),
    not-true (is_header bytes) (λ e. let x = header-tree bytes checks w.0 e in w.1 x.0 x.1),
    refl,
  ),
)

pub strings_named : P.StringsNamed
strings_named bytes checks = (
  λ e. let g = (given13 bytes checks 1).0 e in (
    header-tree bytes checks (is_known (header_word bytes 0) g.0.0) (not-false (is_header bytes) g.0.1.0),
    λ c h. true≢false (sym g.1 ∙ ap not (has-strings bytes checks c h)),
  ),
  λ w.
      let c = w.0.0 in
      let v = has-version bytes checks c w.0.1 in
      let r = has-header bytes checks c w.0.1 in
      (given13 bytes checks 1).1 (
        (known_in (header_word bytes 0) v, (ap not r, tt)),
        not-true (are_strings bytes) (λ e. let x = strings-tree bytes checks v r e in w.1 x.0 x.1),
        refl,
      ),
)

pub metres_never_wrong : P.MetresNeverWrong
metres_never_wrong bytes are checks c s =
    let v = has-version bytes checks c s.header in
    let l = (sizes bytes checks).1 in
    let told = strings_told bytes (has-strings bytes checks c s) in
    let n : header_word bytes 1 ≡ nodes c.tree = sym (length-string_in bytes 1 0 (header_word bytes 1)) ∙ ap length (sym s.first) ∙ length-R1 c.tree in
    record {
      strings = strings_with bytes checks v (has-header bytes checks c s.header) c.tree s.header.fit.small s.first s.second told.runs (metres_in bytes)
          (subst (λ k. Measured k (metres_in bytes)) n (words-measured bytes are)) (sym (metres-version bytes l (subst Known (version-at bytes l) v)));
      metres = refl;
    }

-- ---- all five

pub refused_by_fault : P.RefusedByFault
refused_by_fault bytes checks refused = by_version (outside 1 2 (header_word bytes 0)) refl
  where
    whole : ltb (wrong_block bytes) (blocks_in bytes) ≡ false
    whole = le-ltb (wrong_block bytes) (blocks_in bytes) (omega (arith, checks.sums))

    answer : (f : Fault) → Err (numbered f) ≡ checked bytes → came_to (answered (Err (numbered f))) tt ≡ check_image bytes
    answer f e = ap (λ c. came_to (answered c) tt) e ∙ image-answered bytes

    by_header : (b : Bool) → is_header bytes ≡ b → Known (header_word bytes 0) → came_to (answered (Err (numbered (cond b (fault_in bytes) Header)))) tt ≡ check_image bytes
    by_header true e v =
        answer (fault_in bytes) (found_fault bytes checks.size whole v e (λ f.
        refused (ap (λ o. o.answer.code) (sym (image-answered bytes)) ∙ ap (λ c. (answered c).code) (sym (found_sound bytes checks.size whole v e f)))))
    by_header false e v = answer Header (found-header bytes checks.size whole v e)

    by_version : (b : Bool) → outside 1 2 (header_word bytes 0) ≡ b → came_to (answered (Err (numbered (fault_of bytes)))) tt ≡ check_image bytes
    by_version true e =
        ap (λ b. came_to (answered (Err (numbered (cond b Version (cond (is_header bytes) (fault_in bytes) Header))))) tt) e
        ∙ answer Version (found-version bytes checks.size whole (unknown (header_word bytes 0) e))
    by_version false e =
        ap (λ b. came_to (answered (Err (numbered (cond b Version (cond (is_header bytes) (fault_in bytes) Header))))) tt) e
        ∙ by_header (is_header bytes) refl (is_known (header_word bytes 0) e)

pub one_of_five : P.OneOfFive
one_of_five bytes checks refused =
    by_cases (outside 1 2 (header_word bytes 0)) (λ h. inl (code ((given11 bytes checks 0).1 (tt, h, refl)))) (λ a.
    by_cases (not (is_header bytes)) (λ h. inr (inl (code ((given12 bytes checks 0).1 ((a, tt), h, refl))))) (λ b.
    by_cases (not (are_strings bytes)) (λ h. inr (inr (inl (code ((given13 bytes checks 1).1 ((a, (b, tt)), h, refl)))))) (λ c.
    by_cases (ltb 0 (wrong_kept bytes)) (λ h. inr (inr (inr (inl (code ((given14 bytes checks (wrong_kept bytes)).1 ((a, (b, (c, tt))), h, refl))))))) (λ d.
    by_cases (ltb 0 (wrong_sample bytes)) (λ h. inr (inr (inr (inr (code ((given15 bytes checks (wrong_sample bytes)).1 ((a, (b, (c, (d, tt)))), h, refl))))))) (λ e.
    absurd (refused (ap (λ o. o.answer.code) (by_five bytes checks
    ∙ settle_on tt _ tt _ _ a ∙ settle_on tt _ tt _ _ b ∙ settle_on tt _ tt _ _ c ∙ settle_on tt _ tt _ _ d ∙ settle_on tt _ tt _ _ e ∙ settle-none tt _ tt))))))))
  where
    code : {c p : ℕ} → Refuses bytes c p → (check_image bytes).answer.code ≡ c
    code e = ap (λ o. o.answer.code) e
