-- What is printed for an image, from what the check found and what the listing of the root gave.
use Rattle.std.specs.Prelude.{Ok, Err}
use mathlib.Core.Path.{◌≡◌, refl, sym, ap, ap₂, ◌∙◌, subst}
use mathlib.Core.Bool.{false, cond}
use mathlib.Core.List.{List, [], ◌++◌}
use Prim.Native.Nat.{ℕ, zero, suc, ◌*◌, ◌/◌, ◌^◌, ◌≤◌, ◌<◌}
use native.Mathlib.Omega.{arith}
use borrow.Author.Tests.{lt-ltb, le-ltb, eq-eqb, ne_eqb}
use lib.ListN.{length, get_or, take, drop, replicate, length-replicate}
use lib.Seq.{take_at}
use Rattle.meaning.specs.declared.Answer.{Answer}
use Rattle.meaning.specs.Answers.{Verdict, refused_with, counts, came_to, first_holding, written}
use Rattle.meaning.specs.Blocks.{blocks_in}
use Rattle.meaning.specs.Trees.{nodes}
use Rattle.meaning.specs.Image.{list_of, parents_in, metres_in}
use Rattle.meaning.specs.Listing.{listing, deep}
use Rattle.meaning.specs.declared.Refusal.{Refusal}
use Rattle.meaning.specs.Tests.{check_rows}
use Rattle.calls.specs.Calls.{check_image, list_image}
use Rattle.theory.proofs.Images.{measured-word}
use Rattle.theory.proofs.TreeImages.{metres_in_lem, is_image_lem}
use Rattle.theory.proofs.Stages.{image_stages}
use Rattle.image_layout.specs.declared.Layout.{Layout}
use Rattle.theory.proofs.Codes.{check_refuses, first-other}
use Rattle.image_found.specs.Checked.{Checked, answered, checked, found_by, layout_in}
use Rattle.image_found.proofs.Finding.{sound_known}
use Rattle.call_check_image.proofs.Calling.{image-answered}
use Rattle.list_measure.specs.Levels.{ones_before_in, sized, size_of}
use Rattle.list_measure.proofs.Levels.{listing_less}
use Rattle.list_measure.proofs.Numbers.{ones_before_in_mono, ones_before_in_kids}
use Rattle.call_list.proofs.Calling.{list_deep, list_given}
use Rattle.outline_heading.specs.Lines.{heading, node_lines, refusal}
use Rattle.outline_page.specs.Outline.{printed, outline_of}
use Rattle.outline_text.proofs.Putting.{all-written}
use Rattle.outline_page.proofs.Root.{Whole, root-whole}

-- ---- a refusal has a code

clash : {X : Type 0} {i : Layout} {r : Refusal} → Ok i ≡ Err r → X
clash e = let z : ◌≡◌ {A = ℕ} 0 1 = cc in absurd (omega arith)

checked_coded : (bytes : List ℕ) (r : Refusal) → checked bytes ≡ Err r → r.code ≡ 0 → ⊥
unfolding checked check_rows
checked_coded bytes r e = by_verdict (first_holding (check_rows bytes false)) refl e
  where
    by_verdict : (v : Verdict) → first_holding (check_rows bytes false) ≡ v → found_by v (layout_in bytes) ≡ Err r → r.code ≡ 0 → ⊥
    by_verdict (Ok _) f g z = clash g
    by_verdict (Err x) f g z =
        let same : x ≡ r = cc in
        first-other 0 (check_rows bytes false) (check_refuses bytes false [] tt) f (ap (λ y. y.code) same ∙ z)

-- ---- what is printed

module _ (bytes : List ℕ) (found listed : Answer) (pairs : List ℕ) where
  abbrev top : List ℕ
  top = heading found.first found.second (blocks_in bytes)

  pub not_found : (found.code ≡ 0 → ⊥) → printed bytes found listed pairs ≡ refusal found
  unfolding printed
  not_found h = simp (ne_eqb found.code 0 h)

  pub many : found.code ≡ 0 → 4000 < found.first → printed bytes found listed pairs ≡ top
  unfolding printed
  many e h = simp (eq-eqb found.code 0 e, lt-ltb 4000 found.first h)

  module _ (e : found.code ≡ 0) (few : found.first ≤ 4000) where
    pub not_listed : (listed.code ≡ 0 → ⊥) → printed bytes found listed pairs ≡ refusal listed
    unfolding printed
    not_listed h = simp (eq-eqb found.code 0 e, le-ltb 4000 found.first few, ne_eqb listed.code 0 h)

    pub all_listed : listed.code ≡ 0 → printed bytes found listed pairs ≡ top ++ node_lines (parents_in bytes) (metres_in bytes) pairs
    unfolding printed
    all_listed h = simp (eq-eqb found.code 0 e, le-ltb 4000 found.first few, eq-eqb listed.code 0 h)

-- ---- by the number of bytes, and by what the check found

pub too_long : (bytes : List ℕ) → 49152 < length bytes → outline_of bytes ≡ refusal (refused_with 2 0)
unfolding outline_of
too_long bytes h = simp (lt-ltb 49152 (length bytes) h)

module _ (bytes : List ℕ) (fits : length bytes ≤ 49152) where
  abbrev printed_by : Answer → List ℕ
  printed_by found = let listed = list_image bytes 1 (replicate (2 * found.first) 0) in printed bytes found listed.answer listed.lent

  pub by_answer : (found : Answer) → (check_image bytes).answer ≡ found → outline_of bytes ≡ printed_by found
  unfolding outline_of
  by_answer found e = ap (λ b. cond b (refusal (refused_with 2 0)) (printed_by (check_image bytes).answer)) (le-ltb 49152 (length bytes) fits) ∙ ap printed_by e

  by_check : (c : Checked) → checked bytes ≡ c → (check_image bytes).answer ≡ answered c
  by_check c e = sym (ap (λ o. o.answer) (image-answered bytes)) ∙ ap answered e

  pub outline_refused : (r : Refusal) → checked bytes ≡ Err r → outline_of bytes ≡ refusal (refused_with r.code r.place)
  outline_refused r e =
      let answer = refused_with r.code r.place in
      by_answer answer (by_check (Err r) e) ∙ not_found bytes answer _ _ (checked_coded bytes r e)

  module _ (i : Layout) (e : checked bytes ≡ Ok i) where
    abbrev pub first : List ℕ
    first = heading i.nodes i.runs i.blocks

    abbrev counted : Answer
    counted = counts i.nodes i.runs

    top_is : heading i.nodes i.runs (blocks_in bytes) ≡ first
    top_is =
        let k = sound_known bytes i e in
        ap (λ b. heading i.nodes i.runs b) ((image_stages bytes k.image).header.needed ∙ ap (λ j. j.blocks) (sym k.read))

    pub outline_many : 4000 < i.nodes → outline_of bytes ≡ first
    outline_many h = by_answer counted (by_check (Ok i) e) ∙ many bytes counted _ _ refl h ∙ top_is

    -- ---- and what the listing gave

    abbrev pairs : List ℕ
    pairs = listing 65 (parents_in bytes) 1 0

    some : 1 ≤ i.nodes
    some = omega (arith, ap (λ j. j.nodes) (sound_known bytes i e).read, (image_stages bytes (sound_known bytes i e).image).header.some)

    too_deep_lem : (w : ℕ) → deep pairs ≡ suc w → (out : List ℕ) → list_image bytes 1 out ≡ came_to (refused_with 9 (suc w)) out
    unfolding size_of
    too_deep_lem w d out = sym (list_deep bytes 1 out i e (omega arith) some (suc w) (ap (λ k. sized k (length pairs / 2)) (sym d)))

    module _ (d : deep pairs ≡ 0) where
      whole : Whole i.nodes pairs
      whole = root-whole bytes i e some d

      given : (out : List ℕ) → 2 * i.nodes ≤ length out → list_image bytes 1 out ≡ came_to (counts i.nodes 0) (written pairs out)
      unfolding size_of
      given out h = sym (list_given bytes 1 out i e (omega arith) some i.nodes
          (ap₂ sized (sym d) (let k : i.nodes ≡ length pairs / 2 = omega (arith, whole.size) in k))
          h (counts i.nodes 0) (written pairs out) refl
          (ap (λ l. written l out) (listing_less (parents_in bytes) (ones_before_in bytes) (ones_before_in_mono bytes i e) (ones_before_in_kids bytes i e) 1 (omega arith) d)))

    -- the listing, in a list that has room: refused, or the lines of the nodes
    pub record Listed (a : Answer) (o : List ℕ) : Type 0 where
      pub refused : (a.code ≡ 0 → ⊥) → outline_of bytes ≡ refusal a
      pub lines : a.code ≡ 0 → outline_of bytes ≡ first ++ node_lines (parents_in bytes) (metres_in bytes) (take (2 * i.nodes) o)
      pub whole : a.code ≡ 0 → Whole i.nodes (take (2 * i.nodes) o)

    module _ (few : i.nodes ≤ 4000) (out : List ℕ) (room : 2 * i.nodes ≤ length out) where
      abbrev zeros : List ℕ
      zeros = replicate (2 * i.nodes) 0

      zeros-size : length zeros ≡ 2 * i.nodes
      zeros-size = length-replicate (2 * i.nodes) 0

      outlined : outline_of bytes ≡ printed bytes counted (list_image bytes 1 zeros).answer (list_image bytes 1 zeros).lent
      outlined = by_answer counted (by_check (Ok i) e)

      by_depth : (d : ℕ) → deep pairs ≡ d → Listed (list_image bytes 1 out).answer (list_image bytes 1 out).lent
      by_depth (suc w) d = subst (λ r. Listed r.answer r.lent) (sym (too_deep_lem w d out)) (record {
        refused = λ h. outlined
            ∙ ap (λ r. printed bytes counted r.answer r.lent) (too_deep_lem w d zeros)
            ∙ not_listed bytes counted (refused_with 9 (suc w)) zeros refl few (λ z. omega arith);
        lines = λ z. absurd (omega arith);
        whole = λ z. absurd (omega arith);
      })
      by_depth zero d =
          let size = (whole d).size in
          let front : take (2 * i.nodes) (written pairs out) ≡ pairs = take_at pairs (drop (length pairs) out) (2 * i.nodes) size in
          let alone = all-written pairs zeros (omega (arith, zeros-size)) in
          subst (λ r. Listed r.answer r.lent) (sym (given d out room)) (record {
            refused = λ h. absurd (h refl);
            lines = λ z. outlined
                ∙ ap (λ r. printed bytes counted r.answer r.lent) (given d zeros (omega (arith, zeros-size)))
                ∙ all_listed bytes counted (counts i.nodes 0) (written pairs zeros) refl few refl
                ∙ ap₂ (λ t l. t ++ node_lines (parents_in bytes) (metres_in bytes) l) top_is (alone ∙ sym front);
            whole = λ z. subst (Whole i.nodes) (sym front) (whole d);
          })

      pub outline_listed : (a : Answer) (o : List ℕ) → came_to a o ≡ list_image bytes 1 out → Listed a o
      outline_listed a o q = subst (λ r. Listed r.answer r.lent) (sym q) (by_depth (deep pairs) refl)

-- ---- the metres of an image, where it has any, are words

pub metres-words : (bytes : List ℕ) (i : Layout) → checked bytes ≡ Ok i → (k : ℕ) → get_or (list_of (metres_in bytes)) k 0 < 2 ^ 32
metres-words bytes i e k =
    let r = (is_image_lem bytes).0 (sound_known bytes i e).image in
    let c = r.0 in
    let ms : metres_in bytes ≡ c.metres = ap metres_in (sym r.2) ∙ metres_in_lem c r.1 in
    subst (λ m. get_or (list_of m) k 0 < 2 ^ 32) (sym ms) (measured-word (nodes c.tree) c.metres r.1.measured k)
