-- What the rows of the check of an image come to in a call: a tree's image passes them, other bytes
-- are refused by them, and what code 0 after them tells.
use Rattle.std.specs.Prelude.{Ok, Err}
use mathlib.Core.Path.{◌≡◌, refl, sym, ap, ◌∙◌}
use mathlib.Core.Bool.{Bool, false, not}
use mathlib.Core.List.{List, ◌++◌}
use Prim.Native.Nat.{ℕ, ◌/◌, ◌%◌}
use native.Mathlib.Omega.{arith}
use borrow.Author.Tests.{le-ltb}
use lib.Dec.{eqb}
use lib.ListN.{length}
use Rattle.meaning.specs.Blocks.{blocks_in, wrong_block}
use Rattle.meaning.specs.Image.{Content, FitImage, image}
use Rattle.meaning.specs.declared.Answer.{Answer}
use Rattle.meaning.specs.Answers.{Row, came_to, settle}
use Rattle.meaning.specs.Tests.{outside, wrong_size, check_rows}
use Rattle.calls.specs.Calls.{check_image}
use Rattle.theory.specs.Rows.{NoneHolds}
use Rattle.theory.proofs.Settled.{or_neither, between, equal}
use Rattle.theory.proofs.Codes.{neither, Others, check_refuses, none-held}
use Rattle.theory.proofs.TreeImages.{is_image_lem}
use Rattle.theory.proofs.NoFault.{image_faultless}
use Rattle.theorems.proofs.Promises.{image-has-blocks}
use Rattle.image_found.specs.Checked.{Checked, checked, layout_in, answered}
use Rattle.image_found.proofs.Finding.{comes_to, rows_checked, found_sound, held-image}
use Rattle.call_check_image.proofs.Calling.{image-answered}

-- w, what else that is lent may have a wrong size, does not hold
module _ (c : Content) (h : FitImage c) where
  tree_sound : Ok (layout_in (image c)) ≡ checked (image c)
  tree_sound =
      let x = image c in
      let b = image-has-blocks c h in
      let f = image_faultless c h in
      found_sound x
      (or_neither (not (eqb (length x % 512) 0)) (outside 5 574 (length x / 512)) (equal (length x % 512) 0 (omega (arith, b.0))) (between 5 574 (length x / 512) b.1 b.2))
      (le-ltb (wrong_block x) (blocks_in x) (omega (arith, b.4)))
      f.version f.header f

  pub tree_passed : (w : Bool) → w ≡ false → {A : Type 0} (before : A) (rest : List Row) (a : Answer) (after : A)
      → settle before (check_rows (image c) w ++ rest) a after ≡ settle before rest a after
  tree_passed w f before rest a after = rows_checked before rest a after (image c) w f ∙ ap (comes_to before rest a after) (sym tree_sound)

module _ (bytes : List ℕ) (refused : (check_image bytes).answer.code ≡ 0 → ⊥) where
  pub not_passed : (w : Bool) → w ≡ false → {A : Type 0} (before : A) (rest : List Row) (a : Answer) (after : A)
      → settle before (check_rows bytes w ++ rest) a after ≡ came_to (check_image bytes).answer before
  not_passed w f before rest a after = rows_checked before rest a after bytes w f ∙ by_found (checked bytes) refl
    where
      by_found : (c : Checked) → checked bytes ≡ c → comes_to before rest a after c ≡ came_to (check_image bytes).answer before
      by_found (Ok i) e = absurd (refused (ap (λ o. o.answer.code) (sym (image-answered bytes)) ∙ ap (λ c. (answered c).code) e))
      by_found (Err r) e = ap (λ r. came_to r before) (ap answered (sym e) ∙ ap (λ o. o.answer) (image-answered bytes))

-- code 0: what else is lent has a right size, some tree gives the bytes, and no row after the
-- check holds
pub rows_done : {A : Type 0} (before : A) (a : Answer) (after : A) (bytes : List ℕ) (w : Bool) (rest : List Row) → Others 0 rest
    → (settle before (check_rows bytes w ++ rest) a after).answer.code ≡ 0
    → (w ≡ false) × ((c : Content) × FitImage c × (image c ≡ bytes)) × NoneHolds rest
unfolding check_rows
rows_done before a after bytes w rest o e =
    let h = (none-held before a after 0 (check_rows bytes w ++ rest) (check_refuses bytes w rest o) e).0 in
    let size = neither (wrong_size bytes) w h.0 in
    let rows = h.1.1 in
    let passed : NoneHolds (check_rows bytes false) =
    (or_neither (wrong_size bytes) false size.0 refl, (h.1.0, (rows.0, (rows.1.0, (rows.1.1.0, (rows.1.1.1.0, (rows.1.1.1.1.0, tt))))))) in
    (size.1, (is_image_lem bytes).0 (held-image bytes passed), rows.1.1.1.1.1)
