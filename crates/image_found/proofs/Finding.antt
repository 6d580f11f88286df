-- What the check of an image finds, from the facts that its tests show; and what the calls answer
-- by it.
use Rattle.std.specs.Prelude.{Ok, Err}
use mathlib.Core.Path.{◌≡◌, refl, sym, ap, ◌∙◌}
use mathlib.Core.Bool.{Bool, true, false, cond, not, ◌||◌}
use mathlib.Core.List.{List, [], ◌∷◌, ◌++◌}
use mathlib.Core.Logic.{◌↔◌}
use Prim.Native.Nat.{ℕ, zero, suc, ◌+◌, ◌*◌, ◌/◌, ◌%◌, ◌≤◌}
use native.Mathlib.Decide.{dec_lt}
use native.Mathlib.Omega.{arith}
use borrow.Author.Tests.{not-false, le-ltb, lt-ltb, ltb-false}
use lib.Dec.{ltb, eqb}
use lib.ListN.{length, take}
use Rattle.meaning.specs.Blocks.{sum_start, cut, blocks_in, block, same, wrong_from, wrong_block}
use Rattle.meaning.specs.Image.{header_word, is_image}
use Rattle.meaning.specs.Faults.{is_header, are_strings, wrong_kept, wrong_sample}
use Rattle.meaning.specs.declared.Answer.{Answer}
use Rattle.meaning.specs.declared.Refusal.{Refusal}
use Rattle.meaning.specs.Answers.{Verdict, Row, ◌at◌when◌, Outcome, refused_with, came_to, first_holding, unless_refused, settle}
use Rattle.meaning.specs.Tests.{outside, wrong_size, check_rows}
use Rattle.theory.specs.Rows.{NoneHolds}
use Rattle.theory.specs.Layout.{AreBytes}
use Rattle.theory.specs.Stages.{Known, Stages}
use Rattle.theory.proofs.Codes.{neither, not_unequal, not-outside}
use Rattle.theory.proofs.Settled.{or-first, or_neither, below, beyond, between, first-none, first-here, first_on, none_first, settle-append}
use Rattle.theory.proofs.Stages.{image_stages, stages_image}
use Rattle.theory.proofs.NoFault.{NoFault, faultless}
use Rattle.image_layout.specs.declared.Layout.{Layout}
use Rattle.image_found.specs.declared.Fault.TheVariants.{Version, Header, Strings, Counts, Samples}
use Rattle.image_found.specs.Checked.{Checked, checked, found_by, layout_in, numbered, fault_in}

-- ---- the lowest wrong block is a block, or the number of blocks

wrong_from_lem : (start : ℕ → ℕ) (xs : List (List ℕ)) (b : ℕ) → wrong_from start xs b ≤ b + length xs
unfolding wrong_from
wrong_from_lem start [] b = omega arith
wrong_from_lem start (x ∷ xs) b = go (wrong_from_lem start xs (suc b)) (same (block (start b) (take 504 x)) x)
  where
    go : wrong_from start xs (suc b) ≤ suc b + length xs → (t : Bool) → cond t (wrong_from start xs (suc b)) b ≤ b + suc (length xs)
    go l true = omega arith
    go l false = omega arith

length_cut : {A : Type 0} (k size : ℕ) (xs : List A) → length (cut k size xs) ≡ k
unfolding cut
length_cut zero size xs = refl
length_cut (suc k) size xs = ap suc (length_cut k size _)

pub wrong_most : (bytes : List ℕ) → wrong_block bytes ≤ blocks_in bytes
unfolding wrong_block
wrong_most bytes = omega (arith, wrong_from_lem sum_start (cut (blocks_in bytes) 512 bytes) 0, length_cut (blocks_in bytes) 512 bytes)

-- ---- what is found

unknown : (v : ℕ) → (Known v → ⊥) → outside 1 2 v ≡ true
unknown v e = elim (dec_lt v 1) [
  | yes l ↦ below 1 2 v l
  | no l ↦ elim (dec_lt 2 v) [
    | yes g ↦ beyond 1 2 v g
    | no g ↦ absurd (e (record { some = omega arith; most = omega arith }))
  ]
]

abbrev refused : ℕ → ℕ → Checked
refused c p = Err (record { code = c; place = p })

module _ (bytes : List ℕ) where
  abbrev size : Row
  size = 2 at 0 when (wrong_size bytes || false)

  abbrev sums : Row
  sums = 6 at wrong_block bytes when ltb (wrong_block bytes) (blocks_in bytes)

  abbrev version : Row
  version = 11 at 0 when outside 1 2 (header_word bytes 0)

  abbrev header : Row
  header = 12 at 0 when not (is_header bytes)

  abbrev strings : Row
  strings = 13 at 1 when not (are_strings bytes)

  abbrev kept : Row
  kept = 14 at wrong_kept bytes when ltb 0 (wrong_kept bytes)

  abbrev samples : Row
  samples = 15 at wrong_sample bytes when ltb 0 (wrong_sample bytes)

  -- the rows from a code on
  abbrev from14 : List Row
  from14 = kept ∷ samples ∷ []

  abbrev from13 : List Row
  from13 = strings ∷ from14

  abbrev from12 : List Row
  from12 = header ∷ from13

  abbrev from11 : List Row
  from11 = version ∷ from12

  by_rows : (v : Verdict) → first_holding (size ∷ sums ∷ from11) ≡ v → found_by v (layout_in bytes) ≡ checked bytes
  unfolding checked check_rows
  by_rows v e = sym (ap (λ u. found_by u (layout_in bytes)) e)

  pub found-size : wrong_size bytes ≡ true → refused 2 0 ≡ checked bytes
  found-size e = by_rows _ (first-here size (sums ∷ from11) (or-first (wrong_size bytes) false e))

  module _ (right : wrong_size bytes ≡ false) where
    sized : first_holding (size ∷ sums ∷ from11) ≡ first_holding (sums ∷ from11)
    sized = first_on size (sums ∷ from11) (or_neither (wrong_size bytes) false right refl)

    pub found-block : ltb (wrong_block bytes) (blocks_in bytes) ≡ true → refused 6 (wrong_block bytes) ≡ checked bytes
    found-block e = by_rows _ (sized ∙ first-here sums from11 e)

    module _ (whole : ltb (wrong_block bytes) (blocks_in bytes) ≡ false) where
      summed : first_holding (size ∷ sums ∷ from11) ≡ first_holding from11
      summed = sized ∙ first_on sums from11 whole

      pub found-version : (Known (header_word bytes 0) → ⊥) → Err (numbered Version) ≡ checked bytes
      found-version e = by_rows _ (summed ∙ first-here version from12 (unknown (header_word bytes 0) e))

      module _ (known : Known (header_word bytes 0)) where
        versioned : first_holding (size ∷ sums ∷ from11) ≡ first_holding from12
        versioned = summed ∙ first_on version from12 (between 1 2 (header_word bytes 0) known.some known.most)

        pub found-header : is_header bytes ≡ false → Err (numbered Header) ≡ checked bytes
        found-header e = by_rows _ (versioned ∙ first-here header from13 (ap not e))

        module _ (headed : is_header bytes ≡ true) where
          head_right : first_holding (size ∷ sums ∷ from11) ≡ first_holding from13
          head_right = versioned ∙ first_on header from13 (ap not headed)

          -- no other row holds of an image
          pub found_sound : NoFault bytes → Ok (layout_in bytes) ≡ checked bytes
          found_sound f =
              by_rows (Ok tt)
              (head_right
              ∙ first_on strings from14 (ap not f.strings)
              ∙ first_on kept (samples ∷ []) (le-ltb 0 (wrong_kept bytes) (omega (arith, f.kept)))
              ∙ first_on samples [] (le-ltb 0 (wrong_sample bytes) (omega (arith, f.samples)))
              ∙ first-none)

          -- and one does of other bytes
          pub found_fault : (NoFault bytes → ⊥) → Err (numbered (fault_in bytes)) ≡ checked bytes
          unfolding fault_in
          found_fault wrong = by_strings_lem (are_strings bytes) refl
            where
              by_samples : (n : ℕ) → wrong_sample bytes ≡ n → are_strings bytes ≡ true → ltb 0 (wrong_kept bytes) ≡ false
                  → Err (numbered (Samples (wrong_sample bytes))) ≡ checked bytes
              by_samples zero e s k =
                  absurd (wrong (record { version = known; header = headed; strings = s; kept = let l = ltb-false 0 (wrong_kept bytes) k in omega arith; samples = e }))
              by_samples (suc n) e s k =
                  by_rows _
                  (head_right ∙ first_on strings from14 (ap not s) ∙ first_on kept (samples ∷ []) k
                  ∙ first-here samples [] (lt-ltb 0 (wrong_sample bytes) (omega arith)))

              by_kept : (t : Bool) → ltb 0 (wrong_kept bytes) ≡ t → are_strings bytes ≡ true
                  → Err (numbered (cond t (Counts (wrong_kept bytes)) (Samples (wrong_sample bytes)))) ≡ checked bytes
              by_kept true e s = by_rows _ (head_right ∙ first_on strings from14 (ap not s) ∙ first-here kept (samples ∷ []) e)
              by_kept false e s = by_samples (wrong_sample bytes) refl s e

              by_strings_lem : (t : Bool) → are_strings bytes ≡ t
                  → Err (numbered (cond (are_strings bytes) (cond (ltb 0 (wrong_kept bytes)) (Counts (wrong_kept bytes)) (Samples (wrong_sample bytes))) Strings)) ≡ checked bytes
              by_strings_lem true e =
                  ap (λ t. Err (numbered (cond t (cond (ltb 0 (wrong_kept bytes)) (Counts (wrong_kept bytes)) (Samples (wrong_sample bytes))) Strings))) e
                  ∙ by_kept (ltb 0 (wrong_kept bytes)) refl e
              by_strings_lem false e =
                  ap (λ t. Err (numbered (cond t (cond (ltb 0 (wrong_kept bytes)) (Counts (wrong_kept bytes)) (Samples (wrong_sample bytes))) Strings))) e
                  ∙ by_rows _ (head_right ∙ first-here strings from14 (ap not e))

  -- the stages decide whether any does
  module _ (whole : length bytes ≡ 512 * blocks_in bytes) (some : 5 ≤ blocks_in bytes) (sums : blocks_in bytes ≤ wrong_block bytes) where
    without_fault : (is_image bytes ≡ true) ↔ NoFault bytes
    without_fault = faultless bytes whole (omega (arith, wrong_most bytes)) (omega arith)

    pub staged : AreBytes bytes → Stages bytes → NoFault bytes
    staged are s = without_fault.0 (stages_image bytes are whole (omega (arith, wrong_most bytes)) s)

    pub unstaged : (Stages bytes → ⊥) → NoFault bytes → ⊥
    unstaged h f = h (image_stages bytes (without_fault.1 f))

-- ---- what a call comes to that checks first

module _ {A : Type 0} (before : A) (rest : List Row) (a : Answer) (after : A) where
  abbrev pub comes_to : Checked → Outcome A
  comes_to (Ok i) = settle before rest a after
  comes_to (Err r) = came_to (refused_with r.code r.place) before

  -- by the first rows of a reading; w, what else may have a wrong size, does not hold
  pub rows_checked : (bytes : List ℕ) (w : Bool) → w ≡ false → settle before (check_rows bytes w ++ rest) a after ≡ comes_to (checked bytes)
  unfolding checked
  rows_checked bytes w f =
      ap (λ b. settle before (check_rows bytes b ++ rest) a after) f
      ∙ settle-append before a after (check_rows bytes false) rest
      ∙ by_verdict (first_holding (check_rows bytes false))
    where
      by_verdict : (v : Verdict) → unless_refused before v (settle before rest a after) ≡ comes_to (found_by v (layout_in bytes))
      by_verdict (Ok _) = refl
      by_verdict (Err r) = refl

-- what is known of an image that was found sound
pub record IsSound (bytes : List ℕ) (i : Layout) : Type 0 where
  pub read : i ≡ layout_in bytes
  pub image : is_image bytes ≡ true

clash : {X : Type 0} {i : Layout} {r : Refusal} → Err r ≡ Ok i → X
clash e = let z : ◌≡◌ {A = ℕ} 0 1 = cc in absurd (omega arith)

-- bytes that no row of the check refuses are an image
pub held-image : (bytes : List ℕ) → NoneHolds (check_rows bytes false) → is_image bytes ≡ true
unfolding check_rows
held-image bytes n =
    let size = neither (not (eqb (length bytes % 512) 0)) (outside 5 574 (length bytes / 512)) (neither (wrong_size bytes) false n.0).0 in
    let rows = n.1.1 in
    let kept = ltb-false 0 (wrong_kept bytes) rows.1.1.1.0 in
    let samples = ltb-false 0 (wrong_sample bytes) rows.1.1.1.1.0 in
    let whole = not_unequal (length bytes % 512) 0 size.0 in
    let some = (not-outside 5 574 (length bytes / 512) size.1).0 in
    (without_fault bytes (omega arith) some (ltb-false (wrong_block bytes) (blocks_in bytes) n.1.0)).1
    (record {
      version = let k = not-outside 1 2 (header_word bytes 0) rows.0 in record { some = k.0; most = k.1 };
      header = not-false (is_header bytes) rows.1.0;
      strings = not-false (are_strings bytes) rows.1.1.0;
      kept = omega arith;
      samples = omega arith;
    })

pub sound_known : (bytes : List ℕ) (i : Layout) → checked bytes ≡ Ok i → IsSound bytes i
unfolding checked
sound_known bytes i e = by_verdict (first_holding (check_rows bytes false)) refl e
  where
    by_verdict : (v : Verdict) → first_holding (check_rows bytes false) ≡ v → found_by v (layout_in bytes) ≡ Ok i → IsSound bytes i
    by_verdict (Ok _) f g = record { read = let e : i ≡ layout_in bytes = cc in e; image = held-image bytes (none_first (check_rows bytes false) (sym f)) }
    by_verdict (Err r) f g = clash g
