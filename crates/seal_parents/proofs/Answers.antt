-- What each way out of sealing comes to, by the rows of `meaning`.
use Rattle.std.specs.Prelude.{Ok, Err}
use mathlib.Core.Path.{◌≡◌, refl, sym, ap, ap₂, ◌∙◌}
use mathlib.Core.Bool.{false}
use mathlib.Core.List.{List, [], ◌∷◌, ◌++◌}
use Prim.Native.Nat.{ℕ, ◌*◌, ◌≤◌, ◌<◌}
use native.Mathlib.Omega.{arith}
use borrow.Author.Tests.{lt-ltb, le-ltb}
use lib.ListN.{length}
use Rattle.meaning.specs.Strings.{ones, R1, R0, string_of}
use Rattle.meaning.specs.Image.{version_of, metres_held, image_of_string}
use Rattle.meaning.specs.declared.Answer.{Answer}
use Rattle.meaning.specs.declared.Refusal.{Refusal}
use Rattle.meaning.specs.Answers.{◌at◌when◌, refused_with, counts, came_to, first_holding, settle, written, too_short}
use Rattle.meaning.specs.Tests.{parent_rows}
use Rattle.calls.specs.Calls.{wrong_metres, seal_parents}
use Rattle.theory.proofs.Settled.{equal, settle-here, settle_on, settle-none, settle-refused, settle_passed}
use Rattle.theory.proofs.Images.{parts_size}
use Rattle.parents_check.proofs.Refusing.{writable}
use Rattle.image_layout.specs.declared.Layout.{Layout}
use Rattle.image_layout.specs.Layout.{layout_of}
use Rattle.seal_r1_bits.specs.Listed.{runs_in}
use Rattle.seal_frame.specs.Passes.{blocks_for}
use Rattle.seal_image.specs.Given.{given}
use Rattle.seal_image.proofs.Preparing.{given_list, blocks-total}

-- ---- the rows

-- an empty list of metres is none, and another has the right length
metres_right : (ms ps : List ℕ) → length ms ≡ metres_held (version_of (given ms)) (length ps) → wrong_metres (given ms) ps ≡ false
metres_right [] ps e = refl
metres_right (m ∷ ms) ps e = equal (length (m ∷ ms)) (length ps) e

module _ (ms ps out : List ℕ) (each : length ms ≡ metres_held (version_of (given ms)) (length ps)) where
  abbrev made : List ℕ
  made = image_of_string (given ms) (string_of ps)

  by_parents : seal_parents (given ms) ps out
      ≡ settle out (parent_rows ps ++ 1 at 0 when too_short made out ∷ []) (counts (length ps) (ones (R1 (string_of ps)))) (written made out)
  unfolding seal_parents
  by_parents = settle_on _ _ _ _ _ (metres_right ms ps each)

  pub seal_refused : {r : Refusal} → Err r ≡ first_holding (parent_rows ps) → came_to (refused_with r.code r.place) out ≡ seal_parents (given ms) ps out
  seal_refused e = sym (by_parents ∙ settle-refused _ _ _ _ (parent_rows ps) e)

  module _ (passed : (Ok tt) ≡ first_holding (parent_rows ps)) where
    made-size : length made ≡ 512 * blocks_for (given ms) ps
    unfolding image_of_string
    made-size =
        parts_size (given ms) (R1 (string_of ps)) (R0 (string_of ps))
        ∙ ap (λ t. 512 * t) (sym (blocks-total (given ms) ps (ap length (given_list ms) ∙ each) (writable ps passed).parents))

    pub seal_room : length out < 512 * blocks_for (given ms) ps → came_to (refused_with 1 0) out ≡ seal_parents (given ms) ps out
    seal_room l =
        sym (by_parents ∙ settle_passed _ _ _ _ (parent_rows ps) passed
        ∙ settle-here _ _ _ _ _ (lt-ltb (length out) (length made) (omega (arith, made-size))))

    pub seal_made : {r : Answer} {l : List ℕ} {layout : Layout} → layout ≡ layout_of (version_of (given ms)) (length ps) (runs_in ps) → 512 * blocks_for (given ms) ps ≤ length out
        → r ≡ counts layout.nodes layout.runs → l ≡ written made out → came_to r l ≡ seal_parents (given ms) ps out
    seal_made laid h e f =
        ap₂ came_to (e ∙ ap (λ (i : Layout). counts i.nodes i.runs) laid) f
        ∙ sym (by_parents ∙ settle_passed _ _ _ _ (parent_rows ps) passed
        ∙ settle_on _ _ _ _ _ (le-ltb (length out) (length made) (omega (arith, made-size)))
        ∙ settle-none _ _ _)
