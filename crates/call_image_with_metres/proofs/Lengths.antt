-- The length of the list of metres: refused where it is not that of the parent list, and otherwise
-- the list is given to sealing.
use mathlib.Core.Path.{◌≡◌, refl, sym}
use mathlib.Core.List.{List, [], ◌∷◌}
use Prim.Native.Nat.{ℕ}
use native.Mathlib.Omega.{arith}
use lib.ListN.{length}
use Rattle.meaning.specs.Image.{version_of, metres_held}
use Rattle.meaning.specs.Answers.{refused_with, came_to, settle}
use Rattle.meaning.specs.Tests.{parent_rows}
use Rattle.calls.specs.Calls.{seal_parents, image_with_metres}
use Rattle.theory.proofs.Settled.{unequal, settle-here}
use Rattle.seal_image.specs.Given.{given}

pub one_for_each : (ms ps : List ℕ) → length ms ≡ length ps → length ms ≡ metres_held (version_of (given ms)) (length ps)
one_for_each [] ps e = refl
one_for_each (m ∷ ms) ps e = e

module _ (ps ms out : List ℕ) where
  pub metres-refused : (length ms ≡ length ps → ⊥) → came_to (refused_with 2 0) out ≡ image_with_metres ps ms out
  unfolding image_with_metres seal_parents
  metres-refused h = sym (settle-here _ _ _ _ _ (unequal (length ms) (length ps) h))

-- an empty list of metres is none to sealing; its parent list is empty too, and refused
pub metres-given : (ps ms out : List ℕ) → length ms ≡ length ps → seal_parents (given ms) ps out ≡ image_with_metres ps ms out
unfolding image_with_metres settle parent_rows
metres-given [] [] out e = refl
metres-given (p ∷ ps) [] out e = absurd (omega arith)
metres-given ps (m ∷ ms) out e = refl
