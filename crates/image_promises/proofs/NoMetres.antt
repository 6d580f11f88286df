-- The promises of specs/Promises.antt on images without metres: no metres are not 0 metres, and an
-- image of version 1 is the one of document 01.
use mathlib.Core.Path.{◌≡◌, refl, sym, ap, ap₂, ◌∙◌, subst}
use mathlib.Core.Bool.{Bool, true, false, true≢false, cond, ◌&&◌}
use mathlib.Core.List.{List, [], ◌∷◌, ◌++◌, map}
use mathlib.Core.Option.{Option, none, some}
use Prim.Native.Nat.{ℕ, zero, suc, ◌+◌, ◌≤◌}
use native.Mathlib.Omega.{arith}
use borrow.Author.Tests.{le-leb, lt-ltb}
use lib.Dec.{ltb, leb}
use lib.IntN.{pos}
use lib.ListN.{length, get_or, replicate, length-replicate}
use Rattle.meaning.specs.Trees.{Tree, nodes}
use Rattle.meaning.specs.Parents.{parents, entry}
use Rattle.meaning.specs.Strings.{Bit, ones, lbs, R1, R0}
use Rattle.meaning.specs.Blocks.{word_bytes, sum_start, cut, sealed}
use Rattle.meaning.specs.Image.{Content, FitImage, present, list_of, string_part, sample_part, payloads, header, image_of_parts, image_of_string, image, parents_in, metres_in}
use Rattle.meaning.specs.Questions.{Question, questions, is_node, allowed, not_allowed, answer_to}
use Rattle.meaning.specs.Answers.{◌at◌when◌, counts, refused_with, came_to, settle, written, too_short}
use Rattle.calls.specs.Calls.{metres_of_image, ask_image}
use Rattle.theory.proofs.Settled.{settle-here}
use Rattle.theory.proofs.TreeImages.{metres_in_lem, image_injective}
use Rattle.image_promises.specs.Promises as P
use Rattle.image_promises.specs.Promises.{alone, measured, metres_asked}
use Rattle.image_promises.proofs.Faults.{zero-at}
use Rattle.image_promises.proofs.Passing.{tree_passed}
use Rattle.image_promises.proofs.Promises.{count, metres_read_lem, asked}

-- ---- no metres are not 0 metres

module _ (t : Tree) (few : nodes t ≤ 65535) where
  abbrev zeros : Content
  zeros = measured t (replicate (nodes t) 0)

  alone-fits : FitImage (alone t)
  alone-fits = record { small = few; measured = tt }

  zeros_fit : FitImage zeros
  zeros_fit = record { small = few; measured = (length-replicate {A = ℕ} (nodes t) 0, λ i h. omega (arith, zero-at (nodes t) i)) }

  differ : image (alone t) ≡ image zeros → ⊥
  differ e = true≢false (sym (ap (λ (c : Content). present c.metres) (image_injective (alone t) zeros alone-fits zeros_fit e)))

  module _ (x : ℕ) (from : 1 ≤ x) (to : x ≤ nodes t) where
    is_node_lem : is_node (nodes t) x ≡ true
    is_node_lem = ap₂ ◌&&◌ (le-leb 1 x from) (le-leb x (nodes t) to)

    -- of the node's metres, with metres and without
    asked_of : (b : Bool) → not_allowed (nodes t) b (questions (metres_asked x)) 0 ≡ cond b 0 1
    unfolding not_allowed allowed
    asked_of true = ap (λ n. cond (n && true) 0 1) is_node_lem
    asked_of false = ap (λ n. cond (n && false) 0 1) is_node_lem

    not-without : (out : List ℕ) → ask_image (image (alone t)) (metres_asked x) out ≡ came_to (refused_with 8 1) out
    unfolding ask_image
    not-without out =
        let ps = parents_in (image (alone t)) in
        let ms = metres_in (image (alone t)) in
        let bad : not_allowed (length ps) (present ms) (questions (metres_asked x)) 0 ≡ 1 =
        ap₂ (λ n m. not_allowed n (present m) (questions (metres_asked x)) 0) (count (alone t) alone-fits) (metres_in_lem (alone t) alone-fits) ∙ asked_of false in
        tree_passed (alone t) alone-fits false refl out _ _ _
        ∙ settle-here _ _ _ _ _ (lt-ltb 0 (not_allowed (length ps) (present ms) (questions (metres_asked x)) 0) (omega arith))
        ∙ ap (λ p. came_to (refused_with 8 p) out) bad

    zero-given : (out : List ℕ) → nodes t ≤ length out → ask_image (image zeros) (metres_asked x) out ≡ came_to (counts 1 0) (written (0 ∷ []) out)
    unfolding answer_to
    zero-given out room =
        asked zeros (metres_asked x) out zeros_fit (record { threes = refl; few = omega arith; allowed = asked_of true; room = omega arith })
        ∙ ap (λ r. came_to (counts 1 0) (written (r ∷ []) out)) (zero-entry x)
      where
        zero-entry : (y : ℕ) → entry (replicate (nodes t) 0) y ≡ 0
        zero-entry zero = refl
        zero-entry (suc i) = zero-at (nodes t) i

pub no_metres_is_not_zero : P.NoMetresIsNotZero
no_metres_is_not_zero t out few room = (
  differ t few,
  metres_read_lem (alone t) (alone-fits t few) out room,
  metres_read_lem (zeros t few) (zeros_fit t few) out room ∙ ap (λ n. came_to (counts n 0) (written (replicate (nodes t) 0) out)) (length-replicate {A = ℕ} (nodes t) 0),
  λ x from to. (not-without t few x from to out, zero-given t few x from to out room),
)

-- ---- version 1

append-none : {A : Type 0} (xs : List A) → xs ++ [] ≡ xs
append-none [] = refl
append-none (x ∷ xs) = ap (λ ys. x ∷ ys) (append-none xs)

pub version_one_stays : P.VersionOneStays
unfolding image image_of_string image_of_parts header payloads cut
version_one_stays t =
    let r1 = R1 (lbs t) in
    let r0 = R0 (lbs t) in
    ap (λ ps. sealed sum_start (word_bytes (1 ∷ length r1 ∷ ones r1 ∷ suc (length ps) ∷ []) ∷ ps) 0) (append-none (string_part r1 ++ string_part r0 ++ sample_part r1 ++ sample_part r0))
