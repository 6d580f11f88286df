-- The promises of specs/Promises.antt on questions about the root: its rank, and its siblings.
use mathlib.Core.Path.{◌≡◌, refl, ap, ap₂, ◌∙◌}
use mathlib.Core.Bool.{true, cond}
use mathlib.Core.List.{List, [], ◌∷◌}
use mathlib.Core.Option.{some}
use Prim.Native.Nat.{ℕ, zero, suc, ◌≤◌}
use native.Mathlib.Omega.{arith}
use lib.IntN.{ℤ, pos, negsuc}
use Rattle.meaning.specs.Trees.{nodes}
use Rattle.meaning.specs.Parents.{parents}
use Rattle.meaning.specs.Image.{Content, FitImage, present}
use Rattle.meaning.specs.Questions.{Ask, next_sibling, previous_sibling, rank, sibling, of_tree, kind_of, is_zero, takes, answer, answer_to}
use Rattle.meaning.specs.Answers.{counts, came_to}
use Rattle.theory.proofs.Parents.{parents_are}
use Rattle.theory.proofs.Forms.{length-parents}
use Rattle.theorems.proofs.Promises.{root_has_no_rank, root_stays_alone}
use Rattle.image_promises.specs.Promises as P
use Rattle.image_promises.specs.Promises.{Allowed}
use Rattle.image_promises.proofs.Promises.{allowed_exactly, asked}

module _ (c : Content) where
  -- every tree has a root
  root-there : 1 ≤ nodes c.tree
  root-there = omega (arith, (parents_are c.tree).some, length-parents c.tree)

  -- a question about it is allowed, if its kind takes the argument
  root-allowed : (kind z : ℤ) (ask : Ask) → kind_of kind ≡ some (of_tree ask) → takes ask z ≡ true
      → Allowed (nodes c.tree) (present c.metres) (record { kind = kind; node = pos 1; argument = z })
  root-allowed kind z ask e f = (omega arith, root-there, (of_tree ask, e, f))

  -- the sibling of the root so many places away
  root_sibling : (z : ℤ) → answer (parents c.tree) sibling 1 z ≡ cond (is_zero z) 1 0
  root_sibling (pos zero) = (root_stays_alone c.tree).2
  root_sibling (pos (suc k)) = (root_stays_alone c.tree).3 (pos (suc k)) (λ e. let z : ◌≡◌ {A = ℕ} 0 1 = cc in omega arith)
  root_sibling (negsuc k) = (root_stays_alone c.tree).3 (negsuc k) (λ e. let z : ◌≡◌ {A = ℕ} 0 1 = cc in omega arith)

pub root_asked : P.RootAsked
unfolding answer_to
root_asked c r out h =
    asked c (pos 7 ∷ pos 1 ∷ pos 0 ∷ []) (r ∷ out) h (record {
      threes = refl;
      few = omega arith;
      allowed = (allowed_exactly _ _ _).1 (root-allowed c (pos 7) (pos 0) rank refl refl, tt);
      room = omega arith;
    })
    ∙ ap (λ a. came_to (counts 1 0) (a ∷ out)) ((root_has_no_rank c.tree 1 (omega arith) (root-there c)).1 refl)

pub root_asked_alone : P.RootAskedAlone
unfolding answer_to
root_asked_alone c z r s t out h =
    let alone = root_stays_alone c.tree in
    asked c (pos 4 ∷ pos 1 ∷ pos 0 ∷ pos 5 ∷ pos 1 ∷ pos 0 ∷ pos 10 ∷ pos 1 ∷ z ∷ []) (r ∷ s ∷ t ∷ out) h (record {
      threes = refl;
      few = omega arith;
      allowed = (allowed_exactly _ _ _).1 (
        root-allowed c (pos 4) (pos 0) next_sibling refl refl,
        (root-allowed c (pos 5) (pos 0) previous_sibling refl refl, (root-allowed c (pos 10) z sibling refl refl, tt)),
      );
      room = omega arith;
    })
    ∙ ap₂ (λ a b. came_to (counts 3 0) (a ∷ b ∷ answer (parents c.tree) sibling 1 z ∷ out)) alone.0 alone.1
    ∙ ap (λ d. came_to (counts 3 0) (0 ∷ 0 ∷ d ∷ out)) (root_sibling c z)
