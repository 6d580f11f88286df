-- What writing a tree's parent list comes to, by how deep the tree is.
use mathlib.Core.Path.{◌≡◌, ap, ◌∙◌}
use mathlib.Core.List.{List, [], ◌∷◌}
use Prim.Native.Nat.{ℕ, ◌*◌, ◌≤◌}
use native.Mathlib.Omega.{arith}
use borrow.Author.Tests.{lt-ltb, le-ltb}
use lib.Dec.{ltb}
use lib.ListN.{length}
use Rattle.meaning.specs.Trees.{Tree, nodes}
use Rattle.meaning.specs.Parents.{parents, bad_entry}
use Rattle.meaning.specs.Listing.{listing, deep}
use Rattle.meaning.specs.Brackets.{brackets}
use Rattle.meaning.specs.Text.{text_of}
use Rattle.meaning.specs.Answers.{◌at◌when◌, Outcome, came_to, counts, refused_with, settle, written, too_short}
use Rattle.meaning.specs.Tests.{parent_rows}
use Rattle.calls.specs.Calls.{text_of_parents}
use Rattle.theory.specs.Walks.{root, everything, FirstAt}
use Rattle.theory.proofs.Settled.{between, settle-here, settle_on, settle-none}
use Rattle.theory.proofs.Parents.{parents_are}
use Rattle.theory.proofs.Lowest.{parents-bad_entry}
use Rattle.theory.proofs.Forms.{length-parents}
use Rattle.theory.proofs.Addresses.{first_node}
use Rattle.theorems.proofs.Promises.{own_listing}
use Rattle.text_laws.specs.Texts.{Within}
use Rattle.text_laws.proofs.Nodes.{nested-brackets, length-brackets}
use Rattle.text_laws.proofs.Back.{length-text}
use Rattle.text_laws.proofs.Limits.{none_deep}
use Rattle.text_promises.specs.Promises.{Fits}

-- two bytes to a node
pub text-length : (t : Tree) → length (text_of (brackets t)) ≡ 2 * nodes t
text-length t = length-text (brackets t) ∙ length-brackets t

-- what the rows below those of the parent list come to, d being the first node at depth 64
abbrev later : ℕ → (text out : List ℕ) → Outcome (List ℕ)
later d text out = settle out (9 at d when ltb 0 d ∷ 1 at 0 when too_short text out ∷ []) (counts (length text) 0) (written text out)

module _ (t : Tree) where
  -- every tree has a root
  pub root-there : 1 ≤ nodes t
  root-there = omega (arith, (parents_are t).some, length-parents t)

  -- the first node at depth 64
  abbrev pub deepest : ℕ
  deepest = deep (listing 65 (parents t) 1 0)

  pub first-deep : (Within 64 t → ⊥) → FirstAt t 64 (everything (root t)) deepest
  first-deep n = rw (first_node t) at ((own_listing t 1 (omega arith) root-there).2 (λ e. n ((none_deep t).0 e)))

  module _ (out : List ℕ) where
    -- its parent list is not refused
    by_depth : nodes t ≤ 65535 → text_of_parents (parents t) out ≡ later deepest (text_of (brackets t)) out
    unfolding text_of_parents parent_rows
    by_depth small =
        let ps = parents t in
        let n = length-parents t in
        settle_on _ _ _ _ _ (between 1 65535 (length ps) (omega (arith, root-there)) (omega arith))
        ∙ settle_on _ _ _ _ _ (le-ltb 0 (bad_entry ps) (omega (arith, parents-bad_entry ps (parents_are t))))
        ∙ ap (λ bs. later deepest (text_of bs) out) (nested-brackets t)

    pub tree-written : Fits t → 2 * nodes t ≤ length out
        → text_of_parents (parents t) out ≡ came_to (counts (2 * nodes t) 0) (written (text_of (brackets t)) out)
    tree-written fits room =
        let text = text_of (brackets t) in
        by_depth fits.0
        ∙ settle_on _ _ _ _ _ (le-ltb 0 deepest (omega (arith, (none_deep t).1 fits.1)))
        ∙ settle_on _ _ _ _ _ (le-ltb (length out) (length text) (omega (arith, text-length t)))
        ∙ settle-none _ _ _
        ∙ ap (λ n. came_to (counts n 0) (written text out)) (text-length t)

    pub tree_too_deep : nodes t ≤ 65535 → (deepest ≡ 0 → ⊥) → text_of_parents (parents t) out ≡ came_to (refused_with 9 deepest) out
    tree_too_deep small some = by_depth small ∙ settle-here _ _ _ _ _ (lt-ltb 0 deepest (omega arith))
