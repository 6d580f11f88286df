-- The way back: from brackets to the tree, and from text to brackets.
use mathlib.Core.Path.{◌≡◌, refl, sym, ap, ◌∙◌}
use mathlib.Core.Bool.{Bool, true, false, cond, true≢false}
use mathlib.Core.List.{List, [], ◌∷◌, ◌++◌, append-nil, append_assoc}
use Prim.Native.Nat.{ℕ, suc}
use lib.Dec.{eqb}
use lib.ListN.{length}
use borrow.Author.Tests.{ne_eqb}
use Rattle.meaning.specs.Trees.{Tree, Trees, node, none, ◌then◌}
use Rattle.meaning.specs.Strings.{Bit, O, I}
use Rattle.meaning.specs.Brackets.{brackets, brackets_of, inserted, lists, first_tree, tree_in}
use Rattle.meaning.specs.Text.{is_blank, without_blanks, text_of, brackets_in}

-- ---- brackets, read from the right

-- the trees of f before those of g
abbrev before : Trees → Trees → Trees
before none g = g
before (t then f) g = t then before f g

before-none : (f : Trees) → before f none ≡ f
before-none none = refl
before-none (t then f) = ap (λ r. t then r) (before-none f)

mutual
  unfolding brackets lists

  -- the brackets of a tree put it before the innermost list
  lists-tree : (t : Tree) (bs : List Bit) (g : Trees) (gs : List Trees) → lists bs ≡ g ∷ gs → lists (brackets t ++ bs) ≡ (t then g) ∷ gs
  lists-tree (node f) bs g gs e =
      ap (λ r. inserted (lists r)) (append_assoc (brackets_of f) (O ∷ []) bs)
      ∙ ap inserted (lists_trees f (O ∷ bs) none (g ∷ gs) (ap (λ r. none ∷ r) e))
      ∙ ap (λ r. (node r then g) ∷ gs) (before-none f)

  lists_trees : (f : Trees) (bs : List Bit) (g : Trees) (gs : List Trees) → lists bs ≡ g ∷ gs → lists (brackets_of f ++ bs) ≡ before f g ∷ gs
  lists_trees none bs g gs e = e
  lists_trees (t then f) bs g gs e =
      ap lists (append_assoc (brackets t) (brackets_of f) bs)
      ∙ lists-tree t (brackets_of f ++ bs) (before f g) gs (lists_trees f bs g gs e)

-- the brackets of a tree are those of no other
pub tree_back : (t : Tree) → tree_in (brackets t) ≡ t
unfolding tree_in
tree_back t = ap (λ r. first_tree (lists r)) (sym (append-nil (brackets t))) ∙ ap first_tree (lists-tree t [] none [] refl)

-- ---- the text of brackets

pub brackets_in_text : (bs : List Bit) → brackets_in (text_of bs) ≡ bs
unfolding brackets_in text_of
brackets_in_text [] = refl
brackets_in_text (I ∷ bs) = ap (λ r. I ∷ r) (brackets_in_text bs)
brackets_in_text (O ∷ bs) = ap (λ r. O ∷ r) (brackets_in_text bs)

pub no_blanks : (bs : List Bit) → without_blanks (text_of bs) ≡ text_of bs
unfolding without_blanks text_of
no_blanks [] = refl
no_blanks (I ∷ bs) = ap (λ r. 40 ∷ r) (no_blanks bs)
no_blanks (O ∷ bs) = ap (λ r. 41 ∷ r) (no_blanks bs)

pub length-text : (bs : List Bit) → length (text_of bs) ≡ length bs
unfolding text_of
length-text [] = refl
length-text (I ∷ bs) = ap suc (length-text bs)
length-text (O ∷ bs) = ap suc (length-text bs)

-- ---- blanks

pub without_blank : (c : ℕ) (cs : List ℕ) → is_blank c ≡ true → without_blanks (c ∷ cs) ≡ without_blanks cs
unfolding without_blanks
without_blank c cs e = ap (λ b. cond b (without_blanks cs) (c ∷ without_blanks cs)) e

pub with_other : (c : ℕ) (cs : List ℕ) → is_blank c ≡ false → without_blanks (c ∷ cs) ≡ c ∷ without_blanks cs
unfolding without_blanks
with_other c cs e = ap (λ b. cond b (without_blanks cs) (c ∷ without_blanks cs)) e

-- a blank is no bracket
blank_other : (c n : ℕ) → is_blank c ≡ true → is_blank n ≡ false → eqb c n ≡ false
blank_other c n e f = ne_eqb c n (λ s. absurd (true≢false (sym e ∙ ap is_blank s ∙ f)))

blank_in : (c : ℕ) (cs : List ℕ) → is_blank c ≡ true → brackets_in (c ∷ cs) ≡ brackets_in cs
unfolding brackets_in
blank_in c cs e =
    let r = brackets_in cs in
    ap (λ b. cond b (I ∷ r) (cond (eqb c 41) (O ∷ r) r)) (blank_other c 40 e refl) ∙ ap (λ b. cond b (O ∷ r) r) (blank_other c 41 e refl)

-- blanks hide no brackets
pub without_blanks_in : (text : List ℕ) → brackets_in (without_blanks text) ≡ brackets_in text
unfolding brackets_in without_blanks
without_blanks_in [] = refl
without_blanks_in (c ∷ cs) = go (is_blank c) refl (without_blanks_in cs)
  where
    go : (b : Bool) → is_blank c ≡ b → brackets_in (without_blanks cs) ≡ brackets_in cs → brackets_in (without_blanks (c ∷ cs)) ≡ brackets_in (c ∷ cs)
    go true e ih = ap brackets_in (without_blank c cs e) ∙ ih ∙ sym (blank_in c cs e)
    go false e ih = ap brackets_in (with_other c cs e) ∙ ap (λ r. cond (eqb c 40) (I ∷ r) (cond (eqb c 41) (O ∷ r) r)) ih
