-- The text of a tree begins no other tree's.
use mathlib.Core.Path.{◌≡◌, refl, sym, ap, ◌∙◌}
use mathlib.Core.Bool.{Bool, true, false, cond}
use mathlib.Core.List.{List, [], ◌∷◌, ◌++◌, append-nil}
use Prim.Native.Nat.{ℕ, ◌+◌}
use native.Mathlib.Omega.{arith}
use Rattle.meaning.specs.Trees.{Tree, node, none, ◌then◌}
use Rattle.meaning.specs.Brackets.{brackets}
use Rattle.meaning.specs.Text.{is_blank, without_blanks, text_of, inside, over}
use Rattle.text_laws.specs.Texts.{Within, IsText, BeginsText, SomeText}
use Rattle.text_laws.proofs.Reading.{run, run-append, run-text, text-run}
use Rattle.text_laws.proofs.Limits.{within_more, some-within}

blanks-append : (xs ys : List ℕ) → without_blanks (xs ++ ys) ≡ without_blanks xs ++ without_blanks ys
unfolding without_blanks
blanks-append [] ys = refl
blanks-append (c ∷ cs) ys = ap (λ r. cond (is_blank c) r (c ∷ r)) (blanks-append cs ys) ∙ go (is_blank c) (without_blanks cs)
  where
    go : (b : Bool) (rest : List ℕ) → cond b (rest ++ without_blanks ys) (c ∷ rest ++ without_blanks ys) ≡ cond b rest (c ∷ rest) ++ without_blanks ys
    go true rest = refl
    go false rest = refl

-- only blanks may follow a tree: with them, a single node's text is still its text
blanks_follow : (rest : List ℕ) → run rest over ≡ over → without_blanks rest ≡ []
unfolding Within brackets text_of without_blanks
blanks_follow rest e = let w = run-text 1 (40 ∷ 41 ∷ rest) e in go w.0 w.1 w.2
  where
    go : (t : Tree) → Within 1 t → without_blanks (40 ∷ 41 ∷ rest) ≡ text_of (brackets t) → without_blanks rest ≡ []
    go (node none) w f = cc
    go (node (node g then h)) w f = absurd w.0

-- so the text of a tree that begins a text of at most m levels is one itself
pub ends_there : (m : ℕ) (text : List ℕ) → SomeText text → BeginsText m text → IsText m text
ends_there m text s b =
    let n = some-within s.0 in
    let more = m + n.0 in
    let u = b.1.0 in
    let own = text-run more text (s.0, within_more n.0 more s.0 (omega arith) n.1, s.1) in
    let all = text-run more (text ++ b.0) (u, within_more m more u (omega arith) b.1.1, b.1.2) in
    let after = blanks_follow b.0 (sym (run-append text b.0 (inside 0 more) ∙ ap (run b.0) own) ∙ all) in
    (u, b.1.1, sym (blanks-append text b.0 ∙ ap (λ r. without_blanks text ++ r) after ∙ append-nil (without_blanks text)) ∙ b.1.2)
