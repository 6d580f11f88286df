-- The brackets of a text from a byte on.
use mathlib.Core.Path.{◌≡◌, ap, ◌∙◌}
use mathlib.Core.Bool.{cond}
use mathlib.Core.List.{List, [], ◌∷◌}
use Prim.Native.Nat.{ℕ, ◌+◌, ◌≤◌, ◌<◌}
use native.Mathlib.Numerals.{add-one}
use borrow.Author.Tests.{eq-eqb, ne_eqb}
use lib.Dec.{eqb}
use lib.ListN.{length, get_or, drop, drop_of_length-le}
use lib.Seq.{drop-cons}
use Rattle.meaning.specs.Strings.{Bit, O, I}
use Rattle.meaning.specs.Text.{brackets_in}

module _ (text : List ℕ) (at : ℕ) (h : at < length text) where
  abbrev later : List Bit
  later = brackets_in (drop (at + 1) text)

  pub brackets-at : brackets_in (drop at text) ≡ cond (eqb (get_or text at 0) 40) (I ∷ later) (cond (eqb (get_or text at 0) 41) (O ∷ later) later)
  unfolding brackets_in
  brackets-at = rw (add-one at) (ap brackets_in (drop-cons text at 0 h))

  pub opening-at : get_or text at 0 ≡ 40 → brackets_in (drop at text) ≡ I ∷ later
  opening-at e = brackets-at ∙ ap (λ b. cond b (I ∷ later) (cond (eqb (get_or text at 0) 41) (O ∷ later) later)) (eq-eqb (get_or text at 0) 40 e)

  module _ (n : get_or text at 0 ≡ 40 → ⊥) where
    no_opening : brackets_in (drop at text) ≡ cond (eqb (get_or text at 0) 41) (O ∷ later) later
    no_opening = brackets-at ∙ ap (λ b. cond b (I ∷ later) (cond (eqb (get_or text at 0) 41) (O ∷ later) later)) (ne_eqb (get_or text at 0) 40 n)

    pub closing_at : get_or text at 0 ≡ 41 → brackets_in (drop at text) ≡ O ∷ later
    closing_at e = no_opening ∙ ap (λ b. cond b (O ∷ later) later) (eq-eqb (get_or text at 0) 41 e)

    pub none-at : (get_or text at 0 ≡ 41 → ⊥) → brackets_in (drop at text) ≡ later
    none-at m = no_opening ∙ ap (λ b. cond b (O ∷ later) later) (ne_eqb (get_or text at 0) 41 m)

-- after the last byte
pub none_left : (text : List ℕ) (at : ℕ) → length text ≤ at → brackets_in (drop at text) ≡ []
unfolding brackets_in
none_left text at h = ap brackets_in (drop_of_length-le text {i = at} h)
