-- A text that is too deep opens a level too many there: the byte is an opening bracket, and before
-- it as many nodes are open as there may be levels.
use mathlib.Core.Path.{◌≡◌, refl, sym, ap, ◌∙◌, subst}
use mathlib.Core.Bool.{true}
use mathlib.Core.List.{List, [], ◌∷◌}
use Prim.Native.Nat.{ℕ, zero, suc, ◌+◌, ◌-◌}
use native.Mathlib.Omega.{arith}
use lib.ListN.{get_or, take}
use Rattle.meaning.specs.Strings.{Bit, ones, zeros}
use Rattle.meaning.specs.Text.{is_blank, brackets_in, Reading, inside, over, wrong, too_deep, opening, closing, step, deeper, read_from, read_within}
use Rattle.text_laws.proofs.Back.{without_blank, without_blanks_in}
use Rattle.text_laws.proofs.Reading.{by_byte, step_blank, step_other}

-- m more brackets open than close
abbrev Deepens : ℕ → List Bit → Type 0
Deepens m bs = ones bs ≡ zeros bs + m

-- byte p of all opens a level too many; the text is the bytes after the first i, which led to this
-- state
abbrev Opens : List ℕ → ℕ → ℕ → Reading → Type 0
Opens text i p (inside k m) = (q : ℕ) × (p ≡ suc (i + q)) × (get_or text q 0 ≡ 40) × Deepens m (brackets_in (take q text))
Opens text i p over = ⊥
Opens text i p wrong = ⊥
Opens text i p too_deep = p ≡ i

blank_in : (c : ℕ) (cs : List ℕ) → is_blank c ≡ true → brackets_in (c ∷ cs) ≡ brackets_in cs
blank_in c cs e = sym (without_blanks_in (c ∷ cs)) ∙ ap brackets_in (without_blank c cs e) ∙ without_blanks_in cs

module _ (cs : List ℕ) (i p : ℕ) where
  opens_open : (k m : ℕ) → Opens cs (suc i) p (opening (inside k m)) → Opens (40 ∷ cs) i p (inside k m)
  unfolding brackets_in
  opens_open k zero h = (0, omega arith, refl, refl)
  opens_open k (suc m) h = (suc h.0, omega (arith, h.1), h.2, omega (arith, h.3))

  opens_close : (k m : ℕ) → Opens cs (suc i) p (closing (inside k m)) → Opens (41 ∷ cs) i p (inside k m)
  unfolding brackets_in
  opens_close zero m h = absurd h
  opens_close (suc zero) m h = absurd h
  opens_close (suc (suc k)) m h = (suc h.0, omega (arith, h.1), h.2, omega (arith, h.3))

  opens_inside : (k m c : ℕ) → Opens cs (suc i) p (step (inside k m) c) → Opens (c ∷ cs) i p (inside k m)
  opens_inside k m = by_byte (λ d. Opens cs (suc i) p (step (inside k m) d) → Opens (d ∷ cs) i p (inside k m))
      (λ d e h. let w = subst (Opens cs (suc i) p) (step_blank (inside k m) d e) h in
      (suc w.0, omega (arith, w.1), w.2, subst (Deepens m) (sym (blank_in d (take w.0 cs) e)) w.3))
      (opens_open k m)
      (opens_close k m)
      (λ d o h. absurd (subst (Opens cs (suc i) p) (step_other (inside k m) d o) h))

  opens_over : (c : ℕ) → Opens cs (suc i) p (step over c) → ⊥
  opens_over = by_byte (λ d. Opens cs (suc i) p (step over d) → ⊥)
      (λ d e h. subst (Opens cs (suc i) p) (step_blank over d e) h)
      (λ h. h)
      (λ h. h)
      (λ d o h. subst (Opens cs (suc i) p) (step_other over d o) h)

opens : (text : List ℕ) (i p : ℕ) (s : Reading) → read_from text i s ≡ deeper p → Opens text i p s
unfolding read_from
opens [] i p (inside k m) e = let z : ◌≡◌ {A = ℕ} 0 1 = cc in absurd (omega arith)
opens [] i p over e = let z : ◌≡◌ {A = ℕ} 0 1 = cc in omega arith
opens [] i p wrong e = let z : ◌≡◌ {A = ℕ} 0 1 = cc in omega arith
opens [] i p too_deep e = cc
opens (c ∷ cs) i p (inside k m) e = opens_inside cs i p k m c (opens cs (suc i) p (step (inside k m) c) e)
opens (c ∷ cs) i p over e = opens_over cs i p c (opens cs (suc i) p (step over c) e)
opens (c ∷ cs) i p wrong e = let z : ◌≡◌ {A = ℕ} 0 1 = cc in omega arith
opens (c ∷ cs) i p too_deep e = cc

pub nested-there : (m : ℕ) (text : List ℕ) (p : ℕ) → read_within m text ≡ deeper p
    → let before = brackets_in (take (p - 1) text) in
    (get_or text (p - 1) 0 ≡ 40) × (ones before ≡ zeros before + m)
unfolding read_within
nested-there m text p e =
    let w = opens text 0 p (inside 0 m) e in
    let same : w.0 ≡ p - 1 = omega (arith, w.1) in
    subst (λ q. (get_or text q 0 ≡ 40) × Deepens m (brackets_in (take q text))) same (w.2, w.3)
