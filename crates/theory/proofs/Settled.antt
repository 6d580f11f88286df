-- What the tests of a call come to; the upper row wins, and a refused call leaves what is lent to
-- it.
use Rattle.std.specs.Prelude.{Ok, Err}
use mathlib.Core.Path.{◌≡◌, refl, sym, ap, ◌∙◌}
use mathlib.Core.Bool.{Bool, true, false, cond, not, ◌||◌}
use mathlib.Core.List.{List, [], ◌∷◌, ◌++◌}
use mathlib.Core.Logic.{inl, inr}
use Prim.Native.Nat.{ℕ, ◌≤◌, ◌<◌}
use native.Mathlib.Omega.{arith}
use borrow.Author.Tests.{lt-ltb, le-ltb, eq-eqb, ne_eqb}
use lib.Dec.{ltb, eqb}
use Rattle.meaning.specs.declared.Answer.{Answer}
use Rattle.meaning.specs.declared.Refusal.{Refusal}
use Rattle.meaning.specs.Answers.{Verdict, Row, Outcome, refused_with, came_to, alone, over, first_holding, unless_refused, settle}
use Rattle.meaning.specs.Tests.{outside}
use Rattle.theory.specs.Rows.{NoneHolds, Wins}

-- ---- tests

pub or-first : (s t : Bool) → s ≡ true → (s || t) ≡ true
or-first s t e = ap (λ b. b || t) e

pub or-second : (s t : Bool) → t ≡ true → (s || t) ≡ true
or-second true t e = refl
or-second false t e = e

pub or_neither : (s t : Bool) → s ≡ false → t ≡ false → (s || t) ≡ false
or_neither s t e f = ap (λ b. b || t) e ∙ f

pub below : (low high x : ℕ) → x < low → outside low high x ≡ true
below low high x h = or-first (ltb x low) (ltb high x) (lt-ltb x low h)

pub beyond : (low high x : ℕ) → high < x → outside low high x ≡ true
beyond low high x h = or-second (ltb x low) (ltb high x) (lt-ltb high x h)

pub between : (low high x : ℕ) → low ≤ x → x ≤ high → outside low high x ≡ false
between low high x g h = or_neither (ltb x low) (ltb high x) (le-ltb x low g) (le-ltb high x h)

pub unequal : (x y : ℕ) → (x ≡ y → ⊥) → not (eqb x y) ≡ true
unequal x y h = ap not (ne_eqb x y h)

pub equal : (x y : ℕ) → x ≡ y → not (eqb x y) ≡ false
equal x y e = ap not (eq-eqb x y e)

-- ---- the first row that holds

abbrev pub refusal_of : Row → Refusal
refusal_of r = record { code = r.code; place = r.place }

pub clash : {X : Type 0} {r : Refusal} → ◌≡◌ {A = Verdict} (Err r) (Ok tt) → X
clash e = let z : ◌≡◌ {A = ℕ} 0 1 = cc in absurd (omega arith)

pub first-none : first_holding [] ≡ (Ok tt)
unfolding first_holding
first-none = refl

module _ (r : Row) (rs : List Row) where
  pub first-here : r.holds ≡ true → first_holding (r ∷ rs) ≡ Err (refusal_of r)
  unfolding first_holding
  first-here e = ap (λ b. over (cond b (Err (refusal_of r)) (Ok tt)) (first_holding rs)) e

  pub first_on : r.holds ≡ false → first_holding (r ∷ rs) ≡ first_holding rs
  unfolding first_holding
  first_on e = ap (λ b. over (cond b (Err (refusal_of r)) (Ok tt)) (first_holding rs)) e

over_passed : (v : Verdict) → over v (Ok tt) ≡ v
over_passed (Ok _) = refl
over_passed (Err r) = refl

pub first_alone : (r : Row) → first_holding (r ∷ []) ≡ alone r
unfolding first_holding
first_alone r = over_passed (alone r)

-- rows one after the other: the first that holds among the upper ones, or else among the rest
pub first-append : (rows rest : List Row) → first_holding (rows ++ rest) ≡ over (first_holding rows) (first_holding rest)
first-append [] rest = sym (ap (λ v. over v (first_holding rest)) first-none)
first-append (r ∷ rs) rest = go r.holds refl (first-append rs rest)
  where
    go : (b : Bool) → r.holds ≡ b → first_holding (rs ++ rest) ≡ over (first_holding rs) (first_holding rest)
        → first_holding (r ∷ rs ++ rest) ≡ over (first_holding (r ∷ rs)) (first_holding rest)
    go true e later = first-here r (rs ++ rest) e ∙ sym (ap (λ v. over v (first_holding rest)) (first-here r rs e))
    go false e later = first_on r (rs ++ rest) e ∙ later ∙ sym (ap (λ v. over v (first_holding rest)) (first_on r rs e))

pub none_first : (rs : List Row) → (Ok tt) ≡ first_holding rs → NoneHolds rs
none_first [] e = tt
none_first (r ∷ rs) e = go r.holds refl (λ f. none_first rs (e ∙ first_on r rs f))
  where
    go : (b : Bool) → r.holds ≡ b → (r.holds ≡ false → NoneHolds rs) → (r.holds ≡ false) × NoneHolds rs
    go true f later = clash (sym (e ∙ first-here r rs f))
    go false f later = (f, later f)

-- ---- what a call comes to by its rows

-- what a call comes to with an answer, it comes to with an equal one
pub answered : {A : Type 0} {r s : Answer} {lent : A} {o : Outcome A} → r ≡ s → came_to s lent ≡ o → came_to r lent ≡ o
answered {A} {r} {s} {lent} e f = ap (λ a. came_to a lent) e ∙ f

module _ {A : Type 0} (before : A) (a : Answer) (after : A) where
  by_first : (rows : List Row) → settle before rows a after ≡ unless_refused before (first_holding rows) (came_to a after)
  unfolding settle
  by_first rows = refl

  -- a call whose rows are those of some tests and then the rest goes by what the tests find
  pub settle-append : (rows rest : List Row) → settle before (rows ++ rest) a after ≡ unless_refused before (first_holding rows) (settle before rest a after)
  settle-append rows rest =
      by_first (rows ++ rest) ∙ ap (λ v. unless_refused before v (came_to a after)) (first-append rows rest)
      ∙ go (first_holding rows) ∙ sym (ap (unless_refused before (first_holding rows)) (by_first rest))
    where
      go : (v : Verdict) → unless_refused before (over v (first_holding rest)) (came_to a after)
          ≡ unless_refused before v (unless_refused before (first_holding rest) (came_to a after))
      go (Ok _) = refl
      go (Err r) = refl

  pub settle-refused : (rest rows : List Row) {r : Refusal} → Err r ≡ first_holding rows
      → settle before (rows ++ rest) a after ≡ came_to (refused_with r.code r.place) before
  settle-refused rest rows e = settle-append rows rest ∙ sym (ap (λ v. unless_refused before v (settle before rest a after)) e)

  pub settle_passed : (rest rows : List Row) → (Ok tt) ≡ first_holding rows → settle before (rows ++ rest) a after ≡ settle before rest a after
  settle_passed rest rows e = settle-append rows rest ∙ sym (ap (λ v. unless_refused before v (settle before rest a after)) e)

  pub settle-here : (r : Row) (rs : List Row) → r.holds ≡ true → settle before (r ∷ rs) a after ≡ came_to (refused_with r.code r.place) before
  settle-here r rs e = by_first (r ∷ rs) ∙ ap (λ v. unless_refused before v (came_to a after)) (first-here r rs e)

  pub settle_on : (r : Row) (rs : List Row) → r.holds ≡ false → settle before (r ∷ rs) a after ≡ settle before rs a after
  settle_on r rs e = by_first (r ∷ rs) ∙ ap (λ v. unless_refused before v (came_to a after)) (first_on r rs e) ∙ sym (by_first rs)

  pub settle-none : settle before [] a after ≡ came_to a after
  settle-none = by_first [] ∙ ap (λ v. unless_refused before v (came_to a after)) first-none

  pub settled : (rs : List Row) → Wins before rs a after (settle before rs a after)
  settled [] = inl (tt, settle-none)
  settled (r ∷ rs) = go (settled rs) r.holds refl
    where
      go : Wins before rs a after (settle before rs a after) → (b : Bool) → r.holds ≡ b → Wins before (r ∷ rs) a after (settle before (r ∷ rs) a after)
      go w true e = inr (record { upper = []; row = r; lower = rs; here = refl; none = tt; holds = e; is = settle-here r rs e })
      go (inl w) false e = inl ((e, w.0), settle_on r rs e ∙ w.1)
      go (inr w) false e = inr (record {
        upper = r ∷ w.upper;
        row = w.row;
        lower = w.lower;
        here = ap (λ xs. r ∷ xs) w.here;
        none = (e, w.none);
        holds = w.holds;
        is = settle_on r rs e ∙ w.is;
      })
