-- What a call comes to (document 01, "Numbers a caller gets back").
use Rattle.std.specs.Prelude.{Result, Ok, Err, Bool, cond, List, [], ◌∷◌, ◌++◌, ℕ, ltb, length, drop}
use Rattle.meaning.specs.declared.Answer.{Answer}
use Rattle.meaning.specs.declared.Refusal.{Refusal}

-- a row of document 01's table: the code and the place, given where the test holds
pub record Row : Type 0 where
  pub code : ℕ
  pub place : ℕ
  pub holds : Bool

infix 70 ◌at◌when◌
abbrev pub ◌at◌when◌ : ℕ → ℕ → Bool → Row
c at p when b = record { code = c; place = p; holds = b }

-- on refusal the counts are 0
abbrev pub refused_with : ℕ → ℕ → Answer
refused_with c p = record { code = c; place = p; first = 0; second = 0 }

-- on 0 the place is 0
abbrev pub counts : ℕ → ℕ → Answer
counts first second = record { code = 0; place = 0; first = first; second = second }

-- what a caller gets: an answer, or the refusal's code and place
abbrev pub answer_of : Result Answer Refusal → Answer
answer_of (Ok a) = a
answer_of (Err r) = refused_with r.code r.place

-- the answer, and what the lent lists hold afterwards
pub record Outcome (A : Type 0) : Type 0 where
  pub answer : Answer
  pub lent : A

abbrev pub came_to : {A : Type 0} → Answer → A → Outcome A
came_to a lent = record { answer = a; lent = lent }

-- what tests in the order of the table find: none of them holds, or the refusal of the first that
-- does
abbrev pub Verdict : Type 0
Verdict = Result Unit Refusal

-- a row by itself
abbrev pub alone : Row → Verdict
alone r = cond r.holds (Err (record { code = r.code; place = r.place })) (Ok tt)

-- where several hold, the upper one wins
abbrev pub over : Verdict → Verdict → Verdict
over (Err r) lower = Err r
over (Ok _) lower = lower

-- the first of the rows that holds
unfoldable pub first_holding : List Row → Verdict
first_holding [] = Ok tt
first_holding (r ∷ rs) = over (alone r) (first_holding rs)

-- a refused call changes no lent list; one that passed goes on
abbrev pub unless_refused : {A : Type 0} → (before : A) → Verdict → (rest : Outcome A) → Outcome A
unless_refused before (Ok _) rest = rest
unless_refused before (Err r) rest = came_to (refused_with r.code r.place) before

-- what a call comes to by its rows: where none holds, the answer a and the lists as they are after
unfoldable pub settle : {A : Type 0} → (before : A) → List Row → (a : Answer) → (after : A) → Outcome A
unfolding first_holding
settle before rows a after = unless_refused before (first_holding rows) (came_to a after)

-- only the needed first part of an output is written
abbrev pub written : {A : Type 0} → List A → List A → List A
written new old = new ++ drop (length new) old

abbrev pub too_short : {A : Type 0} → List A → List A → Bool
too_short new old = ltb (length old) (length new)
