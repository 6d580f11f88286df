-- Which row of a call's tests decides (document 01, "Numbers a caller gets back").
use Rattle.std.specs.Prelude.{◌≡◌, true, false, List, [], ◌∷◌, ◌++◌, ◌⊎◌}
use Rattle.meaning.specs.declared.Answer.{Answer}
use Rattle.meaning.specs.Answers.{Row, Outcome, refused_with, came_to}

abbrev pub NoneHolds : List Row → Type 0
NoneHolds [] = Unit
NoneHolds (r ∷ rs) = (r.holds ≡ false) × NoneHolds rs

-- the outcome o is that of the uppermost row that holds: its code and place, counts 0, and every
-- lent list as before
pub record Refused {A : Type 0} (before : A) (rows : List Row) (o : Outcome A) : Type 0 where
  pub upper : List Row
  pub row : Row
  pub lower : List Row
  pub here : rows ≡ upper ++ row ∷ lower
  pub none : NoneHolds upper
  pub holds : row.holds ≡ true
  pub is : o ≡ came_to (refused_with row.code row.place) before

-- no row holds and the outcome is the result; or one does, and the call is refused
abbrev pub Wins : {A : Type 0} → A → List Row → Answer → A → Outcome A → Type 0
Wins before rows a after o = (NoneHolds rows × (o ≡ came_to a after)) ⊎ Refused before rows o
