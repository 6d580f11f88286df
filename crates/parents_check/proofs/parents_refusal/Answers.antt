use mathlib.Core.Path.{sym, ◌∙◌}
use native.Mathlib.Omega.{arith}
use Rattle.theory.proofs.Lowest.{bad-within}
use Rattle.theory.proofs.Places.{no_place, the_place}
use Rattle.parents_check.proofs.Refusing.{refused-few, refused_many, by_entry, passes}
use Rattle.parents_check.proofs.parents_refusal.Goals as goal

pub returns-then-nodes-lt1 : goal.returns-then-nodes-lt1
returns-then-nodes-lt1 c = refused-few _ c.if-nodes-lt1.true

pub returns-then-nodes-gt-MOST_NODES : goal.returns-then-nodes-gt-MOST_NODES
returns-then-nodes-gt-MOST_NODES c = refused_many _ c.if-nodes-gt-MOST_NODES.true

pub overflow_cast-result : goal.overflow_cast-result
overflow_cast-result c = let at = the_place _ _ (sym c.bad_entry.ensures ∙ c.in-Some.is) in omega (arith, at.0, bad-within c.args.parents.now (omega arith))

pub returns-in-Some : goal.returns-in-Some
returns-in-Some c = let at = the_place _ _ (sym c.bad_entry.ensures ∙ c.in-Some.is) in by_entry _ (omega arith) (omega arith) _ at.0 at.1

pub returns-in-None : goal.returns-in-None
returns-in-None c = passes _ (omega arith) (omega arith) (no_place _ (sym c.bad_entry.ensures ∙ c.in-None.is))
