use mathlib.Core.Path.{◌≡◌}
use lib.ListN.{drop}
use Rattle.meaning.specs.Parents.{bad_from, bad_entry}
use Rattle.parents_check.proofs.bad_entry.Given as goal

abbrev pub invariant-loop-i : goal.invariant-loop-i
invariant-loop-i l = (bad_entry l.ps ≡ bad_from (drop l.i l.ps) l.i l.low)
