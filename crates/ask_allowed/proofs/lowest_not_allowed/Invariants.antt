use Prim.Native.Nat.{◌*◌}
use mathlib.Core.Path.{◌≡◌}
use lib.ListN.{drop}
use Rattle.meaning.specs.Questions.{questions, not_allowed}
use Rattle.ask_allowed.proofs.lowest_not_allowed.Given as goal

abbrev pub invariant-loop-i : goal.invariant-loop-i
invariant-loop-i l = not_allowed l.n l.metres (questions l.asked) 0 ≡ not_allowed l.n l.metres (questions (drop (3 * l.i) l.asked)) l.i
