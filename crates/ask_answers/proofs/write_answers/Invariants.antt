use Rattle.meaning.specs.Image.{list_of, metres_in, parents_in, present}
use Rattle.ask_answers.proofs.Answers.{Answered}
use Rattle.ask_answers.proofs.write_answers.Given as goal

abbrev pub invariant-loop-k : goal.invariant-loop-k
invariant-loop-k l = Answered (parents_in l.b) (list_of (metres_in l.b)) l.image.nodes (present (metres_in l.b)) l.asked l.initial.answers l.answers l.k
