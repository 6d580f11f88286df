use Rattle.meaning.specs.Image.{parents_in, metres_in}
use Rattle.outline_nodes.proofs.Nodes.{Half}
use Rattle.outline_nodes.proofs.put_nodes.Given as goal

abbrev pub invariant-loop-k : goal.invariant-loop-k
invariant-loop-k l = Half (parents_in l.b) (metres_in l.b) l.pairs l.image.nodes l.initial.page l.k l.page
