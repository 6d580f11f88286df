use Rattle.theory.proofs.Settled.{answered}
use Rattle.calls.specs.Calls.{image_of_parents}
use Rattle.call_image_of_parents.proofs.image_of_parents.Goals as goal

pub returns : goal.returns
unfolding image_of_parents
returns c = answered c.answered.ensures c.seal_parents.ensures
