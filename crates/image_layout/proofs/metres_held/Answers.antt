use Rattle.image_layout.proofs.Laying.{held_all, held_none}
use Rattle.image_layout.proofs.metres_held.Goals as goal

pub returns-then-version-eq-WITH_METRES : goal.returns-then-version-eq-WITH_METRES
returns-then-version-eq-WITH_METRES c = held_all _ c.if-version-eq-WITH_METRES.true _

pub returns : goal.returns
returns c = held_none _ c.if-version-eq-WITH_METRES.false _
