use Rattle.image_layout.proofs.Laying.{at_block, at_none}
use Rattle.image_layout.proofs.metres_at.Goals as goal

pub returns-then-version-eq-WITH_METRES : goal.returns-then-version-eq-WITH_METRES
returns-then-version-eq-WITH_METRES c = at_block _ c.if-version-eq-WITH_METRES.true _

pub returns : goal.returns
returns c = at_none _ c.if-version-eq-WITH_METRES.false _
