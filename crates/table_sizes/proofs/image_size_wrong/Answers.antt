use native.Mathlib.Omega.{arith}
use Rattle.table_sizes.proofs.ToCheck.{wrong_cut, wrong_few, wrong_many}
use Rattle.table_sizes.proofs.image_size_wrong.Goals as goal

pub returns-then-bytes-ne0 : goal.returns-then-bytes-ne0
returns-then-bytes-ne0 c = λ image e. wrong_cut image (λ z. c.if-bytes-ne0.true (omega (arith, e, z)))

pub returns-then-bytes-lt-FEWEST_BLOCKS : goal.returns-then-bytes-lt-FEWEST_BLOCKS
returns-then-bytes-lt-FEWEST_BLOCKS c = λ image e. wrong_few image (omega (arith, e, c.if-bytes-lt-FEWEST_BLOCKS.true))

pub returns-then-bytes-gt-MOST_BLOCKS : goal.returns-then-bytes-gt-MOST_BLOCKS
returns-then-bytes-gt-MOST_BLOCKS c = λ image e. wrong_many image (omega (arith, e, c.if-bytes-gt-MOST_BLOCKS.true))

pub returns : goal.returns
returns c = record { whole = c.if-bytes-ne0.false; some = omega (arith, c.if-bytes-lt-FEWEST_BLOCKS.false); most = omega (arith, c.if-bytes-gt-MOST_BLOCKS.false) }
