use native.Mathlib.Omega.{arith}
use Rattle.table_sizes.proofs.ToSplit.{wrong_long, wrong_bytes, wrong_trees}
use Rattle.table_sizes.proofs.split_sizes_wrong.Goals as goal

pub returns-then-bits-gt-MOST_BITS : goal.returns-then-bits-gt-MOST_BITS
returns-then-bits-gt-MOST_BITS c = wrong_long _ _ _ (omega (arith, c.if-bits-gt-MOST_BITS.true))

pub returns-then-bytes-bits : goal.returns-then-bytes-bits
returns-then-bytes-bits c = wrong_bytes _ _ _ c.if-bytes-bits.true

pub returns-then-trees-gt-MOST_TREES : goal.returns-then-trees-gt-MOST_TREES
returns-then-trees-gt-MOST_TREES c = wrong_trees _ _ _ c.if-trees-gt-MOST_TREES.true

pub returns : goal.returns
returns c = record { short = c.if-bits-gt-MOST_BITS.false; exact = c.if-bytes-bits.false; few = c.if-trees-gt-MOST_TREES.false }
