use native.Mathlib.Omega.{arith}
use Rattle.table_sizes.proofs.ToJoin.{wrong_few, wrong_many, wrong_long, wrong_bytes, wrong_trees, wrong_longer}
use Rattle.table_sizes.proofs.join_sizes_wrong.Goals as goal

pub returns-then-nodes-lt1 : goal.returns-then-nodes-lt1
returns-then-nodes-lt1 c = wrong_few _ _ _ _ (omega (arith, c.if-nodes-lt1.true))

pub returns-then-nodes-gt-MOST_NODES : goal.returns-then-nodes-gt-MOST_NODES
returns-then-nodes-gt-MOST_NODES c = wrong_many _ _ _ _ (omega (arith, c.if-nodes-gt-MOST_NODES.true))

pub returns-then-earlier-gt-MOST_BITS : goal.returns-then-earlier-gt-MOST_BITS
returns-then-earlier-gt-MOST_BITS c = wrong_long _ _ _ _ (omega (arith, c.if-earlier-gt-MOST_BITS.true))

pub returns-then-bytes-earlier : goal.returns-then-bytes-earlier
returns-then-bytes-earlier c = wrong_bytes _ _ _ _ (omega (arith, c.if-bytes-earlier.true))

pub returns-then-trees : goal.returns-then-trees
returns-then-trees c = wrong_trees _ _ _ _ (omega (arith, c.if-trees.true))

pub returns-then-longer-gt-MOST_BITS : goal.returns-then-longer-gt-MOST_BITS
returns-then-longer-gt-MOST_BITS c = wrong_longer _ _ _ _ c.if-longer-gt-MOST_BITS.true

pub returns : goal.returns
returns c = record {
  some = omega (arith, c.if-nodes-lt1.false);
  most = c.if-nodes-gt-MOST_NODES.false;
  bytes = c.if-bytes-earlier.false;
  room = omega (arith, c.if-trees.false);
  fits = c.if-longer-gt-MOST_BITS.false;
}
