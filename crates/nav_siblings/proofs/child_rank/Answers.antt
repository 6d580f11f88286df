use native.Mathlib.Omega.{arith}
use Rattle.nav_siblings.proofs.Siblings.{rank_root, rank_above, rank_given}
use Rattle.nav_siblings.proofs.child_rank.Goals as goal

pub returns-then-x-eq1 : goal.returns-then-x-eq1
returns-then-x-eq1 c = rank_root c.requires c.if-x-eq1.true

pub overflow_sub-result : goal.overflow_sub-result
overflow_sub-result c = omega (arith, rank_above c.requires c.run_before.result c.run_before.ensures)

pub returns : goal.returns
returns c =
    let node = c.requires in
    rank_given node c.run_before.result c.run_before.ensures (omega (arith, node.some))
