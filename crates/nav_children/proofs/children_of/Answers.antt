use native.Mathlib.Omega.{arith}
use Prim.Native.Nat.{◌+◌, ◌≤◌}
use Rattle.nav_sibling_range.proofs.Own.{few}
use Rattle.nav_children.proofs.Families.{one_more, next-there, after_is, last_is}
use Rattle.nav_children.proofs.children_of.Goals as goal
use Rattle.nav_children.proofs.children_of.Goals.{After-rank_r0-k, After-select_r1-after}

-- the one after the next is there too
room : (c : goal.After-rank_r0-k) → (c.rank_r0-k.result + 2 ≤ c.args.image.runs) × (c.rank_r0-k.result ≤ 65535)
room c =
    let m = one_more c.requires.node c.requires.x_value in
    (omega arith, omega (arith, few c.args.b.now c.args.image c.requires.node.sound))

pub overflow_add-k : goal.overflow_add-k
overflow_add-k c = omega (arith, (room (goal.at.overflow_add-k c).After-rank_r0-k).1)

pub select_r1-after-requires : goal.select_r1-after-requires
select_r1-after-requires c = record { b_value = c.requires.node.sound; le_k = omega arith; k_le_runs = omega (arith, (room (goal.at.select_r1-after-requires c).After-rank_r0-k).0) }

next : (c : goal.After-select_r1-after) → c.select_r1-after.result + 1 ≤ c.args.image.nodes
next c =
    let k = c.rank_r0-k in
    next-there c.requires.node c.requires.x_value k.result c.select_r1-after.result k.ensures c.select_r1-after.ensures

pub overflow_add-after : goal.overflow_add-after
overflow_add-after c = omega (arith, next (goal.at.overflow_add-after c).After-select_r1-after)

pub run_last-last-requires : goal.run_last-last-requires
run_last-last-requires c = record { sound = c.requires.node.sound; some = omega arith; most = next (goal.at.run_last-last-requires c).After-select_r1-after }

pub returns : goal.returns
returns c =
    let k = c.rank_r0-k in
    let after = c.select_r1-after in
    record {
      after = after_is c.requires.node c.requires.x_value k.result after.result k.ensures after.ensures;
      last = last_is c.requires.node c.requires.x_value k.result after.result k.ensures after.ensures c.run_last-last.result c.run_last-last.ensures;
    }
