use mathlib.Core.Path.{◌≡◌}
use Prim.Native.Nat.{◌+◌, ◌*◌, ◌≤◌, ◌<◌}
use native.Mathlib.Omega.{arith}
use Rattle.pack_scan.proofs.Parts.{noted_first, noted_lengths, noted_next, noted_refused, noted_last, scanned_refused, scanned_last, next-at, refused-at, told_over, told_refused}
use Rattle.pack_scan.proofs.scan_trees.Goals as goal
use Rattle.pack_scan.proofs.scan_trees.Goals.{In-Ok}

-- where a tree is over
over-at : (c : goal.In-Ok) →
    let at = c.loop-at.at in
    let next = c.in-Ok.end.next in
    let size = c.in-Ok.end.size in
    (at < next) × (next ≤ c.args.n) × (size ≤ 65535) × (next ≡ at + (2 * size + 1))
over-at c =
    next-at _ _ _ _ c.loop-at.invariant.scanned c.loop-at-test.true
    (told_over _ _ _ _ c.tree_end.ensures c.in-Ok.is)

pub loop-at-init : goal.loop-at-init
loop-at-init c = noted_first _ _ _ _

pub overflow_cast-result : goal.overflow_cast-result
overflow_cast-result c =
    omega (
      arith,
      (refused-at _ _ _ _ c.loop-at.invariant.scanned c.loop-at-test.true
          (told_refused _ _ _ _ c.tree_end.ensures c.in-Err.is)).1,
    )

pub shape_of-firsts-in-Err : goal.shape_of-firsts-in-Err
shape_of-firsts-in-Err c = (noted_lengths _ _ _ _ _ _ _ _ c.loop-at.invariant).0

pub shape_of-counts-in-Err : goal.shape_of-counts-in-Err
shape_of-counts-in-Err c = (noted_lengths _ _ _ _ _ _ _ _ c.loop-at.invariant).1

pub returns-in-Err : goal.returns-in-Err
returns-in-Err c =
    let i = c.loop-at.invariant in
    let e = told_refused _ _ _ _ c.tree_end.ensures c.in-Err.is in
    record { result_value = scanned_refused _ _ _ _ i.scanned c.loop-at-test.true e; firsts_after = (noted_refused _ _ _ _ _ _ _ _ i e).0; counts_after = (noted_refused _ _ _ _ _ _ _ _ i e).1 }

pub overflow_add-at : goal.overflow_add-at
overflow_add-at c = omega (arith, over-at (goal.at.overflow_add-at c).In-Ok)

pub overflow_cast-at : goal.overflow_cast-at
overflow_cast-at c = omega (arith, over-at (goal.at.overflow_cast-at c).In-Ok)

pub overflow_cast-end : goal.overflow_cast-end
overflow_cast-end c = omega (arith, over-at (goal.at.overflow_cast-end c).In-Ok)

pub overflow_add-trees : goal.overflow_add-trees
overflow_add-trees c = omega (arith, c.loop-at.invariant.scanned.few)

pub loop-at-smaller : goal.loop-at-smaller
loop-at-smaller c = omega (arith, over-at (goal.at.loop-at-smaller c).In-Ok)

pub loop-at-preserved : goal.loop-at-preserved
loop-at-preserved c =
    noted_next _ _ _ _ _ _ _ _ c.loop-at.invariant c.loop-at-test.true
    (told_over _ _ _ _ c.tree_end.ensures c.in-Ok.is) c.note.ensures
    c.note-in-loop-at.ensures

pub overflow_cast-result-2 : goal.overflow_cast-result-2
overflow_cast-result-2 c = omega (arith, c.loop-at.invariant.scanned.few)

pub shape_of-firsts : goal.shape_of-firsts
shape_of-firsts c = (noted_lengths _ _ _ _ _ _ _ _ c.loop-at.invariant).0

pub shape_of-counts : goal.shape_of-counts
shape_of-counts c = (noted_lengths _ _ _ _ _ _ _ _ c.loop-at.invariant).1

pub returns : goal.returns
returns c = record {
  result_value = scanned_last _ _ _ _ c.loop-at.invariant.scanned c.loop-at-test.false;
  firsts_after = (noted_last _ _ _ _ _ _ _ _ c.loop-at.invariant c.loop-at-test.false).0;
  counts_after = (noted_last _ _ _ _ _ _ _ _ c.loop-at.invariant c.loop-at-test.false).1;
}
