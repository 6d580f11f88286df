use native.Mathlib.Omega.{arith}
use Rattle.seal_frame.proofs.Counting.{block-few, counting-first, counting-few, counting-next, counting-last}
use Rattle.seal_frame.proofs.put_counts.Goals as goal

pub loop-j-init : goal.loop-j-init
loop-j-init c = counting-first _ _ _

pub overflow_add-c : goal.overflow_add-c
overflow_add-c c =
    let few = counting-few _ _ _ _ _ _ c.loop-j.invariant in
    let more = block-few _ _ _ c.ones_from-c.ensures in
    omega arith

pub loop-j-preserved : goal.loop-j-preserved
loop-j-preserved c =
    let l = c.loop-j in
    let p = c.requires in
    counting-next _ _ _ _ _ _ l.invariant (omega arith) p.n_bound p.n_in_bounds _ _ _ c.put_word.ensures c.bits_at.ensures c.ones_from-c.ensures

pub returns : goal.returns
returns c = counting-last _ _ _ _ _ _ c.loop-j.invariant (omega arith)
