use mathlib.Core.Path.{◌∙◌}
use native.Mathlib.Omega.{arith}
use Prim.Native.Nat.{◌+◌, ◌≤◌}
use borrow.Author.Rules.{rules}
use Rattle.parents_check.proofs.Rising.{good_parents}
use Rattle.seal_r1_bits.proofs.Entries.{unlike-bool, counted-few, counted_more, counted-all}
use Rattle.seal_r1_bits.proofs.count_runs.Goals as goal

pub overflow_add-k : goal.overflow_add-k
overflow_add-k c =
    let few = counted-few c.args.ps.now (good_parents _ c.requires.in_bounds c.requires.ps_value) c.loop-i.i (c.loop-i.k + 1) c.loop-i.invariant c.loop-i.auto.i (omega arith) in
    let one : c.from-k.result ≤ 1 = search rules in
    omega arith

pub loop-i-preserved : goal.loop-i-preserved
loop-i-preserved c =
    let more =
    counted_more c.args.ps.now (good_parents _ c.requires.in_bounds c.requires.ps_value) c.loop-i.i (c.loop-i.k + 1) c.loop-i.invariant c.loop-i.auto.i
    c.loop-i-test.true c.from-k.result (c.from-k.ensures ∙ unlike-bool _ _) in
    omega (arith, more)

pub overflow_add-result : goal.overflow_add-result
overflow_add-result c =
    let few = counted-few c.args.ps.now (good_parents _ c.requires.in_bounds c.requires.ps_value) c.loop-i.i (c.loop-i.k + 1) c.loop-i.invariant c.loop-i.auto.i (omega arith) in
    omega (arith, few)

pub returns : goal.returns
returns c =
    counted-all c.args.ps.now (good_parents _ c.requires.in_bounds c.requires.ps_value) c.loop-i.i (c.loop-i.k + 1) c.loop-i.invariant c.loop-i.auto.i (omega arith)
