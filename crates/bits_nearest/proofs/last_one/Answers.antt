use Prim.Native.Nat.{◌-◌, ◌*◌}
use native.Mathlib.Omega.{arith}
use Rattle.bits_nearest.proofs.Steps.{joined, later-found, none_to, behind-le, met_to}
use Rattle.bits_nearest.proofs.last_one.Goals as goal

pub overflow_sub-result : goal.overflow_sub-result
overflow_sub-result c =
    let a = c.args in
    let left = c.loop-left.left in
    let from = c.word_to-from.result in
    let w = c.whole_word in
    omega (arith, behind-le a.b.now a.at from (left - 1) w.result (omega arith) (omega arith) w.ensures c.if-near-ne0.true)

pub returns-then-near-ne0 : goal.returns-then-near-ne0
returns-then-near-ne0 c =
    let a = c.args in
    let loop = c.loop-left in
    let left = loop.left in
    let from = c.word_to-from.result in
    let w = c.whole_word in
    later-found a.b.now (8 * a.at) a.n left _ loop.invariant.0 loop.invariant.1
    (met_to a.b.now a.at from (left - 1) w.result (omega arith) (omega arith) w.ensures c.if-near-ne0.true left (omega arith))

pub loop-left-preserved : goal.loop-left-preserved
loop-left-preserved c =
    let a = c.args in
    let loop = c.loop-left in
    let left = loop.left in
    let from = c.word_to-from.result in
    let w = c.whole_word in (
      omega arith,
      joined a.b.now (8 * a.at) (8 * from) left a.n
          (none_to a.b.now a.at from (left - 1) w.result (omega arith) (omega arith) w.ensures c.if-near-ne0.false left (omega arith)) loop.invariant.1,
    )
