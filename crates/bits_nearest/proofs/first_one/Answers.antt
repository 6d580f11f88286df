use Prim.Native.Nat.{◌+◌, ◌*◌}
use native.Mathlib.Omega.{arith}
use Rattle.bits_nearest.proofs.Steps.{joined, earlier_found, none_from, met_from}
use Rattle.bits_nearest.proofs.first_one.Goals as goal

pub returns-then-near-ne0 : goal.returns-then-near-ne0
returns-then-near-ne0 c =
    let a = c.args in
    let loop = c.loop-next in
    let next = loop.next in
    let from = c.word_from-from.result in
    let w = c.whole_word in
    earlier_found a.b.now (8 * a.at) a.n next _ loop.invariant.0 loop.invariant.2
    (met_from a.b.now a.at from next w.result (omega arith) (omega arith) w.ensures c.if-near-ne0.true (omega arith))

pub loop-next-preserved : goal.loop-next-preserved
loop-next-preserved c =
    let a = c.args in
    let loop = c.loop-next in
    let next = loop.next in
    let from = c.word_from-from.result in
    let w = c.whole_word in (
      omega arith,
      omega arith,
      joined a.b.now (8 * a.at) a.n next (8 * from + 64) loop.invariant.2
          (none_from a.b.now a.at from next w.result (omega arith) (omega arith) w.ensures c.if-near-ne0.false),
    )
