use mathlib.Core.Path.{refl}
use mathlib.Core.Logic.{inl}
use Prim.Native.Nat.{◌+◌, ◌-◌, ◌*◌, ◌/◌, ◌≤◌}
use native.Mathlib.Omega.{arith}
use Rattle.theory.specs.Layout.{AreBytes}
use Rattle.string_skip.specs.Strides.{ReadOn}
use Rattle.string_skip.proofs.Whole.{more, more_left, Told, told}
use Rattle.string_skip.proofs.skip_bytes.Goals as goal
use Rattle.string_skip.proofs.skip_bytes.Goals.{Else-r-passed}

known : (c : goal.Else-r-passed) →
    let r = c.loop-r.r in
    let p = c.bytes_passed-passed.result in
    Told c.args.b.now r.at r.pending p.bytes p.opened
known c =
    let b = c.args.b.now in
    let r = c.loop-r.r in
    let p = c.bytes_passed-passed.result in
    let are : AreBytes b = λ i l. omega (arith, c.type_inv.b i) in
    told b are r.at 8 c.stored_word.result r.pending c.stored_word.ensures p c.bytes_passed-passed.ensures p.bytes c.bytes_passed-passed.ensures.few
    (omega arith) (inl refl)

-- the bytes are there, and passed over
on : (c : goal.Else-r-passed) →
    let l = c.loop-r in
    let p = c.bytes_passed-passed.result in
    (8 * p.bytes ≤ l.r.pending + 2 * p.opened)
    × ReadOn c.args.b.now
    c.args.n
    c.args.from
    (record { at = l.r.at + p.bytes; pending = l.r.pending + 2 * p.opened - 8 * p.bytes; room = l.r.room - p.opened })
on c =
    let p = c.bytes_passed-passed.result in
    let t = known c in
    let few = c.bytes_passed-passed.ensures.few in
    let here : c.loop-r.r.at + p.bytes ≤ c.args.n / 8 = omega (arith, few, c.loop-r-test.true) in (
      more_left _ _ _ c.loop-r.r c.loop-r.invariant p.bytes p.opened here t.opened t.falls,
      more _ _ _ c.loop-r.r c.loop-r.invariant p.bytes p.opened here t.opened t.falls c.if-r-passed.false,
    )

pub overflow_sub-r : goal.overflow_sub-r
overflow_sub-r c = omega (arith, (on (goal.at.overflow_sub-r c).Else-r-passed).0)

pub returns-then-passed-lt8 : goal.returns-then-passed-lt8
returns-then-passed-lt8 c = (on (goal.at.returns-then-passed-lt8 c).Else-r-passed).1

pub loop-r-preserved : goal.loop-r-preserved
loop-r-preserved c = (on (goal.at.loop-r-preserved c).Else-r-passed).1
