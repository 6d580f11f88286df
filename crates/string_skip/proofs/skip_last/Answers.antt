use mathlib.Core.Path.{refl}
use mathlib.Core.Logic.{inl, inr}
use Prim.Native.Nat.{◌+◌, ◌-◌, ◌*◌, ◌/◌, ◌≤◌}
use native.Mathlib.Omega.{arith}
use Rattle.theory.specs.Layout.{AreBytes}
use Rattle.string_skip.specs.Strides.{ReadOn}
use Rattle.string_skip.proofs.Whole.{none_yet, more, more_left, Told, told}
use Rattle.string_skip.proofs.skip_last.Goals as goal
use Rattle.string_skip.proofs.skip_last.Goals.{Joined-passed-left, then-passed-left, else-passed-left}

-- the bytes that are passed over are among the last ones
known : (c : goal.Joined-passed-left) →
    let a = c.args in
    (c.if-passed-left.bytes ≤ a.n / 8 - a.from.at) × Told a.b.now a.from.at a.from.pending c.if-passed-left.bytes c.bytes_passed-passed.result.opened
known c =
    let a = c.args in
    let left = a.n / 8 - a.from.at in
    let r = c.bytes_passed-passed.result in
    let are : AreBytes a.b.now = λ i l. omega (arith, c.type_inv.b i) in
    let tell = told a.b.now are a.from.at left c.last_word.result a.from.pending c.last_word.ensures r c.bytes_passed-passed.ensures in
    elim c.if-passed-left.branch [
      | then-passed-left w ↦ rw w.bytes-is (omega (arith, w.if-passed-left.true), tell r.bytes (omega (arith, w.if-passed-left.true)) (omega arith) (inl refl))
      | else-passed-left w ↦ rw w.bytes-is (omega arith, tell left (omega arith) w.if-passed-left.false (inr refl))
    ]

on : (c : goal.Joined-passed-left) →
    let a = c.args in
    let r = c.bytes_passed-passed.result in
    (8 * c.if-passed-left.bytes ≤ a.from.pending + 2 * r.opened)
    × ReadOn a.b.now a.n a.from
    (record { at = a.from.at + c.if-passed-left.bytes; pending = a.from.pending + 2 * r.opened - 8 * c.if-passed-left.bytes; room = a.from.room - r.opened })
on c =
    let a = c.args in
    let r = c.bytes_passed-passed.result in
    let t = known c in
    let first = none_yet a.b.now a.n a.from c.requires.stands in
    let here : a.from.at + c.if-passed-left.bytes ≤ a.n / 8 = omega (arith, t.0, c.requires.stands.within) in (
      more_left a.b.now a.n a.from a.from first c.if-passed-left.bytes r.opened here t.1.opened t.1.falls,
      more a.b.now a.n a.from a.from first c.if-passed-left.bytes r.opened here t.1.opened t.1.falls c.if-from-passed.false,
    )

pub overflow_sub-result : goal.overflow_sub-result
overflow_sub-result c = omega (arith, (on (goal.at.overflow_sub-result c).Joined-passed-left).0)

pub returns : goal.returns
returns c = (on (goal.at.returns c).Joined-passed-left).1
