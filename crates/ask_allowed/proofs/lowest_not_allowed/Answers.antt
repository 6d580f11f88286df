use mathlib.Core.Path.{sym, ap, ◌∙◌}
use Prim.Native.Nat.{◌+◌}
use native.Mathlib.Omega.{arith}
use Rattle.theory.specs.Places.{place_of}
use Rattle.theory.proofs.Places.{place_of-none, place_of-some}
use Rattle.ask_allowed.proofs.Turns.{bad-end, bad-here, bad-next}
use Rattle.ask_allowed.proofs.lowest_not_allowed.Goals as goal

pub returns-then-not-allowed_at : goal.returns-then-not-allowed_at
returns-then-not-allowed_at c =
    let a = c.args in
    sym
    (ap place_of (c.loop-i.invariant ∙ bad-here a.n a.metres a.asked.now c.loop-i.i (omega arith) (sym c.allowed_at.ensures ∙ c.if-not-allowed_at.true))
    ∙ place_of-some (c.loop-i.i + 1) (omega arith))

pub loop-i-preserved : goal.loop-i-preserved
loop-i-preserved c =
    let a = c.args in
    c.loop-i.invariant
    ∙ bad-next a.n a.metres a.asked.now c.loop-i.i (omega arith)
    (sym c.allowed_at.ensures ∙ c.if-not-allowed_at.false)

pub returns : goal.returns
returns c =
    let a = c.args in
    sym (place_of-none _ (c.loop-i.invariant ∙ bad-end a.n a.metres a.asked.now c.loop-i.i (omega arith)))
