use mathlib.Core.Path.{◌∙◌}
use Prim.Native.Nat.{◌≤◌}
use native.Mathlib.Omega.{arith}
use lib.ListN.{length}
use Rattle.theory.proofs.Lowest.{bad-low, bad_high, bad-next, bad-end, bad-first, bad-start}
use Rattle.theory.proofs.Places.{none_is, some_is}
use Rattle.parents_check.proofs.bad_entry.Goals as goal

pub returns-then-ps-ne0 : goal.returns-then-ps-ne0
returns-then-ps-ne0 c = some_is (bad-first _ (omega arith) c.if-ps-ne0.true) (omega arith)

pub loop-i-init : goal.loop-i-init
loop-i-init c = bad-start _ (omega arith) c.if-ps-ne0.false

pub returns-then-p-low : goal.returns-then-p-low
returns-then-p-low c = some_is (c.loop-i.invariant ∙ bad-low _ _ _ c.loop-i-test.true c.if-p-low.true) (omega arith)

pub returns-then-p-i : goal.returns-then-p-i
returns-then-p-i c = some_is (c.loop-i.invariant ∙ bad_high _ _ _ c.loop-i-test.true c.if-p-i.true) (omega arith)

pub loop-i-preserved : goal.loop-i-preserved
loop-i-preserved c = c.loop-i.invariant ∙ bad-next _ _ _ c.loop-i-test.true c.if-p-low.false c.if-p-i.false

pub returns : goal.returns
returns c = let e : length c.args.ps.now ≤ c.loop-i.i = omega arith in none_is (c.loop-i.invariant ∙ bad-end _ _ _ e)
