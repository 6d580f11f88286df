use native.Mathlib.Omega.{arith}
use Prim.Native.Nat.{◌/◌}
use Rattle.string_read.proofs.Leftover.{no_leftover, leftover_is}
use Rattle.string_read.proofs.leftover_set.Goals as goal

pub returns-then-used-eq0 : goal.returns-then-used-eq0
returns-then-used-eq0 c = no_leftover c.args.b.now c.args.n c.if-used-eq0.true

pub returns : goal.returns
returns c = leftover_is c.args.b.now c.args.n (omega (arith, c.type_inv.b (c.args.n / 8))) c.if-used-eq0.false
