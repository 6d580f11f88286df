use native.Mathlib.Omega.{arith}
use mathlib.Core.Path.{sym}
use Rattle.theory.proofs.ByStrings.{within-there, within_low, within_high}
use Rattle.ask_argument.proofs.in_range.Goals as goal

pub returns-then-y-low : goal.returns-then-y-low
returns-then-y-low c =
    let a = c.args in
    (sym (within_low a.low a.high a.y (omega arith)), omega arith)

pub returns-then-high-y : goal.returns-then-high-y
returns-then-high-y c =
    let a = c.args in
    (sym (within_high a.low a.high a.y (omega arith)), omega arith)

pub returns : goal.returns
returns c =
    let a = c.args in
    (sym (within-there a.low a.high a.y (omega arith) (omega arith)), omega arith)
