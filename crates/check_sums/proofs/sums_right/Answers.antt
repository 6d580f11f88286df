use mathlib.Core.Path.{sym, ap, ◌∙◌}
use native.Mathlib.Omega.{arith}
use lib.Dec.{eqb}
use Rattle.theory.specs.Layout.{AreBytes}
use Rattle.check_sums.proofs.Checking.{wrong_first, right_second}
use Rattle.check_sums.proofs.sums_right.Goals as goal

pub returns-then-word-right : goal.returns-then-word-right
returns-then-word-right c =
    let a = c.args in
    let r = c.block_sums-right.result in
    wrong_first a.b.now a.i r.s r.t c.requires.i_in_bounds (omega arith) (omega arith) c.block_sums-right.ensures
    (λ e. c.if-word-right.true (c.word.ensures ∙ e))

pub returns : goal.returns
returns c =
    let a = c.args in
    let r = c.block_sums-right.result in
    let bytes : AreBytes a.b.now = λ k l. omega (arith, c.type_inv.b k) in
    ap (λ w. eqb w r.t) c.word-2.ensures
    ∙ right_second a.b.now a.i r.s r.t c.requires.i_in_bounds (omega arith) (omega arith)
    c.block_sums-right.ensures bytes (sym c.word.ensures ∙ c.if-word-right.false)
