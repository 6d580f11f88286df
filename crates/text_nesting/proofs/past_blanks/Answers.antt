use Rattle.std.proofs.Common.{arith, sym, ◌∙◌}
use Rattle.text_nesting.proofs.Laws.{then, blank}
use Rattle.text_nesting.proofs.past_blanks.Goals as goal

pub loop-at-preserved : goal.loop-at-preserved
loop-at-preserved c =
    let l = c.loop-at in
    let h = c.loop-at-test.true in
    (omega arith, λ s levels g. then (l.invariant.1 s levels g) (blank _ _ h s levels g (sym c.is_blank.ensures ∙ c.if-not-is_blank.false)))
