use mathlib.Core.Path.{sym, ap, ◌∙◌}
use native.Mathlib.Numerals.{add-one}
use native.Mathlib.Omega.{arith}
use Rattle.seal_sums.specs.Sealed.{with_sums}
use Rattle.seal_sums.proofs.Laws.{sealed_to, sealed-none, sealed-next}
use Rattle.seal_sums.proofs.seal_blocks.Goals as goal

pub loop-i-init : goal.loop-i-init
loop-i-init c = sealed-none c.args.b.now

pub loop-i-preserved : goal.loop-i-preserved
loop-i-preserved c =
    let a = c.args in
    let i = c.loop-i.i in
    c.seal_block.ensures ∙ ap (λ x. with_sums x i) c.loop-i.invariant ∙ sealed-next a.b.now i (omega arith)
    ∙ ap (sealed_to a.b.now) (sym (add-one i))
