use mathlib.Core.Path.{sym, ap, ◌∙◌}
use Rattle.theory.specs.Rank.{position}
use Rattle.theory.specs.Stages.{read_r1}
use Rattle.theory.proofs.Navigate.{position-zero}
use Rattle.nav_sibling_range.proofs.run_end.Goals as goal

pub returns-then-k-eq0 : goal.returns-then-k-eq0
returns-then-k-eq0 c =
    let a = c.args in
    let r = read_r1 a.b.now in
    sym (ap (position r) c.if-k-eq0.true ∙ position-zero r)
