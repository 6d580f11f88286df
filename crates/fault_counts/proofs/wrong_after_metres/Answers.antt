use mathlib.Core.Path.{sym, subst}
use Rattle.fault_counts.specs.After.{LowestAfterMetres}
use Rattle.fault_counts.proofs.wrong_after_metres.Goals as goal

pub returns : goal.returns
returns c =
    let a = c.args in
    subst (λ m. LowestAfterMetres a.b.now m a.layout.nodes c.wrong_after_list.result) (sym c.in-Some.is) c.wrong_after_list.ensures
