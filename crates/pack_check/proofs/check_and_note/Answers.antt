use mathlib.Core.Path.{◌≡◌, sym, ap, ap₂, ◌∙◌}
use Rattle.meaning.specs.Answers.{◌at◌when◌, alone, over}
use Rattle.pack_scan.specs.Numbers.{pack_row}
use Rattle.pack_check.proofs.Rows.{is_over, held}
use Rattle.pack_check.proofs.check_and_note.Goals as goal
use Rattle.pack_check.proofs.check_and_note.Goals.{in-Ok, in-Err}

pub returns-clause-value : goal.returns-clause-value
returns-clause-value c =
    let a = c.args in
    let scan = c.scan_trees-pack in
    let leftover = c.row-leftover.ensures ∙ ap (λ b. alone (5 at 0 when b)) c.leftover_set.ensures in
    let by_scan : c.match-pack.held ≡ alone (pack_row scan.result a.trees) =
    elim c.match-pack.branch [
      | in-Ok w ↦ w.held-is ∙ w.row-held.ensures ∙ ap (λ p. alone (pack_row p a.trees)) (sym w.in-Ok.is)
      | in-Err w ↦ w.held-is ∙ ap (λ p. alone (pack_row p a.trees)) (sym w.in-Err.is)
    ]
    in c.and.ensures ∙ is_over c.row-leftover.result c.match-pack.held ∙ ap₂ over leftover by_scan ∙ held a.b.now a.n a.trees scan.result scan.ensures.result_value
