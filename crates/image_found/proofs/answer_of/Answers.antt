use mathlib.Core.Path.{sym, ap, ◌∙◌}
use Rattle.image_found.specs.Checked.{answered}
use Rattle.image_found.proofs.answer_of.Goals as goal

pub returns-in-Ok : goal.returns-in-Ok
returns-in-Ok c = c.done.ensures ∙ sym (ap answered c.in-Ok.is)

pub returns-in-Err : goal.returns-in-Err
returns-in-Err c = c.from.ensures ∙ sym (ap answered c.in-Err.is)
