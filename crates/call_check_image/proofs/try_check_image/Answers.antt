use mathlib.Core.Path.{sym, ap, ◌∙◌}
use Rattle.meaning.specs.Answers.{answer_of, came_to}
use Rattle.image_found.specs.Checked.{answered}
use Rattle.call_check_image.proofs.Calling.{image-answered}
use Rattle.call_check_image.proofs.try_check_image.Goals as goal

pub returns-in_default : goal.returns-in_default
returns-in_default c = ap (λ a. came_to a tt) (c.answer_of.ensures ∙ ap answered c.check-found.ensures) ∙ image-answered c.args.b.now

pub returns : goal.returns
returns c =
    ap (λ a. came_to a tt) (c.done.ensures ∙ ap answered (sym c.in-Ok.is ∙ c.check-found.ensures))
    ∙ image-answered c.args.b.now
