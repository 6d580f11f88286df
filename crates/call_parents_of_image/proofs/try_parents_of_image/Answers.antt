use mathlib.Core.Path.{◌≡◌, sym, ap, ap₂, ◌∙◌}
use Rattle.meaning.specs.Answers.{came_to, answer_of}
use Rattle.theory.proofs.Settled.{answered}
use Rattle.image_found.specs.Checked as found
use Rattle.image_found.proofs.Finding.{sound_known}
use Rattle.call_parents_of_image.proofs.Reading.{sound_fits, parents-refused, parents-short, parents-given}
use Rattle.call_parents_of_image.proofs.try_parents_of_image.Goals as goal

pub returns-in_default : goal.returns-in_default
returns-in_default c =
    answered (c.answer_of.ensures ∙ ap found.answered c.in_default.is)
    (parents-refused c.args.b.now c.args.out.now _ (sym c.check-found.ensures ∙ c.in_default.is))

pub returns-then-out-nodes : goal.returns-then-out-nodes
returns-then-out-nodes c = answered (ap answer_of c.refuse.ensures) (parents-short c.args.b.now c.args.out.now c.in-Ok.image (sym c.check-found.ensures ∙ c.in-Ok.is) c.if-out-nodes.true)

pub write_parents-requires : goal.write_parents-requires
write_parents-requires c =
    let image = c.in-Ok.image in
    let f = sound_fits c.args.b.now image (sound_known c.args.b.now image (sym c.check-found.ensures ∙ c.in-Ok.is)) in
    record { n_bound = f.most; zeros_value = f.from; n_in_bounds = f.room; in_runs = f.runs; n_in_bounds_2 = c.if-out-nodes.false }

pub returns : goal.returns
returns c =
    ap₂ came_to c.done.ensures c.write_parents.ensures
    ∙ parents-given c.args.b.now c.args.out.now c.in-Ok.image (sym c.check-found.ensures ∙ c.in-Ok.is) c.if-out-nodes.false
