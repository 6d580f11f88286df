use Rattle.std.specs.Prelude.{Ok}
use mathlib.Core.Path.{◌≡◌, sym, ap, ap₂, ◌∙◌}
use Rattle.meaning.specs.Answers.{answer_of, came_to}
use Rattle.theory.proofs.Settled.{answered}
use Rattle.image_layout.specs.declared.Layout.{Layout}
use Rattle.image_found.specs.Checked as found
use Rattle.call_metres_of_image.proofs.Reading.{metres-refused, metres-absent, metres-room, metres-short, metres-given}
use Rattle.call_metres_of_image.proofs.try_metres_of_image.Goals as goal
use Rattle.call_metres_of_image.proofs.try_metres_of_image.Goals.{In-Ok}

-- the check found the image sound
abbrev layout : goal.In-Ok → Layout
layout k = k.in-Ok.image

sound : (k : goal.In-Ok) → found.checked k.args.b.now ≡ Ok (layout k)
sound k = sym k.check-found.ensures ∙ k.in-Ok.is

pub returns-in_default : goal.returns-in_default
returns-in_default c =
    let a = c.args in
    answered (c.answer_of.ensures ∙ ap found.answered c.in_default.is) (metres-refused a.b.now a.out.now _ (sym c.check-found.ensures ∙ c.in_default.is))

pub returns-in_default-at : goal.returns-in_default-at
returns-in_default-at c =
    let a = c.args in
    answered (ap answer_of c.refuse.ensures) (metres-absent a.b.now a.out.now (layout (goal.at.returns-in_default-at c).In-Ok) (sound (goal.at.returns-in_default-at c).In-Ok) c.in_default-at.is)

pub returns-then-out-nodes : goal.returns-then-out-nodes
returns-then-out-nodes c =
    let a = c.args in
    answered (ap answer_of c.refuse-then-out-nodes.ensures)
    (metres-short a.b.now a.out.now (layout (goal.at.returns-then-out-nodes c).In-Ok) (sound (goal.at.returns-then-out-nodes c).In-Ok) _ c.in-Some.is c.if-out-nodes.true)

pub write_metres-requires : goal.write_metres-requires
write_metres-requires c =
    let a = c.args in
    let r = metres-room a.b.now a.out.now (layout (goal.at.write_metres-requires c).In-Ok) (sound (goal.at.write_metres-requires c).In-Ok) _ c.in-Some.is in
    record { n_bound = r.0; block_le_most_block = r.1.0; n_in_bounds = r.1.1; n_in_bounds_2 = c.if-out-nodes.false }

pub returns : goal.returns
returns c =
    let a = c.args in
    ap₂ came_to c.done.ensures c.write_metres.ensures
    ∙ metres-given a.b.now a.out.now (layout (goal.at.returns c).In-Ok) (sound (goal.at.returns c).In-Ok) _ c.in-Some.is c.if-out-nodes.false
