use Rattle.std.specs.Prelude.{Ok}
use mathlib.Core.Path.{◌≡◌, refl, sym, ap, ◌∙◌}
use native.Mathlib.Nat.{pos_of_ne-zero}
use Rattle.meaning.specs.Answers.{answer_of}
use Rattle.theory.proofs.Settled.{answered as refused_as}
use Rattle.image_found.specs.Checked.{answered, checked}
use Rattle.nav_strings.specs.Nodes.{IsNode}
use Rattle.list_write.proofs.Writing.{to_list}
use Rattle.call_list.proofs.Calling.{list_refused, list_zero, list_beyond, list_deep, list_short, list_room, list_given, where_fits}
use Rattle.call_list.proofs.try_list.Goals as goal
use Rattle.call_list.proofs.try_list.Goals.{Else-image-node, In-Ok}

-- the image that the check found
sound : (c : goal.In-Ok) → checked c.args.b.now ≡ Ok c.in-Ok.image
sound c = sym c.check-found.ensures ∙ c.in-Ok.is

-- a node of it
node : (e : goal.Else-image-node)
    → let a = e.args in IsNode a.b.now e.in-Ok.image a.node
node e = record { sound = sym e.check-found.ensures ∙ e.in-Ok.is; some = pos_of_ne-zero e.if-node-eq0.false; most = e.if-image-node.false }

pub returns-in_default : goal.returns-in_default
returns-in_default c =
    let a = c.args in
    refused_as (c.answer_of.ensures ∙ ap answered c.in_default.is)
    (list_refused a.b.now a.node a.out.now _ (sym c.check-found.ensures ∙ c.in_default.is))

pub returns-then-node-eq0 : goal.returns-then-node-eq0
returns-then-node-eq0 c =
    let a = c.args in
    refused_as (ap answer_of c.refuse.ensures)
    (list_zero a.b.now a.node a.out.now c.in-Ok.image (sound (goal.at.returns-then-node-eq0 c).In-Ok) c.if-node-eq0.true)

pub returns-then-image-node : goal.returns-then-image-node
returns-then-image-node c =
    let a = c.args in
    refused_as (ap answer_of c.refuse-then-image-node.ensures)
    (list_beyond a.b.now a.node a.out.now c.in-Ok.image (sound (goal.at.returns-then-image-node c).In-Ok) c.if-image-node.true)

pub measure-requires : goal.measure-requires
measure-requires c = record { node = node (goal.at.measure-requires c).Else-image-node; cursors_len = refl }

pub returns-then-out-nodes : goal.returns-then-out-nodes
returns-then-out-nodes c =
    let a = c.args in
    refused_as (ap answer_of c.refuse-then-out-nodes.ensures)
    (list_short a.b.now a.node a.out.now c.in-Ok.image (sound (goal.at.returns-then-out-nodes c).In-Ok) (pos_of_ne-zero c.if-node-eq0.false) c.if-image-node.false
    c.in-Ok-measure.nodes (sym c.in-Ok-measure.is ∙ c.measure.ensures.value) c.if-out-nodes.true)

pub list_node-requires : goal.list_node-requires
list_node-requires c =
    let a = c.args in
    let measured = c.measure.ensures in
    let room =
    list_room a.b.now a.node a.out.now c.in-Ok.image (sound (goal.at.list_node-requires c).In-Ok) (node (goal.at.list_node-requires c).Else-image-node).some c.if-image-node.false
    c.in-Ok-measure.nodes (sym c.in-Ok-measure.is ∙ measured.value) c.if-out-nodes.false in
    to_list (node (goal.at.list_node-requires c).Else-image-node) _ a.out.now measured.cursors_len_2 (where_fits _ _ c.in-Ok-measure.is measured.where_fits) room

pub returns-in-Err : goal.returns-in-Err
returns-in-Err c =
    let a = c.args in
    refused_as (ap answer_of c.refuse-in-Err.ensures)
    (list_deep a.b.now a.node a.out.now c.in-Ok.image (sound (goal.at.returns-in-Err c).In-Ok) (pos_of_ne-zero c.if-node-eq0.false) c.if-image-node.false
    c.in-Err.first (sym c.in-Err.is ∙ c.measure.ensures.value))

pub returns : goal.returns
returns c =
    let a = c.args in
    list_given a.b.now a.node a.out.now c.in-Ok.image (sound (goal.at.returns c).In-Ok) (pos_of_ne-zero c.if-node-eq0.false) c.if-image-node.false
    c.in-Ok-measure.nodes (sym c.in-Ok-measure.is ∙ c.measure.ensures.value) c.if-out-nodes.false _ _ c.done.ensures c.list_node.ensures.pairs
