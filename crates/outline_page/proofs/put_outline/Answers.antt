use Rattle.std.specs.Prelude.{Ok}
use mathlib.Core.Path.{◌≡◌, sym, ap, ◌∙◌}
use Prim.Native.Nat.{◌*◌, ◌≤◌}
use lib.ListN.{length, take}
use native.Mathlib.Omega.{arith}
use Rattle.meaning.specs.Image.{parents_in, metres_in}
use Rattle.image_found.specs.Checked.{answered, checked}
use Rattle.list_measure.proofs.Numbers.{parents-count}
use Rattle.outline_heading.specs.Lines.{heading, node_lines, refusal}
use Rattle.outline_text.proofs.Putting.{both_written, written_as, room_left}
use Rattle.outline_heading.proofs.Sizes.{heading_most, refusal_most, lines_most}
use Rattle.outline_page.proofs.Root.{Whole}
use Rattle.outline_page.proofs.Outlining.{Listed, too_long, outline_refused, outline_many, outline_listed, metres-words}
use Rattle.outline_page.proofs.put_outline.Goals as goal
use Rattle.outline_page.proofs.put_outline.Goals.{After-list-listed, Else-b-gt-MOST_BYTES, Else-listed-ne0, In-Ok}

-- the bytes are no more than 96 blocks
fits : (c : goal.Else-b-gt-MOST_BYTES) → length c.args.b.now ≤ 49152
fits c = omega (arith, c.if-b-gt-MOST_BYTES.false)

-- the image that the check found
sound : (c : goal.In-Ok) → checked c.args.b.now ≡ Ok c.in-Ok.image
sound c = sym c.check-found.ensures ∙ c.in-Ok.is

-- what the listing of its root gave
few-bytes : (c : goal.After-list-listed) → length c.args.b.now ≤ 49152
few-bytes c = omega (arith, c.if-b-gt-MOST_BYTES.false)

is-sound : (c : goal.After-list-listed) → checked c.args.b.now ≡ Ok c.in-Ok.image
is-sound c = sym c.check-found.ensures ∙ c.in-Ok.is

listed : (c : goal.After-list-listed) → Listed c.args.b.now (few-bytes c) c.in-Ok.image (is-sound c) c.list-listed.result c.list-listed.new.out
listed c =
    let a = c.args in
    outline_listed a.b.now (few-bytes c) c.in-Ok.image (is-sound c) (omega arith) a.pairs.now (omega arith) _ _ c.list-listed.ensures

-- the heading is short
short : (c : goal.In-Ok) → let i = c.in-Ok.image in length (heading i.nodes i.runs i.blocks) ≤ 44
short c = let i = c.in-Ok.image in heading_most i.nodes i.runs i.blocks (omega arith) (omega arith) (omega arith)

-- there is room for the lines of its nodes
room : (c : goal.Else-listed-ne0)
    → Whole c.in-Ok.image.nodes (take (2 * c.in-Ok.image.nodes) c.list-listed.new.out)
    → let b = c.args.b.now in length (node_lines (parents_in b) (metres_in b) (take (2 * c.in-Ok.image.nodes) c.list-listed.new.out)) ≤ 96000
room c w =
    let b = c.args.b.now in
    let i = c.in-Ok.image in
    let few : i.nodes ≤ 4000 = omega (arith, c.if-nodes-gt-MOST_LISTED.false) in
    let e : checked b ≡ Ok i = sym c.check-found.ensures ∙ c.in-Ok.is in
    omega (
      arith,
      w.size,
      lines_most i.nodes (parents_in b) (metres_in b) few (parents-count b i e) (metres-words b i e) (take (2 * i.nodes) c.list-listed.new.out) w.nodes,
    )

pub put_refusal-requires : goal.put_refusal-requires
put_refusal-requires c = let a = c.from.result in omega (arith, c.requires.room, refusal_most a (omega arith) (omega arith))

pub returns-then-b-gt-MOST_BYTES : goal.returns-then-b-gt-MOST_BYTES
returns-then-b-gt-MOST_BYTES c = written_as (sym (too_long c.args.b.now c.if-b-gt-MOST_BYTES.true ∙ ap refusal (sym c.from.ensures))) c.put_refusal.ensures

pub put_refusal-requires-in_default : goal.put_refusal-requires-in_default
put_refusal-requires-in_default c = let a = c.answer_of.result in omega (arith, c.requires.room, refusal_most a (omega arith) (omega arith))

pub returns-in_default : goal.returns-in_default
returns-in_default c =
    let told = c.in_default.is in
    written_as
    (sym (outline_refused c.args.b.now (fits (goal.at.returns-in_default c).Else-b-gt-MOST_BYTES) _ (sym c.check-found.ensures ∙ told)
    ∙ ap refusal (sym (c.answer_of.ensures ∙ ap answered told))))
    c.put_refusal-in_default.ensures

pub put_heading-requires : goal.put_heading-requires
put_heading-requires c = omega (arith, c.requires.room, short (goal.at.put_heading-requires c).In-Ok)

pub returns-then-nodes-gt-MOST_LISTED : goal.returns-then-nodes-gt-MOST_LISTED
returns-then-nodes-gt-MOST_LISTED c =
    let g = goal.at.returns-then-nodes-gt-MOST_LISTED c in
    written_as (sym (outline_many c.args.b.now (fits g.Else-b-gt-MOST_BYTES) c.in-Ok.image (sound g.In-Ok) (omega arith))) c.put_heading.ensures

pub put_refusal-requires-then-listed-ne0 : goal.put_refusal-requires-then-listed-ne0
put_refusal-requires-then-listed-ne0 c = let a = c.list-listed.result in omega (arith, c.requires.room, refusal_most a (omega arith) (omega arith))

pub returns-then-listed-ne0 : goal.returns-then-listed-ne0
returns-then-listed-ne0 c =
    written_as (sym ((listed (goal.at.returns-then-listed-ne0 c).After-list-listed).refused c.if-listed-ne0.true)) c.put_refusal-then-listed-ne0.ensures

pub put_heading-requires-2 : goal.put_heading-requires-2
put_heading-requires-2 c = omega (arith, c.requires.room, short (goal.at.put_heading-requires-2 c).In-Ok)

pub slice_bounds-put_nodes-end-2 : goal.slice_bounds-put_nodes-end-2
slice_bounds-put_nodes-end-2 c = sym ((listed (goal.at.slice_bounds-put_nodes-end-2 c).After-list-listed).whole c.if-listed-ne0.false).size

pub put_nodes-requires : goal.put_nodes-requires
put_nodes-requires c =
    let g = goal.at.put_nodes-requires c in
    let w = (listed g.After-list-listed).whole c.if-listed-ne0.false in
    record {
      b_value = sound g.In-Ok;
      pairs = w.nodes;
      room = omega (arith, room_left c.put_heading-2.ensures, short g.In-Ok, room g.Else-listed-ne0 w, c.requires.room);
    }

pub returns : goal.returns
returns c =
    written_as (sym ((listed (goal.at.returns c).After-list-listed).lines c.if-listed-ne0.false)) (both_written c.put_heading-2.ensures c.put_nodes.ensures)
