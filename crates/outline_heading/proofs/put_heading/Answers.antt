use native.Mathlib.Omega.{arith}
use Rattle.outline_text.proofs.Putting.{both_written, written_as, room_left}
use Rattle.outline_heading.proofs.Sizes.{heading_pieces, heading-size}
use Rattle.outline_heading.proofs.put_heading.Goals as goal

pub put_field-requires : goal.put_field-requires
put_field-requires c = let i = c.args.image in omega (arith, heading-size i.nodes i.runs i.blocks)

pub put_field-requires-2 : goal.put_field-requires-2
put_field-requires-2 c = let i = c.args.image in omega (arith, heading-size i.nodes i.runs i.blocks, room_left c.put_field.ensures)

pub put_field-requires-3 : goal.put_field-requires-3
put_field-requires-3 c =
    let i = c.args.image in
    omega (arith, heading-size i.nodes i.runs i.blocks, room_left c.put_field.ensures, room_left c.put_field-2.ensures)

pub put-requires : goal.put-requires
put-requires c =
    let i = c.args.image in
    omega (arith, heading-size i.nodes i.runs i.blocks, room_left c.put_field.ensures, room_left c.put_field-2.ensures, room_left c.put_field-3.ensures)

pub returns : goal.returns
returns c =
    let i = c.args.image in
    written_as (heading_pieces i.nodes i.runs i.blocks)
    (both_written c.put_field.ensures (both_written c.put_field-2.ensures (both_written c.put_field-3.ensures c.put.ensures)))
