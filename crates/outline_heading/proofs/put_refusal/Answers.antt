use native.Mathlib.Omega.{arith}
use Rattle.outline_text.proofs.Putting.{both_written, written_as, room_left}
use Rattle.outline_heading.proofs.Sizes.{refusal_pieces, refusal-size}
use Rattle.outline_heading.proofs.put_refusal.Goals as goal

pub put_field-requires : goal.put_field-requires
put_field-requires c = omega (arith, refusal-size c.args.a)

pub put_field-requires-2 : goal.put_field-requires-2
put_field-requires-2 c = omega (arith, refusal-size c.args.a, room_left c.put_field.ensures)

pub put-requires : goal.put-requires
put-requires c = omega (arith, refusal-size c.args.a, room_left c.put_field.ensures, room_left c.put_field-2.ensures)

pub returns : goal.returns
returns c =
    written_as (refusal_pieces c.args.a) (both_written c.put_field.ensures (both_written c.put_field-2.ensures c.put.ensures))
