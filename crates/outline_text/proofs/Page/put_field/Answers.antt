use native.Mathlib.Omega.{arith}
use lib.ListN.{length-append}
use Rattle.outline_text.specs.Text.{decimal}
use Rattle.outline_text.proofs.Putting.{both_written, room_left}
use Rattle.outline_text.proofs.Page.put_field.Goals as goal

pub put-requires : goal.put-requires
put-requires c = omega (arith, length-append c.args.before.now (decimal c.args.n))

pub put_decimal-requires : goal.put_decimal-requires
put_decimal-requires c = omega (arith, room_left c.put.ensures, length-append c.args.before.now (decimal c.args.n))

pub returns : goal.returns
returns c = both_written c.put.ensures c.put_decimal.ensures
