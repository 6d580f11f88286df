use Rattle.std.proofs.Common.{sym, arith}
use Rattle.outline_text.proofs.Putting.{both_written, written_as, room_left, decimal-one, decimal_more, size-one, size_more}
use Rattle.outline_text.proofs.Page.+put_decimal.Goals as goal

pub put-requires : goal.put-requires
put-requires t c = omega (arith, size-one c.args.n (omega arith))

pub returns-then-n-lt10 : goal.returns-then-n-lt10
returns-then-n-lt10 t c = written_as (sym (decimal-one c.args.n (omega arith))) c.put.ensures

pub put_decimal-requires : goal.put_decimal-requires
put_decimal-requires t c = omega (arith, size_more c.args.n (omega arith))

pub put-requires-2 : goal.put-requires-2
put-requires-2 t c = omega (arith, room_left c.put_decimal.ensures, size_more c.args.n (omega arith))

pub returns : goal.returns
returns t c = written_as (sym (decimal_more c.args.n (omega arith))) (both_written c.put_decimal.ensures c.put-2.ensures)
