use mathlib.Core.Path.{sym, ◌∙◌}
use native.Mathlib.Omega.{arith}
use Rattle.meaning.specs.Image.{string_in}
use Rattle.theory.specs.Stages.{Ended}
use Rattle.image_string.proofs.Saying.{decides_is}
use Rattle.image_string.proofs.Pieces.{ended, ended_last}
use Rattle.check_ends.proofs.string_ended.Goals as goal

pub returns : goal.returns
returns c =
    let string-bit = c.string_bit in
    let a = c.args in
    let r = string-bit.result in
    decides_is r 1 (Ended a.m (string_in a.b.now a.bits_block 0 a.n))
    (ended a.b.now a.bits_block a.n a.m r (omega arith) string-bit.ensures (sym c.ones_in_string.ensures ∙ c.if-ones_in_string-m.false))
    (ended_last a.b.now a.bits_block a.n a.m r (omega arith) string-bit.ensures)
