use mathlib.Core.Path.{ap, ◌∙◌}
use native.Mathlib.Omega.{arith}
use lib.ListN.{take, length-take}
use Rattle.meaning.specs.Strings.{ones}
use Rattle.bits_byte.specs.Byte.{byte_bits}
use Rattle.bits_byte.proofs.Counting.{number-ones}
use Rattle.bits_byte.proofs.ones_in_front.Goals as goal

pub returns : goal.returns
returns c =
    let x = c.args.x in
    let n = c.args.n in
    let new = take n (byte_bits x) in
    c.ones_in_byte.ensures ∙ ap (λ y. ones (byte_bits y)) c.keep.ensures ∙ number-ones new (omega (arith, length-take n (byte_bits x)))
