use mathlib.Core.Path.{refl}
use Prim.Native.Nat.{◌+◌, ◌*◌, ◌/◌, ◌%◌}
use Rattle.image_string.specs.Parts.{ZeroBytes}
use Rattle.image_string.proofs.Saying.{decides_same}
use Rattle.check_sample.specs.Words.{ListEnds}
use Rattle.check_sample.proofs.Ending.{rest-zero, zero_rest}
use Rattle.check_sample.proofs.list_ended.Goals as goal

pub returns : goal.returns
returns c =
    let a = c.args in
    let b = a.b.now in
    let at = 512 * (a.block + a.count / 126) in
    decides_same c.all_zero.result (ZeroBytes b (at + 4 * (a.count % 126)) (at + 504)) (ListEnds b a.block a.count)
    (rest-zero b a.block a.count c.if-count-eq0.false at refl) (zero_rest b a.block a.count c.if-count-eq0.false at refl) c.all_zero.ensures
