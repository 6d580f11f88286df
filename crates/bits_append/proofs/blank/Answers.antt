use Rattle.std.proofs.Common.{◌/◌, ◌%◌, ◌+◌, ◌-◌, ◌∙◌, ap, arith, drop, length-take, length-drop, replicate, rules}
use Rattle.theory.specs.Layout.{AreBytes}
use Rattle.bits_append.proofs.Writing.{all_cleared}
use Rattle.bits_append.proofs.blank.Goals as goal

pub returns : goal.returns
returns c =
    let a = c.args in
    let buf = c.append.new.buf in
    let s = a.at / 8 + 1 in
    let bytes : AreBytes a.buf.now = λ i l. search rules in
    let l = length-drop s buf in
    all_cleared a.buf.now buf _ a.at a.n s _ bytes (omega arith) (omega arith) (omega arith) (omega arith) c.append.ensures
    (c.fill.ensures.after (λ y e. e) ∙ ap (λ k. replicate k 0) (omega (arith, length-take (a.at / 8 + (a.n - 1) / 8 + (a.at % 8 + (a.n - 1) % 8) / 8 + 1 - s) (drop s buf), c.append.auto.buf)))
