use Rattle.std.proofs.Common.{refl, arith, rules}
use Rattle.parents_check.proofs.Rising.{good_parents}
use Rattle.string_write.proofs.Marking.{marked_first, marked_next, marked_last}
use Rattle.string_write.proofs.write_string.Goals as goal

pub loop-i-init : goal.loop-i-init
loop-i-init c =
    marked_first _ _ _ _ (good_parents _ c.requires.in_bounds c.requires.ps_value)
    c.blank.ensures

pub loop-i-preserved : goal.loop-i-preserved
loop-i-preserved c =
    marked_next _ _ _ _ _ c.loop-i.invariant c.loop-i-test.true _ _ c.set_bit.ensures
    refl (λ i h. search rules) (omega (arith, c.blank.auto.buf))

pub returns : goal.returns
returns c =
    marked_last _ _ _ _ _ _ (good_parents _ c.requires.in_bounds c.requires.ps_value) c.blank.ensures c.loop-i.invariant c.loop-i-test.false
