use mathlib.Core.Path.{◌≡◌, refl, ap, subst}
use Prim.Native.Nat.{◌+◌, ◌-◌}
use native.Mathlib.Omega.{arith}
use Rattle.std.specs.Prelude.{Some, None}
use Rattle.theory.specs.Stages.{word_blocks}
use Rattle.image_string.specs.Decides.{Decides}
use Rattle.check_sample.specs.Words.{ListEnds}
use Rattle.fault_counts.proofs.Wrong.{none_after, wrong_after_lem}
use Rattle.fault_counts.proofs.wrong_after_list.Goals as goal

pub returns-then-list_ended : goal.returns-then-list_ended
returns-then-list_ended c =
    let a = c.args in
    none_after a.b.now a.block a.count None (subst (λ t. Decides t (ListEnds a.b.now a.block a.count)) c.if-list_ended.true c.list_ended.ensures) refl

pub returns : goal.returns
returns c =
    let a = c.args in
    let last : a.block + c.list_blocks.result - 1 ≡ a.block + (word_blocks a.count - 1) = omega (arith, c.list_blocks.ensures) in
    wrong_after_lem a.b.now a.block a.count (Some (a.block + c.list_blocks.result - 1)) c.requires.le_count
    (subst (λ t. Decides t (ListEnds a.b.now a.block a.count)) c.if-list_ended.false c.list_ended.ensures) (ap Some last)
