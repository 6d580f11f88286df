use mathlib.Core.Path.{sym, ap, subst, ◌∙◌}
use Prim.Native.Nat.{◌+◌, ◌-◌, ◌*◌, ◌/◌}
use Rattle.std.specs.Prelude.{Some}
use Rattle.image_string.specs.Decides.{Decides}
use Rattle.image_string.specs.Parts.{Counted, Unused}
use Rattle.fault_counts.proofs.Wrong.{wrong_count_lem, none_miscounted, wrong_rest}
use Rattle.fault_counts.proofs.wrong_in_string.Goals as goal
use Rattle.fault_counts.proofs.wrong_in_string.Goals.{After-rest_zero, Else-is_some}

-- every block counts right
counted : (c : goal.Else-is_some) → let a = c.args in Counted a.b.now a.bits_block a.n
counted c =
    let a = c.args in
    none_miscounted a.b.now a.bits_block a.n c.requires.le_n a.miscounted c.requires.lowest_wrong (sym c.is_some.ensures ∙ c.if-is_some.false)

-- what was told of the rest of the last block
rest : (c : goal.After-rest_zero)
    → let a = c.args in
    let last = (a.n - 1) / 4000 in
    Decides c.rest_zero.result (Unused a.b.now (512 * (a.bits_block + last) + 4) (a.n - 4000 * last))
rest c =
    let a = c.args in
    let r = c.rest_zero.result in
    let last = c.last_block-last in
    subst (λ l. Decides r (Unused a.b.now (512 * (a.bits_block + l) + 4) (a.n - 4000 * l))) last.ensures
    (subst (λ at. Decides r (Unused a.b.now at (a.n - 4000 * last.result))) c.bits_at.ensures c.rest_zero.ensures)

pub returns-then-is_some : goal.returns-then-is_some
returns-then-is_some c =
    let a = c.args in
    wrong_count_lem a.b.now a.bits_block a.n c.requires.le_n a.miscounted c.requires.lowest_wrong (sym c.is_some.ensures ∙ c.if-is_some.true)

pub returns : goal.returns
returns c =
    let a = c.args in
    wrong_rest a.b.now a.bits_block a.n c.requires.le_n (Some (a.bits_block + c.last_block-last.result)) (counted (goal.at.returns c).Else-is_some)
    (subst (λ t. Decides t (Unused a.b.now (512 * (a.bits_block + (a.n - 1) / 4000) + 4) (a.n - 4000 * ((a.n - 1) / 4000)))) c.if-rest_zero.false (rest (goal.at.returns c).After-rest_zero))
    (ap (λ l. Some (a.bits_block + l)) c.last_block-last.ensures)
