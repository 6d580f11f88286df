use native.Mathlib.Omega.{arith}
use mathlib.Core.Path.{sym, ap, ◌∙◌}
use Prim.Native.Nat.{◌+◌}
use Rattle.theory.specs.Rank.{position}
use Rattle.theory.specs.Stages.{read_r1, read_r0}
use Rattle.nav_sibling_range.proofs.Own.{few, more0}
use Rattle.nav_children.proofs.Families.{before_at}
use Rattle.nav_children.proofs.ones_before_zero.Goals as goal

pub overflow_add-rank_r0 : goal.overflow_add-rank_r0
overflow_add-rank_r0 c =
    let a = c.args in
    omega (arith, few a.b.now a.image c.requires.b_value, more0 a.b.now a.image c.requires.b_value a.z c.requires.le_z c.requires.z_bound)

pub select_r1-requires : goal.select_r1-requires
select_r1-requires c =
    let a = c.args in
    record { b_value = c.requires.b_value; le_k = omega arith; k_le_runs = omega (arith, more0 a.b.now a.image c.requires.b_value a.z c.requires.le_z c.requires.z_bound) }

pub returns : goal.returns
returns c =
    let a = c.args in
    let r = read_r1 a.b.now in
    c.select_r1.ensures ∙ ap (λ k. position r (1 + k)) c.rank_r0.ensures ∙ sym (before_at r (read_r0 a.b.now) a.z c.requires.le_z)
