use mathlib.Core.Path.{ap, ◌∙◌}
use Prim.Native.Nat.{◌+◌}
use native.Mathlib.Omega.{arith}
use Rattle.theory.specs.Rank.{position}
use Rattle.theory.specs.Stages.{read_r1}
use Rattle.nav_sibling_range.proofs.Own.{few, more1}
use Rattle.nav_sibling_range.proofs.far_last.Goals as goal

pub overflow_add-rank_r1 : goal.overflow_add-rank_r1
overflow_add-rank_r1 c =
    let a = c.args in
    omega (arith, few a.b.now a.image c.requires.sound, more1 c.requires)

pub select_r1-requires : goal.select_r1-requires
select_r1-requires c =
    record { b_value = c.requires.sound; le_k = omega arith; k_le_runs = omega (arith, more1 c.requires) }

pub returns : goal.returns
returns c =
    let a = c.args in
    c.select_r1.ensures ∙ ap (λ k. position (read_r1 a.b.now) (k + 1)) c.rank_r1.ensures
