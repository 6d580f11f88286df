use mathlib.Core.Path.{ap, ◌∙◌}
use native.Mathlib.Omega.{arith}
use Rattle.theory.specs.Rank.{position}
use Rattle.theory.specs.Stages.{read_r1}
use Rattle.nav_sibling_range.proofs.Own.{more1}
use Rattle.nav_sibling_range.proofs.far_before.Goals as goal

pub run_end-requires : goal.run_end-requires
run_end-requires c =
    record { b_value = c.requires.sound; k_le_runs = omega (arith, more1 c.requires) }

pub returns : goal.returns
returns c =
    let a = c.args in
    c.run_end.ensures ∙ ap (position (read_r1 a.b.now)) c.rank_r1.ensures
