use native.Mathlib.Omega.{arith}
use mathlib.Core.Path.{sym, ap, ◌∙◌}
use Rattle.theory.specs.Rank.{position}
use Rattle.theory.specs.Stages.{read_r0}
use Rattle.theory.proofs.Navigate.{position-zero}
use Rattle.nav_sibling_range.proofs.Own.{more1, small0}
use Rattle.nav_children.proofs.Families.{parent_given}
use Rattle.nav_children.proofs.parent_of.Goals as goal

pub returns-then-k-eq0 : goal.returns-then-k-eq0
returns-then-k-eq0 c =
    let a = c.args in
    let r = read_r0 a.b.now in
    parent_given c.requires c.rank_r1-k.result 0 c.rank_r1-k.ensures (sym (ap (position r) c.if-k-eq0.true ∙ position-zero r))

pub select_r0-requires : goal.select_r0-requires
select_r0-requires c =
    record { b_value = c.requires.sound; le_k = omega arith; k_le_runs = omega (arith, more1 c.requires) }

pub overflow_cast-result : goal.overflow_cast-result
overflow_cast-result c =
    let a = c.args in
    omega (arith, small0 a.b.now a.image c.requires.sound c.rank_r1-k.result)

pub returns : goal.returns
returns c =
    parent_given c.requires c.rank_r1-k.result c.select_r0.result c.rank_r1-k.ensures c.select_r0.ensures
