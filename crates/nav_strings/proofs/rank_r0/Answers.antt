use Rattle.theory.specs.Rank.{ones_left}
use Rattle.nav_strings.proofs.Strings.{in_r0, ready0}
use native.Mathlib.Omega.{arith}
use Rattle.nav_strings.proofs.rank_r0.Goals as goal

pub overflow_cast-n : goal.overflow_cast-n
overflow_cast-n c = omega arith

pub overflow_add-n : goal.overflow_add-n
overflow_add-n c = omega arith

pub overflow_cast-image : goal.overflow_cast-image
overflow_cast-image c = omega arith

pub overflow_cast-image-2 : goal.overflow_cast-image-2
overflow_cast-image-2 c = omega arith

pub rank-requires : goal.rank-requires
rank-requires c =
    let r = ready0 c.args.b.now c.args.image c.requires.b_value in
    record { le_x = c.requires.le_x; x_le_n = c.requires.x_bound; n_bound = r.most; m_value = r.count; bits_block_le_most_block = r.near; n_in_bounds = r.room; counts_and_padding = r.kept }

pub returns : goal.returns
returns c =
    let a = c.args in
    in_r0 a.b.now a.image c.requires.b_value (λ r. ones_left r a.x) c.rank.result c.rank.ensures
