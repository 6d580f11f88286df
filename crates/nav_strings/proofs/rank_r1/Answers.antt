use Rattle.theory.specs.Rank.{ones_left}
use Rattle.nav_strings.proofs.Strings.{in_r1, ready1}
use native.Mathlib.Omega.{arith}
use Rattle.nav_strings.proofs.rank_r1.Goals as goal

pub overflow_cast-image : goal.overflow_cast-image
overflow_cast-image c = omega arith

pub overflow_cast-image-2 : goal.overflow_cast-image-2
overflow_cast-image-2 c = omega arith

pub rank-requires : goal.rank-requires
rank-requires c =
    let r = ready1 c.args.b.now c.args.image c.requires.sound in
    record { le_x = c.requires.some; x_le_n = c.requires.most; n_bound = r.most; m_value = r.count; bits_block_le_most_block = r.near; n_in_bounds = r.room; counts_and_padding = r.kept }

pub returns : goal.returns
returns c =
    let a = c.args in
    in_r1 a.b.now a.image c.requires.sound (λ r. ones_left r a.x) c.rank.result c.rank.ensures
