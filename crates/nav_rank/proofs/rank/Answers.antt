use Prim.Native.Nat.{◌-◌, ◌/◌}
use native.Mathlib.Omega.{arith}
use Rattle.nav_rank.proofs.Counts.{kept-count, rank_is}
use Rattle.nav_rank.proofs.rank.Goals as goal

pub from_front-requires-clause-j_value : goal.from_front-requires-clause-j_value
from_front-requires-clause-j_value c =
    let a = c.args in
    kept-count a.b.now a.bits_block a.n c.requires.counts_and_padding ((a.x - 1) / 4000) (omega arith)

pub returns-then-p-lt2000 : goal.returns-then-p-lt2000
returns-then-p-lt2000 c =
    let a = c.args in
    rank_is a.b.now a.bits_block a.n a.x c.requires.le_x c.requires.x_le_n c.from_front.result c.from_front.ensures

pub returns : goal.returns
returns c =
    let a = c.args in
    rank_is a.b.now a.bits_block a.n a.x c.requires.le_x c.requires.x_le_n c.from_end.result c.from_end.ensures
