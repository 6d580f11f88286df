use mathlib.Core.Path.{◌∙◌}
use Prim.Native.Nat.{◌+◌, ◌*◌}
use native.Mathlib.Omega.{arith}
use Rattle.image_string.proofs.Ones.{ones_to-le}
use Rattle.nav_rank.proofs.Counts.{last_end, next-end}
use Rattle.nav_rank.proofs.ones_to_end.Goals as goal

pub returns-then-j-last_block : goal.returns-then-j-last_block
returns-then-j-last_block c =
    let a = c.args in
    let p = c.requires in
    (p.m_value ∙ last_end a.b.now a.bits_block a.n p.counts_and_padding a.j (omega arith) (omega arith), omega (arith, ones_to-le a.b.now a.bits_block a.n))

pub returns : goal.returns
returns c =
    let a = c.args in
    let e = next-end a.b.now a.bits_block a.n c.requires.counts_and_padding a.j (omega arith) in
    (c.word.ensures ∙ e, omega (arith, ones_to-le a.b.now a.bits_block (4000 * (a.j + 1))))
