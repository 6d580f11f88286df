use mathlib.Core.Path.{◌≡◌, ap, ◌∙◌}
use Prim.Native.Nat.{◌+◌, ◌*◌}
use native.Mathlib.Omega.{arith}
use Rattle.image_string.specs.Parts.{ones_to}
use Rattle.image_string.proofs.Ones.{ones_to_mono}
use Rattle.nav_rank.proofs.Counts.{next-end}
use Rattle.nav_select_in_block.proofs.block_of.Goals as goal
use Rattle.nav_select_in_block.proofs.block_of.Goals.{After-word}

-- the count of the next block
counted : (c : goal.After-word) → let a = c.args in
    c.word.result ≡ ones_to a.b.now a.bits_block (4000 * (c.loop-i.i + 1))
counted c =
    let a = c.args in
    let i = c.loop-i.i in
    c.word.ensures ∙ next-end a.b.now a.bits_block a.n c.requires.counts_and_padding i (omega arith)

pub returns-then-k-word : goal.returns-then-k-word
returns-then-k-word c = (omega arith, omega arith, omega arith, omega (arith, counted (goal.at.returns-then-k-word c).After-word))

pub loop-i-preserved : goal.loop-i-preserved
loop-i-preserved c = omega (arith, counted (goal.at.loop-i-preserved c).After-word)

pub returns : goal.returns
returns c =
    let a = c.args in
    let last = c.last_block-last.result in
    let e : c.loop-i.i ≡ last = omega arith in
    let here = ap (λ i. ones_to a.b.now a.bits_block (4000 * i)) e in
    (omega arith, omega arith, omega arith, omega (arith, ones_to_mono a.b.now a.bits_block a.n (4000 * (last + 1)) (omega arith)))
