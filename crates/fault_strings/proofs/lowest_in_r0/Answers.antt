use mathlib.Core.Path.{◌≡◌, ap, subst, ◌∙◌}
use Prim.Native.Nat.{◌+◌, ◌*◌}
use native.Mathlib.Omega.{arith}
use Rattle.meaning.specs.Image.{string_blocks}
use Rattle.image_string.specs.Parts.{ones_to}
use Rattle.fault_strings.specs.Lowest.{LowestBlock}
use Rattle.fault_strings.specs.Given.{CountKept}
use Rattle.fault_strings.proofs.Finding.{lowest_more}
use Rattle.fault_strings.proofs.lowest_in_r0.Goals as goal

-- no block more than those of its first n bits
pub returns-then-last-string_blocks : goal.returns-then-last-string_blocks
returns-then-last-string_blocks c =
    let a = c.args in
    subst (λ k. LowestBlock (CountKept a.b.now a.r0_block) a.r0_block k a.found)
    (let e : string_blocks a.n ≡ string_blocks (a.n + 1) = omega (arith, c.if-last-string_blocks.true, c.string_blocks.ensures, c.last_block-last.ensures) in e) c.requires.lowest_wrong

-- one block more, and all blocks before it are full
pub returns : goal.returns
returns c =
    let a = c.args in
    let last = c.last_block-last in
    let k = string_blocks a.n in
    let same : last.result ≡ k = omega (arith, c.if-last-string_blocks.false, c.string_blocks.ensures, last.ensures) in
    let full : a.n ≡ 4000 * k = omega (arith, same, last.ensures) in
    subst (λ i. LowestBlock (CountKept a.b.now a.r0_block) a.r0_block i c.lowest_wrong.result)
    (let f : k + 1 ≡ string_blocks (a.n + 1) = omega (arith, full) in f)
    (lowest_more a.b.now a.r0_block k a.found (a.r0_block + last.result) c.word.result a.ones c.lowest_wrong.result
    (ap (λ i. a.r0_block + i) same) c.word.ensures (c.requires.ones_value ∙ ap (ones_to a.b.now a.r0_block) full)
    c.requires.lowest_wrong c.lowest_wrong.ensures)
