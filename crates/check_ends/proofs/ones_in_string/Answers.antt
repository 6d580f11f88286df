use mathlib.Core.Path.{◌≡◌, ap}
use Prim.Native.Nat.{◌+◌, ◌-◌, ◌*◌}
use native.Mathlib.Omega.{arith}
use Rattle.meaning.specs.Strings.{ones}
use Rattle.meaning.specs.Image.{string_in}
use Rattle.theory.proofs.InBlocks.{string-ones-le, block_more}
use Rattle.bits_count.proofs.Runs.{bits-ones-le}
use Rattle.check_ends.proofs.ones_in_string.Goals as goal

pub overflow_add-at : goal.overflow_add-at
overflow_add-at c = omega (arith, c.last_block-last.ensures)

pub overflow_mul-at : goal.overflow_mul-at
overflow_mul-at c = omega (arith, c.last_block-last.ensures)

pub word-requires : goal.word-requires
word-requires c = omega (arith, c.last_block-last.ensures)

pub overflow_add-at-2 : goal.overflow_add-at-2
overflow_add-at-2 c = omega (arith, c.last_block-last.ensures)

pub overflow_mul-last : goal.overflow_mul-last
overflow_mul-last c = omega (arith, c.last_block-last.ensures)

pub overflow_sub-n : goal.overflow_sub-n
overflow_sub-n c = omega (arith, c.last_block-last.ensures)

pub ones_from-requires : goal.ones_from-requires
ones_from-requires c = omega (arith, c.last_block-last.ensures)

pub overflow_add-result : goal.overflow_add-result
overflow_add-result c =
    let a = c.args in
    let b = a.b.now in
    let j = c.last_block-last.result in
    omega (arith, c.requires.counted j (omega arith), string-ones-le b a.bits_block (4000 * j), bits-ones-le b (8 * (512 * (a.bits_block + j) + 4)) (a.n - 4000 * j))

pub returns : goal.returns
returns c =
    let a = c.args in
    let b = a.b.now in
    let j = c.last_block-last.result in
    let k = a.n - 4000 * j in
    omega (
      arith,
      c.requires.counted j (omega arith),
      block_more b a.bits_block j k (omega arith),
      ap (λ m. ones (string_in b a.bits_block 0 m)) (let e : 4000 * j + k ≡ a.n = omega arith in e),
    )
