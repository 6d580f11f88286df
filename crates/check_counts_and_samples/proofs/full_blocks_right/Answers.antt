use mathlib.Core.Path.{◌≡◌, ap}
use Prim.Native.Nat.{◌+◌, ◌*◌}
use native.Mathlib.Omega.{arith}
use Rattle.theory.specs.Layout.{word_at}
use Rattle.image_string.proofs.Ones.{ones_to-le}
use Rattle.check_counts_and_samples.proofs.full_blocks_right.Goals as goal

pub returns-then-word-ne0 : goal.returns-then-word-ne0
returns-then-word-ne0 c = λ right.
    let a = c.args in
    c.if-word-ne0.true
    (omega (
      arith,
      c.word.ensures,
      ap (word_at a.b.now) (let e : 512 * (a.bits_block + 0) ≡ 512 * a.bits_block = omega arith in e),
      right.counted 0 (omega arith),
      ones_to-le a.b.now a.bits_block (4000 * 0),
    ))
