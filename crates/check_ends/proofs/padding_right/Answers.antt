use mathlib.Core.Path.{subst}
use Prim.Native.Nat.{◌+◌, ◌-◌, ◌*◌, ◌/◌}
use native.Mathlib.Omega.{arith}
use Rattle.meaning.specs.Image.{string_in}
use Rattle.theory.specs.Stages.{CountsAndPadding}
use Rattle.image_string.specs.Decides.{Decides}
use Rattle.image_string.specs.Parts.{Unused}
use Rattle.image_string.proofs.Saying.{decides_same}
use Rattle.image_string.proofs.Blanks.{kept, kept_unused}
use Rattle.check_ends.proofs.padding_right.Goals as goal

pub overflow_add-bits_block : goal.overflow_add-bits_block
overflow_add-bits_block c = omega (arith, c.last_block-last.ensures)

pub bits_at-requires : goal.bits_at-requires
bits_at-requires c = omega (arith, c.last_block-last.ensures)

pub overflow_mul-last : goal.overflow_mul-last
overflow_mul-last c = omega (arith, c.last_block-last.ensures)

pub overflow_sub-n : goal.overflow_sub-n
overflow_sub-n c = omega (arith, c.last_block-last.ensures)

pub rest_zero-requires : goal.rest_zero-requires
rest_zero-requires c = record { used_bound = omega (arith, c.last_block-last.ensures); at_in_bounds = omega (arith, c.bits_at.ensures, c.last_block-last.ensures) }

pub returns : goal.returns
returns c =
    let a = c.args in
    let last = (a.n - 1) / 4000 in
    let rest =
    subst (λ l. Decides c.rest_zero.result (Unused a.b.now (512 * (a.bits_block + l) + 4) (a.n - 4000 * l))) c.last_block-last.ensures
    (subst (λ p. Decides c.rest_zero.result (Unused a.b.now p (a.n - 4000 * c.last_block-last.result))) c.bits_at.ensures c.rest_zero.ensures) in
    decides_same c.rest_zero.result (Unused a.b.now (512 * (a.bits_block + last) + 4) (a.n - 4000 * last))
    (CountsAndPadding a.b.now a.bits_block (string_in a.b.now a.bits_block 0 a.n))
    (kept a.b.now a.bits_block a.n (omega arith) c.requires.counted) (kept_unused a.b.now a.bits_block a.n (omega arith)) rest
