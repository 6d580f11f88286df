use mathlib.Core.Path.{◌≡◌, sym, ap, ap₂, ◌∙◌}
use Prim.Native.Nat.{suc, ◌+◌, ◌-◌, ◌*◌, ◌^◌, ◌<◌}
use native.Mathlib.Omega.{arith}
use Rattle.std.proofs.Common.{rules}
use lib.ListN.{get_or}
use lib.Pow.{pow_mono}
use Rattle.theory.specs.Layout.{AreBytes}
use Rattle.bits_word.specs.Little.{little}
use Rattle.bits_word.proofs.Numbers.{number_of_byte}
use Rattle.bits_lanes.proofs.Stored.{little-lt}
use Rattle.string_skip.proofs.last_word.Goals as goal
use Rattle.string_skip.proofs.last_word.Goals.{In-loop-i}

pub loop-i-init : goal.loop-i-init
unfolding little
loop-i-init c =
    let a = c.args in
    (c.requires.at_le_end, ap (little a.b.now a.end) (let e : 0 ≡ a.end - a.end = omega arith in e))

-- there is room for a byte more
small : (c : goal.In-loop-i) → c.loop-i.word < 2 ^ 48
small c =
    let l = c.loop-i in
    let a = c.args in
    omega (
      arith,
      l.invariant.1,
      little-lt a.b.now l.i (a.end - l.i),
      pow_mono {i = 8 * (a.end - l.i)} {j = 48} (omega (arith, c.loop-i-test.true, c.requires.end_bound)),
    )

pub overflow_mul-word : goal.overflow_mul-word
overflow_mul-word c = omega (arith, small (goal.at.overflow_mul-word c).In-loop-i)

pub overflow_add-word : goal.overflow_add-word
overflow_add-word c = omega (arith, small (goal.at.overflow_add-word c).In-loop-i)

pub loop-i-preserved : goal.loop-i-preserved
unfolding little
loop-i-preserved c =
    let l = c.loop-i in
    let a = c.args in
    let b = a.b.now in
    let i = l.i - 1 in
    let are : AreBytes b = λ j h. search rules in
    let up : suc i ≡ l.i = omega (arith, c.loop-i-test.true) in
    let same : little b (suc i) (a.end - l.i) * 256 + get_or b i 0 ≡ little b i (suc (a.end - l.i)) =
    ap (λ x. little b (suc i) (a.end - l.i) * 256 + x) (sym (number_of_byte b are i)) in (
      omega (arith, c.loop-i-test.true),
      ap₂ (λ v x. v * 256 + x) (l.invariant.1 ∙ ap (λ j. little b j (a.end - l.i)) (sym up)) c.from.ensures
          ∙ same
          ∙ ap (little b i) (let e : suc (a.end - l.i) ≡ a.end - i = omega (arith, c.loop-i-test.true) in e),
    )
