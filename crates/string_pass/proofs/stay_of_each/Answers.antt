use mathlib.Core.Path.{◌≡◌, refl, ap, ap₂, ◌∙◌}
use Prim.Native.Nat.{ℕ, suc, ◌+◌, ◌-◌, ◌*◌, ◌/◌, ◌^◌, ◌≤◌, ◌<◌}
use native.Mathlib.Omega.{arith}
use lib.Bits.{bit_and, and_le_r}
use Rattle.bits_lanes.specs.Lanes.{each, ones_earlier}
use Rattle.bits_lanes.proofs.Lanes.{each-le}
use Rattle.bits_lanes.proofs.Counts.{earlier_le}
use Rattle.string_pass.specs.Heights.{heights, stay, stays}
use Rattle.string_pass.proofs.Heights.{first-heights, next-heights, heights-some, heights_fit, next-stays}
use Rattle.string_pass.proofs.stay_of_each.Goals as goal
use Rattle.string_pass.proofs.stay_of_each.Goals.{After-bit_of_each, In-loop-i, Start}

fits : (i w p : ℕ) → i ≤ 8 → p < 64 → heights i (128 + p) w 8 < 2 ^ 64
unfolding each
fits i w p h l = omega (arith, heights_fit i h w 8 (128 + p) (omega arith))

few : (w : ℕ) → ones_earlier 0 w 8 ≤ 4629771061636907072
unfolding each
few w = earlier_le w 8 0 (omega arith)

at_most_one : (i w : ℕ) → each (λ x. bit_and (x / 2 ^ (7 - i)) 1) w 8 ≤ 72340172838076673
unfolding each
at_most_one i w = each-le (λ x. bit_and (x / 2 ^ (7 - i)) 1) (λ x. 1) (λ x h. and_le_r (x / 2 ^ (7 - i)) 1) w 8

-- the height of each byte before its first bit
first : (c : goal.Start) → c.args.pending * 72340172838076673 + 2 * c.args.earlier + 5210761939959969920 ≡ heights 0 (128 + c.args.pending) c.args.word 8
first c = ap (λ e. c.args.pending * 72340172838076673 + 2 * e + 5210761939959969920) c.requires.earlier_value ∙ first-heights c.args.pending c.args.word

pub loop-i-init : goal.loop-i-init
unfolding stays stay
loop-i-init c = (first (goal.at.loop-i-init c).Start, refl)

pub overflow_mul-height-2 : goal.overflow_mul-height-2
overflow_mul-height-2 c = omega (arith, c.requires.earlier_value, few c.args.word)

pub overflow_add-height : goal.overflow_add-height
overflow_add-height c = omega (arith, c.requires.earlier_value, c.requires.pending_bound, few c.args.word)

pub overflow_add-height-2 : goal.overflow_add-height-2
overflow_add-height-2 c = omega (arith, first (goal.at.overflow_add-height-2 c).Start, fits 0 c.args.word c.args.pending (omega arith) c.requires.pending_bound)

-- one bit more of each byte
some : (c : goal.In-loop-i) → 72340172838076673 ≤ c.loop-i.height
unfolding each
some c =
    let l = c.loop-i in
    let a = c.args in
    omega (arith, l.invariant.0, heights-some l.i (omega (arith, c.loop-i-test.true)) a.word 8 (128 + a.pending) (omega arith))

next : (c : goal.After-bit_of_each) →
    c.loop-i.height - 72340172838076673 + 2 * c.bit_of_each.result
    ≡ heights (c.loop-i.i + 1) (128 + c.args.pending) c.args.word 8
unfolding each
next c =
    let l = c.loop-i in
    let a = c.args in
    let h = 128 + a.pending in
    let step : l.height - 72340172838076673 + 2 * c.bit_of_each.result ≡ heights (suc l.i) h a.word 8 =
    omega (arith, l.invariant.0, some c.before, c.bit_of_each.ensures, next-heights l.i (omega (arith, c.loop-i-test.true)) a.word 8 h (omega arith)) in
    step ∙ ap (λ j. heights j h a.word 8) (let e : suc l.i ≡ l.i + 1 = omega arith in e)

pub overflow_sub-height : goal.overflow_sub-height
overflow_sub-height c = omega (arith, some (goal.at.overflow_sub-height c).In-loop-i)

pub overflow_mul-height-in-loop-i : goal.overflow_mul-height-in-loop-i
overflow_mul-height-in-loop-i c =
    let w = c.args.word in
    omega (arith, c.bit_of_each.ensures, at_most_one c.loop-i.i w)

pub overflow_add-height-in-loop-i : goal.overflow_add-height-in-loop-i
overflow_add-height-in-loop-i c =
    let a = c.args in
    omega (arith, next (goal.at.overflow_add-height-in-loop-i c).After-bit_of_each, fits (c.loop-i.i + 1) a.word a.pending (omega (arith, c.loop-i-test.true)) c.requires.pending_bound)

pub loop-i-preserved : goal.loop-i-preserved
loop-i-preserved c =
    let l = c.loop-i in
    let a = c.args in
    let h = 128 + a.pending in (
      next (goal.at.loop-i-preserved c).After-bit_of_each,
      ap₂ bit_and l.invariant.1 (next (goal.at.loop-i-preserved c).After-bit_of_each ∙ ap (λ j. heights j h a.word 8) (let e : l.i + 1 ≡ suc l.i = omega arith in e))
          ∙ next-stays l.i a.word 8 h (omega (arith, c.loop-i-test.true)) (omega (arith, c.requires.pending_bound))
          ∙ ap (λ j. stays j h a.word 8) (let e : suc l.i ≡ l.i + 1 = omega arith in e),
    )
