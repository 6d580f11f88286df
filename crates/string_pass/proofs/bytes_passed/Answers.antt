use mathlib.Core.Path.{◌≡◌, sym, ap, ap₂, subst, ◌∙◌}
use Prim.Native.Nat.{ℕ, ◌+◌, ◌-◌, ◌*◌, ◌/◌, ◌%◌, ◌^◌, ◌≤◌, ◌<◌}
use native.Mathlib.Nat.{zero-add}
use native.Mathlib.Omega.{arith}
use lib.Bits.{and_mask}
use lib.Count.{count_trailing_zeros}
use Rattle.meaning.specs.Strings.{ones}
use Rattle.string_pass.specs.Falls.{fall}
use Rattle.bits_lanes.specs.Lanes.{word_bits, each, ones_in, ones_earlier}
use Rattle.bits_lanes.proofs.Lanes.{each-le}
use Rattle.bits_lanes.proofs.Counts.{byte_few, earlier_le, earlier_lane, last-lane, word_ones, word-length}
use Rattle.bits_lanes.proofs.Zeros.{zeros-lt}
use Rattle.string_pass.specs.Heights.{stays}
use Rattle.string_pass.proofs.Falls.{fall-le}
use Rattle.string_pass.proofs.Heights.{stays-le}
use Rattle.string_pass.proofs.Passing.{passed_falls}
use Rattle.string_pass.proofs.bytes_passed.Goals as goal
use Rattle.string_pass.proofs.bytes_passed.Goals.{Else-stay}

-- the digits that did not stay, as code has them
abbrev lost : ℕ → ℕ
lost s = 9259542123273814144 - s

most : (h w : ℕ) → stays 8 h w 8 ≤ 9259542123273814144
unfolding each
most h w = stays-le 8 w 8 h

-- what the digits say of so many bytes
falls : (w p s : ℕ) → s ≡ stays 8 (128 + p) w 8 → fall (word_bits w (count_trailing_zeros 64 (lost s) / 8)) ≤ p
unfolding each
falls w p s e = omega (arith, subst (λ v. fall (word_bits w (count_trailing_zeros 64 (lost v) / 8)) + 128 ≤ 128 + p) (sym e) (passed_falls 8 w (128 + p) (omega arith)))

sums-fit : (w : ℕ) → each ones_in w 8 + ones_earlier 0 w 8 < 2 ^ 64
unfolding each
sums-fit w = omega (arith, earlier_le w 8 0 (omega arith), each-le ones_in (λ x. 8) (λ x h. byte_few x) w 8)

pub returns-then-pending-ge64 : goal.returns-then-pending-ge64
returns-then-pending-ge64 c =
    let w = c.args.word in
    record {
      few = omega arith;
      falls = omega (arith, c.if-pending-ge64.true, fall-le (word_bits w 8), word-length 8 w);
      opened = word_ones 8 w c.ranges.word.fits;
    }

pub overflow_add-result : goal.overflow_add-result
overflow_add-result c =
    let o = c.count_lanes-ones.ensures in
    omega (arith, o.0, o.1, sums-fit c.args.word)

pub returns-then-stay : goal.returns-then-stay
unfolding count_trailing_zeros
returns-then-stay c =
    let w = c.args.word in
    let p = c.args.pending in
    record {
      few = omega arith;
      falls = subst (λ k. fall (word_bits w k) ≤ p) (ap (λ v. count_trailing_zeros 64 (lost v) / 8) c.if-stay.true) (falls w p c.stay_of_each-stay.result c.stay_of_each-stay.ensures);
      opened = ap₂ (λ a b. (a + b) / 2 ^ 56) c.count_lanes-ones.ensures.0 c.count_lanes-ones.ensures.1 ∙ last-lane 7 w 0 (omega arith) ∙ zero-add (ones (word_bits w 8));
    }

stay-most : (c : goal.Else-stay) → c.stay_of_each-stay.result ≤ 9259542123273814144
stay-most c =
    let a = c.args in
    omega (arith, c.stay_of_each-stay.ensures, most (128 + a.pending) a.word)

pub overflow_sub-bytes : goal.overflow_sub-bytes
overflow_sub-bytes c = omega (arith, stay-most (goal.at.overflow_sub-bytes c).Else-stay)

-- fewer than eight bytes
fewer : (c : goal.Else-stay) → count_trailing_zeros 64 (lost c.stay_of_each-stay.result) < 64
fewer c =
    let s = c.stay_of_each-stay.result in
    zeros-lt 64 (lost s) (omega (arith, c.if-stay.false, stay-most c)) (omega arith)

pub overflow_shr-result-2 : goal.overflow_shr-result-2
overflow_shr-result-2 c = omega (arith, fewer (goal.at.overflow_shr-result-2 c).Else-stay)

pub returns : goal.returns
returns c =
    let w = c.args.word in
    let p = c.args.pending in
    let k = count_trailing_zeros 64 (lost c.stay_of_each-stay.result) / 8 in
    record {
      few = omega (arith, fewer (goal.at.returns c).Else-stay);
      falls = falls w p c.stay_of_each-stay.result c.stay_of_each-stay.ensures;
      opened = and_mask (c.count_lanes-ones.result.earlier / 2 ^ (8 * k)) 8
          ∙ ap (λ e. e / 2 ^ (8 * k) % 256) c.count_lanes-ones.ensures.1
          ∙ earlier_lane k 8 w 0 (omega (arith, fewer (goal.at.returns c).Else-stay)) (omega arith)
          ∙ zero-add (ones (word_bits w k));
    }
