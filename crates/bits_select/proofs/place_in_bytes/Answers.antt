use mathlib.Core.Path.{◌≡◌, sym, ap, ap₂, subst, ◌∙◌}
use Prim.Native.Nat.{ℕ, ◌+◌, ◌-◌, ◌*◌, ◌/◌, ◌%◌, ◌^◌, ◌≤◌}
use native.Mathlib.Nat.{zero-add, sub-zero}
use native.Mathlib.Omega.{arith}
use lib.Bits.{bit_and, and_mask}
use lib.Count.{count_trailing_zeros}
use Rattle.meaning.specs.Strings.{ones}
use Rattle.theory.specs.Rank.{position}
use Rattle.theory.proofs.Payloads.{ones-le}
use Rattle.bits_byte.specs.Byte.{byte_bits}
use Rattle.bits_lanes.specs.Lanes.{word_bits, each, ones_in, ones_earlier}
use Rattle.bits_lanes.proofs.Lanes.{each-le}
use Rattle.bits_lanes.proofs.Counts.{byte_few, byte_length, earlier_le, earlier_lane, word-length}
use Rattle.bits_select.proofs.Reaching.{position-le}
use Rattle.bits_select.proofs.Lanes.{lane, Found, found, marked}
use Rattle.bits_select.proofs.place_in_bytes.Goals as goal
use Rattle.bits_select.proofs.place_in_bytes.Goals.{After-count_lanes-ones, Start}

few : (c : goal.Start) → c.args.k ≤ 64
few c = omega (arith, c.requires.k_bound, ones-le (word_bits c.args.word 8), word-length 8 c.args.word)

here-few : (w : ℕ) → each ones_in w 8 ≤ 578721382704613384
unfolding each
here-few w = each-le ones_in (λ x. 8) (λ x h. byte_few x) w 8

earlier-few : (w : ℕ) → ones_earlier 0 w 8 ≤ 4629771061636907072
unfolding each
earlier-few w = earlier_le w 8 0 (omega arith)

-- the byte that code finds
abbrev byte : goal.After-count_lanes-ones → ℕ
byte c = let o = c.count_lanes-ones.result in count_trailing_zeros 64 (bit_and (o.here + o.earlier + 9259542123273814144 - c.args.k * 72340172838076673) 9259542123273814144) / 8

it-is : (c : goal.After-count_lanes-ones) → Found c.args.word 8 0 c.args.k (byte c)
it-is c =
    let w = c.args.word in
    let k = c.args.k in
    let o = c.count_lanes-ones.ensures in
    let same = ap₂ (λ a b. bit_and (a + b + 9259542123273814144 - k * 72340172838076673) 9259542123273814144) o.0 o.1 ∙ marked k w (few c.before) in
    subst (λ v. Found w 8 0 k (count_trailing_zeros 64 v / 8)) (sym same) (found 8 w 0 k c.requires.le_k (omega (arith, c.requires.k_bound)) (few c.before) (omega arith))

passed : (c : goal.After-count_lanes-ones) → bit_and (c.count_lanes-ones.result.earlier / 2 ^ (8 * byte c)) 255 ≡ ones (word_bits c.args.word (byte c))
passed c =
    and_mask (c.count_lanes-ones.result.earlier / 2 ^ (8 * byte c)) 8
    ∙ ap (λ e. e / 2 ^ (8 * byte c) % 256) c.count_lanes-ones.ensures.1
    ∙ earlier_lane (byte c) 8 c.args.word 0 (it-is c).within (omega arith)
    ∙ zero-add (ones (word_bits c.args.word (byte c)))

its-byte : (c : goal.After-count_lanes-ones) → bit_and (c.args.word / 2 ^ (8 * byte c)) 255 ≡ lane c.args.word (byte c)
its-byte c = and_mask (c.args.word / 2 ^ (8 * byte c)) 8

pub returns : goal.returns
returns c =
    let w = c.args.word in
    let k = c.args.k in
    let i = byte (goal.at.returns c).After-count_lanes-ones in
    ap (λ v. 8 * i + v) (c.select_in_byte.ensures ∙ ap₂ (λ y m. position (byte_bits y) (k - m)) (its-byte (goal.at.returns c).After-count_lanes-ones)
    (passed (goal.at.returns c).After-count_lanes-ones))
    ∙ ap (λ m. 8 * i + position (byte_bits (lane w i)) (m - ones (word_bits w i))) (sym (sub-zero k))
    ∙ sym (it-is (goal.at.returns c).After-count_lanes-ones).place
    ∙ ap (position (word_bits w 8)) (sub-zero k)

pub overflow_add-sums : goal.overflow_add-sums
overflow_add-sums c =
    let w = c.args.word in
    let o = c.count_lanes-ones.ensures in
    omega (arith, o.0, o.1, here-few w, earlier-few w)

pub overflow_add-sums-2 : goal.overflow_add-sums-2
overflow_add-sums-2 c =
    let w = c.args.word in
    let o = c.count_lanes-ones.ensures in
    omega (arith, o.0, o.1, here-few w, earlier-few w)

pub overflow_mul-enough : goal.overflow_mul-enough
overflow_mul-enough c = omega (arith, few (goal.at.overflow_mul-enough c).Start)

pub overflow_sub-enough : goal.overflow_sub-enough
overflow_sub-enough c = omega (arith, few (goal.at.overflow_sub-enough c).Start)

pub overflow_shr-need : goal.overflow_shr-need
overflow_shr-need c = omega (arith, (it-is (goal.at.overflow_shr-need c).After-count_lanes-ones).within)

pub overflow_sub-need : goal.overflow_sub-need
overflow_sub-need c = let f = it-is (goal.at.overflow_sub-need c).After-count_lanes-ones in omega (arith, passed (goal.at.overflow_sub-need c).After-count_lanes-ones, f.short)

pub overflow_shr-x : goal.overflow_shr-x
overflow_shr-x c = omega (arith, (it-is (goal.at.overflow_shr-x c).After-count_lanes-ones).within)

pub select_in_byte-requires : goal.select_in_byte-requires
select_in_byte-requires c =
    let f = it-is (goal.at.select_in_byte-requires c).After-count_lanes-ones in
    let p = passed (goal.at.select_in_byte-requires c).After-count_lanes-ones in
    record { le_k = omega (arith, p, f.short); k_bound = omega (arith, p, f.there, ap ones_in (its-byte (goal.at.select_in_byte-requires c).After-count_lanes-ones)) }

pub overflow_add-result : goal.overflow_add-result
overflow_add-result c =
    let x = bit_and (c.args.word / 2 ^ (8 * byte (goal.at.overflow_add-result c).After-count_lanes-ones)) 255 in
    let need = c.args.k - bit_and (c.count_lanes-ones.result.earlier / 2 ^ (8 * byte (goal.at.overflow_add-result c).After-count_lanes-ones)) 255 in
    omega (arith, (it-is (goal.at.overflow_add-result c).After-count_lanes-ones).within, c.select_in_byte.ensures, position-le (byte_bits x) need, byte_length x)
