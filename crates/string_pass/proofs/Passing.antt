-- The bytes in whose lanes the digit of 128 stays are passed over.
use mathlib.Core.Path.{◌≡◌, sym, ap, subst, ◌∙◌}
use mathlib.Core.Logic.{⊎_elim}
use Prim.Native.Nat.{ℕ, zero, suc, ◌+◌, ◌-◌, ◌*◌, ◌/◌, ◌%◌, ◌<◌, ◌≤◌}
use native.Mathlib.Nat.{eq-or-lt_of_le, le_of_suc-le-suc}
use native.Mathlib.Decide.{dec_lt}
use native.Mathlib.Omega.{arith}
use lib.Bits.{and_le_l, and_le_r}
use lib.Count.{count_trailing_zeros}
use lib.ListN.{length, take}
use Rattle.meaning.specs.Strings.{ones}
use Rattle.bits_byte.specs.Byte.{byte_bits}
use Rattle.bits_lanes.specs.Lanes.{word_bits, each}
use Rattle.bits_lanes.proofs.Counts.{byte_length}
use Rattle.bits_lanes.proofs.Zeros.{eight_on, eight-zeros}
use Rattle.string_pass.specs.Falls.{fall}
use Rattle.string_pass.specs.Heights.{height, stay, stays}
use Rattle.string_pass.proofs.Falls.{fall_above, fall-append}
use Rattle.string_pass.proofs.Heights.{whole, stay-le, stays-le}

-- ---- one byte

-- the digit is in every height that is met
stay_all : (i j h x : ℕ) → j < i → 128 ≤ stay i h x → 128 ≤ height (suc j) h x
unfolding stay
stay_all zero j h x l s = absurd (omega arith)
stay_all (suc i) j h x l s =
    ⊎_elim
    (λ e. subst (λ k. 128 ≤ height (suc k) h x) (sym e) (omega (arith, and_le_r (stay i h x) (height (suc i) h x))))
    (λ g. stay_all i j h x g (omega (arith, and_le_l (stay i h x) (height (suc i) h x))))
    (eq-or-lt_of_le (le_of_suc-le-suc l))

byte_falls : (h x : ℕ) → 128 ≤ h → 128 ≤ stay 8 h x → fall (byte_bits x) + 128 ≤ h
byte_falls h x l s = fall_above (byte_bits x) 128 h l above
  where
    above : (i : ℕ) → i ≤ length (byte_bits x) → 128 + i ≤ h + 2 * ones (take i (byte_bits x))
    above zero g = omega arith
    above (suc i) g = omega (arith, stay_all 8 i h x (omega (arith, byte_length x)) s)

-- ---- the bytes of a word

-- the digits of 128 that did not stay
abbrev pub gone : ℕ → ℕ → ℕ → ℕ
gone h w n = each (λ x. 128) w n - stays 8 h w n

pub passed_falls : (n w h : ℕ) → 128 ≤ h → fall (word_bits w (count_trailing_zeros (8 * n) (gone h w n) / 8)) + 128 ≤ h
unfolding each stays word_bits fall count_trailing_zeros
passed_falls zero w h l = omega arith
passed_falls (suc n) w h l =
    let x = w % 256 in
    let on = height 8 h x in
    let all = gone h w (suc n) in
    let others = gone on (w / 256) n in
    let t = count_trailing_zeros (8 * suc n) all in
    let cut : all ≡ others * 256 + (128 - stay 8 h x) = omega (arith, stay-le 8 h x, stays-le 8 (w / 256) n on) in
    let wide : t ≡ count_trailing_zeros (eight_on (8 * n)) all = ap (λ k. count_trailing_zeros k all) (let e : 8 * suc n ≡ eight_on (8 * n) = omega arith in e) in
    elim (dec_lt t 8) [
      | yes less ↦ subst (λ k. fall (word_bits w k) + 128 ≤ h) (let e : 0 ≡ t / 8 = omega arith in e) (omega arith)
      | no enough ↦
          let z = eight-zeros (8 * n) all (omega (arith, wide)) in
          let stayed : 128 ≤ stay 8 h x = omega (arith, z.0, cut, stay-le 8 h x) in
          let left : t ≡ 8 + count_trailing_zeros (8 * n) others =
          wide ∙ z.1 ∙ ap (λ v. 8 + count_trailing_zeros (8 * n) v) (let e : all / 256 ≡ others = omega (arith, cut, stay-le 8 h x) in e) in
          let k = count_trailing_zeros (8 * n) others / 8 in
          let last = stay_all 8 7 h x (omega arith) stayed in
          subst (λ j. fall (word_bits w j) + 128 ≤ h) (let e : suc k ≡ t / 8 = omega (arith, left) in e)
          (fall-append (byte_bits x) (word_bits (w / 256) k) 128 h l (byte_falls h x l stayed) (omega (arith, passed_falls n (w / 256) on last, whole x, byte_length x)))
    ]
