-- The heights on the way through each byte of a word.
use mathlib.Core.Path.{◌≡◌, refl, ap, ◌∙◌}
use Prim.Native.Nat.{ℕ, zero, suc, ◌+◌, ◌-◌, ◌*◌, ◌/◌, ◌%◌, ◌^◌, ◌<◌, ◌≤◌}
use native.Mathlib.Omega.{arith}
use lib.Bits.{bit_and, and_block, and_le_l}
use lib.ListN.{take, length-take}
use Rattle.meaning.specs.Strings.{ones}
use Rattle.meaning.specs.Bytes.{bits_from}
use Rattle.theory.proofs.Payloads.{ones-le}
use Rattle.bits_byte.specs.Byte.{byte_bits}
use Rattle.bits_lanes.specs.Lanes.{each, ones_in, ones_earlier}
use Rattle.bits_lanes.proofs.Counts.{byte_few}
use Rattle.string_pass.specs.Heights.{height, heights, stay, stays}
use Rattle.string_pass.proofs.Bits.{bit_more}

-- ---- one byte

pub front-le : (i x : ℕ) → ones (take i (byte_bits x)) ≤ i
front-le i x = omega (arith, ones-le (take i (byte_bits x)), length-take i (byte_bits x))

-- all eight bits of it
pub whole : (x : ℕ) → ones (take 8 (byte_bits x)) ≡ ones_in x
unfolding bits_from
whole x = refl

-- ---- the first heights

-- what is taken off before each byte for the bits of those before it, from 128
unfoldable falling : ℕ → ℕ → ℕ
falling d zero = 0
falling d (suc n) = falling (suc d) n * 256 + (128 - 8 * d)

first_of : (p w n h c d : ℕ) → h + 8 * d ≡ 128 + p + 2 * c → d + n ≤ 8 → heights 0 h w n ≡ each (λ x. p) w n + 2 * ones_earlier c w n + falling d n
unfolding heights each ones_earlier falling
first_of p w zero h c d e l = refl
first_of p w (suc n) h c d e l =
    let x = w % 256 in
    let o = whole x in
    omega (arith, first_of p (w / 256) n (height 8 h x) (c + ones_in x) (suc d) (omega arith) (omega arith))

pub first-heights : (p w : ℕ) → p * 72340172838076673 + 2 * ones_earlier 0 w 8 + 5210761939959969920 ≡ heights 0 (128 + p) w 8
unfolding each falling
first-heights p w = omega (arith, first_of p w 8 (128 + p) 0 0 (omega arith) (omega arith))

-- ---- from bit to bit

module _ (i : ℕ) (li : i < 8) where
  pub next-heights : (w n h : ℕ) → 8 * n ≤ h → heights (suc i) h w n + each (λ x. 1) w n ≡ heights i h w n + 2 * each (λ x. bit_and (x / 2 ^ (7 - i)) 1) w n
  unfolding heights each
  next-heights w zero h l = refl
  next-heights w (suc n) h l =
      let x = w % 256 in
      let o = whole x in
      omega (arith, bit_more i x li (omega arith), next-heights (w / 256) n (height 8 h x) (omega arith))

  pub heights-some : (w n h : ℕ) → 8 * n ≤ h → each (λ x. 1) w n ≤ heights i h w n
  unfolding heights each
  heights-some w zero h l = omega arith
  heights-some w (suc n) h l =
      let x = w % 256 in
      let o = whole x in
      omega (arith, heights-some (w / 256) n (height 8 h x) (omega arith))

module _ (i : ℕ) (li : i ≤ 8) where
  pub heights_fit : (w n h : ℕ) → h + 8 * n ≤ 255 → heights i h w n ≤ each (λ x. 255) w n
  unfolding heights each
  heights_fit w zero h l = omega arith
  heights_fit w (suc n) h l =
      let x = w % 256 in
      let o = whole x in
      omega (arith, front-le i x, byte_few x, heights_fit (w / 256) n (height 8 h x) (omega (arith, byte_few x)))

-- ---- the digit of 128

pub stay-le : (i h x : ℕ) → stay i h x ≤ 128
unfolding stay
stay-le zero h x = omega arith
stay-le (suc i) h x = omega (arith, and_le_l (stay i h x) (height (suc i) h x), stay-le i h x)

pub stays-le : (i w n h : ℕ) → stays i h w n ≤ each (λ x. 128) w n
unfolding stays each
stays-le i w zero h = omega arith
stays-le i w (suc n) h = omega (arith, stay-le i h (w % 256), stays-le i (w / 256) n (height 8 h (w % 256)))

pub next-stays : (i w n h : ℕ) → i < 8 → h + 8 * n ≤ 255 → bit_and (stays i h w n) (heights (suc i) h w n) ≡ stays (suc i) h w n
unfolding stays heights stay
next-stays i w zero h li l = refl
next-stays i w (suc n) h li l =
    let x = w % 256 in
    let on = height 8 h x in
    let o = whole x in
    and_block 8 (stays i on (w / 256) n) (heights (suc i) on (w / 256) n) (stay i h x) (height (suc i) h x) (omega (arith, stay-le i h x)) (omega (arith, front-le (suc i) x))
    ∙ ap (λ v. v * 256 + bit_and (stay i h x) (height (suc i) h x)) (next-stays i (w / 256) n on li (omega (arith, byte_few x)))
