-- Numbers of all bytes of a word at once: sums, differences, bounds and digits of their lanes.
use mathlib.Core.Path.{◌≡◌, refl, sym, ap, ap₂, subst, ◌∙◌}
use Prim.Native.Nat.{ℕ, zero, suc, ◌+◌, ◌-◌, ◌*◌, ◌/◌, ◌%◌, ◌^◌, ◌<◌, ◌≤◌}
use native.Mathlib.Nat.{mod-lt, add_comm, lt_of_lt_of_le}
use native.Mathlib.Omega.{arith}
use lib.Bits.{bit_and, and_block, and_zero_r}
use lib.Pow.{pow_pos, pow_mono, split, shr-shr, shr_lt, field, mod-mod-pow}
use Rattle.bits_lanes.specs.Lanes.{each}

-- sums lane by lane
pub each-add : (f g h : ℕ → ℕ) → ((x : ℕ) → x < 256 → f x + g x ≡ h x) → (w n : ℕ) → each f w n + each g w n ≡ each h w n
unfolding each
each-add f g h e w zero = refl
each-add f g h e w (suc n) = omega (arith, each-add f g h e (w / 256) n, e (w % 256) (omega arith))

-- bounds lane by lane
pub each-le : (f g : ℕ → ℕ) → ((x : ℕ) → x < 256 → f x ≤ g x) → (w n : ℕ) → each f w n ≤ each g w n
unfolding each
each-le f g l w zero = omega arith
each-le f g l w (suc n) = omega (arith, each-le f g l (w / 256) n, l (w % 256) (omega arith))

-- differences lane by lane
pub each-sub : (f g h : ℕ → ℕ) → ((x : ℕ) → x < 256 → f x ≡ h x + g x) → (w n : ℕ) → each f w n - each g w n ≡ each h w n
each-sub f g h e w n = omega (arith, each-add h g f (λ x l. sym (e x l)) w n)

-- the word itself
pub each_byte : (n w : ℕ) → w < 2 ^ (8 * n) → each (λ x. x) w n ≡ w
unfolding each
each_byte zero w h = omega arith
each_byte (suc n) w h =
    omega (arith, each_byte n (w / 256) (shr_lt {n = w} (8 * n) 8 (subst (λ k. w < 2 ^ k) (let e : 8 * suc n ≡ 8 * n + 8 = omega arith in e) h)))

-- ---- digits of each lane

-- a mask of j digits looks at no others
masked : (j a m : ℕ) → m < 2 ^ j → bit_and a m ≡ bit_and (a % 2 ^ j) m
masked j a m h =
    let low = bit_and (a % 2 ^ j) m in
    ap₂ bit_and (sym (split a j)) (let e : m ≡ 0 * 2 ^ j + m = omega arith in e)
    ∙ and_block j (a / 2 ^ j) 0 (a % 2 ^ j) m (mod-lt a (pow_pos j)) h
    ∙ ap (λ u. u * 2 ^ j + low) (and_zero_r (a / 2 ^ j))
    ∙ (let e : 0 * 2 ^ j + low ≡ low = omega arith in e)

pub each_and : (f : ℕ → ℕ) (s m : ℕ) → s ≤ 8 → m < 2 ^ (8 - s) → ((x : ℕ) → x < 256 → f x < 256) → (w n : ℕ)
    → bit_and (each f w n / 2 ^ s) (each (λ x. m) w n) ≡ each (λ x. bit_and (f x / 2 ^ s) m) w n
unfolding each
each_and f s m ls lm lf w zero = and_zero_r (0 / 2 ^ s)
each_and f s m ls lm lf w (suc n) =
    let y = f (w % 256) in
    let others = each f (w / 256) n in
    let v = others * 256 + y in
    let u = v / 2 ^ s in
    let masks = each (λ x. m) (w / 256) n in
    let j = 8 - s in
    let small : y < 256 = lf (w % 256) (omega arith) in
    let low : v % 256 ≡ y = omega arith in
    let high : v / 256 ≡ others = omega arith in
    ap (λ a. bit_and a (masks * 256 + m)) (sym (split u 8))
    ∙ and_block 8 (u / 256) masks (u % 256) m (mod-lt u (pow_pos 8)) (lt_of_lt_of_le lm (pow_mono {i = j} {j = 8} (omega arith)))
    ∙ ap (λ a. bit_and a masks * 256 + bit_and (u % 256) m)
    (shr-shr v s 8 ∙ ap (λ k. v / 2 ^ k) (add_comm s 8) ∙ sym (shr-shr v 8 s) ∙ ap (λ a. a / 2 ^ s) high)
    ∙ ap (λ a. a * 256 + bit_and (u % 256) m) (each_and f s m ls lm lf (w / 256) n)
    ∙ ap (λ a. each (λ x. bit_and (f x / 2 ^ s) m) (w / 256) n * 256 + a) (
    masked j (u % 256) m lm
    ∙ ap (λ a. bit_and a m) (
    ap (λ k. u % 2 ^ k % 2 ^ j) (let e : 8 ≡ s + j = omega arith in e) ∙ mod-mod-pow u s j ∙ sym (field v j s)
    ∙ ap (λ k. v % 2 ^ k / 2 ^ s) (let e : j + s ≡ 8 = omega arith in e) ∙ ap (λ a. a / 2 ^ s) low
    )
    )
