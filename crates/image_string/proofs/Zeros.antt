-- Bytes that are zero: taken together by or, and in words.
use mathlib.Core.Path.{◌≡◌, refl, sym, ap, ap₂, ◌∙◌}
use mathlib.Core.List.{List}
use Prim.Native.Nat.{ℕ, zero, suc, ◌+◌, ◌≤◌, ◌<◌}
use native.Mathlib.Decide.{ℕ_discrete}
use native.Mathlib.Omega.{arith}
use lib.Bits.{bit_or, or_add_and, or_zero_l, and_le_l, and_le_r}
use lib.ListN.{get_or}
use Rattle.theory.specs.Layout.{word_at}
use Rattle.image_string.specs.Parts.{ZeroBytes}

or_left : (a b : ℕ) → bit_or a b ≡ 0 → a ≡ 0
or_left a b e = omega (arith, or_add_and a b, and_le_r a b)

or_right : (a b : ℕ) → bit_or a b ≡ 0 → b ≡ 0
or_right a b e = omega (arith, or_add_and a b, and_le_l a b)

-- what has been seen before byte i is zero exactly if the bytes are
abbrev pub Seen : List ℕ → ℕ → ℕ → ℕ → Type 0
Seen bytes from i seen = (seen ≡ 0 → ZeroBytes bytes from i) × (ZeroBytes bytes from i → seen ≡ 0)

pub seen_none : (bytes : List ℕ) (from i : ℕ) → i ≤ from → Seen bytes from i 0
seen_none bytes from i l = (λ e k h g. absurd (omega arith), λ z. refl)

pub seen_more : (bytes : List ℕ) (from i next seen x : ℕ) → from ≤ i → next ≡ i + 1 → x ≡ get_or bytes i 0 → Seen bytes from i seen → Seen bytes from next (bit_or seen x)
seen_more bytes from i next seen x h n is s = (
  λ e k l g. elim (ℕ_discrete k i) [
    | yes q ↦ ap (λ j. get_or bytes j 0) q ∙ sym is ∙ or_right seen x e
    | no d ↦ s.0 (or_left seen x e) k l (omega arith)
  ],
  λ z. ap₂ bit_or (s.1 (λ k l g. z k l (omega arith))) (is ∙ z i h (omega arith)) ∙ or_zero_l 0,
)

-- a word is zero exactly if its bytes are
pub word_bytes : (bytes : List ℕ) (p k : ℕ) → word_at bytes p ≡ 0 → k < 4 → get_or bytes (p + k) 0 ≡ 0
unfolding word_at
word_bytes bytes p zero e h = ap (λ i. get_or bytes i 0) (let q : p + 0 ≡ p = omega arith in q) ∙ omega arith
word_bytes bytes p (suc zero) e h = omega arith
word_bytes bytes p (suc (suc zero)) e h = omega arith
word_bytes bytes p (suc (suc (suc zero))) e h = omega arith
word_bytes bytes p (suc (suc (suc (suc k)))) e h = absurd (omega arith)

pub zero_word : (bytes : List ℕ) (from to p : ℕ) → ZeroBytes bytes from to → from ≤ p → p + 4 ≤ to → word_at bytes p ≡ 0
unfolding word_at
zero_word bytes from to p z h g =
    let a = z p h (omega arith) in
    let b = z (p + 1) (omega arith) (omega arith) in
    let c = z (p + 2) (omega arith) (omega arith) in
    let d = z (p + 3) (omega arith) (omega arith) in
    omega arith
