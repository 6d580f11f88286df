-- A bit and its number.
use mathlib.Core.Path.{◌≡◌, refl, sym, ◌∙◌}
use mathlib.Core.List.{List}
use Prim.Native.Nat.{ℕ, zero, suc, ◌-◌, ◌/◌, ◌%◌, ◌^◌, ◌≤◌, ◌<◌}
use native.Mathlib.Nat.{mod-lt, zero-lt-suc}
use native.Mathlib.Omega.{arith}
use lib.ListN.{get_or}
use lib.Bits.{and_mask, bit_and}
use Rattle.meaning.specs.Strings.{Bit, O, I}
use Rattle.meaning.specs.Bytes.{bit, value, bit_at}

pub value-bit : (x : ℕ) → x < 2 → value (bit x) ≡ x
unfolding value bit
value-bit zero h = refl
value-bit (suc zero) h = refl
value-bit (suc (suc x)) h = absurd (omega arith)

pub is_O : (x : Bit) (r : ℕ) → r ≡ value x → r ≡ 0 → x ≡ O
unfolding value
is_O O r e h = refl
is_O I r e h = absurd (omega arith)

pub is_I : (x : Bit) (r : ℕ) → r ≡ value x → (r ≡ 0 → ⊥) → x ≡ I
unfolding value
is_I I r e h = refl
is_I O r e h = absurd (h e)

pub value-le : (x : Bit) (r : ℕ) → r ≡ value x → r ≤ 1
unfolding value
value-le O r e = omega arith
value-le I r e = omega arith

-- bit p, as code takes it out of its byte
pub digit_value : (bytes : List ℕ) (p : ℕ) → bit_and (get_or bytes (p / 8) 0 / 2 ^ (7 - p % 8)) 1 ≡ value (bit_at bytes p)
unfolding bit_at
digit_value bytes p =
    let x = get_or bytes (p / 8) 0 / 2 ^ (7 - p % 8) in
    and_mask x 1 ∙ sym (value-bit (x % 2) (mod-lt x (zero-lt-suc 1)))
