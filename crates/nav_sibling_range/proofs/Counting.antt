-- Ones left of a position and positions of ones, in any list of bits.
use mathlib.Core.Path.{◌≡◌, refl, sym, ap, ◌∙◌}
use mathlib.Core.List.{List, [], ◌∷◌}
use Prim.Native.Nat.{ℕ, zero, suc, ◌+◌, ◌-◌, ◌≤◌, ◌<◌}
use native.Mathlib.Omega.{arith}
use native.Mathlib.Decide.{dec_le}
use lib.ListN.{length, get_or, take}
use Rattle.meaning.specs.Strings.{Bit, O, I, ones}
use Rattle.meaning.specs.Bytes.{value}
use Rattle.theory.specs.Rank.{ones_left, position}
use Rattle.theory.specs.ByStrings.{bit_of}
use Rattle.theory.specs.Stages.{Ended}
use Rattle.theory.proofs.InStep.{runs_ended, one_missing}
use Rattle.theory.proofs.Navigate.{position-zero, place_of_one}
use Rattle.bits_byte.proofs.Values.{is_I}
use Rattle.nav_strings.proofs.Bits.{any_else}

-- ---- by positions from 0

ones-next : (r : List Bit) (i : ℕ) → i < length r → ones (take (suc i) r) ≡ ones (take i r) + value (get_or r i I)
unfolding value
ones-next [] i h = absurd (omega arith)
ones-next (O ∷ r) zero h = refl
ones-next (I ∷ r) zero h = refl
ones-next (O ∷ r) (suc i) h = ones-next r i (omega arith)
ones-next (I ∷ r) (suc i) h = omega (arith, ones-next r i (omega arith))

-- ---- by positions from 1

-- left of the next position there is what this one has more
pub left_next : (r : List Bit) (x : ℕ) → 1 ≤ x → x ≤ length r → ones_left r (suc x) ≡ ones_left r x + value (bit_of r x)
unfolding ones_left
left_next r x g h =
    ap (λ n. ones (take n r)) (let e : suc x - 1 ≡ suc (x - 1) = omega arith in e) ∙ ones-next r (x - 1) (omega arith)

-- the last bit is a one, so that one is missing left of each position
pub left_missing : (m : ℕ) (r : List Bit) (x : ℕ) → Ended m r → 1 ≤ x → x ≤ length r → ones_left r x < m
unfolding ones_left
left_missing m r x e g h = one_missing r m (x - 1) ((runs_ended m r (omega arith)).1 e) (omega arith)

-- a one with a greater number is further right
pub position_less : (r : List Bit) (k : ℕ) → k < ones r → position r k < position r (suc k)
position_less [] k h = absurd (omega arith)
position_less (O ∷ r) zero h = omega arith
position_less (I ∷ r) zero h = omega arith
position_less (O ∷ r) (suc k) h = omega (arith, position_less r (suc k) h)
position_less (I ∷ r) (suc k) h = omega (arith, position_less r k (omega arith))

-- up to one number k there are k ones
upto_position : (r : List Bit) (k : ℕ) → k ≤ ones r → ones (take (position r k) r) ≡ k
upto_position [] zero h = refl
upto_position [] (suc k) h = absurd (omega arith)
upto_position (b ∷ r) zero h = refl
upto_position (O ∷ r) (suc k) h = upto_position r (suc k) h
upto_position (I ∷ r) (suc k) h = ap suc (upto_position r k (omega arith))

pub left_after_one : (r : List Bit) (k : ℕ) → k ≤ ones r → ones_left r (suc (position r k)) ≡ k
unfolding ones_left
left_after_one r k h = ap (λ n. ones (take n r)) (let e : suc (position r k) - 1 ≡ position r k = omega arith in e) ∙ upto_position r k h

-- and left of it one less
before-position : (r : List Bit) (k i : ℕ) → k < ones r → position r (suc k) ≡ suc i → ones (take i r) ≡ k
before-position [] k i h e = absurd (omega arith)
before-position (O ∷ r) k zero h e = absurd (omega (arith, position_less r k h))
before-position (O ∷ r) k (suc i) h e = before-position r k i h (omega arith)
before-position (I ∷ r) zero zero h e = refl
before-position (I ∷ r) zero (suc i) h e = absurd (omega (arith, position-zero r))
before-position (I ∷ r) (suc k) zero h e = absurd (omega (arith, position_less r k (omega arith)))
before-position (I ∷ r) (suc k) (suc i) h e = ap suc (before-position r k i (omega arith) (omega arith))

pub left_of_one : (r : List Bit) (k : ℕ) → k < ones r → ones_left r (position r (suc k)) ≡ k
unfolding ones_left
left_of_one r k h = before-position r k (position r (suc k) - 1) h (omega (arith, position_less r k h))

-- the last one left of a position, if there is one, is left of it
last_left : (r : List Bit) (i : ℕ) → position r (ones (take i r)) ≤ i
last_left [] i = omega arith
last_left (b ∷ r) zero = omega arith
last_left (O ∷ r) (suc i) = go (ones (take i r)) (last_left r i)
  where
    go : (k : ℕ) → position r k ≤ i → position (O ∷ r) k ≤ suc i
    go zero h = omega arith
    go (suc k) h = omega arith
last_left (I ∷ r) (suc i) = omega (arith, last_left r i)

pub left_before : (r : List Bit) (x : ℕ) → 1 ≤ x → position r (ones_left r x) < x
unfolding ones_left
left_before r x g = omega (arith, last_left r (x - 1))

-- and the first one that is not left of it does not
next_right : (r : List Bit) (i : ℕ) → ones (take i r) < ones r → i < position r (suc (ones (take i r)))
next_right [] i h = absurd (omega arith)
next_right (b ∷ r) zero h = position_less (b ∷ r) 0 h
next_right (O ∷ r) (suc i) h = omega (arith, next_right r i h)
next_right (I ∷ r) (suc i) h = omega (arith, next_right r i (omega arith))

pub right_from : (r : List Bit) (x : ℕ) → ones_left r x < ones r → x ≤ position r (suc (ones_left r x))
unfolding ones_left
right_from r x h = omega (arith, next_right r (x - 1) h)

-- a one is where the ones left of it say
pub position_of_one : (r : List Bit) (x : ℕ) → 1 ≤ x → x ≤ length r → value (bit_of r x) ≡ 1 → position r (suc (ones_left r x)) ≡ x
unfolding ones_left
position_of_one r x g h e =
    omega (arith, place_of_one r (x - 1) (omega arith) (sym (any_else r (x - 1) (omega arith)) ∙ is_I (bit_of r x) 1 (sym e) (λ z. omega arith)))

-- a zero is not the last bit
pub zero-not-last : (m : ℕ) (r : List Bit) (x : ℕ) → Ended m r → 1 ≤ x → x ≤ length r → value (bit_of r x) ≡ 0 → x < length r
unfolding value
zero-not-last m r x e g h z = elim (dec_le (suc x) (length r)) [
  | yes l ↦ l
  | no l ↦ absurd (
      omega (
        arith,
        z,
        ap value (any_else r (x - 1) (omega arith) ∙ ap (λ n. get_or r n O) (let f : x - 1 ≡ length r - 1 = omega arith in f) ∙ e.last),
      )
      )
]
