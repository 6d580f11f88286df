-- A word that has bit k of the bits from byte `at` on: what its bits up to k, and those from k on,
-- say of them.
use mathlib.Core.Path.{◌≡◌, refl, ap, ◌∙◌}
use mathlib.Core.List.{List}
use Prim.Native.Nat.{ℕ, ◌+◌, ◌-◌, ◌*◌, ◌/◌, ◌^◌, ◌≤◌, ◌<◌}
use native.Mathlib.Omega.{arith}
use native.Mathlib.Decide.{dec_le}
use lib.Bits.{bit_and}
use lib.Count.{count_leading_zeros, count_trailing_zeros}
use Rattle.meaning.specs.Bytes.{bit_at, bits_from, number, value}
use Rattle.bits_nearest.specs.Found.{Clear, IsLast, IsFirst}
use Rattle.bits_nearest.proofs.Words.{last_none, last_in, last_one, last-zeros, first-none, first_in, first-from, first_one, first-zeros}

-- two stretches without a one that meet
pub joined : (bytes : List ℕ) (q a m z : ℕ) → Clear bytes q a m → Clear bytes q m z → Clear bytes q a z
joined bytes q a m z f g k h l = elim (dec_le m k) [
  | yes n ↦ g k n l
  | no n ↦ f k h (omega arith)
]

pub later-found : (bytes : List ℕ) (q n m r : ℕ) → m ≤ n → Clear bytes q m n → IsLast bytes q m r → IsLast bytes q n r
later-found bytes q n m r l passed one = record {
  some = one.some;
  within = omega (arith, one.within);
  found = one.found;
  clear = joined bytes q r m n one.clear passed;
}

pub earlier_found : (bytes : List ℕ) (q n m r : ℕ) → n ≤ m → Clear bytes q n m → IsFirst bytes q m r → IsFirst bytes q n r
earlier_found bytes q n m r l passed one = record {
  from = omega (arith, one.from);
  within = one.within;
  found = one.found;
  clear = joined bytes q n m r passed one.clear;
}

module _ (bytes : List ℕ) (at from k w : ℕ) (low : 8 * from ≤ k) (high : k < 8 * from + 64) (is : w ≡ number 64 (bits_from bytes (8 * (at + from)) 64)) where
  -- a bit of the word as one of the bits
  there : (i j : ℕ) → j ≡ 8 * from + i → value (bit_at bytes (8 * at + j)) ≡ value (bit_at bytes (8 * (at + from) + i))
  there i j e = ap (λ p. value (bit_at bytes p)) (let f : 8 * at + j ≡ 8 * (at + from) + i = omega arith in f)

  -- ---- up to bit k

  abbrev past : ℕ
  past = 63 - (k - 8 * from)

  pub none_to : w / 2 ^ past ≡ 0 → (left : ℕ) → left ≡ k + 1 → Clear bytes (8 * at) (8 * from) left
  none_to none left e j g h =
      there (63 - past - (k - j)) j (omega arith) ∙ last_none bytes (8 * (at + from)) w is past none (k - j) (omega arith)

  module _ (some : w / 2 ^ past ≡ 0 → ⊥) where
    abbrev behind : ℕ
    behind = count_trailing_zeros 64 (w / 2 ^ past)

    behind_in : past + behind < 64
    behind_in = last_in bytes (8 * (at + from)) w is past some

    pub behind-le : 8 * from + behind ≤ k
    behind-le = omega (arith, behind_in)

    pub met_to : (left : ℕ) → left ≡ k + 1 → IsLast bytes (8 * at) left (left - behind)
    met_to left e = record {
      some = omega (arith, behind_in);
      within = omega arith;
      found = there (63 - past - behind) (left - behind - 1) (omega (arith, behind_in)) ∙ last_one bytes (8 * (at + from)) w is past some;
      clear = λ j g h. there (63 - past - (k - j)) j (omega (arith, behind_in)) ∙ last-zeros bytes (8 * (at + from)) w is past some (k - j) (omega (arith, behind_in));
    }

  -- ---- from bit k on

  abbrev skipped : ℕ
  skipped = k - 8 * from

  abbrev near : ℕ
  near = bit_and w (18446744073709551615 / 2 ^ skipped)

  few : skipped < 64
  few = omega arith

  pub none_from : near ≡ 0 → Clear bytes (8 * at) k (8 * from + 64)
  none_from none j g h =
      there (j - 8 * from) j (omega arith)
      ∙ first-none bytes (8 * (at + from)) w is skipped near few refl none (j - 8 * from) (omega arith) (omega arith)

  module _ (some : near ≡ 0 → ⊥) where
    abbrev first : ℕ
    first = count_leading_zeros 64 near

    pub first-lt : first < 64
    first-lt = first_in bytes (8 * (at + from)) w is skipped near few refl some

    not-before : skipped ≤ first
    not-before = first-from bytes (8 * (at + from)) w is skipped near few refl some

    pub met_from : from ≤ 492 → IsFirst bytes (8 * at) k (8 * from + first)
    met_from most = record {
      from = omega (arith, not-before);
      within = omega (arith, first-lt);
      found = there first (8 * from + first) refl ∙ first_one bytes (8 * (at + from)) w is skipped near few refl some;
      clear = λ j g h.
          there (j - 8 * from) j (omega arith)
          ∙ first-zeros bytes (8 * (at + from)) w is skipped near few refl some (j - 8 * from) (omega arith) (omega arith);
    }
