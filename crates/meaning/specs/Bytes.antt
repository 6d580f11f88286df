-- Bits in bytes, most significant bit first (document 01, "Tree string").
use Rattle.std.specs.Prelude.{Bool, List, [], ◌∷◌, ℕ, zero, suc, ◌+◌, ◌-◌, ◌*◌, ◌/◌, ◌%◌, ◌^◌, ltb, length, get_or, drop}
use Rattle.meaning.specs.Strings.{Bit, O, I, ones}

unfoldable pub value : Bit → ℕ
value O = 0
value I = 1

unfoldable pub bit : ℕ → Bit
bit zero = O
bit (suc n) = I

-- ---- Reading.

-- the bit that p bits come before
unfoldable pub bit_at : List ℕ → ℕ → Bit
unfolding bit
bit_at bytes p = bit (get_or bytes (p / 8) 0 / 2 ^ (7 - p % 8) % 2)

-- the n bits after the first p
unfoldable pub bits_from : List ℕ → ℕ → ℕ → List Bit
unfolding bit_at
bits_from bytes p zero = []
bits_from bytes p (suc n) = bit_at bytes p ∷ bits_from bytes (suc p) n

-- L bits take L / 8 bytes rounded up
abbrev pub bytes_for : ℕ → ℕ
bytes_for L = (L + 7) / 8

-- is a leftover bit set, after the first L?
unfoldable pub leftover : List ℕ → ℕ → Bool
unfolding bits_from
leftover bytes L = ltb 0 (ones (bits_from bytes L (8 * bytes_for L - L)))

-- ---- Writing.

-- the first k bits as a number, most significant first; what is missing is zero
unfoldable pub number : ℕ → List Bit → ℕ
unfolding value
number zero bs = 0
number (suc k) [] = 0
number (suc k) (b ∷ bs) = value b * 2 ^ k + number k bs

-- the first 8 n bits as n bytes
unfoldable pub bytes_of : ℕ → List Bit → List ℕ
unfolding number
bytes_of zero bs = []
bytes_of (suc n) bs = number 8 bs ∷ bytes_of n (drop 8 bs)

unfoldable pub packed : List Bit → List ℕ
unfolding bytes_of
packed bs = bytes_of (bytes_for (length bs)) bs
