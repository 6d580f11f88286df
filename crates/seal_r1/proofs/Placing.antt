-- Bytes, words and bits of an image: what a word or a bit that is put there changes, and what it
-- leaves.
use mathlib.Core.Path.{◌≡◌, ap, ◌∙◌}
use mathlib.Core.Logic.{◌⊎◌, ⊎_elim}
use mathlib.Core.List.{List, ◌++◌}
use Prim.Native.Nat.{ℕ, suc, ◌+◌, ◌-◌, ◌/◌, ◌%◌, ◌^◌, ◌≤◌, ◌<◌}
use native.Mathlib.Decide.{dec_lt}
use native.Mathlib.Nat.{zero-div}
use native.Mathlib.Omega.{arith}
use lib.Bits.{bit_or}
use lib.ListN.{length, get_or, take, drop, length-append, length-drop, get_or-append}
use lib.Seq.{length-take-le, get_or-take, get_or-drop, get_or-append-add, get_or-set_other}
use Rattle.meaning.specs.Strings.{O}
use Rattle.meaning.specs.Bytes.{bit, bit_at}
use Rattle.meaning.specs.Blocks.{le32}
use Rattle.theory.specs.Layout.{word_at}
use Rattle.theory.proofs.Digits.{word_at-append, le32-first}
use Rattle.bits_byte.specs.Lit.{lit}
use Rattle.image_words.specs.Words.{with_word}

-- ---- of the numbers up to i, those other than i are lower

pub earlier : (t i : ℕ) → t < i + 1 → (t ≡ i → ⊥) → t < i
earlier t i b h = elim (dec_lt t i) [
  | yes v ↦ v
  | no v ↦ absurd (h (omega arith))
]

-- ---- the same bytes have the same bits and words

pub bit-agree : (xs ys : List ℕ) (p : ℕ) → get_or xs (p / 8) 0 ≡ get_or ys (p / 8) 0 → bit_at xs p ≡ bit_at ys p
unfolding bit_at
bit-agree xs ys p e = ap (λ b. bit (b / 2 ^ (7 - p % 8) % 2)) e

pub word-agree : (xs ys : List ℕ) (p : ℕ) → ((q : ℕ) → p ≤ q → q < p + 4 → get_or xs q 0 ≡ get_or ys q 0) → word_at xs p ≡ word_at ys p
unfolding word_at
word-agree xs ys p h =
    omega (arith, h p (omega arith) (omega arith), h (p + 1) (omega arith) (omega arith), h (p + 2) (omega arith) (omega arith), h (p + 3) (omega arith) (omega arith))

pub bit-zero : (xs : List ℕ) (p : ℕ) → get_or xs (p / 8) 0 ≡ 0 → bit_at xs p ≡ O
unfolding bit_at bit
bit-zero xs p e = ap (λ b. bit (b / 2 ^ (7 - p % 8) % 2)) e ∙ ap (λ x. bit (x % 2)) (zero-div (2 ^ (7 - p % 8)))

pub word-zero : (xs : List ℕ) (p : ℕ) → ((q : ℕ) → p ≤ q → q < p + 4 → get_or xs q 0 ≡ 0) → word_at xs p ≡ 0
unfolding word_at
word-zero xs p h =
    omega (arith, h p (omega arith) (omega arith), h (p + 1) (omega arith) (omega arith), h (p + 2) (omega arith) (omega arith), h (p + 3) (omega arith) (omega arith))

-- ---- a word put

module _ (bytes : List ℕ) (p x : ℕ) (room : p + 4 ≤ length bytes) where
  front : length (take p bytes) ≡ p
  front = length-take-le p bytes (omega arith)

  pub put_length : length (with_word bytes p x) ≡ length bytes
  unfolding with_word
  put_length =
      let back = drop (suc (suc (suc (suc p)))) bytes in
      omega (arith, front, length-append (take p bytes) (le32 x ++ back), length-append (le32 x) back, length-drop (suc (suc (suc (suc p)))) bytes)

  pub put_word : x < 2 ^ 32 → word_at (with_word bytes p x) p ≡ x
  unfolding with_word
  put_word h =
      let back = drop (suc (suc (suc (suc p)))) bytes in
      ap (word_at (take p bytes ++ (le32 x ++ back))) (let e : p ≡ length (take p bytes) + 0 = omega (arith, front) in e)
      ∙ word_at-append (take p bytes) (le32 x ++ back) 0 ∙ le32-first x back h

  pub put_byte : (q : ℕ) → (p ≤ q → q < p + 4 → ⊥) → get_or (with_word bytes p x) q 0 ≡ get_or bytes q 0
  unfolding with_word
  put_byte q d =
      let back = drop (suc (suc (suc (suc p)))) bytes in
      let f = front in
      elim (dec_lt q p) [
        | yes l ↦ get_or-append (take p bytes) (le32 x ++ back) 0 q (omega arith) ∙ get_or-take p bytes q 0 l
        | no l ↦ after (past q p (omega arith) (d (omega arith)))
      ]
    where
      past : (q p : ℕ) → p ≤ q → (q < p + 4 → ⊥) → p + 4 ≤ q
      past q p l n = omega arith

      after : p + 4 ≤ q → get_or (take p bytes ++ (le32 x ++ drop (suc (suc (suc (suc p)))) bytes)) q 0 ≡ get_or bytes q 0
      after l =
          let back = drop (suc (suc (suc (suc p)))) bytes in
          let k = q - (p + 4) in
          ap (λ j. get_or (take p bytes ++ (le32 x ++ back)) j 0) (let e : q ≡ length (take p bytes) + (4 + k) = omega (arith, front) in e)
          ∙ get_or-append-add (take p bytes) (le32 x ++ back) (4 + k) 0 ∙ get_or-append-add (le32 x) back k 0
          ∙ get_or-drop (suc (suc (suc (suc p)))) bytes k 0 ∙ ap (λ j. get_or bytes j 0) (let e : suc (suc (suc (suc p))) + k ≡ q = omega arith in e)

pub word_away : (bytes : List ℕ) (p x q : ℕ) → p + 4 ≤ length bytes → (q + 4 ≤ p) ⊎ (p + 4 ≤ q) → word_at (with_word bytes p x) q ≡ word_at bytes q
word_away bytes p x q room h =
    word-agree (with_word bytes p x) bytes q (λ j a b. put_byte bytes p x room j (λ c d. ⊎_elim (λ e. omega arith) (λ e. omega arith) h))

pub lit_byte : (bytes : List ℕ) (p q : ℕ) → (q ≡ p / 8 → ⊥) → get_or (lit bytes p) q 0 ≡ get_or bytes q 0
unfolding lit
lit_byte bytes p q d = get_or-set_other bytes (p / 8) q (bit_or (get_or bytes (p / 8) 0) (128 / 2 ^ (p % 8))) 0 d
