-- The counts of a string's blocks, and its last bit.
use mathlib.Core.Path.{◌≡◌, sym, ap, ◌∙◌}
use mathlib.Core.List.{List}
use Prim.Native.Nat.{ℕ, ◌+◌, ◌-◌, ◌*◌, ◌≤◌, ◌<◌}
use native.Mathlib.Decide.{ℕ_discrete}
use native.Mathlib.Omega.{arith}
use lib.ListN.{length, get_or}
use Rattle.meaning.specs.Strings.{Bit, O, I, ones}
use Rattle.meaning.specs.Bytes.{bit_at, value}
use Rattle.meaning.specs.Image.{string_in}
use Rattle.theory.specs.Layout.{bit_place, word_at}
use Rattle.theory.specs.Stages.{Ended}
use Rattle.theory.proofs.TreeImages.{length-string_in, string_in-at}
use Rattle.bits_byte.proofs.Values.{is_I}

-- ---- the counts of the first j blocks

abbrev pub CountedTo : List ℕ → ℕ → ℕ → Type 0
CountedTo bytes b j = (k : ℕ) → k < j → word_at bytes (512 * (b + k)) ≡ ones (string_in bytes b 0 (4000 * k))

pub counted_more : (bytes : List ℕ) (b j : ℕ) → CountedTo bytes b j → word_at bytes (512 * (b + j)) ≡ ones (string_in bytes b 0 (4000 * j)) → CountedTo bytes b (j + 1)
counted_more bytes b j c e k h = elim (ℕ_discrete k j) [
  | yes q ↦ ap (λ i. word_at bytes (512 * (b + i))) q ∙ e ∙ ap (λ i. ones (string_in bytes b 0 (4000 * i))) (sym q)
  | no d ↦ c k (omega arith)
]

-- ---- the last bit

string-last : (bytes : List ℕ) (b n : ℕ) → 1 ≤ n → get_or (string_in bytes b 0 n) (length (string_in bytes b 0 n) - 1) O ≡ bit_at bytes (bit_place b (n - 1))
string-last bytes b n h =
    ap (λ k. get_or (string_in bytes b 0 n) (k - 1) O) (length-string_in bytes b 0 n)
    ∙ string_in-at bytes b 0 n (n - 1) (omega arith)
    ∙ ap (λ i. bit_at bytes (bit_place b i)) (let e : 0 + (n - 1) ≡ n - 1 = omega arith in e)

is_one : (x : Bit) (r : ℕ) → r ≡ value x → r ≡ 1 → x ≡ I
is_one x r e h = is_I x r e (λ z. omega arith)

one_is : (x : Bit) (r : ℕ) → r ≡ value x → x ≡ I → r ≡ 1
unfolding value
one_is x r e h = e ∙ ap value h

module _ (bytes : List ℕ) (b n m r : ℕ) (some : 1 ≤ n) (read : r ≡ value (bit_at bytes (bit_place b (n - 1)))) where
  pub ended : ones (string_in bytes b 0 n) ≡ m → r ≡ 1 → Ended m (string_in bytes b 0 n)
  ended e f = record { count = e; last = string-last bytes b n some ∙ is_one (bit_at bytes (bit_place b (n - 1))) r read f }

  pub ended_last : Ended m (string_in bytes b 0 n) → r ≡ 1
  ended_last e = one_is (bit_at bytes (bit_place b (n - 1))) r read (sym (string-last bytes b n some) ∙ e.last)
