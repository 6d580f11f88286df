-- Ones counted in a byte and in its first bits.
use mathlib.Core.Path.{◌≡◌, refl, sym, ap, ◌∙◌}
use mathlib.Core.Bool.{Bool}
use mathlib.Core.List.{List, [], ◌∷◌, ◌++◌}
use Prim.Native.Nat.{ℕ, zero, suc, ◌+◌, ◌-◌, ◌<◌, ◌≤◌}
use native.Mathlib.Decide.{dec_lt}
use native.Mathlib.Omega.{arith}
use lib.Dec.{eqb, eqb→eq}
use lib.Count.{ones_in}
use lib.Count as count
use lib.ListN.{length, get_or, replicate, length-append, length-replicate, get_or-append, get_or-eq_default}
use lib.Seq.{ext_get_or, get_or-append-add}
use Rattle.meaning.specs.Strings.{Bit, O, ones}
use Rattle.meaning.specs.Bytes.{bit, bit_at, bits_from, number}
use Rattle.theory.proofs.Odd.{ones-append}
use Rattle.theory.proofs.Packing.{bits-length}
use Rattle.bits_byte.specs.Byte.{byte_bits}
use Rattle.bits_byte.proofs.Table.{at}
use Rattle.bits_byte.proofs.Byte.{byte_digit, number-digit, zeros-at}

-- ---- a byte

abbrev counted : ℕ → Bool
counted x = eqb (count.ones x) (ones (byte_bits x))

-- the number of set digits, as the machine counts them
pub byte_ones : (x : ℕ) → x < 256 → count.ones x ≡ ones (byte_bits x)
unfolding count.ones ones_in bits_from bit_at bit
byte_ones x h = eqb→eq (count.ones x) (ones (byte_bits x)) (at counted 256 tt x h)

-- ---- the byte of given bits has their ones

no_ones : (n : ℕ) → ones (replicate n O) ≡ 0
no_ones zero = refl
no_ones (suc n) = no_ones n

number-bits : (bs : List Bit) → length bs ≤ 8 → byte_bits (number 8 bs) ≡ bs ++ replicate (8 - length bs) O
number-bits bs h =
    let zs = replicate (8 - length bs) O in
    let x = number 8 bs in
    let l : length (byte_bits x) ≡ 8 = bits-length (x ∷ []) 0 8 in
    ext_get_or O (byte_bits x) (bs ++ zs) (omega (arith, length-append bs zs, length-replicate (8 - length bs) O))
    (λ i g. byte_digit x i (omega arith) ∙ number-digit bs i (omega arith) ∙ here i)
  where
    here : (i : ℕ) → get_or bs i O ≡ get_or (bs ++ replicate (8 - length bs) O) i O
    here i =
        let zs = replicate (8 - length bs) O in
        elim (dec_lt i (length bs)) [
          | yes g ↦ sym (get_or-append bs zs O i g)
          | no g ↦
              let k = i - length bs in
              let e : i ≡ length bs + k = omega arith in
              get_or-eq_default bs O (omega arith) ∙ sym (ap (λ j. get_or (bs ++ zs) j O) e ∙ get_or-append-add bs zs k O ∙ zeros-at (8 - length bs) k)
        ]

pub number-ones : (bs : List Bit) → length bs ≤ 8 → ones (byte_bits (number 8 bs)) ≡ ones bs
number-ones bs h =
    let n = 8 - length bs in
    ap (λ l. ones l) (number-bits bs h) ∙ omega (arith, ones-append bs (replicate n O), no_ones n)
