-- Bits written after the first `at` of a buffer, and a bit set: lengths, bytes and bits.
use mathlib.Core.Path.{◌≡◌, refl, sym, ap, ◌∙◌}
use mathlib.Core.Bool.{Bool, true, false}
use mathlib.Core.List.{List, ◌++◌, append_assoc}
use Prim.Native.Nat.{ℕ, ◌+◌, ◌-◌, ◌*◌, ◌/◌, ◌%◌, ◌^◌, ◌<◌, ◌≤◌}
use native.Mathlib.Decide.{dec_lt, ℕ_discrete}
use native.Mathlib.Omega.{arith}
use borrow.Author.Tests.{eq-eqb, ne_eqb}
use lib.Dec.{eqb, eqb→eq}
use lib.Bits.{bit_or, or_lt}
use lib.Pow.{shr_le}
use lib.ListN.{length, get_or, set, drop, length-append, length-drop, length-set, get_or-append}
use lib.Seq.{ext_get_or, get_or-drop, get_or-append-add, get_or-set_same, get_or-set_other, set_out, drop-append-add, drop-drop}
use Rattle.meaning.specs.Strings.{Bit, O, I}
use Rattle.meaning.specs.Bytes.{bit, bit_at, bits_from, bytes_for, packed}
use Rattle.meaning.specs.Answers.{written}
use Rattle.theory.specs.Layout.{AreBytes}
use Rattle.theory.proofs.Digits.{same_bits_lem, byte_lt, append_bytes, drop_bytes}
use Rattle.theory.proofs.Packing.{bits-length, bits_at, packed-length, packed_bytes, packed-bit}
use Rattle.bits_byte.specs.Lit.{lit}
use Rattle.bits_append.specs.Appended.{appended}
use Rattle.bits_byte.proofs.Table.{all, at}
use Rattle.bits_byte.proofs.Byte.{digit, either, either-zero, either-one, or-digit}

-- ---- a list with its front written

bit-front : (xs ys : List ℕ) (p : ℕ) → p < 8 * length xs → bit_at (xs ++ ys) p ≡ bit_at xs p
unfolding bit_at
bit-front xs ys p h = ap (λ b. bit (b / 2 ^ (7 - p % 8) % 2)) (get_or-append xs ys 0 (p / 8) (omega arith))

byte_rest : (xs ys : List ℕ) (i : ℕ) → length xs ≤ i → get_or (written xs ys) i 0 ≡ get_or ys i 0
byte_rest xs ys i h =
    let k = i - length xs in
    let e : i ≡ length xs + k = omega arith in
    ap (λ n. get_or (written xs ys) n 0) e ∙ get_or-append-add xs (drop (length xs) ys) k 0 ∙ get_or-drop (length xs) ys k 0 ∙ ap (λ n. get_or ys n 0) (sym e)

bit-rest : (xs ys : List ℕ) (p : ℕ) → 8 * length xs ≤ p → bit_at (written xs ys) p ≡ bit_at ys p
unfolding bit_at
bit-rest xs ys p h = ap (λ b. bit (b / 2 ^ (7 - p % 8) % 2)) (byte_rest xs ys (p / 8) (omega arith))

drop-rest : (xs ys : List ℕ) (n : ℕ) → length xs ≤ n → drop n (written xs ys) ≡ drop n ys
drop-rest xs ys n h =
    let k = n - length xs in
    let e : n ≡ length xs + k = omega arith in
    ap (λ i. drop i (written xs ys)) e ∙ drop-append-add xs (drop (length xs) ys) k ∙ drop-drop k (length xs) ys ∙ ap (λ i. drop i ys) (sym e)

-- ---- bits written after others

appended_is : (bytes : List ℕ) (at : ℕ) (new : List Bit) → appended bytes at new ≡ written (packed (bits_from bytes 0 at ++ new)) bytes
unfolding appended
appended_is bytes at new = refl

-- after no bits: from the beginning
pub appended-none : (bytes : List ℕ) (new : List Bit) → appended bytes 0 new ≡ written (packed new) bytes
unfolding appended bits_from
appended-none bytes new = refl

bits_in_front : (bytes : List ℕ) (at : ℕ) (new : List Bit) → length (bits_from bytes 0 at ++ new) ≡ at + length new
bits_in_front bytes at new = length-append (bits_from bytes 0 at) new ∙ ap (λ k. k + length new) (bits-length bytes 0 at)

bytes_in_front : (bytes : List ℕ) (at : ℕ) (new : List Bit) → length (packed (bits_from bytes 0 at ++ new)) ≡ bytes_for (at + length new)
bytes_in_front bytes at new = packed-length (bits_from bytes 0 at ++ new) ∙ ap (λ n. bytes_for n) (bits_in_front bytes at new)

pub appended-length : (bytes : List ℕ) (at : ℕ) (new : List Bit) → at + length new ≤ 8 * length bytes → length (appended bytes at new) ≡ length bytes
appended-length bytes at new h =
    let xs = packed (bits_from bytes 0 at ++ new) in
    ap length (appended_is bytes at new) ∙ length-append xs (drop (length xs) bytes)
    ∙ omega (arith, length-drop (length xs) bytes, bytes_in_front bytes at new)

pub appended_bytes : (bytes : List ℕ) (at : ℕ) (new : List Bit) → AreBytes bytes → AreBytes (appended bytes at new)
unfolding appended
appended_bytes bytes at new h =
    let xs = packed (bits_from bytes 0 at ++ new) in
    append_bytes xs (drop (length xs) bytes) (packed_bytes (bits_from bytes 0 at ++ new)) (drop_bytes (length xs) bytes h)

-- a bit of the bytes that are written
written-bit : (bytes : List ℕ) (at : ℕ) (new : List Bit) (p : ℕ) → p < 8 * bytes_for (at + length new)
    → bit_at (appended bytes at new) p ≡ get_or (bits_from bytes 0 at ++ new) p O
written-bit bytes at new p h =
    let bs = bits_from bytes 0 at ++ new in
    let xs = packed bs in
    let l : length xs ≡ bytes_for (at + length new) = bytes_in_front bytes at new in
    ap (λ ys. bit_at ys p) (appended_is bytes at new) ∙ bit-front xs (drop (length xs) bytes) p (omega arith)
    ∙ packed-bit bs p (omega (arith, bits_in_front bytes at new))

-- the first `at` bits stay
pub appended-front : (bytes : List ℕ) (at : ℕ) (new : List Bit) (p : ℕ) → p < at → bit_at (appended bytes at new) p ≡ bit_at bytes p
appended-front bytes at new p h =
    written-bit bytes at new p (omega arith)
    ∙ get_or-append (bits_from bytes 0 at) new O p (omega (arith, bits-length bytes 0 at))
    ∙ bits_at bytes 0 at p h ∙ ap (bit_at bytes) (let e : 0 + p ≡ p = omega arith in e)

-- then come the new ones, and zeros to the end of their last byte
pub appended-new : (bytes : List ℕ) (at : ℕ) (new : List Bit) (p : ℕ) → at ≤ p → p < 8 * bytes_for (at + length new)
    → bit_at (appended bytes at new) p ≡ get_or new (p - at) O
appended-new bytes at new p h g =
    let old = bits_from bytes 0 at in
    let e : p ≡ length old + (p - at) = omega (arith, bits-length bytes 0 at) in
    written-bit bytes at new p g ∙ ap (λ k. get_or (old ++ new) k O) e ∙ get_or-append-add old new (p - at) O

-- later bytes stay
pub appended-rest : (bytes : List ℕ) (at : ℕ) (new : List Bit) (p : ℕ) → 8 * bytes_for (at + length new) ≤ p
    → bit_at (appended bytes at new) p ≡ bit_at bytes p
appended-rest bytes at new p h =
    let xs = packed (bits_from bytes 0 at ++ new) in
    ap (λ ys. bit_at ys p) (appended_is bytes at new) ∙ bit-rest xs bytes p (omega (arith, bytes_in_front bytes at new))

-- these three say it all
pub appended-same : (bytes result : List ℕ) (at : ℕ) (new : List Bit) → AreBytes bytes → AreBytes result → at + length new ≤ 8 * length bytes
    → length result ≡ length bytes
    → ((p : ℕ) → p < at → bit_at result p ≡ bit_at bytes p)
    → ((p : ℕ) → at ≤ p → p < 8 * bytes_for (at + length new) → bit_at result p ≡ get_or new (p - at) O)
    → ((p : ℕ) → 8 * bytes_for (at + length new) ≤ p → p < 8 * length bytes → bit_at result p ≡ bit_at bytes p)
    → result ≡ appended bytes at new
appended-same bytes result at new hb hr room l front middle rest =
    let m = appended-length bytes at new room in
    same_bits_lem result (appended bytes at new) hr (appended_bytes bytes at new hb) (l ∙ sym m) (λ p h. here p (omega arith))
  where
    here : (p : ℕ) → p < 8 * length bytes → bit_at result p ≡ bit_at (appended bytes at new) p
    here p h = elim (dec_lt p at) [
      | yes g ↦ front p g ∙ sym (appended-front bytes at new p g)
      | no g ↦ elim (dec_lt p (8 * bytes_for (at + length new))) [
        | yes k ↦ middle p (omega arith) k ∙ sym (appended-new bytes at new p (omega arith) k)
        | no k ↦ rest p (omega arith) h ∙ sym (appended-rest bytes at new p (omega arith))
      ]
    ]

pub appended_read : (bytes : List ℕ) (at : ℕ) (new : List Bit) → bits_from (appended bytes at new) 0 (at + length new) ≡ bits_from bytes 0 at ++ new
appended_read bytes at new =
    let n = at + length new in
    let l = bits-length (appended bytes at new) 0 n in
    ext_get_or O (bits_from (appended bytes at new) 0 n) (bits_from bytes 0 at ++ new) (l ∙ sym (bits_in_front bytes at new))
    (λ i h. let g : i < n = omega arith in
    bits_at (appended bytes at new) 0 n i g ∙ ap (bit_at (appended bytes at new)) (let e : 0 + i ≡ i = omega arith in e)
    ∙ written-bit bytes at new i (omega arith))

kept-front : (bytes : List ℕ) (at : ℕ) (new : List Bit) → bits_from (appended bytes at new) 0 at ≡ bits_from bytes 0 at
kept-front bytes at new =
    let l = bits-length (appended bytes at new) 0 at in
    ext_get_or O (bits_from (appended bytes at new) 0 at) (bits_from bytes 0 at) (l ∙ sym (bits-length bytes 0 at))
    (λ i h. let g : i < at = omega arith in
    bits_at (appended bytes at new) 0 at i g ∙ appended-front bytes at new (0 + i) (omega arith) ∙ sym (bits_at bytes 0 at i g))

-- as many bits in the same place take the place of the others
pub appended-over : (bytes : List ℕ) (at : ℕ) (xs ys : List Bit) → length xs ≡ length ys → appended (appended bytes at xs) at ys ≡ appended bytes at ys
appended-over bytes at xs ys e =
    let once = appended bytes at xs in
    let bs = bits_from bytes 0 at ++ ys in
    let l : length (packed (bits_from bytes 0 at ++ xs)) ≤ length (packed bs) = omega (arith, bytes_in_front bytes at xs, bytes_in_front bytes at ys) in
    appended_is once at ys ∙ ap (λ t. written (packed (t ++ ys)) once) (kept-front bytes at xs)
    ∙ ap (λ t. packed bs ++ t) (ap (drop (length (packed bs))) (appended_is bytes at xs) ∙ drop-rest (packed (bits_from bytes 0 at ++ xs)) bytes (length (packed bs)) l)
    ∙ sym (appended_is bytes at ys)

pub appended_twice : (bytes : List ℕ) (at : ℕ) (xs ys : List Bit) → appended (appended bytes at xs) (at + length xs) ys ≡ appended bytes at (xs ++ ys)
appended_twice bytes at xs ys =
    let once = appended bytes at xs in
    let bs = bits_from bytes 0 at ++ (xs ++ ys) in
    let e : bits_from once 0 (at + length xs) ++ ys ≡ bs = ap (λ l. l ++ ys) (appended_read bytes at xs) ∙ append_assoc (bits_from bytes 0 at) xs ys in
    let l : length (packed (bits_from bytes 0 at ++ xs)) ≤ length (packed bs) = omega (arith, bytes_in_front bytes at xs, bytes_in_front bytes at (xs ++ ys), length-append xs ys) in
    appended_is once (at + length xs) ys ∙ ap (λ t. written (packed t) once) e
    ∙ ap (λ t. packed bs ++ t) (ap (drop (length (packed bs))) (appended_is bytes at xs) ∙ drop-rest (packed (bits_from bytes 0 at ++ xs)) bytes (length (packed bs)) l)
    ∙ sym (appended_is bytes at (xs ++ ys))

-- ---- a byte set

pub set_bytes : (bytes : List ℕ) (i x : ℕ) → AreBytes bytes → x < 256 → AreBytes (set bytes i x)
set_bytes bytes i x h g k l =
    let m = length-set bytes i x in
    elim (ℕ_discrete k i) [
      | yes e ↦ omega (arith, ap (λ n. get_or (set bytes i x) n 0) e, get_or-set_same bytes i x 0 (omega arith))
      | no d ↦ omega (arith, get_or-set_other bytes i k x 0 d, byte_lt bytes h k)
    ]

pub bit-digit : (bytes : List ℕ) (p : ℕ) → bit_at bytes p ≡ digit (get_or bytes (p / 8) 0) (p % 8)
unfolding bit_at
bit-digit bytes p = refl

pub set-bit-same : (bytes : List ℕ) (i x p : ℕ) → i < length bytes → p / 8 ≡ i → bit_at (set bytes i x) p ≡ digit x (p % 8)
set-bit-same bytes i x p h e =
    bit-digit (set bytes i x) p ∙ ap (λ b. digit b (p % 8)) (ap (λ k. get_or (set bytes i x) k 0) e ∙ get_or-set_same bytes i x 0 h)

pub set-bit-other : (bytes : List ℕ) (i x p : ℕ) → (p / 8 ≡ i → ⊥) → bit_at (set bytes i x) p ≡ bit_at bytes p
set-bit-other bytes i x p d =
    bit-digit (set bytes i x) p ∙ ap (λ b. digit b (p % 8)) (get_or-set_other bytes i (p / 8) x 0 d) ∙ sym (bit-digit bytes p)

-- ---- a bit set

abbrev one_at : Bool → ℕ
one_at true = 1
one_at false = 0

abbrev mask_right : ℕ → ℕ → Bool
mask_right j k = eqb (128 / 2 ^ j / 2 ^ (7 - k) % 2) (one_at (eqb j k))

mask : (j k : ℕ) → j < 8 → k < 8 → 128 / 2 ^ j / 2 ^ (7 - k) % 2 ≡ one_at (eqb j k)
mask j k h g = eqb→eq (128 / 2 ^ j / 2 ^ (7 - k) % 2) (one_at (eqb j k)) (at (mask_right j) 8 (at (λ i. all (mask_right i) 8) 8 tt j h) k g)

mask_same : (j : ℕ) → j < 8 → digit (128 / 2 ^ j) j ≡ I
unfolding bit
mask_same j h = ap bit (mask j j h h ∙ ap one_at (eq-eqb j j refl))

mask_other : (j k : ℕ) → j < 8 → k < 8 → (j ≡ k → ⊥) → digit (128 / 2 ^ j) k ≡ O
unfolding bit
mask_other j k h g d = ap bit (mask j k h g ∙ ap one_at (ne_eqb j k d))

pub lit-length : (bytes : List ℕ) (p : ℕ) → length (lit bytes p) ≡ length bytes
unfolding lit
lit-length bytes p = length-set bytes (p / 8) (bit_or (get_or bytes (p / 8) 0) (128 / 2 ^ (p % 8)))

pub lit_bytes : (bytes : List ℕ) (p : ℕ) → AreBytes bytes → AreBytes (lit bytes p)
unfolding lit
lit_bytes bytes p h =
    let b = get_or bytes (p / 8) 0 in
    let m = 128 / 2 ^ (p % 8) in
    set_bytes bytes (p / 8) (bit_or b m) h (or_lt 8 b m (byte_lt bytes h (p / 8)) (omega (arith, shr_le 128 (p % 8))))

pub lit-same : (bytes : List ℕ) (p : ℕ) → p < 8 * length bytes → bit_at (lit bytes p) p ≡ I
unfolding lit
lit-same bytes p h =
    let b = get_or bytes (p / 8) 0 in
    let m = 128 / 2 ^ (p % 8) in
    set-bit-same bytes (p / 8) (bit_or b m) p (omega arith) refl ∙ or-digit b m (p % 8)
    ∙ ap (either (digit b (p % 8))) (mask_same (p % 8) (omega arith)) ∙ either-one (digit b (p % 8))

pub lit-other : (bytes : List ℕ) (p q : ℕ) → (q ≡ p → ⊥) → bit_at (lit bytes p) q ≡ bit_at bytes q
unfolding lit
lit-other bytes p q d = elim (ℕ_discrete (q / 8) (p / 8)) [
  | yes e ↦ here e
  | no n ↦ set-bit-other bytes (p / 8) (bit_or (get_or bytes (p / 8) 0) (128 / 2 ^ (p % 8))) q n
]
  where
    -- past the end nothing is set
    here : q / 8 ≡ p / 8 → bit_at (lit bytes p) q ≡ bit_at bytes q
    here e =
        let b = get_or bytes (p / 8) 0 in
        let m = 128 / 2 ^ (p % 8) in
        elim (dec_lt (p / 8) (length bytes)) [
          | yes l ↦ set-bit-same bytes (p / 8) (bit_or b m) q l e ∙ or-digit b m (q % 8)
              ∙ ap (either (digit b (q % 8))) (mask_other (p % 8) (q % 8) (omega arith) (omega arith) (λ f. d (omega arith)))
              ∙ either-zero (digit b (q % 8)) ∙ ap (λ k. digit (get_or bytes k 0) (q % 8)) (sym e) ∙ sym (bit-digit bytes q)
          | no l ↦ ap (λ s. bit_at s q) (set_out bytes (p / 8) (bit_or b m) (omega arith))
        ]

pub lit-appended : (bytes : List ℕ) (from : ℕ) (bs : List Bit) (i : ℕ) → AreBytes bytes → from + length bs ≤ 8 * length bytes → i < length bs
    → lit (appended bytes from bs) (from + i) ≡ appended bytes from (set bs i I)
lit-appended bytes from bs i hb room h =
    let old = appended bytes from bs in
    let n = length-set bs i I in
    let l = appended-length bytes from bs room in
    appended-same bytes (lit old (from + i)) from (set bs i I) hb (lit_bytes old (from + i) (appended_bytes bytes from bs hb)) (omega arith)
    (lit-length old (from + i) ∙ l)
    (λ p g. lit-other old (from + i) p (λ e. omega arith) ∙ appended-front bytes from bs p g)
    (λ p g k. elim (ℕ_discrete p (from + i)) [
      | yes e ↦ ap (bit_at (lit old (from + i))) e ∙ lit-same old (from + i) (omega arith)
          ∙ sym (ap (λ q. get_or (set bs i I) q O) (let f : p - from ≡ i = omega arith in f) ∙ get_or-set_same bs i I O h)
      | no d ↦ lit-other old (from + i) p d ∙ appended-new bytes from bs p g (omega arith)
          ∙ sym (get_or-set_other bs i (p - from) I O (λ e. d (omega arith)))
    ])
    (λ p g k. lit-other old (from + i) p (λ e. omega arith) ∙ appended-rest bytes from bs p (omega arith))
