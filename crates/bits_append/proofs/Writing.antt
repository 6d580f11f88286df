-- Bits appended byte by byte.
use mathlib.Core.Path.{◌≡◌, refl, sym, ap, ap₂, ◌∙◌, subst}
use mathlib.Core.List.{List, [], ◌∷◌, ◌++◌}
use Prim.Native.Nat.{ℕ, zero, suc, ◌+◌, ◌-◌, ◌*◌, ◌/◌, ◌%◌, ◌^◌, ◌<◌, ◌≤◌}
use native.Mathlib.Decide.{ℕ_discrete}
use native.Mathlib.Omega.{arith}
use lib.Bits.{bit_or}
use lib.ListN.{length, get_or, set, take, drop, replicate, length-take, length-drop, length-set, take-append-drop, length-replicate, get_or-append, replicate-append-replicate}
use lib.Seq.{get_or-take, get_or-append-add, take_all, length-take-le, paste}
use borrow.Rule.Slice.PartMut.{put_mid}
use Rattle.std.proofs.lemmas.List.Edits.{fill_from_more, paste_none}
use Rattle.std.proofs.lemmas.Slice.{put_mid-paste}
use Rattle.meaning.specs.Strings.{Bit, O}
use Rattle.meaning.specs.Bytes.{bit, bit_at, bits_from, bytes_for, number, value}
use Rattle.theory.specs.Layout.{AreBytes}
use Rattle.theory.proofs.Digits.{number_lt}
use Rattle.theory.proofs.Packing.{bits-length}
use Rattle.bits_byte.specs.Byte.{byte_bits}
use Rattle.bits_append.specs.Appended.{appended}
use Rattle.bits_byte.proofs.Byte.{digit, zeros-at, byte_digit, number-digit, joined, spilled}
use Rattle.bits_append.proofs.Appending.{appended-length, appended_bytes, appended-front, appended-new, appended-rest}
use Rattle.bits_append.proofs.Appending.{appended-same, appended_twice, set_bytes, bit-digit, set-bit-same, set-bit-other}

-- ---- the byte that bit `at` is in

-- its bits before `at`, and the new ones
abbrev pub begun : List ℕ → ℕ → List Bit → List Bit
begun bytes at new = take (at % 8) (byte_bits (get_or bytes (at / 8) 0)) ++ new

old_length : (bytes : List ℕ) (at : ℕ) → length (take (at % 8) (byte_bits (get_or bytes (at / 8) 0))) ≡ at % 8
old_length bytes at =
    let bs = byte_bits (get_or bytes (at / 8) 0) in
    let l : length bs ≡ 8 = bits-length (get_or bytes (at / 8) 0 ∷ []) 0 8 in
    length-take-le (at % 8) bs (omega arith)

begun_old : (bytes : List ℕ) (at : ℕ) (new : List Bit) (p : ℕ) → p < at → p / 8 ≡ at / 8 → get_or (begun bytes at new) (p % 8) O ≡ bit_at bytes p
begun_old bytes at new p h e =
    let b = get_or bytes (at / 8) 0 in
    let old = take (at % 8) (byte_bits b) in
    let l = old_length bytes at in
    get_or-append old new O (p % 8) (omega arith) ∙ get_or-take (at % 8) (byte_bits b) (p % 8) O (omega arith) ∙ byte_digit b (p % 8) (omega arith)
    ∙ ap (λ i. digit (get_or bytes i 0) (p % 8)) (sym e) ∙ sym (bit-digit bytes p)

begun-new : (bytes : List ℕ) (at : ℕ) (new : List Bit) (p : ℕ) → at ≤ p → p / 8 ≡ at / 8 → get_or (begun bytes at new) (p % 8) O ≡ get_or new (p - at) O
begun-new bytes at new p h e =
    let old = take (at % 8) (byte_bits (get_or bytes (at / 8) 0)) in
    let l = old_length bytes at in
    ap (λ i. get_or (old ++ new) i O) (let f : p % 8 ≡ length old + (p - at) = omega arith in f) ∙ get_or-append-add old new (p - at) O

append_byte : (bytes : List ℕ) (at : ℕ) (new : List Bit) → AreBytes bytes → at < 8 * length bytes → 1 ≤ length new
    → set bytes (at / 8) (number 8 (begun bytes at new)) ≡ appended bytes at (take (8 - at % 8) new)
append_byte bytes at new hb h g =
    let i = at / 8 in
    let x = number 8 (begun bytes at new) in
    let first = take (8 - at % 8) new in
    let l = length-take (8 - at % 8) new in
    let m : bytes_for (at + length first) ≡ i + 1 = omega arith in
    appended-same bytes (set bytes i x) at first hb (set_bytes bytes i x hb (number_lt 8 (begun bytes at new))) (omega arith) (length-set bytes i x)
    (λ p k. elim (ℕ_discrete (p / 8) i) [
      | yes e ↦ set-bit-same bytes i x p (omega arith) e ∙ number-digit (begun bytes at new) (p % 8) (omega arith) ∙ begun_old bytes at new p k e
      | no d ↦ set-bit-other bytes i x p d
    ])
    (λ p k n. let e : p / 8 ≡ i = omega arith in
    set-bit-same bytes i x p (omega arith) e ∙ number-digit (begun bytes at new) (p % 8) (omega arith) ∙ begun-new bytes at new p k e
    ∙ sym (get_or-take (8 - at % 8) new (p - at) O (omega arith)))
    (λ p k n. set-bit-other bytes i x p (λ e. omega arith))

-- ---- one or two bytes

-- the byte as code makes it
abbrev pub first_byte : List ℕ → ℕ → List Bit → ℕ
first_byte bytes at new = bit_or (number 8 (take (at % 8) (byte_bits (get_or bytes (at / 8) 0)))) (number 8 new / 2 ^ (at % 8))

first_byte_lem : (bytes : List ℕ) (at : ℕ) (new : List Bit) → first_byte bytes at new ≡ number 8 (begun bytes at new)
first_byte_lem bytes at new =
    let old = take (at % 8) (byte_bits (get_or bytes (at / 8) 0)) in
    let l = old_length bytes at in
    ap (λ r. bit_or (number 8 old) (number 8 new / 2 ^ r)) (sym l) ∙ joined old new (omega arith)

pub append-within : (bytes : List ℕ) (at : ℕ) (new : List Bit) → AreBytes bytes → at < 8 * length bytes → 1 ≤ length new → at % 8 + length new ≤ 8
    → set bytes (at / 8) (first_byte bytes at new) ≡ appended bytes at new
append-within bytes at new hb h g room =
    ap (set bytes (at / 8)) (first_byte_lem bytes at new) ∙ append_byte bytes at new hb h g ∙ ap (appended bytes at) (take_all (8 - at % 8) new (omega arith))

pub append_across : (bytes : List ℕ) (at : ℕ) (new : List Bit) → AreBytes bytes → at + length new ≤ 8 * length bytes → length new ≤ 8 → 8 < at % 8 + length new
    → set (set bytes (at / 8) (first_byte bytes at new)) (at / 8 + 1) (number 8 new * 2 ^ (8 - at % 8) % 256) ≡ appended bytes at new
append_across bytes at new hb room short long =
    let s = 8 - at % 8 in
    let xs = take s new in
    let ys = drop s new in
    let lx = length-take s new in
    let ly = length-drop s new in
    let half = appended bytes at xs in
    let next = at + length xs in
    let lh = appended-length bytes at xs (omega arith) in
    let i : next / 8 ≡ at / 8 + 1 = omega arith in
    let r : next % 8 ≡ 0 = omega arith in
    ap₂ (λ l x. set l (at / 8 + 1) x) (ap (set bytes (at / 8)) (first_byte_lem bytes at new) ∙ append_byte bytes at new hb (omega arith) (omega arith)) (spilled new s short)
    ∙ ap₂ (λ k q. set half k (number 8 (take q (byte_bits (get_or half (next / 8) 0)) ++ ys))) (sym i) (sym r)
    ∙ append_byte half next ys (appended_bytes bytes at xs hb) (omega arith) (omega arith)
    ∙ ap (appended half next) (take_all (8 - next % 8) ys (omega arith))
    ∙ appended_twice bytes at xs ys ∙ ap (appended bytes at) (take-append-drop s new)

-- ---- zeros

take-zeros : (k n : ℕ) → k ≤ n → take k (replicate n O) ≡ replicate k O
take-zeros zero n h = refl
take-zeros (suc k) zero h = absurd (omega arith)
take-zeros (suc k) (suc n) h = ap (λ bs. O ∷ bs) (take-zeros k n (omega arith))

zero_bits : byte_bits 0 ≡ replicate 8 O
unfolding bits_from bit_at bit
zero_bits = refl

-- how many zeros come after the first `at` bits does not matter as long as they end in one byte
zeros_to_end : (bytes : List ℕ) (at m n : ℕ) → AreBytes bytes → at + m ≤ 8 * length bytes → at + n ≤ 8 * length bytes → bytes_for (at + m) ≡ bytes_for (at + n)
    → appended bytes at (replicate m O) ≡ appended bytes at (replicate n O)
zeros_to_end bytes at m n hb hm hn e =
    let lm = length-replicate m O in
    let ln = length-replicate n O in
    appended-same bytes (appended bytes at (replicate m O)) at (replicate n O) hb (appended_bytes bytes at (replicate m O) hb) (omega arith)
    (appended-length bytes at (replicate m O) (omega arith))
    (λ p g. appended-front bytes at (replicate m O) p g)
    (λ p g k. appended-new bytes at (replicate m O) p g (omega arith) ∙ zeros-at m (p - at) ∙ sym (zeros-at n (p - at)))
    (λ p g k. appended-rest bytes at (replicate m O) p (omega arith))

zero_byte : (bytes : List ℕ) (j : ℕ) → AreBytes bytes → j < length bytes → set bytes j 0 ≡ appended bytes (8 * j) (replicate 8 O)
unfolding number value
zero_byte bytes j hb h =
    let i : 8 * j / 8 ≡ j = omega arith in
    let r : 8 * j % 8 ≡ 0 = omega arith in
    ap₂ (λ k q. set bytes k (number 8 (take q (byte_bits (get_or bytes (8 * j / 8) 0)) ++ replicate 8 O))) (sym i) (sym r)
    ∙ append_byte bytes (8 * j) (replicate 8 O) hb (omega arith) (omega arith)
    ∙ ap (λ q. appended bytes (8 * j) (take (8 - q) (replicate 8 O))) r

-- whole bytes of zeros from byte s to before byte j
abbrev cleared : List ℕ → ℕ → ℕ → List ℕ
cleared bytes s j = appended bytes (8 * s) (replicate (8 * (j - s)) O)

clear_none : (bytes : List ℕ) (j : ℕ) → AreBytes bytes → j ≤ length bytes → bytes ≡ cleared bytes j j
clear_none bytes j hb h =
    appended-same bytes bytes (8 * j) [] hb hb (omega arith) refl (λ p g. refl) (λ p g k. absurd (omega arith)) (λ p g k. refl)
    ∙ ap (λ k. appended bytes (8 * j) (replicate k O)) (let e : 0 ≡ 8 * (j - j) = omega arith in e)

clear_more : (bytes : List ℕ) (s j : ℕ) → AreBytes bytes → s ≤ j → j < length bytes → set (cleared bytes s j) j 0 ≡ cleared bytes s (j + 1)
clear_more bytes s j hb h g =
    let n = 8 * (j - s) in
    let zs = replicate n O in
    let l : length zs ≡ n = length-replicate n O in
    let m = appended-length bytes (8 * s) zs (omega arith) in
    zero_byte (cleared bytes s j) j (appended_bytes bytes (8 * s) zs hb) (omega arith)
    ∙ ap (λ k. appended (cleared bytes s j) k (replicate 8 O)) (let e : 8 * j ≡ 8 * s + length zs = omega arith in e)
    ∙ appended_twice bytes (8 * s) zs (replicate 8 O)
    ∙ ap (appended bytes (8 * s)) (replicate-append-replicate n 8 O)
    ∙ ap (λ k. appended bytes (8 * s) (replicate k O)) (let e : n + 8 ≡ 8 * (j + 1 - s) = omega arith in e)

clear_run : (bytes : List ℕ) (s k : ℕ) → AreBytes bytes → s + k ≤ length bytes → paste bytes s (replicate k 0) k ≡ cleared bytes s (s + k)
clear_run bytes s zero hb h =
    sym (paste_none bytes s (replicate 0 0)) ∙ clear_none bytes s hb (omega arith) ∙ ap (cleared bytes s) (let e : s ≡ s + 0 = omega arith in e)
clear_run bytes s (suc k) hb h =
    ap (λ n. paste bytes s (replicate n 0) n) (let e : suc k ≡ k + 1 = omega arith in e) ∙ sym (fill_from_more bytes s k 0 (omega arith))
    ∙ ap (λ l. set l (s + k) 0) (clear_run bytes s k hb (omega arith)) ∙ clear_more bytes s (s + k) hb (omega arith) (omega arith)
    ∙ ap (cleared bytes s) (let e : s + k + 1 ≡ s + suc k = omega arith in e)

-- zeros to the end of a byte, then whole bytes
clear_all : (bytes : List ℕ) (at n s end : ℕ) → AreBytes bytes → 1 ≤ n → at + n ≤ 8 * length bytes → s ≡ at / 8 + 1 → end ≡ bytes_for (at + n)
    → cleared (appended bytes at (take (8 - at % 8) (byte_bits 0))) s end ≡ appended bytes at (replicate n O)
clear_all bytes at n s end hb h room es ee =
    let r = 8 - at % 8 in
    let m = 8 * (end - s) in
    let zs = replicate r O in
    let l : length zs ≡ r = length-replicate r O in
    let first : take r (byte_bits 0) ≡ zs = ap (take r) zero_bits ∙ take-zeros r 8 (omega arith) in
    ap (λ bs. cleared (appended bytes at bs) s end) first
    ∙ ap (λ k. appended (appended bytes at zs) k (replicate m O)) (let e : 8 * s ≡ at + length zs = omega arith in e)
    ∙ appended_twice bytes at zs (replicate m O)
    ∙ ap (appended bytes at) (replicate-append-replicate r m O)
    ∙ zeros_to_end bytes at (r + m) n hb (omega arith) room (omega arith)

-- the buffer after both, of which code clears the whole bytes at once
pub all_cleared : (bytes half zeros : List ℕ) (at n s end : ℕ) → AreBytes bytes → 1 ≤ n → at + n ≤ 8 * length bytes → s ≡ at / 8 + 1 → end ≡ bytes_for (at + n)
    → half ≡ appended bytes at (take (8 - at % 8) (byte_bits 0)) → zeros ≡ replicate (end - s) 0
    → put_mid s (end - s) half zeros ≡ appended bytes at (replicate n O)
all_cleared bytes half zeros at n s end hb h room es ee half_is zeros_are =
    let first = take (8 - at % 8) (byte_bits 0) in
    let l = length-take (8 - at % 8) (byte_bits 0) in
    let b : length (byte_bits 0) ≡ 8 = bits-length (0 ∷ []) 0 8 in
    let m = appended-length bytes at first (omega arith) in
    let hh : AreBytes half = subst AreBytes (sym half_is) (appended_bytes bytes at first hb) in
    put_mid-paste s (end - s) half zeros (replicate (end - s) 0) (end - s) zeros_are refl (sym (length-replicate (end - s) 0))
    ∙ clear_run half s (end - s) hh (omega (arith, ap length half_is))
    ∙ ap (cleared half s) (let e : s + (end - s) ≡ end = omega arith in e)
    ∙ ap (λ t. cleared t s end) half_is
    ∙ clear_all bytes at n s end hb h room es ee
