-- The words of the payloads: of a string's blocks and of the blocks of a list of numbers.
use mathlib.Core.Path.{◌≡◌, refl, sym, ap, ap₂, ◌∙◌}
use mathlib.Core.List.{List, [], ◌∷◌, ◌++◌, map}
use Prim.Native.Nat.{ℕ, zero, suc, ◌+◌, ◌-◌, ◌*◌, ◌/◌, ◌^◌, ◌≤◌, ◌<◌}
use native.Mathlib.Omega.{arith}
use lib.ListN.{length, get_or, take, drop, length-take, get_or-map}
use lib.Seq.{get_or-take, get_or-drop, drop-drop, take-add, take-nil}
use Rattle.meaning.specs.Strings.{Bit, O, I, ones, positions}
use Rattle.meaning.specs.Bytes.{number, value, bytes_of}
use Rattle.meaning.specs.Blocks.{le32, word_bytes, cut}
use Rattle.meaning.specs.Image.{string_payloads, sampled, samples}
use Rattle.theory.specs.Rank.{position}
use Rattle.theory.specs.Layout.{AreBytes, word_at, bit_word, string_word, list_word, sample_word}
use Rattle.theory.proofs.Odd.{ones-append}
use Rattle.theory.proofs.Navigate.{position-zero}
use Rattle.theory.proofs.Digits.{le32-first, le32_bytes, append_bytes, bytes_of_lt, word_at-append, bytes_of-word, word_bytes-at}
use Rattle.theory.proofs.Sealing.{cut_at}

pub ones-le : (bs : List Bit) → ones bs ≤ length bs
ones-le [] = omega arith
ones-le (O ∷ bs) = omega (arith, ones-le bs)
ones-le (I ∷ bs) = omega (arith, ones-le bs)

-- ---- samples

length-positions : (bs : List Bit) (i : ℕ) → length (positions bs i) ≡ ones bs
unfolding positions
length-positions [] i = refl
length-positions (O ∷ bs) i = length-positions bs (suc i)
length-positions (I ∷ bs) i = ap suc (length-positions bs (suc i))

positions-at : (bs : List Bit) (i q : ℕ) → q < ones bs → suc (get_or (positions bs i) q 0) ≡ i + position bs (suc q)
unfolding positions
positions-at [] i q h = absurd (omega arith)
positions-at (O ∷ bs) i q h = positions-at bs (suc i) q h ∙ omega arith
positions-at (I ∷ bs) i zero h = omega (arith, position-zero bs)
positions-at (I ∷ bs) i (suc q) h = positions-at bs (suc i) q (omega arith) ∙ omega arith

positions-le : (bs : List Bit) (i q : ℕ) → get_or (positions bs i) q 0 ≤ i + length bs
unfolding positions
positions-le [] i q = omega arith
positions-le (O ∷ bs) i q = omega (arith, positions-le bs (suc i) q)
positions-le (I ∷ bs) i zero = omega arith
positions-le (I ∷ bs) i (suc q) = omega (arith, positions-le bs (suc i) q)

sampled-at : (xs : List ℕ) (k j : ℕ) → get_or (sampled xs k) j 0 ≡ get_or xs (k + 64 * j) 0
unfolding sampled
sampled-at [] k j = refl
sampled-at (x ∷ xs) zero zero = refl
sampled-at (x ∷ xs) zero (suc j) = sampled-at xs 63 j ∙ ap (λ n. get_or (x ∷ xs) n 0) (let e : suc (63 + 64 * j) ≡ 0 + 64 * suc j = omega arith in e)
sampled-at (x ∷ xs) (suc k) j = sampled-at xs k j ∙ ap (λ n. get_or (x ∷ xs) n 0) (let e : suc (k + 64 * j) ≡ suc k + 64 * j = omega arith in e)

length-sampled : (xs : List ℕ) (k : ℕ) → k ≤ 63 → length (sampled xs k) ≡ (length xs + 63 - k) / 64
unfolding sampled
length-sampled [] k h = omega arith
length-sampled (x ∷ xs) zero h = ap suc (length-sampled xs 63 (omega arith)) ∙ omega arith
length-sampled (x ∷ xs) (suc k) h = length-sampled xs k (omega arith) ∙ omega arith

pub length-samples : (bs : List Bit) → length (samples bs) ≡ (ones bs + 63) / 64
unfolding samples
length-samples bs = length-sampled (positions bs 1) 0 (omega arith) ∙ omega (arith, length-positions bs 1)

pub sample_at : (bs : List Bit) (j : ℕ) → j < length (samples bs) → get_or (samples bs) j 0 ≡ position bs (64 * j + 1)
unfolding samples
sample_at bs j h =
    let e : suc (get_or (positions bs 1) (0 + 64 * j) 0) ≡ 1 + position bs (64 * j + 1) =
    positions-at bs 1 (0 + 64 * j) (omega (arith, length-samples bs)) ∙ ap (λ n. 1 + position bs n) (let f : suc (0 + 64 * j) ≡ 64 * j + 1 = omega arith in f) in
    sampled-at (positions bs 1) 0 j ∙ omega arith

pub sample_le : (bs : List Bit) (j : ℕ) → get_or (samples bs) j 0 ≤ 1 + length bs
unfolding samples
sample_le bs j = omega (arith, sampled-at (positions bs 1) 0 j, positions-le bs 1 (0 + 64 * j))

-- ---- lists of numbers

-- the payload of a block of a list
pub list_payload_lem : (k : ℕ) (ws : List ℕ) (j : ℕ) → j < k → get_or (map word_bytes (cut k 126 ws)) j [] ≡ word_bytes (take 126 (drop (126 * j) ws))
unfolding word_bytes
list_payload_lem k ws j h = get_or-map word_bytes (cut k 126 ws) j [] ∙ ap word_bytes (cut_at k 126 ws j h)

pub list_word_lem : (ws : List ℕ) (j w : ℕ) → get_or ws (126 * j + w) 0 < 2 ^ 32 → w < 126 → word_at (word_bytes (take 126 (drop (126 * j) ws))) (4 * w) ≡ list_word ws j w
list_word_lem ws j w l h =
    let e : get_or (take 126 (drop (126 * j) ws)) w 0 ≡ get_or ws (126 * j + w) 0 = get_or-take 126 (drop (126 * j) ws) w 0 h ∙ get_or-drop (126 * j) ws w 0 in
    word_bytes-at (take 126 (drop (126 * j) ws)) w (omega arith) ∙ e

pub sample_word_lem : (r : List Bit) (j w : ℕ) → length r ≤ 65536 → w < 126 → word_at (word_bytes (take 126 (drop (126 * j) (samples r)))) (4 * w) ≡ sample_word r j w
unfolding sample_word
sample_word_lem r j w l h = list_word_lem (samples r) j w (omega (arith, sample_le r (126 * j + w))) h

-- ---- strings

-- the payload of a block of a string
pub string-payload : (k : ℕ) (r : List Bit) (c j : ℕ) → j < k
    → get_or (string_payloads (cut k 4000 r) c) j [] ≡ le32 (c + ones (take (4000 * j) r)) ++ bytes_of 500 (take 4000 (drop (4000 * j) r))
unfolding string_payloads cut
string-payload zero r c j h = absurd (omega arith)
string-payload (suc k) r c zero h = ap (λ n. le32 n ++ bytes_of 500 (take 4000 r)) (let e : c ≡ c + 0 = omega arith in e)
string-payload (suc k) r c (suc j) h =
    let s : 4000 + 4000 * j ≡ 4000 * suc j = omega arith in
    let e : c + ones (take 4000 r) + ones (take (4000 * j) (drop 4000 r)) ≡ c + ones (take (4000 * suc j) r) =
    omega (arith, ones-append (take 4000 r) (take (4000 * j) (drop 4000 r)), ap ones (sym (take-add 4000 (4000 * j) r) ∙ ap (λ n. take n r) s)) in
    string-payload k (drop 4000 r) (c + ones (take 4000 r)) j (omega arith)
    ∙ ap₂ (λ n x. le32 n ++ bytes_of 500 (take 4000 x)) e (drop-drop (4000 * j) 4000 r ∙ ap (λ n. drop n r) s)

pub length-strings : (xs : List (List Bit)) (c : ℕ) → length (string_payloads xs c) ≡ length xs
unfolding string_payloads
length-strings [] c = refl
length-strings (x ∷ xs) c = ap suc (length-strings xs (c + ones x))

number-take : (k m : ℕ) (bs : List Bit) → k ≤ m → number k (take m bs) ≡ number k bs
unfolding number
number-take zero m bs h = refl
number-take (suc k) zero bs h = absurd (omega arith)
number-take (suc k) (suc m) [] h = refl
number-take (suc k) (suc m) (b ∷ bs) h = ap (λ n. value b * 2 ^ k + n) (number-take k m bs (omega arith))

drop-take : (i m : ℕ) (bs : List Bit) → drop i (take (i + m) bs) ≡ take m (drop i bs)
drop-take zero m bs = ap (λ n. take n bs) (let e : 0 + m ≡ m = omega arith in e)
drop-take (suc i) m [] = ap (drop (suc i)) (take-nil (suc i + m)) ∙ sym (take-nil m)
drop-take (suc i) m (b ∷ bs) = ap (λ n. drop (suc i) (take n (b ∷ bs))) (let e : suc i + m ≡ suc (i + m) = omega arith in e) ∙ drop-take i m bs

-- only the first 32 bits make the word
bit_word-take : (m : ℕ) (bs : List Bit) → 32 ≤ m → bit_word (take m bs) ≡ bit_word bs
unfolding bit_word
bit_word-take m bs h = omega (arith, at 0 (omega arith), at 8 (omega arith), at 16 (omega arith), at 24 (omega arith))
  where
    at : (i : ℕ) → i ≤ 24 → number 8 (drop i (take m bs)) ≡ number 8 (drop i bs)
    at i l =
        ap (λ n. number 8 (drop i (take n bs))) (let e : m ≡ i + (m - i) = omega arith in e)
        ∙ ap (number 8) (drop-take i (m - i) bs) ∙ number-take 8 (m - i) (drop i bs) (omega arith)

string-count : (r : List Bit) (j : ℕ) → ones (take (4000 * j) r) ≡ string_word r j 0
unfolding string_word
string-count r j = refl

pub string-word : (r : List Bit) (j w : ℕ) → length r ≤ 65536 → w < 126
    → word_at (le32 (ones (take (4000 * j) r)) ++ bytes_of 500 (take 4000 (drop (4000 * j) r))) (4 * w) ≡ string_word r j w
unfolding string_word
string-word r j zero l h =
    le32-first (ones (take (4000 * j) r)) (bytes_of 500 (take 4000 (drop (4000 * j) r))) (omega (arith, ones-le (take (4000 * j) r), length-take (4000 * j) r))
    ∙ string-count r j
string-word r j (suc w) l h =
    let c = le32 (ones (take (4000 * j) r)) in
    let d = drop (4000 * j) r in
    ap (word_at (c ++ bytes_of 500 (take 4000 d))) (let e : 4 * suc w ≡ length c + 4 * w = omega arith in e)
    ∙ word_at-append c (bytes_of 500 (take 4000 d)) (4 * w)
    ∙ bytes_of-word 500 (take 4000 d) w (omega arith)
    ∙ ap bit_word (ap (λ n. drop (32 * w) (take n d)) (let e : 4000 ≡ 32 * w + (4000 - 32 * w) = omega arith in e) ∙ drop-take (32 * w) (4000 - 32 * w) d)
    ∙ bit_word-take (4000 - 32 * w) (drop (32 * w) d) (omega arith)
    ∙ ap bit_word (drop-drop (32 * w) (4000 * j) r)

pub string_bytes : (c : ℕ) (bs : List Bit) → AreBytes (le32 c ++ bytes_of 500 bs)
string_bytes c bs = append_bytes (le32 c) (bytes_of 500 bs) (le32_bytes c) (bytes_of_lt 500 bs)
