-- Numbers, bytes and words: bits in bytes, most significant bit first, and words in bytes,
-- little-endian.
use mathlib.Core.Path.{◌≡◌, refl, sym, ap, ap₂, ◌∙◌, subst}
use mathlib.Core.List.{List, [], ◌∷◌, ◌++◌}
use Prim.Native.Nat.{ℕ, zero, suc, ◌+◌, ◌-◌, ◌*◌, ◌/◌, ◌%◌, ◌^◌, ◌≤◌, ◌<◌}
use native.Mathlib.Nat.{mod-lt, zero-lt-suc, mod-eq_of_lt, zero-div, div-div-eq-div-mul, mul_assoc, mul-add-div_right, mul-add-mod_self_right}
use native.Mathlib.Omega.{arith}
use lib.Pow.{pow_pos, pow-add, high, shr-shr}
use lib.ListN.{length, get_or, take, drop, length-take, get_or-append}
use lib.Seq.{ext_get_or, get_or-drop, get_or-take, get_or-append-add, drop-drop}
use Rattle.meaning.specs.Strings.{Bit, O, I}
use Rattle.meaning.specs.Bytes.{value, bit, bit_at, number, bytes_of}
use Rattle.meaning.specs.Blocks.{le32, word_bytes, words}
use Rattle.theory.specs.Layout.{AreBytes, word_at, bit_word}

-- ---- a number of k bits

pub number_lt : (k : ℕ) (bs : List Bit) → number k bs < 2 ^ k
unfolding number value
number_lt zero bs = omega arith
number_lt (suc k) [] = pow_pos (suc k)
number_lt (suc k) (O ∷ bs) = omega (arith, number_lt k bs)
number_lt (suc k) (I ∷ bs) = omega (arith, number_lt k bs)

digit_value : (b : Bit) → bit (value b % 2) ≡ b
unfolding bit value
digit_value O = refl
digit_value I = refl

-- a digit below the top one is the rest's
digit-below : (k r v n : ℕ) → r < k → (v * 2 ^ k + n) / 2 ^ (k - 1 - r) % 2 ≡ n / 2 ^ (k - 1 - r) % 2
digit-below k r v n h =
    let e = k - 1 - r in
    let s : k ≡ suc r + e = omega arith in
    let p : v * 2 ^ k ≡ v * 2 ^ r * 2 * 2 ^ e =
    ap (λ i. v * 2 ^ i) s ∙ ap (λ x. v * x) (pow-add 2 (suc r) e ∙ ap (λ x. x * 2 ^ e) (let q : 2 ^ suc r ≡ 2 ^ r * 2 = omega arith in q))
    ∙ sym (mul_assoc v (2 ^ r * 2) (2 ^ e)) ∙ ap (λ x. x * 2 ^ e) (sym (mul_assoc v (2 ^ r) 2)) in
    ap (λ x. (x + n) / 2 ^ e % 2) p ∙ ap (λ x. x % 2) (mul-add-div_right (pow_pos e) (v * 2 ^ r * 2) n) ∙ mul-add-mod_self_right (v * 2 ^ r) 2 (n / 2 ^ e)

pub number_bit : (k : ℕ) (bs : List Bit) (r : ℕ) → r < k → bit (number k bs / 2 ^ (k - 1 - r) % 2) ≡ get_or bs r O
unfolding number bit
number_bit zero bs r h = absurd (omega arith)
number_bit (suc k) [] r h = ap (λ x. bit (x % 2)) (zero-div (2 ^ (suc k - 1 - r)))
number_bit (suc k) (b ∷ bs) zero h =
    ap (λ i. bit ((value b * 2 ^ k + number k bs) / 2 ^ i % 2)) (let e : suc k - 1 - 0 ≡ k = omega arith in e)
    ∙ ap (λ x. bit (x % 2)) (high (value b) k (number_lt k bs)) ∙ digit_value b
number_bit (suc k) (b ∷ bs) (suc r) h =
    ap (λ i. bit ((value b * 2 ^ k + number k bs) / 2 ^ i % 2)) (let e : suc k - 1 - suc r ≡ k - 1 - r = omega arith in e)
    ∙ ap bit (digit-below k r (value b) (number k bs) (omega arith))
    ∙ number_bit k bs r (omega arith)

-- ---- bytes of bits

pub length-bytes_of : (n : ℕ) (bs : List Bit) → length (bytes_of n bs) ≡ n
unfolding bytes_of
length-bytes_of zero bs = refl
length-bytes_of (suc n) bs = ap suc (length-bytes_of n (drop 8 bs))

pub bytes_of-at : (n : ℕ) (bs : List Bit) (q : ℕ) → q < n → get_or (bytes_of n bs) q 0 ≡ number 8 (drop (8 * q) bs)
unfolding bytes_of
bytes_of-at zero bs q h = absurd (omega arith)
bytes_of-at (suc n) bs zero h = refl
bytes_of-at (suc n) bs (suc q) h =
    bytes_of-at n (drop 8 bs) q (omega arith)
    ∙ ap (number 8) (drop-drop (8 * q) 8 bs ∙ ap (λ k. drop k bs) (let e : 8 + 8 * q ≡ 8 * suc q = omega arith in e))

pub bytes_of_lt : (n : ℕ) (bs : List Bit) → AreBytes (bytes_of n bs)
bytes_of_lt n bs i h = omega (arith, bytes_of-at n bs i (omega (arith, length-bytes_of n bs)), number_lt 8 (drop (8 * i) bs))

pub bytes_of-bit : (n : ℕ) (bs : List Bit) (p : ℕ) → p < 8 * n → bit_at (bytes_of n bs) p ≡ get_or bs p O
unfolding bit_at
bytes_of-bit n bs p h =
    ap (λ x. bit (x / 2 ^ (7 - p % 8) % 2)) (bytes_of-at n bs (p / 8) (omega arith))
    ∙ number_bit 8 (drop (8 * (p / 8)) bs) (p % 8) (omega arith)
    ∙ get_or-drop (8 * (p / 8)) bs (p % 8) O
    ∙ ap (λ k. get_or bs k O) (let e : 8 * (p / 8) + p % 8 ≡ p = omega arith in e)

-- ---- bytes with the same bits are the same

bit_back : (a b : ℕ) → a < 2 → b < 2 → bit a ≡ bit b → a ≡ b
unfolding bit
bit_back zero zero h g e = refl
bit_back zero (suc b) h g e = absurd (let z : ◌≡◌ {A = ℕ} 0 1 = cc in omega arith)
bit_back (suc a) zero h g e = absurd (let z : ◌≡◌ {A = ℕ} 0 1 = cc in omega arith)
bit_back (suc a) (suc b) h g e = omega arith

-- two numbers of k digits are the same if their digits are
digits : (k a b : ℕ) → a < 2 ^ k → b < 2 ^ k → ((j : ℕ) → j < k → bit (a / 2 ^ j % 2) ≡ bit (b / 2 ^ j % 2)) → a ≡ b
digits zero a b h g e = omega arith
digits (suc k) a b h g e =
    let half : a / 2 ≡ b / 2 = digits k (a / 2) (b / 2) (omega arith) (omega arith)
    (λ j l. ap (λ x. bit (x % 2)) (shr-shr a 1 j)
    ∙ subst (λ m. bit (a / 2 ^ m % 2) ≡ bit (b / 2 ^ m % 2)) (let s : suc j ≡ 1 + j = omega arith in s) (e (suc j) (omega arith))
    ∙ ap (λ x. bit (x % 2)) (sym (shr-shr b 1 j))) in
    let by_one : (x : ℕ) → x / 1 ≡ x = λ x. omega arith in
    let last : a % 2 ≡ b % 2 = bit_back (a % 2) (b % 2) (mod-lt a (zero-lt-suc 1)) (mod-lt b (zero-lt-suc 1))
    (sym (ap (λ x. bit (x % 2)) (by_one a)) ∙ e 0 (omega arith) ∙ ap (λ x. bit (x % 2)) (by_one b)) in
    omega arith

-- a bit of a list of bytes, by byte and digit
bit-digit : (bytes : List ℕ) (i j : ℕ) → j < 8 → bit_at bytes (8 * i + (7 - j)) ≡ bit (get_or bytes i 0 / 2 ^ j % 2)
unfolding bit_at
bit-digit bytes i j h =
    ap₂ (λ q r. bit (get_or bytes q 0 / 2 ^ r % 2)) (let e : (8 * i + (7 - j)) / 8 ≡ i = omega arith in e) (let e : 7 - (8 * i + (7 - j)) % 8 ≡ j = omega arith in e)

pub same_bits_lem : (a b : List ℕ) → AreBytes a → AreBytes b → length a ≡ length b → ((p : ℕ) → p < 8 * length a → bit_at a p ≡ bit_at b p) → a ≡ b
same_bits_lem a b ha hb l e =
    ext_get_or 0 a b l (λ i h. digits 8 (get_or a i 0) (get_or b i 0) (ha i h) (hb i (omega arith))
    (λ j g. sym (bit-digit a i j g) ∙ e (8 * i + (7 - j)) (omega arith) ∙ bit-digit b i j g))

-- ---- lists of bytes

bytes_tail : (x : ℕ) (xs : List ℕ) → AreBytes (x ∷ xs) → AreBytes xs
bytes_tail x xs h i g = h (suc i) (omega arith)

-- past the end there are zeros
pub byte_lt : (xs : List ℕ) → AreBytes xs → (i : ℕ) → get_or xs i 0 < 256
byte_lt [] h i = omega arith
byte_lt (x ∷ xs) h zero = h 0 (omega arith)
byte_lt (x ∷ xs) h (suc i) = byte_lt xs (bytes_tail x xs h) i

-- a word of bytes has 32 bits
pub word_lt : (bytes : List ℕ) → AreBytes bytes → (p : ℕ) → word_at bytes p < 2 ^ 32
unfolding word_at
word_lt bytes are p = omega (arith, byte_lt bytes are p, byte_lt bytes are (p + 1), byte_lt bytes are (p + 2), byte_lt bytes are (p + 3))

pub append_bytes : (xs ys : List ℕ) → AreBytes xs → AreBytes ys → AreBytes (xs ++ ys)
append_bytes [] ys h g i l = g i l
append_bytes (x ∷ xs) ys h g zero l = h 0 (omega arith)
append_bytes (x ∷ xs) ys h g (suc i) l = append_bytes xs ys (bytes_tail x xs h) g i (omega arith)

pub take_bytes : (n : ℕ) (xs : List ℕ) → AreBytes xs → AreBytes (take n xs)
take_bytes n xs h i l = let g = length-take n xs in omega (arith, get_or-take n xs i 0 (omega arith), byte_lt xs h i)

pub drop_bytes : (n : ℕ) (xs : List ℕ) → AreBytes xs → AreBytes (drop n xs)
drop_bytes n xs h i l = omega (arith, get_or-drop n xs i 0, byte_lt xs h (n + i))

pub le32_bytes : (w : ℕ) → AreBytes (le32 w)
le32_bytes w zero h = omega arith
le32_bytes w (suc zero) h = omega arith
le32_bytes w (suc (suc zero)) h = omega arith
le32_bytes w (suc (suc (suc zero))) h = omega arith
le32_bytes w (suc (suc (suc (suc i)))) h = absurd (omega arith)

pub words_bytes : (ws : List ℕ) → AreBytes (word_bytes ws)
unfolding word_bytes
words_bytes [] i h = absurd (omega arith)
words_bytes (w ∷ ws) i h = append_bytes (le32 w) (word_bytes ws) (le32_bytes w) (words_bytes ws) i h

-- ---- words in bytes

pub word_at-append : (xs ys : List ℕ) (p : ℕ) → word_at (xs ++ ys) (length xs + p) ≡ word_at ys p
unfolding word_at
word_at-append xs ys p = omega (arith, at 0, at 1, at 2, at 3, get_or-append-add xs ys p 0)
  where
    at : (k : ℕ) → get_or (xs ++ ys) (length xs + p + k) 0 ≡ get_or ys (p + k) 0
    at k = ap (λ i. get_or (xs ++ ys) i 0) (let e : length xs + p + k ≡ length xs + (p + k) = omega arith in e) ∙ get_or-append-add xs ys (p + k) 0

pub word_at-take : (n : ℕ) (xs : List ℕ) (p : ℕ) → p + 3 < n → word_at (take n xs) p ≡ word_at xs p
unfolding word_at
word_at-take n xs p h =
    omega (arith, get_or-take n xs p 0 (omega arith), get_or-take n xs (p + 1) 0 (omega arith), get_or-take n xs (p + 2) 0 (omega arith), get_or-take n xs (p + 3) 0 (omega arith))

pub word_at-drop : (n : ℕ) (xs : List ℕ) (p : ℕ) → word_at (drop n xs) p ≡ word_at xs (n + p)
unfolding word_at
word_at-drop n xs p = omega (arith, get_or-drop n xs p 0, at 1, at 2, at 3)
  where
    at : (k : ℕ) → get_or (drop n xs) (p + k) 0 ≡ get_or xs (n + p + k) 0
    at k = get_or-drop n xs (p + k) 0 ∙ ap (λ i. get_or xs i 0) (let e : n + (p + k) ≡ n + p + k = omega arith in e)

-- four bytes are one word, and one word is four bytes
le32-word : (w : ℕ) → w < 2 ^ 32 → w % 256 + 256 * (w / 256 % 256) + 65536 * (w / 65536 % 256) + 16777216 * (w / 16777216 % 256) ≡ w
le32-word w h =
    let x = w / 256 in
    let y = x / 256 in
    let z = y / 256 in
    let ey : w / 65536 ≡ y = sym (div-div-eq-div-mul w 256 256) in
    let ez : w / 16777216 ≡ z = sym (div-div-eq-div-mul w 65536 256) ∙ ap (λ n. n / 256) ey in
    let g : z < 256 = omega arith in
    ap₂ (λ m n. w % 256 + 256 * (x % 256) + 65536 * (m % 256) + 16777216 * n) ey (ap (λ n. n % 256) ez ∙ mod-eq_of_lt g)
    ∙ four w x y z (w % 256) (x % 256) (y % 256) (omega arith) (omega arith) (omega arith)
  where
    four : (w x y z r s t : ℕ) → w ≡ 256 * x + r → x ≡ 256 * y + s → y ≡ 256 * z + t → r + 256 * s + 65536 * t + 16777216 * z ≡ w
    four w x y z r s t e f g = omega arith

-- the word that le32 begins with
pub le32-first : (w : ℕ) (ys : List ℕ) → w < 2 ^ 32 → word_at (le32 w ++ ys) 0 ≡ w
unfolding word_at
le32-first w ys h = le32-word w h

pub length-word_bytes : (ws : List ℕ) → length (word_bytes ws) ≡ 4 * length ws
unfolding word_bytes
length-word_bytes [] = refl
length-word_bytes (w ∷ ws) = omega (arith, length-word_bytes ws)

-- byte k of word i
pub word_bytes_byte : (ws : List ℕ) (i k : ℕ) → i < length ws → k < 4 → get_or (word_bytes ws) (4 * i + k) 0 ≡ get_or (le32 (get_or ws i 0)) k 0
unfolding word_bytes
word_bytes_byte [] i k h g = absurd (omega arith)
word_bytes_byte (w ∷ ws) zero k h g =
    ap (λ n. get_or (le32 w ++ word_bytes ws) n 0) (let e : 4 * 0 + k ≡ k = omega arith in e) ∙ get_or-append (le32 w) (word_bytes ws) 0 k (omega arith)
word_bytes_byte (w ∷ ws) (suc i) k h g =
    ap (λ n. get_or (le32 w ++ word_bytes ws) n 0) (let e : 4 * suc i + k ≡ length (le32 w) + (4 * i + k) = omega arith in e)
    ∙ get_or-append-add (le32 w) (word_bytes ws) (4 * i + k) 0 ∙ word_bytes_byte ws i k (omega arith) g

pub word_bytes-at : (ws : List ℕ) (i : ℕ) → get_or ws i 0 < 2 ^ 32 → word_at (word_bytes ws) (4 * i) ≡ get_or ws i 0
unfolding word_bytes word_at
word_bytes-at [] i h = refl
word_bytes-at (w ∷ ws) zero h = le32-word w h
word_bytes-at (w ∷ ws) (suc i) h =
    ap (word_at (le32 w ++ word_bytes ws)) (let e : 4 * suc i ≡ length (le32 w) + 4 * i = omega arith in e)
    ∙ word_at-append (le32 w) (word_bytes ws) (4 * i) ∙ word_bytes-at ws i h

pub length-words : (k : ℕ) (bytes : List ℕ) → length bytes ≡ 4 * k → length (words bytes) ≡ k
unfolding words
length-words zero [] l = refl
length-words zero (a ∷ bytes) l = absurd (omega arith)
length-words (suc k) [] l = absurd (omega arith)
length-words (suc k) (a ∷ []) l = absurd (omega arith)
length-words (suc k) (a ∷ b ∷ []) l = absurd (omega arith)
length-words (suc k) (a ∷ b ∷ c ∷ []) l = absurd (omega arith)
length-words (suc k) (a ∷ b ∷ c ∷ d ∷ bytes) l = ap suc (length-words k bytes (omega arith))

pub words-at : (i : ℕ) (bytes : List ℕ) → 4 * i + 4 ≤ length bytes → word_at bytes (4 * i) ≡ get_or (words bytes) i 0
unfolding words word_at
words-at i [] l = absurd (omega arith)
words-at i (a ∷ []) l = absurd (omega arith)
words-at i (a ∷ b ∷ []) l = absurd (omega arith)
words-at i (a ∷ b ∷ c ∷ []) l = absurd (omega arith)
words-at zero (a ∷ b ∷ c ∷ d ∷ bytes) l = refl
words-at (suc i) (a ∷ b ∷ c ∷ d ∷ bytes) l =
    ap (word_at (a ∷ b ∷ c ∷ d ∷ bytes)) (let e : 4 * suc i ≡ length (a ∷ b ∷ c ∷ d ∷ []) + 4 * i = omega arith in e)
    ∙ word_at-append (a ∷ b ∷ c ∷ d ∷ []) bytes (4 * i) ∙ words-at i bytes (omega arith)

pub words-word_bytes : (ws : List ℕ) → ((i : ℕ) → i < length ws → get_or ws i 0 < 2 ^ 32) → words (word_bytes ws) ≡ ws
unfolding words word_bytes
words-word_bytes [] h = refl
words-word_bytes (w ∷ ws) h = ap₂ ◌∷◌ (le32-word w (h 0 (omega arith))) (words-word_bytes ws (λ i l. h (suc i) (omega arith)))

le32-four : (a b c d : ℕ) → a < 256 → b < 256 → c < 256 → d < 256 → le32 (a + 256 * b + 65536 * c + 16777216 * d) ≡ a ∷ b ∷ c ∷ d ∷ []
le32-four a b c d ha hb hc hd =
    let w = a + 256 * b + 65536 * c + 16777216 * d in
    let x : w / 256 ≡ b + 256 * c + 65536 * d = omega arith in
    let y : w / 65536 ≡ c + 256 * d = sym (div-div-eq-div-mul w 256 256) ∙ omega arith in
    let z : w / 16777216 ≡ d = sym (div-div-eq-div-mul w 65536 256) ∙ omega arith in
    let e0 : w % 256 ≡ a = omega arith in
    let e1 : w / 256 % 256 ≡ b = ap (λ n. n % 256) x ∙ omega arith in
    let e2 : w / 65536 % 256 ≡ c = ap (λ n. n % 256) y ∙ omega arith in
    let e3 : w / 16777216 % 256 ≡ d = ap (λ n. n % 256) z ∙ mod-eq_of_lt hd in
    cc

pub word_bytes-words : (k : ℕ) (bytes : List ℕ) → AreBytes bytes → length bytes ≡ 4 * k → word_bytes (words bytes) ≡ bytes
unfolding words word_bytes
word_bytes-words zero [] h l = refl
word_bytes-words zero (a ∷ bytes) h l = absurd (omega arith)
word_bytes-words (suc k) [] h l = absurd (omega arith)
word_bytes-words (suc k) (a ∷ []) h l = absurd (omega arith)
word_bytes-words (suc k) (a ∷ b ∷ []) h l = absurd (omega arith)
word_bytes-words (suc k) (a ∷ b ∷ c ∷ []) h l = absurd (omega arith)
word_bytes-words (suc k) (a ∷ b ∷ c ∷ d ∷ bytes) h l =
    ap₂ ◌++◌ (le32-four a b c d (h 0 (omega arith)) (h 1 (omega arith)) (h 2 (omega arith)) (h 3 (omega arith)))
    (word_bytes-words k bytes (λ i g. h (suc (suc (suc (suc i)))) (omega arith)) (omega arith))

-- bytes with the same words are the same
pub same-words : (k : ℕ) (a b : List ℕ) → AreBytes a → AreBytes b → length a ≡ 4 * k → length b ≡ 4 * k
    → ((w : ℕ) → w < k → word_at a (4 * w) ≡ word_at b (4 * w)) → a ≡ b
same-words k a b ha hb la lb e =
    let na = length-words k a la in
    let nb = length-words k b lb in
    sym (word_bytes-words k a ha la)
    ∙ ap word_bytes (ext_get_or 0 (words a) (words b) (na ∙ sym nb)
    (λ i h. sym (words-at i a (omega arith)) ∙ e i (omega arith) ∙ words-at i b (omega arith)))
    ∙ word_bytes-words k b hb lb

pub bytes_of-word : (n : ℕ) (bs : List Bit) (w : ℕ) → 4 * w + 3 < n → word_at (bytes_of n bs) (4 * w) ≡ bit_word (drop (32 * w) bs)
unfolding word_at bit_word
bytes_of-word n bs w h =
    omega (arith, ap (λ i. get_or (bytes_of n bs) i 0) (let e : 4 * w + 0 ≡ 4 * w = omega arith in e), at 0 (omega arith), at 1 (omega arith), at 2 (omega arith), at 3 (omega arith))
  where
    at : (k : ℕ) → k < 4 → get_or (bytes_of n bs) (4 * w + k) 0 ≡ number 8 (drop (8 * k) (drop (32 * w) bs))
    at k g =
        bytes_of-at n bs (4 * w + k) (omega arith)
        ∙ ap (number 8) (ap (λ i. drop i bs) (let e : 8 * (4 * w + k) ≡ 32 * w + 8 * k = omega arith in e) ∙ sym (drop-drop (8 * k) (32 * w) bs))
