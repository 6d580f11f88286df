-- Blocks of 512 bytes (document 01, "Image").
use Rattle.std.specs.Prelude.{Bool, true, false, cond, ◌&&◌, List, [], ◌∷◌, ◌++◌, ℕ, zero, suc, ◌+◌, ◌*◌, ◌/◌, ◌%◌, ◌^◌, eqb, length, get_or, take, drop, replicate}

-- ---- Words of 32 bits, little-endian.

abbrev pub le32 : ℕ → List ℕ
le32 w = w % 256 ∷ w / 256 % 256 ∷ w / 65536 % 256 ∷ w / 16777216 % 256 ∷ []

unfoldable pub word_bytes : List ℕ → List ℕ
word_bytes [] = []
word_bytes (w ∷ ws) = le32 w ++ word_bytes ws

-- bytes read as words, four to a word
unfoldable pub words : List ℕ → List ℕ
words [] = []
words (a ∷ []) = []
words (a ∷ b ∷ []) = []
words (a ∷ b ∷ c ∷ []) = []
words (a ∷ b ∷ c ∷ d ∷ rest) = (a + 256 * b + 65536 * c + 16777216 * d) ∷ words rest

-- the word at byte p
unfoldable pub word_at : List ℕ → ℕ → ℕ
word_at bytes p = get_or bytes p 0 + 256 * get_or bytes (p + 1) 0 + 65536 * get_or bytes (p + 2) 0 + 16777216 * get_or bytes (p + 3) 0

-- ---- The two sums: for each payload word add it to s, then add s to t, both modulo 2^32.

unfoldable pub sums : List ℕ → ℕ → ℕ → List ℕ
sums [] s t = s ∷ t ∷ []
sums (w ∷ ws) s t = let s' = (s + w) % 2 ^ 32 in sums ws s' ((t + s') % 2 ^ 32)

-- for block b: start with s = b
abbrev pub sum_start : ℕ → ℕ
sum_start b = b

-- ---- A block: 504 bytes of payload, then s and t.

-- unused payload is zero
unfoldable pub padded : List ℕ → List ℕ
padded payload = take 504 (payload ++ replicate 504 0)

-- its s starts with `start`
unfoldable pub block : ℕ → List ℕ → List ℕ
unfolding word_bytes words sums
block start payload = payload ++ word_bytes (sums (words payload) start 0)

-- blocks with these payloads end to end, numbered from b; `start` says where the s of each block
-- starts
unfoldable pub sealed : (start : ℕ → ℕ) → List (List ℕ) → ℕ → List ℕ
unfolding padded block
sealed start [] b = []
sealed start (p ∷ ps) b = block (start b) (padded p) ++ sealed start ps (suc b)

-- ---- The check of the sums.

abbrev pub same : List ℕ → List ℕ → Bool
same [] [] = true
same [] (y ∷ ys) = false
same (x ∷ xs) [] = false
same (x ∷ xs) (y ∷ ys) = eqb x y && same xs ys

-- a list cut into k parts of n
unfoldable pub cut : {A : Type 0} → ℕ → ℕ → List A → List (List A)
cut zero n xs = []
cut (suc k) n xs = take n xs ∷ cut k n (drop n xs)

abbrev pub blocks_in : List ℕ → ℕ
blocks_in bytes = length bytes / 512

-- the lowest of these blocks whose s or t is wrong, numbered from b; the number after the last if
-- there is none
unfoldable pub wrong_from : (start : ℕ → ℕ) → List (List ℕ) → ℕ → ℕ
unfolding block
wrong_from start [] b = b
wrong_from start (x ∷ xs) b = let rest = wrong_from start xs (suc b) in cond (same (block (start b) (take 504 x)) x) rest b

unfoldable pub wrong_block : List ℕ → ℕ
unfolding cut wrong_from
wrong_block bytes = wrong_from sum_start (cut (blocks_in bytes) 512 bytes) 0
