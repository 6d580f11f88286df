-- What is wrong with an image whose blocks all check and that no tree gives (document 02, item 1,
-- "Say what is wrong with an image"): the tests of codes 12 to 15.
use Rattle.std.specs.Prelude.{Bool, cond, ◌&&◌, List, [], ◌∷◌, ◌++◌, map, ℕ, suc, ◌+◌, ◌*◌, leb, eqb, length, take, drop}
use Rattle.meaning.specs.Strings.{Bit, ones, R1, R0, string_of}
use Rattle.meaning.specs.Bytes.{value}
use Rattle.meaning.specs.Blocks.{word_bytes, padded, same, blocks_in}
use Rattle.meaning.specs.Image.{string_part, sample_part, list_part, list_of, r0_block, r1_samples, blocks_needed, header_word, string_in, parents_in, metres_in, is_tree}

-- ---- 12: header numbers, taken together, or a reserved word that no tree of this image length
-- has.

-- n and m that some tree has: one node has one run of ones, n nodes have 2 to n
abbrev pub some_tree : ℕ → ℕ → Bool
some_tree n m = leb 1 n && leb n 65535 && cond (eqb n 1) (eqb m 1) (leb 2 m && leb m n)

-- some tree has this n and m, its image of this version has this length, and after the version come
-- n, m, the number of blocks and zeros
unfoldable pub is_header : List ℕ → Bool
unfolding header_word padded
is_header bytes =
    let n = header_word bytes 1 in
    let m = header_word bytes 2 in
    some_tree n m
    && eqb (blocks_needed (header_word bytes 0) n m) (blocks_in bytes)
    && same (padded (word_bytes (header_word bytes 0 ∷ n ∷ m ∷ blocks_in bytes ∷ []))) (take 504 bytes)

-- ---- 13: strings that no tree with this n and m gives.

-- the two strings as the blocks have them, with n as the header has it
abbrev pub r1_in : List ℕ → List Bit
r1_in bytes = string_in bytes 1 0 (header_word bytes 1)

abbrev pub r0_in : List ℕ → List Bit
r0_in bytes = string_in bytes (r0_block (header_word bytes 1)) 0 (header_word bytes 1 + 1)

abbrev pub same_bits : List Bit → List Bit → Bool
same_bits a b = same (map value a) (map value b)

-- the parent list that they give is a tree's, they are its R1 and R0, and they have m ones
unfoldable pub are_strings : List ℕ → Bool
unfolding header_word string_in parents_in is_tree R1 R0 string_of value
are_strings bytes =
    let ps = parents_in bytes in
    is_tree ps
    && same_bits (R1 (string_of ps)) (r1_in bytes)
    && same_bits (R0 (string_of ps)) (r0_in bytes)
    && eqb (ones (r1_in bytes)) (header_word bytes 2)

-- ---- 14 and 15: the blocks after the header against the payloads that these strings give.

-- the payload of block b
abbrev pub payload_at : List ℕ → ℕ → List ℕ
payload_at bytes b = take 504 (drop (512 * b) bytes)

-- p is the whole payload x, with zeros after p; or x has zeros after p, whatever comes before
abbrev pub whole : List ℕ → List ℕ → Bool
whole p x = same (padded p) x

abbrev pub zero_after : List ℕ → List ℕ → Bool
zero_after p x = same (drop (length p) (padded p)) (drop (length p) x)

-- a test for each block from block b on: the lowest block whose payload fails its test; 0 if none
-- does
unfoldable pub lowest_failing : List (List ℕ → Bool) → List ℕ → ℕ → ℕ
lowest_failing [] bytes b = 0
lowest_failing (test ∷ tests) bytes b = cond (test (payload_at bytes b)) (lowest_failing tests bytes (suc b)) b

-- 14: a wrong count of earlier ones or unused payload not zero; of the blocks of samples only what
-- comes after the samples; of the metres, which are read from their blocks, nothing else can differ
unfoldable pub wrong_kept : List ℕ → ℕ
unfolding lowest_failing metres_in
wrong_kept bytes =
    let r1 = r1_in bytes in
    let r0 = r0_in bytes in
    let metres = list_part (list_of (metres_in bytes)) in
    lowest_failing (map whole (string_part r1 ++ string_part r0) ++ map zero_after (sample_part r1 ++ sample_part r0) ++ map whole metres) bytes 1

-- 15: wrong samples
unfoldable pub wrong_sample : List ℕ → ℕ
unfolding lowest_failing
wrong_sample bytes = lowest_failing (map whole (sample_part (r1_in bytes) ++ sample_part (r0_in bytes))) bytes (r1_samples (header_word bytes 1))
