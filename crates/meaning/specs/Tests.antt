-- Tests that several calls make, in the order of document 01's table ("Numbers a caller gets
-- back"), with document 02's item 1 where code 7 was and its item 2's sizes and versions.
use Rattle.std.specs.Prelude.{Bool, not, ◌||◌, List, [], ◌∷◌, ℕ, ◌+◌, ◌*◌, ◌/◌, ◌%◌, ltb, eqb, length}
use Rattle.meaning.specs.Parents.{bad_entry}
use Rattle.meaning.specs.Bytes.{bits_from, bytes_for, leftover}
use Rattle.meaning.specs.Scan.{many, place}
use Rattle.meaning.specs.Packs.{sizes}
use Rattle.meaning.specs.Blocks.{blocks_in, wrong_block}
use Rattle.meaning.specs.Image.{header_word}
use Rattle.meaning.specs.Faults.{is_header, are_strings, wrong_kept, wrong_sample}
use Rattle.meaning.specs.Answers.{Row, ◌at◌when◌}

-- ---- Sizes: code 2.

abbrev pub outside : ℕ → ℕ → ℕ → Bool
outside low high x = ltb x low || ltb high x

-- parent list not of 1 to 65,535 numbers
abbrev pub wrong_count : List ℕ → Bool
wrong_count ps = outside 1 65535 (length ps)

-- image not whole blocks or not 5 to 574 of them
abbrev pub wrong_size : List ℕ → Bool
wrong_size image = not (eqb (length image % 512) 0) || outside 5 574 (length image / 512)

-- splitting: L over 131,071; byte count not that of L; k over 256
unfoldable pub wrong_to_split : ℕ → ℕ → ℕ → Bool
wrong_to_split bytes L k = ltb 131071 L || not (eqb bytes (bytes_for L)) || ltb 256 k

-- joining: parent list not of 1 to 65,535 numbers; L over 131,071; too few bytes for L; k over 255;
-- joined length over 131,071
unfoldable pub wrong_to_join : ℕ → ℕ → ℕ → ℕ → Bool
wrong_to_join bytes L k nodes =
    outside 1 65535 nodes || ltb 131071 L || ltb bytes (bytes_for L) || ltb 255 k || ltb 131071 (L + (2 * nodes + 1))

-- ---- Rows.

-- a parent list that is to be written as a string or an image
unfoldable pub parent_rows : List ℕ → List Row
parent_rows ps =
    2 at 0 when wrong_count ps
    ∷ 3 at bad_entry ps when ltb 0 (bad_entry ps)
    ∷ []

-- every public reading of an image makes the whole check first; w: something else that is lent has
-- a wrong size
unfoldable pub check_rows : List ℕ → Bool → List Row
check_rows image w =
    2 at 0 when (wrong_size image || w)
    ∷ 6 at wrong_block image when ltb (wrong_block image) (blocks_in image)
    ∷ 11 at 0 when outside 1 2 (header_word image 0)
    ∷ 12 at 0 when not (is_header image)
    ∷ 13 at 1 when not (are_strings image)
    ∷ 14 at wrong_kept image when ltb 0 (wrong_kept image)
    ∷ 15 at wrong_sample image when ltb 0 (wrong_sample image)
    ∷ []

-- a pack of k trees that is to be split or joined to, its sizes being right
unfoldable pub pack_rows : List ℕ → ℕ → ℕ → List Row
pack_rows bytes L k =
    let bits = bits_from bytes 0 L in
    let found = length (sizes bits) in
    5 at 0 when leftover bytes L
    ∷ 4 at place many bits when ltb 0 (place many bits)
    ∷ 10 at found when not (eqb found k)
    ∷ []
