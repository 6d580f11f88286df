-- Each definition at a point where a wrong one would differ (document 01, its cases, limits and
-- traps), by computation.
use Rattle.std.specs.Prelude.{Err}
use mathlib.Core.Path.{◌≡◌, refl}
use mathlib.Core.Bool.{true, false}
use mathlib.Core.List.{List, [], ◌∷◌, ◌++◌}
use mathlib.Core.Option.{none, some}
use Prim.Native.Nat.{ℕ, zero, suc}
use lib.IntN.{pos, negsuc}
use lib.ListN.{take, drop, replicate, set}
use Rattle.meaning.specs.Strings.{O, I, string_of}
use Rattle.meaning.specs.Scan.{one, place}
use Rattle.meaning.specs.Blocks.{words}
use Rattle.meaning.specs.Image.{image_of_string, header_word, string_in, metres_in, is_image}
use Rattle.meaning.specs.Faults.{is_header, are_strings, wrong_kept, wrong_sample}
use Rattle.meaning.specs.Questions.{rank_of, sibling_at, Question, questions, not_allowed}
use Rattle.meaning.specs.Listing.{listing, deep}
use Rattle.meaning.specs.Parents.{parents}
use Rattle.meaning.specs.Brackets.{brackets, tree_in, bracketing}
use Rattle.meaning.specs.Text.{text_of, brackets_in, whole, broken, deeper, read_text}
use Rattle.meaning.specs.Answers.{◌at◌when◌, came_to, refused_with, counts, first_holding, settle}
use Rattle.meaning.specs.Tests.{wrong_count, check_rows}

abbrev T : List ℕ
T = 0 ∷ 1 ∷ 1 ∷ 1 ∷ 2 ∷ 2 ∷ 4 ∷ []

image_t : List ℕ
image_t = image_of_string none (string_of T)

-- T with metres 10 20 .. 70
measured_t : List ℕ
measured_t = image_of_string (some (10 ∷ 20 ∷ 30 ∷ 40 ∷ 50 ∷ 60 ∷ 70 ∷ [])) (string_of T)

-- the parents of a path of n + 1 nodes: 0, 1, .., n
path : ℕ → List ℕ
path zero = 0 ∷ []
path (suc n) = path n ++ suc n ∷ []

-- the limit of a parent list
largest_list : wrong_count (replicate 65535 0) ≡ false
largest_list = refl

-- 10010 has two ones and three zeros, and its tree is over at bit 3
over_at_bit_3 : place one (I ∷ O ∷ O ∷ I ∷ O ∷ []) ≡ 4
unfolding place
over_at_bit_3 = refl

-- s and t of the first block of R1 in T's image
sums_of_block_1 : words (take 8 (drop 1016 image_t)) ≡ 151 ∷ 18876 ∷ []
unfolding image_t string_of image_of_string words
sums_of_block_1 = refl

-- and of the header and of the metres, where there are any (document 02, item 2)
sums_of_metres : words (take 8 (drop 504 measured_t) ++ take 8 (drop 3064 measured_t)) ≡ 19 ∷ 2361 ∷ 285 ∷ 34790 ∷ []
unfolding measured_t string_of image_of_string words
sums_of_metres = refl

-- they are read back; without them there are none, and not zeros
metres_back_lem : metres_in measured_t ≡ some (10 ∷ 20 ∷ 30 ∷ 40 ∷ 50 ∷ 60 ∷ 70 ∷ [])
unfolding measured_t string_of image_of_string metres_in
metres_back_lem = refl

no_metres : metres_in image_t ≡ none
unfolding image_t string_of image_of_string metres_in
no_metres = refl

-- T's image with another count of earlier ones, and with another sample
other-count : is_image (set image_t 512 1) ≡ false
unfolding image_t string_of image_of_string is_image
other-count = refl

other_sample : is_image (set image_t 1536 2) ≡ false
unfolding image_t string_of image_of_string is_image
other_sample = refl

-- the block that is named: a count, a word after the samples, a sample; a wrong sample is no wrong
-- count
count-named : wrong_kept (set image_t 512 1) ≡ 1
unfolding image_t string_of image_of_string header_word string_in metres_in wrong_kept
count-named = refl

unused_named : wrong_kept (set image_t 1540 1) ≡ 3
unfolding image_t string_of image_of_string header_word string_in metres_in wrong_kept
unused_named = refl

no_count_named : wrong_kept (set image_t 1536 2) ≡ 0
unfolding image_t string_of image_of_string header_word string_in metres_in wrong_kept
no_count_named = refl

sample_named : wrong_sample (set image_t 1536 2) ≡ 3
unfolding image_t string_of image_of_string header_word string_in wrong_sample
sample_named = refl

-- any metres are right, and the word behind the last of them is zero
other-metres : wrong_kept (set measured_t 2560 1) ≡ 0
unfolding measured_t string_of image_of_string header_word string_in metres_in wrong_kept
other-metres = refl

behind_the_metres : wrong_kept (set measured_t 2588 1) ≡ 5
unfolding measured_t string_of image_of_string header_word string_in metres_in wrong_kept
behind_the_metres = refl

-- T's header with its first reserved word set, and with one run for seven nodes
reserved_set : is_header (set image_t 16 1) ≡ false
unfolding image_t string_of image_of_string is_header
reserved_set = refl

one-run : is_header (set image_t 8 1) ≡ false
unfolding image_t string_of image_of_string is_header
one-run = refl

-- strings before counts: with both wrong, whatever the sums are
strings-first : first_holding (drop 2 (check_rows (set (set image_t 516 0) 512 1) false)) ≡ Err (record { code = 13; place = 1 })
unfolding image_t string_of image_of_string header_word metres_in is_header are_strings wrong_kept wrong_sample check_rows first_holding
strings-first = refl

-- the sibling before node 4 of T
one_to_the_left : sibling_at T 4 (negsuc 0) ≡ 3
unfolding sibling_at
one_to_the_left = refl

-- the root has no rank, and is an only child all the same: itself 0 places away, and none next
root_unranked : rank_of T 1 ≡ 0
unfolding rank_of
root_unranked = refl

root_itself : sibling_at T 1 (pos 0) ≡ 1
unfolding sibling_at
root_itself = refl

none_beside_the_root : sibling_at T 1 (pos 1) ≡ 0
unfolding sibling_at
none_beside_the_root = refl

-- the metres of node 7 of T, asked where there are none, and where there are
metres_asked_lem : List Question
metres_asked_lem = questions (pos 11 ∷ pos 7 ∷ pos 0 ∷ [])

without-metres : not_allowed 7 false metres_asked_lem 0 ≡ 1
unfolding metres_asked_lem not_allowed
without-metres = refl

with_metres : not_allowed 7 true metres_asked_lem 0 ≡ 0
unfolding metres_asked_lem not_allowed
with_metres = refl

-- parents first, children in order
listing_of_T : listing 65 T 1 0 ≡ 1 ∷ 0 ∷ 2 ∷ 1 ∷ 5 ∷ 2 ∷ 6 ∷ 2 ∷ 3 ∷ 1 ∷ 4 ∷ 1 ∷ 7 ∷ 2 ∷ []
unfolding listing
listing_of_T = refl

-- a path of 65 nodes has its last one at depth 64
too_deep_lem : deep (listing 65 (path 64) 1 0) ≡ 65
unfolding path listing deep
too_deep_lem = refl

-- a refused call leaves what is lent to it
refused_unchanged : settle {A = ℕ} 5 (4 at 2 when true ∷ []) (counts 7 7) 6 ≡ came_to (refused_with 4 2) 5
unfolding settle
refused_unchanged = refl

-- T as brackets and as text, `((()())()(()))`, and back
text_t : List ℕ
text_t = 40 ∷ 40 ∷ 40 ∷ 41 ∷ 40 ∷ 41 ∷ 41 ∷ 40 ∷ 41 ∷ 40 ∷ 40 ∷ 41 ∷ 41 ∷ 41 ∷ []

text_of_T : text_of (bracketing T) ≡ text_t
unfolding text_t text_of bracketing
text_of_T = refl

tree_of_text : parents (tree_in (brackets_in text_t)) ≡ T
unfolding text_t brackets_in tree_in parents
tree_of_text = refl

brackets_of_tree : brackets (tree_in (brackets_in text_t)) ≡ brackets_in text_t
unfolding text_t brackets_in tree_in brackets
brackets_of_tree = refl

-- blanks may be anywhere, after the tree too; a tab may not
blanks_anywhere : read_text (32 ∷ 40 ∷ 10 ∷ 40 ∷ 41 ∷ 13 ∷ 41 ∷ 32 ∷ []) ≡ whole
unfolding read_text
blanks_anywhere = refl

no_tab : read_text (40 ∷ 41 ∷ 9 ∷ []) ≡ broken 3
unfolding read_text
no_tab = refl

-- no text, and a second tree
no_text : read_text [] ≡ broken 1
unfolding read_text
no_text = refl

second-tree : read_text (40 ∷ 41 ∷ 40 ∷ 41 ∷ []) ≡ broken 3
unfolding read_text
second-tree = refl

-- 64 levels, and a 65th before a wrong byte
most_levels : read_text (replicate 64 40 ++ replicate 64 41) ≡ whole
unfolding read_text
most_levels = refl

level_too_many : read_text (replicate 65 40 ++ 120 ∷ []) ≡ deeper 65
unfolding read_text
level_too_many = refl
