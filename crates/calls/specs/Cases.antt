-- Document 01's cases, "Twelve checked by hand", with its traps, cheap limits and document 02's
-- codes: a call, its inputs, and what comes back, lent lists included.
use Rattle.std.specs.Prelude.{List, [], ◌∷◌, ◌++◌, ℕ, zero, suc, ◌*◌, ◌-◌, ℤ, pos, negsuc, length, replicate}
use Rattle.std.proofs.Math.Option.{none}
use Rattle.meaning.specs.declared.Answer.{Answer}
use Rattle.meaning.specs.Strings.{string_of}
use Rattle.meaning.specs.Blocks.{le32, word_bytes}
use Rattle.meaning.specs.Image.{image_of_string}
use Rattle.meaning.specs.Answers.{refused_with, counts}
use Rattle.calls.specs.Calls.{Call, plq_string_of_parents, plq_parents_of_string, plq_image_of_parents, plq_image_with_metres, plq_parents_of_image, plq_metres_of_image, plq_check_image}
use Rattle.calls.specs.Calls.{ask, list, split, join, plq_parents_of_text, plq_text_of_parents, Back}

pub record Case : Type 0 where
  pub call : Call
  pub back : Back

infix 68 ◌gives◌with◌
abbrev ◌gives◌with◌ : Call → Answer → List (List ℕ) → Case
c gives a with lists = record { call = c; back = record { answer = a; lent = lists } }

-- code and place
infix 70 code◌place◌
abbrev code◌place◌ : ℕ → ℕ → Answer
code c place p = refused_with c p

-- ---- What the rows speak of.

-- numbers that a call must leave alone, or write over
abbrev room : ℕ → List ℕ
room n = replicate n 9

-- a block whose payload begins with these words, with its s and t
abbrev block : List ℕ → ℕ → ℕ → List ℕ
block ws s t = word_bytes ws ++ replicate (504 - 4 * length ws) 0 ++ le32 s ++ le32 t

abbrev T : List ℕ
T = 0 ∷ 1 ∷ 1 ∷ 1 ∷ 2 ∷ 2 ∷ 4 ∷ []

-- a question: kind, node, argument
abbrev question : ℕ → ℕ → ℤ → List ℤ
question kind x z = pos kind ∷ pos x ∷ z ∷ []

-- T's image, with the header, the first block of R1 and the block of R1's samples as given
abbrev image_with : List ℕ → List ℕ → List ℕ → List ℕ
image_with header string samples =
    header
    ++ string
    ++ block (0 ∷ 0b11010001 ∷ []) 211 26377
    ++ samples
    ++ block (1 ∷ []) 5 630

-- these blocks as T has them
abbrev header_t : List ℕ
header_t = block (1 ∷ 7 ∷ 4 ∷ 5 ∷ []) 17 2112

abbrev string_t : List ℕ
string_t = block (0 ∷ 0b10010110 ∷ []) 151 18876

abbrev samples_t : List ℕ
samples_t = block (1 ∷ []) 4 504

image_t : List ℕ
image_t = image_with header_t string_t samples_t

-- T's metres, and its image with them: the header, the blocks of T as before, and the metres
abbrev metres_t : List ℕ
metres_t = 10 ∷ 20 ∷ 30 ∷ 40 ∷ 50 ∷ 60 ∷ 70 ∷ []

tree_t : List ℕ
tree_t = image_with (block (2 ∷ 7 ∷ 4 ∷ 6 ∷ []) 19 2361) string_t samples_t

measured_t : List ℕ
unfolding tree_t
measured_t = tree_t ++ block metres_t 285 34790

-- T as text, `((()())()(()))`
abbrev text_t : List ℕ
text_t = 40 ∷ 40 ∷ 40 ∷ 41 ∷ 40 ∷ 41 ∷ 41 ∷ 40 ∷ 41 ∷ 40 ∷ 40 ∷ 41 ∷ 41 ∷ 41 ∷ []

-- n times `()`
leaves : ℕ → List ℕ
leaves zero = []
leaves (suc n) = 40 ∷ 41 ∷ leaves n

-- the parents of a path of n + 1 nodes: 0, 1, .., n
path : ℕ → List ℕ
path zero = 0 ∷ []
path (suc n) = path n ++ suc n ∷ []

-- the listing of a path: node and depth, from node x at depth d, n times
down : ℕ → ℕ → ℕ → List ℕ
down zero x d = []
down (suc n) x d = x ∷ d ∷ down n (suc x) (suc d)

-- ---- The table.

unfoldable pub cases : List Case
unfolding image_t tree_t measured_t leaves path down string_of image_of_string
cases =
    -- 1
    plq_string_of_parents T (room 3) gives counts 15 1 with ((0xBB ∷ 0x20 ∷ 9 ∷ []) ∷ [])
    ∷ plq_parents_of_string (0xBB ∷ 0x20 ∷ []) 15 (room 8) gives counts 7 0 with ((T ++ room 1) ∷ [])
    ∷ plq_string_of_parents T (room 1) gives code 1 place 0 with (room 1 ∷ [])
    -- 2: the ten sums, and the way back
    ∷ plq_image_of_parents T (room 2562) gives counts 7 4 with ((image_t ++ room 2) ∷ [])
    ∷ plq_check_image image_t gives counts 7 4 with []
    ∷ plq_parents_of_image image_t (room 7) gives counts 7 0 with (T ∷ [])
    -- 3
    ∷ plq_string_of_parents (0 ∷ []) (room 1) gives counts 3 1 with ((0b10000000 ∷ []) ∷ [])
    ∷ plq_image_of_parents (0 ∷ []) (room 2560)
    gives counts 1 1 with ((block (1 ∷ 1 ∷ 1 ∷ 5 ∷ []) 8 990 ++ block (0 ∷ 0b10000000 ∷ []) 129 16126 ++ block (0 ∷ 0b01000000 ∷ []) 66 8252 ++ block (1 ∷ []) 4 504 ++ block (2 ∷ []) 6 756) ∷ [])
    -- 4
    ∷ plq_string_of_parents (0 ∷ 1 ∷ 2 ∷ []) (room 1) gives counts 7 1 with ((0b10101000 ∷ []) ∷ [])
    ∷ plq_image_of_parents (0 ∷ 1 ∷ 2 ∷ []) (room 2560)
    gives counts 3 3 with ((block (1 ∷ 3 ∷ 3 ∷ 5 ∷ []) 12 1488 ++ block (0 ∷ 0b11100000 ∷ []) 225 28126 ++ block (0 ∷ 0b11010000 ∷ []) 210 26252 ++ block (1 ∷ []) 4 504 ++ block (1 ∷ []) 5 630) ∷ [])
    -- 5
    ∷ plq_string_of_parents (0 ∷ 1 ∷ 1 ∷ 1 ∷ []) (room 2) gives counts 9 1 with ((0b10111000 ∷ 0 ∷ []) ∷ [])
    ∷ plq_image_of_parents (0 ∷ 1 ∷ 1 ∷ 1 ∷ []) (room 2560)
    gives counts 4 2 with ((block (1 ∷ 4 ∷ 2 ∷ 5 ∷ []) 12 1489 ++ block (0 ∷ 0b10010000 ∷ []) 145 18126 ++ block (0 ∷ 0b10001000 ∷ []) 138 17252 ++ block (1 ∷ []) 4 504 ++ block (1 ∷ []) 5 630) ∷ [])
    -- 6
    ∷ plq_string_of_parents (0 ∷ 1 ∷ 2 ∷ 1 ∷ []) (room 2) gives code 3 place 4 with (room 2 ∷ [])
    ∷ plq_image_of_parents (0 ∷ 2 ∷ []) (room 1) gives code 3 place 2 with (room 1 ∷ [])
    -- 7, and 10010
    ∷ plq_parents_of_string (0b11000000 ∷ []) 3 (room 2) gives code 4 place 2 with (room 2 ∷ [])
    ∷ plq_parents_of_string (0b10000000 ∷ []) 2 (room 2) gives code 4 place 3 with (room 2 ∷ [])
    ∷ plq_parents_of_string (0b10000000 ∷ []) 4 (room 2) gives code 4 place 4 with (room 2 ∷ [])
    ∷ plq_parents_of_string [] 0 (room 2) gives code 4 place 1 with (room 2 ∷ [])
    ∷ plq_parents_of_string (0b10010000 ∷ []) 5 (room 2) gives code 4 place 4 with (room 2 ∷ [])
    -- 8
    ∷ split (0b10010000 ∷ []) 6 2 (room 2) (room 3) gives counts 6 2 with ((1 ∷ 4 ∷ []) ∷ (1 ∷ 1 ∷ 9 ∷ []) ∷ [])
    ∷ split (0b10010000 ∷ []) 6 1 (room 2) (room 2) gives code 10 place 2 with (room 2 ∷ room 2 ∷ [])
    ∷ join (0b10000000 ∷ 9 ∷ []) 3 1 (0 ∷ []) gives counts 6 2 with ((0b10010000 ∷ 9 ∷ []) ∷ [])
    -- 9
    ∷ split (0b10110010 ∷ 0 ∷ []) 9 1 (room 1) (room 1) gives counts 9 1 with ((1 ∷ []) ∷ (4 ∷ []) ∷ [])
    ∷ split (0b10010010 ∷ 0 ∷ []) 9 1 (room 1) (room 1) gives code 10 place 3 with (room 1 ∷ room 1 ∷ [])
    -- 10: the parent of 7, first and last child of 2, child 2 of 2, and whether 3 is a leaf
    ∷ ask image_t (question 1 7 (pos 0) ++ question 2 2 (pos 0) ++ question 3 2 (pos 0) ++ question 8 2 (pos 2) ++ question 9 3 (pos 0)) (room 6)
    gives counts 5 0 with ((4 ∷ 5 ∷ 6 ∷ 6 ∷ 1 ∷ 9 ∷ []) ∷ [])
    -- 11
    ∷ ask image_t (question 10 2 (pos 2) ++ question 10 2 (pos 3) ++ question 10 2 (negsuc 0)) (room 3) gives counts 3 0 with ((4 ∷ 0 ∷ 0 ∷ []) ∷ [])
    -- a question that is not allowed: the second one's node is 8
    ∷ ask image_t (question 1 7 (pos 0) ++ question 1 8 (pos 0)) (room 2) gives code 8 place 2 with (room 2 ∷ [])
    -- 12
    ∷ split [] 0 0 [] [] gives counts 0 0 with ([] ∷ [] ∷ [])
    -- the listing of T
    ∷ list image_t 1 (room 15) gives counts 7 0 with ((1 ∷ 0 ∷ 2 ∷ 1 ∷ 5 ∷ 2 ∷ 6 ∷ 2 ∷ 3 ∷ 1 ∷ 4 ∷ 1 ∷ 7 ∷ 2 ∷ 9 ∷ []) ∷ [])
    -- words of T's image changed, with the sums made right again: the version, version 2 without
    -- metres, m alone, a reserved word, an m that the strings do not have, a count of earlier ones,
    -- a word after the samples, a sample
    ∷ plq_check_image (image_with (block (3 ∷ 7 ∷ 4 ∷ 5 ∷ []) 19 2364) string_t samples_t) gives code 11 place 0 with []
    ∷ plq_check_image (image_with (block (2 ∷ 7 ∷ 4 ∷ 5 ∷ []) 18 2238) string_t samples_t) gives code 12 place 0 with []
    ∷ plq_check_image (image_with (block (1 ∷ 7 ∷ 1 ∷ 5 ∷ []) 14 1740) string_t samples_t) gives code 12 place 0 with []
    ∷ plq_check_image (image_with (block (1 ∷ 7 ∷ 4 ∷ 5 ∷ 1 ∷ []) 18 2234) string_t samples_t) gives code 12 place 0 with []
    ∷ plq_check_image (image_with (block (1 ∷ 7 ∷ 3 ∷ 5 ∷ []) 16 1988) string_t samples_t) gives code 13 place 1 with []
    ∷ plq_check_image (image_with header_t (block (1 ∷ 0b10010110 ∷ []) 152 19002) samples_t) gives code 14 place 1 with []
    ∷ plq_check_image (image_with header_t string_t (block (1 ∷ 1 ∷ []) 5 629)) gives code 14 place 3 with []
    ∷ plq_check_image (image_with header_t string_t (block (2 ∷ []) 5 630)) gives code 15 place 3 with []
    -- a block whose sums are wrong
    ∷ plq_check_image (image_with header_t string_t (block (1 ∷ []) 4 505)) gives code 6 place 3 with []
    -- document 02, item 2: T with metres, and the way back; without metres there are none to read
    ∷ plq_image_with_metres T metres_t (room 3074) gives counts 7 4 with ((measured_t ++ room 2) ∷ [])
    ∷ plq_check_image measured_t gives counts 7 4 with []
    ∷ plq_parents_of_image measured_t (room 7) gives counts 7 0 with (T ∷ [])
    ∷ plq_metres_of_image measured_t (room 8) gives counts 7 0 with ((metres_t ++ room 1) ∷ [])
    ∷ plq_metres_of_image measured_t (room 6) gives code 1 place 0 with (room 6 ∷ [])
    ∷ plq_metres_of_image image_t [] gives code 8 place 1 with ([] ∷ [])
    -- the metres of nodes 1 and 7; without metres, and with an argument, that is not allowed
    ∷ ask measured_t (question 11 1 (pos 0) ++ question 11 7 (pos 0)) (room 2) gives counts 2 0 with ((10 ∷ 70 ∷ []) ∷ [])
    ∷ ask image_t (question 1 7 (pos 0) ++ question 11 7 (pos 0)) (room 2) gives code 8 place 2 with (room 2 ∷ [])
    ∷ ask measured_t (question 11 7 (pos 1)) (room 1) gives code 8 place 1 with (room 1 ∷ [])
    -- six metres for seven nodes, one for two that are no parent list; the word behind the metres
    ∷ plq_image_with_metres T (10 ∷ 20 ∷ 30 ∷ 40 ∷ 50 ∷ 60 ∷ []) (room 1) gives code 2 place 0 with (room 1 ∷ [])
    ∷ plq_image_with_metres (0 ∷ 2 ∷ []) (10 ∷ []) (room 1) gives code 2 place 0 with (room 1 ∷ [])
    ∷ plq_image_with_metres (0 ∷ 2 ∷ []) (10 ∷ 20 ∷ []) (room 1) gives code 3 place 2 with (room 1 ∷ [])
    ∷ plq_check_image (tree_t ++ block (10 ∷ 20 ∷ 30 ∷ 40 ∷ 50 ∷ 60 ∷ 70 ∷ 1 ∷ []) 286 34909) gives code 14 place 5 with []
    -- document 02, item 3: the rank of the root and of node 2; the root itself, and none next to it
    ∷ ask image_t (question 7 1 (pos 0) ++ question 7 2 (pos 0) ++ question 10 1 (pos 0) ++ question 4 1 (pos 0)) (room 5)
    gives counts 4 0 with ((0 ∷ 1 ∷ 1 ∷ 0 ∷ 9 ∷ []) ∷ [])
    -- lists of 65,536 and of 65,535 numbers
    ∷ plq_string_of_parents (replicate 65536 0) [] gives code 2 place 0 with ([] ∷ [])
    ∷ plq_string_of_parents (replicate 65535 0) [] gives code 3 place 2 with ([] ∷ [])
    -- paths of 64 and of 65 nodes
    ∷ list (image_of_string none (string_of (path 63))) 1 (room 128) gives counts 64 0 with (down 64 1 0 ∷ [])
    ∷ list (image_of_string none (string_of (path 64))) 1 (room 130) gives code 9 place 65 with (room 130 ∷ [])
    -- document 02, item 4: T as text, and back, with blanks and without; too little room
    ∷ plq_text_of_parents T (room 15) gives counts 14 0 with ((text_t ++ room 1) ∷ [])
    ∷ plq_text_of_parents T (room 13) gives code 1 place 0 with (room 13 ∷ [])
    ∷ plq_parents_of_text text_t (room 8) gives counts 7 0 with ((T ++ room 1) ∷ [])
    ∷ plq_parents_of_text (32 ∷ 13 ∷ 10 ∷ text_t ++ 10 ∷ []) (room 7) gives counts 7 0 with (T ∷ [])
    ∷ plq_parents_of_text text_t (room 6) gives code 1 place 0 with (room 6 ∷ [])
    -- `((())())` in level order, and not in the order of its brackets
    ∷ plq_parents_of_text (40 ∷ 40 ∷ 40 ∷ 41 ∷ 41 ∷ 40 ∷ 41 ∷ 41 ∷ []) (room 4) gives counts 4 0 with ((0 ∷ 1 ∷ 1 ∷ 2 ∷ []) ∷ [])
    -- no text, `)`, `(`, `()(`, `( )x`, blanks alone, a tab after the tree
    ∷ plq_parents_of_text [] (room 1) gives code 16 place 1 with (room 1 ∷ [])
    ∷ plq_parents_of_text (41 ∷ []) (room 1) gives code 16 place 1 with (room 1 ∷ [])
    ∷ plq_parents_of_text (40 ∷ []) (room 1) gives code 16 place 2 with (room 1 ∷ [])
    ∷ plq_parents_of_text (40 ∷ 41 ∷ 40 ∷ []) (room 1) gives code 16 place 3 with (room 1 ∷ [])
    ∷ plq_parents_of_text (40 ∷ 32 ∷ 41 ∷ 120 ∷ []) (room 1) gives code 16 place 4 with (room 1 ∷ [])
    ∷ plq_parents_of_text (32 ∷ 10 ∷ []) (room 1) gives code 16 place 3 with (room 1 ∷ [])
    ∷ plq_parents_of_text (40 ∷ 41 ∷ 9 ∷ []) (room 1) gives code 16 place 3 with (room 1 ∷ [])
    -- 64 levels; a 65th, and with a wrong byte before it and after it
    ∷ plq_parents_of_text (replicate 64 40 ++ replicate 64 41) (room 64) gives counts 64 0 with (path 63 ∷ [])
    ∷ plq_parents_of_text (replicate 65 40 ++ replicate 65 41) (room 65) gives code 17 place 65 with (room 65 ∷ [])
    ∷ plq_parents_of_text (40 ∷ 120 ∷ replicate 64 40) [] gives code 16 place 2 with ([] ∷ [])
    ∷ plq_parents_of_text (replicate 65 40 ++ 120 ∷ []) [] gives code 17 place 65 with ([] ∷ [])
    ∷ plq_text_of_parents (path 63) (room 128) gives counts 128 0 with ((replicate 64 40 ++ replicate 64 41) ∷ [])
    ∷ plq_text_of_parents (path 64) [] gives code 9 place 65 with ([] ∷ [])
    ∷ plq_text_of_parents (0 ∷ 2 ∷ []) [] gives code 3 place 2 with ([] ∷ [])
    -- 65,536 nodes, and with a stray byte
    ∷ plq_parents_of_text (40 ∷ leaves 65535 ++ 41 ∷ []) [] gives code 2 place 0 with ([] ∷ [])
    ∷ plq_parents_of_text (40 ∷ leaves 65535 ++ 41 ∷ 120 ∷ []) [] gives code 16 place 131073 with ([] ∷ [])
    ∷ []
