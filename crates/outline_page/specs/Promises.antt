-- What the outline of an image, and of other bytes, is. Each name is a statement;
-- proofs/Promises.antt has a proof of each.
use Rattle.std.specs.Prelude.{◌≡◌, List, [], ◌∷◌, ◌++◌, ℕ, ◌+◌, ◌≤◌, ◌<◌, length, take}
use Rattle.std.proofs.Math.Option.{none, some}
use Rattle.meaning.specs.Trees.{Node, nodes, depth, degree_of}
use Rattle.meaning.specs.Blocks.{blocks_in}
use Rattle.meaning.specs.Strings.{Bit, string_of}
use Rattle.meaning.specs.Image.{Content, FitImage, image_of_string, image}
use Rattle.meaning.specs.Answers.{refused_with}
use Rattle.calls.specs.Calls.{check_image}
use Rattle.theory.specs.Rank.{with_children}
use Rattle.theory.specs.Walks.{root, node_at, Number, everything, AllBelow, FirstAt}
use Rattle.outline_text.specs.Text.{ascii}
use Rattle.outline_heading.specs.Lines.{heading, node_line, refusal}
use Rattle.outline_page.specs.Outline.{outline_of}

-- ---- Of the image of a tree and its metres, if it has any.

-- n, m, which is one more than the number of nodes with children, and the blocks
abbrev pub heading_of : Content → List ℕ
heading_of c = heading (nodes c.tree) (with_children c.tree + 1) (blocks_in (image c))

-- the text has a line for each of these nodes, in order: its number, its depth, the degree of the
-- node of that number and, where there are metres, the metres of that number
abbrev pub LinesOf : Content → List Node → List ℕ → Type 0
LinesOf c [] text = text ≡ []
LinesOf c (v ∷ vs) text =
    (x : ℕ) × (rest : List ℕ) × Number c.tree v.address x
    × (text ≡ node_line c.metres x (depth v) (degree_of (node_at c.tree x)) ++ rest)
    × LinesOf c vs rest

-- of at most 4,000 nodes, none of them at depth 64: the heading, and a line for each node in
-- depth-first order
abbrev pub EachNodeHasItsLine : Type 0
EachNodeHasItsLine = (c : Content) → FitImage c → nodes c.tree ≤ 4000 → AllBelow 64 (everything (root c.tree))
    → (text : List ℕ) × (outline_of (image c) ≡ heading_of c ++ text) × LinesOf c (everything (root c.tree)) text

-- else only the refusal of the listing
abbrev pub OnlyTheFirstTooDeep : Type 0
OnlyTheFirstTooDeep = (c : Content) → FitImage c → nodes c.tree ≤ 4000 → (AllBelow 64 (everything (root c.tree)) → ⊥)
    → (y : ℕ) × (outline_of (image c) ≡ refusal (refused_with 9 y)) × FirstAt c.tree 64 (everything (root c.tree)) y

-- of more than 4,000 nodes, however deep, in at most 96 blocks: only the heading
abbrev pub OnlyTheHeading : Type 0
OnlyTheHeading = (c : Content) → FitImage c → 4000 < nodes c.tree → length (image c) ≤ 49152 → outline_of (image c) ≡ heading_of c

-- without metres no image has more blocks than that
abbrev pub ShortWithoutMetres : Type 0
ShortWithoutMetres = (c : Content) → FitImage c → c.metres ≡ none → length (image c) ≤ 49152

-- ---- Of other bytes.

-- of at most 96 blocks: only the refusal of the check
abbrev pub OnlyTheRefusal : Type 0
OnlyTheRefusal = (bytes : List ℕ) → length bytes ≤ 49152 → ((check_image bytes).answer.code ≡ 0 → ⊥) → outline_of bytes ≡ refusal (check_image bytes).answer

-- more than 49,152 bytes, which are 96 blocks, is code 2, place 0, whatever the check says of them
abbrev pub TooManyBytes : Type 0
TooManyBytes = (bytes : List ℕ) → 49152 < length bytes → outline_of bytes ≡ ascii "refused 2 0\n"

-- so nothing is lost where no more than one byte over these is read
abbrev pub NoMoreIsRead : Type 0
NoMoreIsRead = (bytes : List ℕ) → outline_of (take 49153 bytes) ≡ outline_of bytes

-- ---- The example of document 01: tree T; and with metres.

abbrev string_of_t : List Bit
string_of_t = string_of (0 ∷ 1 ∷ 1 ∷ 1 ∷ 2 ∷ 2 ∷ 4 ∷ [])

abbrev pub TreeT : Type 0
TreeT = outline_of (image_of_string none string_of_t)
    ≡ ascii "n 7 m 4 blocks 5\n1 0 3\n2 1 2\n5 2 0\n6 2 0\n3 1 0\n4 1 1\n7 2 0\n"

abbrev pub TreeTWithMetres : Type 0
TreeTWithMetres = outline_of (image_of_string (some (10 ∷ 20 ∷ 30 ∷ 40 ∷ 50 ∷ 60 ∷ 70 ∷ [])) string_of_t)
    ≡ ascii "n 7 m 4 blocks 6\n1 0 3 10\n2 1 2 20\n5 2 0 50\n6 2 0 60\n3 1 0 30\n4 1 1 40\n7 2 0 70\n"
