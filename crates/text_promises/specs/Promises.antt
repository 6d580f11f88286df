-- What reading and writing parenthesis text promise (document 02, item 4).
-- Each name is a statement; proofs/Promises.antt has a proof of each.
use Rattle.std.specs.Prelude.{◌≡◌, List, ◌↔◌, ◌⊎◌, ℕ, ◌+◌, ◌-◌, ◌*◌, ◌≤◌, ◌<◌, length, get_or, take, Result}
use Rattle.std.proofs.Math.Option.{none}
use Rattle.meaning.specs.Trees.{Tree, nodes}
use Rattle.meaning.specs.Strings.{ones, zeros}
use Rattle.meaning.specs.Parents.{parents}
use Rattle.meaning.specs.Scan.{FirstNone}
use Rattle.meaning.specs.Image.{image}
use Rattle.meaning.specs.Brackets.{brackets}
use Rattle.meaning.specs.Text.{without_blanks, text_of, brackets_in}
use Rattle.meaning.specs.Answers.{came_to, counts, refused_with, written}
use Rattle.calls.specs.Calls.{list_image, parents_of_text, text_of_parents}
use Rattle.theory.specs.Walks.{root, everything, AllBelow, FirstAt}
use Rattle.text_nesting.specs.declared.TextFault.{TextFault}
use Rattle.text_nesting.specs.Nesting.{TextRead}
use Rattle.text_nesting.specs.Numbers.{found_outcome}
use Rattle.text_laws.specs.Texts.{Within, IsText, BeginsText, SomeText, BeginsSome}

-- ---- Trees and their brackets.

-- a tree has at most m levels exactly if its nodes are at depths below m
abbrev pub LevelsAreDepths : Type 0
LevelsAreDepths = (m : ℕ) (t : Tree) → Within m t ↔ AllBelow m (everything (root t))

-- no other tree has the same brackets
abbrev pub BracketsOfOneTree : Type 0
BracketsOfOneTree = (t u : Tree) → brackets t ≡ brackets u → t ≡ u

-- within the limits: at most 65,535 nodes and at most 64 levels
abbrev pub Fits : Tree → Type 0
Fits t = (nodes t ≤ 65535) × Within 64 t

-- ---- There and back.

-- writing, then reading, gives the tree
abbrev pub TextWrittenThenRead : Type 0
TextWrittenThenRead = (t : Tree) (out out' : List ℕ) → Fits t → 2 * nodes t ≤ length out → nodes t ≤ length out'
    → let wrote = text_of_parents (parents t) out in
    (wrote ≡ came_to (counts (2 * nodes t) 0) (written (text_of (brackets t)) out))
    × (parents_of_text (take (2 * nodes t) wrote.lent) out' ≡ came_to (counts (nodes t) 0) (written (parents t) out'))

-- reading, then writing, gives the text without blanks
abbrev pub TextReadThenWritten : Type 0
TextReadThenWritten = (text out out' : List ℕ)
    → let read = parents_of_text text out in
    let plain = without_blanks text in
    read.answer.code ≡ 0 → length plain ≤ length out'
    → text_of_parents (take read.answer.first read.lent) out' ≡ came_to (counts (length plain) 0) (written plain out')

-- ---- What is accepted.

-- a text is read exactly if it is the text of one tree within the limits, blanks left out, and
-- there is room for its parent list
abbrev pub TextAcceptedExactly : Type 0
TextAcceptedExactly = (text out : List ℕ)
    → ((parents_of_text text out).answer.code ≡ 0)
    ↔ ((length text ≤ 1048576) × ((t : Tree) × Fits t × (without_blanks text ≡ text_of (brackets t)) × (nodes t ≤ length out)))

-- and gives that tree, wherever the blanks are
abbrev pub TextGivesItsTree : Type 0
TextGivesItsTree = (t : Tree) (text out : List ℕ) → length text ≤ 1048576 → Fits t → without_blanks text ≡ text_of (brackets t) → nodes t ≤ length out
    → parents_of_text text out ≡ came_to (counts (nodes t) 0) (written (parents t) out)

-- a list of numbers is written exactly if it is the parent list of a tree within the limits, and
-- there is room for its brackets
abbrev pub TextWrittenExactly : Type 0
TextWrittenExactly = (ps out : List ℕ) → ((text_of_parents ps out).answer.code ≡ 0) ↔ ((t : Tree) × Fits t × (parents t ≡ ps) × (2 * nodes t ≤ length out))

-- ---- What is refused.

-- a text that is not too long, and not that of a tree of at most 64 levels, is refused at the first
-- p such that its first p bytes begin no such text, or at the length + 1; the code is 16 or 17, and
-- 17 exactly if those p bytes still begin the text of some tree
abbrev pub TextRefusedThere : Type 0
TextRefusedThere = (text out : List ℕ) → length text ≤ 1048576 → (IsText 64 text → ⊥)
    → let a = (parents_of_text text out).answer in
    FirstNone (BeginsText 64) text a.place
    × ((p : ℕ) → FirstNone (BeginsText 64) text p → p ≡ a.place)
    × ((a.code ≡ 16) ⊎ (a.code ≡ 17))
    × ((a.code ≡ 17) ↔ ((a.place ≤ length text) × BeginsSome (take a.place text)))

-- code 16 is for text that is no tree of any depth or size, at the first byte at which it cannot be
-- continued, or the length + 1
abbrev pub TextBrokenThere : Type 0
TextBrokenThere = (text out : List ℕ)
    → let a = (parents_of_text text out).answer in
    a.code ≡ 16
    → (SomeText text → ⊥) × FirstNone BeginsSome text a.place × ((p : ℕ) → FirstNone BeginsSome text p → p ≡ a.place)

-- code 17 is for a 65th level, at its opening bracket: 64 nodes are open before it
abbrev pub TextTooNestedThere : Type 0
TextTooNestedThere = (text out : List ℕ)
    → let a = (parents_of_text text out).answer in
    let before = brackets_in (take (a.place - 1) text) in
    a.code ≡ 17 → (get_or text (a.place - 1) 0 ≡ 40) × (ones before ≡ zeros before + 64)

-- code 2 comes first for a text over 1,048,576 bytes
abbrev pub TextTooLong : Type 0
TextTooLong = (text out : List ℕ) → 1048576 < length text → parents_of_text text out ≡ came_to (refused_with 2 0) out

-- and for too many nodes only where the text is one tree of at most 64 levels
abbrev pub TextTooManyNodes : Type 0
TextTooManyNodes = (text out : List ℕ) → length text ≤ 1048576
    → (parents_of_text text out ≡ came_to (refused_with 2 0) out) ↔ ((t : Tree) × Within 64 t × (without_blanks text ≡ text_of (brackets t)) × (65535 < nodes t))

-- writing a tree of more than 64 levels is code 9 at its first node at depth 64, as for the listing
-- of its root
abbrev pub TextTooDeepIsNamed : Type 0
TextTooDeepIsNamed = (t : Tree) (out out' : List ℕ) → nodes t ≤ 65535 → (Within 64 t → ⊥)
    → let wrote = text_of_parents (parents t) out in
    (wrote.answer.code ≡ 9)
    × FirstAt t 64 (everything (root t)) wrote.answer.place
    × ((list_image (image (record { tree = t; metres = none })) 1 out').answer ≡ wrote.answer)

-- ---- What reading a text finds.

-- a text that is not too long comes to the numbers of what its reading answers
abbrev pub TextByFound : Type 0
TextByFound = (text levels levels' out : List ℕ) (found : Result ℕ TextFault) → length text ≤ 1048576 → TextRead text levels found levels' → found_outcome found text out ≡ parents_of_text text out
