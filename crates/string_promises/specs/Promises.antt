-- What the two calls of this crate promise together (demand 2, tree strings; demand 3, one string).
-- Each name is a statement; proofs/Promises.antt has a proof of each.
use Rattle.std.specs.Prelude.{Result, ◌≡◌, false, List, [], ◌∷◌, ◌↔◌, ℕ, ◌+◌, ◌*◌, ◌≤◌, ◌<◌, length, take}
use Rattle.meaning.specs.Trees.{Tree, nodes}
use Rattle.meaning.specs.Parents.{parents}
use Rattle.meaning.specs.Strings.{lbs, parents_of}
use Rattle.meaning.specs.Bytes.{bits_from, bytes_for, leftover, packed}
use Rattle.meaning.specs.Answers.{◌at◌when◌, counts, came_to, settle, written, too_short}
use Rattle.calls.specs.Calls.{string_of_parents, parents_of_string}
use Rattle.theory.specs.Layout.{AreBytes}
use Rattle.theory.specs.Changes.{changed}
use Rattle.string_end_laws.specs.Ends.{tree_end}
use Rattle.string_end.specs.declared.TreeEnd.{TreeEnd}
use Rattle.string_end.specs.Ends.{end_of}
use Rattle.string_end.specs.Numbers.{end_row}

-- a tree's parent list gives its string, of 2 n + 1 bits, and the bytes that were written give the
-- parent list back
abbrev pub WrittenThenRead : Type 0
WrittenThenRead = (t : Tree) (bytes out : List ℕ) → nodes t ≤ 65535
    → bytes_for (2 * nodes t + 1) ≤ length bytes → nodes t ≤ length out
    → let L = 2 * nodes t + 1 in
    let string = string_of_parents (parents t) bytes in
    (string ≡ came_to (counts L 1) (written (packed (lbs t)) bytes))
    × (parents_of_string (take (bytes_for L) string.lent) L out ≡ came_to (counts (nodes t) 0) (written (parents t) out))

-- bytes that are accepted as L bits of a string give a parent list that gives the same bytes and L
-- back
abbrev pub ReadThenWritten : Type 0
ReadThenWritten = (bytes : List ℕ) (L : ℕ) (out bytes' : List ℕ) → AreBytes bytes → length bytes ≤ length bytes'
    → let read = parents_of_string bytes L out in
    read.answer.code ≡ 0 → string_of_parents (take read.answer.first read.lent) bytes' ≡ came_to (counts L 1) (written bytes bytes')

-- a list of numbers is accepted exactly if it is the parent list of some tree of 1 to 65,535 nodes,
-- and there is room for its string
abbrev pub ListWrittenExactly : Type 0
ListWrittenExactly = (ps bytes : List ℕ)
    → ((string_of_parents ps bytes).answer.code ≡ 0)
    ↔ ((t : Tree) × (nodes t ≤ 65535) × (parents t ≡ ps) × (bytes_for (2 * nodes t + 1) ≤ length bytes))

-- bytes and L are accepted exactly if some tree of 1 to 65,535 nodes gives them, and there is room
-- for its parent list
abbrev pub StringAcceptedExactly : Type 0
StringAcceptedExactly = (bytes : List ℕ) (L : ℕ) (out : List ℕ) → AreBytes bytes
    → ((parents_of_string bytes L out).answer.code ≡ 0)
    ↔ ((t : Tree) × (nodes t ≤ 65535) × (packed (lbs t) ≡ bytes) × (L ≡ 2 * nodes t + 1) × (nodes t ≤ length out))

-- where the sizes are right and no leftover bit is set, reading comes to the numbers of the end of
-- the tree that the bits begin
abbrev pub ReadByEnd : Type 0
ReadByEnd = (bytes : List ℕ) (L : ℕ) (out : List ℕ) (end : Result TreeEnd ℕ) → L ≤ 131071 → length bytes ≡ bytes_for L → leftover bytes L ≡ false
    → let bits = bits_from bytes 0 L in
    end_of end ≡ tree_end bits 0
    → parents_of_string bytes L out
    ≡ settle out (end_row end L ∷ 1 at 0 when too_short (parents_of bits) out ∷ []) (counts (length (parents_of bits)) 0) (written (parents_of bits) out)

-- two strings of one length that are accepted never differ in an odd number of bits: one changed
-- bit always shows
abbrev pub OddNeverRead : Type 0
OddNeverRead = (a b : List ℕ) (L : ℕ) (out out' : List ℕ)
    → (parents_of_string a L out).answer.code ≡ 0 → (parents_of_string b L out').answer.code ≡ 0
    → (m : ℕ) → changed (bits_from a 0 L) (bits_from b 0 L) ≡ 2 * m + 1 → ⊥

-- however many bits of an accepted string are changed, code 4 names none before the first changed
-- bit: where the first j are the same, one after them
abbrev pub NeverNamedBefore : Type 0
NeverNamedBefore = (a b : List ℕ) (L : ℕ) (out out' : List ℕ) (j : ℕ)
    → (parents_of_string a L out).answer.code ≡ 0 → (parents_of_string b L out').answer.code ≡ 4
    → take j (bits_from a 0 L) ≡ take j (bits_from b 0 L) → j ≤ L
    → j < (parents_of_string b L out').answer.place
