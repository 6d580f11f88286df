-- What splitting and joining promise together (demand 3).
-- Each name is a statement; proofs/Promises.antt has a proof of each.
use Rattle.std.specs.Prelude.{Result, ◌≡◌, false, ◌||◌, List, [], ◌∷◌, ◌++◌, ◌↔◌, ℕ, ◌+◌, ◌-◌, ◌*◌, ◌≤◌, ◌<◌, ltb, length, get_or, take, drop}
use Rattle.meaning.specs.Trees.{Tree, nodes}
use Rattle.meaning.specs.Parents.{parents, bad_entry}
use Rattle.meaning.specs.Strings.{strings, string_of}
use Rattle.meaning.specs.Bytes.{bits_from, bytes_for, leftover, packed}
use Rattle.meaning.specs.Scan.{Small}
use Rattle.meaning.specs.Packs.{starts_of, sizes_of, sizes, starts}
use Rattle.meaning.specs.Answers.{◌at◌when◌, Outcome, counts, came_to, first_holding, unless_refused, settle, written, too_short}
use Rattle.meaning.specs.Tests.{pack_rows}
use Rattle.calls.specs.Calls.{parents_of_string, split_pack, join_pack}
use Rattle.theory.specs.Layout.{AreBytes}
use Rattle.theory.specs.Changes.{changed}
use Rattle.table_sizes.specs.ToSplit as ToSplit
use Rattle.table_sizes.specs.ToJoin as ToJoin
use Rattle.pack_scan.specs.Found.{found, found_of}
use Rattle.pack_scan.specs.Numbers.{pack_row}

-- ---- Splitting.

-- at most 256 trees, each of 1 to 65,535 nodes, with at most 131,071 bits end to end
pub record FitPack (ts : List Tree) : Type 0 where
  pub small : Small ts
  pub few : length ts ≤ 256
  pub short : length (strings ts) ≤ 131071

-- what splitting comes to where it finds these trees: where each starts, and how many nodes it has
abbrev pub split_into : List Tree → List ℕ → List ℕ → Outcome (List ℕ × List ℕ)
split_into ts firsts sizes = came_to (counts (length (strings ts)) (length ts)) (written (starts_of ts 0) firsts, written (sizes_of ts) sizes)

-- the strings of trees, end to end, split into these trees
abbrev pub SplitGivesTrees : Type 0
SplitGivesTrees = (ts : List Tree) (firsts sizes : List ℕ) → FitPack ts → length ts ≤ length firsts → length ts ≤ length sizes
    → split_pack (packed (strings ts)) (length (strings ts)) (length ts) firsts sizes ≡ split_into ts firsts sizes

-- bits are accepted with k exactly if they are the strings of k trees end to end, and there is room
-- for k starts and k sizes
abbrev pub PackAcceptedExactly : Type 0
PackAcceptedExactly = (bytes : List ℕ) (L k : ℕ) (firsts sizes : List ℕ) → AreBytes bytes
    → ((split_pack bytes L k firsts sizes).answer.code ≡ 0)
    ↔ ((ts : List Tree) × FitPack ts × (packed (strings ts) ≡ bytes) × (L ≡ length (strings ts)) × (k ≡ length ts) × (k ≤ length firsts) × (k ≤ length sizes))

-- each part, the 2 × size + 1 bits from its start, moved to bit 1 of a buffer, gives its tree's
-- parent list
abbrev pub PartsGiveTrees : Type 0
PartsGiveTrees = (ts : List Tree) (j : ℕ) (other : Tree) (out : List ℕ) → Small ts → j < length ts
    → let start = get_or (starts_of ts 0) j 0 in
    let L = 2 * get_or (sizes_of ts) j 0 + 1 in
    let u = get_or ts j other in
    nodes u ≤ length out → parents_of_string (packed (take L (drop (start - 1) (strings ts)))) L out ≡ came_to (counts (nodes u) 0) (written (parents u) out)

-- ---- Joining.

-- a buffer begins with the pack of these trees, its leftover bits zero
pub record HoldsPack (pack : List ℕ) (ts : List Tree) : Type 0 where
  pub fits : FitPack ts
  pub room : bytes_for (length (strings ts)) ≤ length pack
  pub same : bits_from pack 0 (length (strings ts)) ≡ strings ts
  pub clean : leftover pack (length (strings ts)) ≡ false

-- the bits of the trees ts and one tree more
abbrev pub longer : List Tree → Tree → ℕ
longer ts t = length (strings ts) + (2 * nodes t + 1)

-- limits and room allow that tree more
pub record RoomToJoin (pack : List ℕ) (ts : List Tree) (t : Tree) : Type 0 where
  pub small : nodes t ≤ 65535
  pub few : length ts ≤ 255
  pub short : longer ts t ≤ 131071
  pub room : bytes_for (longer ts t) ≤ length pack

-- joining is done exactly if the buffer holds a pack of k trees, the list is a tree's, and limits
-- and room allow
abbrev pub JoinedExactly : Type 0
JoinedExactly = (pack : List ℕ) (L k : ℕ) (ps : List ℕ)
    → ((join_pack pack L k ps).answer.code ≡ 0)
    ↔ ((ts : List Tree) × (t : Tree) × HoldsPack pack ts × RoomToJoin pack ts t × (L ≡ length (strings ts)) × (k ≡ length ts) × (parents t ≡ ps))

-- joining a tree gives the longer pack, with the new length and one tree more; bytes after it stay
abbrev pub JoinAddsTree : Type 0
JoinAddsTree = (pack : List ℕ) (ts : List Tree) (t : Tree) → HoldsPack pack ts → RoomToJoin pack ts t
    → let join = join_pack pack (length (strings ts)) (length ts) (parents t) in
    (join.answer ≡ counts (longer ts t) (length ts + 1))
    × HoldsPack join.lent (ts ++ t ∷ [])
    × (longer ts t ≡ length (strings (ts ++ t ∷ [])))
    × (length join.lent ≡ length pack)
    × (drop (bytes_for (longer ts t)) join.lent ≡ drop (bytes_for (longer ts t)) pack)
    × (AreBytes pack → AreBytes join.lent)

-- what joining the trees us one by one, to a pack of the trees ts, leaves
unfoldable pub join_all : List ℕ → List Tree → List Tree → List ℕ
join_all pack ts [] = pack
join_all pack ts (u ∷ us) = join_all (join_pack pack (length (strings ts)) (length ts) (parents u)).lent (ts ++ u ∷ []) us

-- trees joined one by one, to a pack of none in any buffer with room, are their strings end to end,
-- and split into these trees
abbrev pub JoinThenSplit : Type 0
JoinThenSplit = (ts : List Tree) (pack firsts sizes : List ℕ) → FitPack ts → AreBytes pack → bytes_for (length (strings ts)) ≤ length pack
    → length ts ≤ length firsts → length ts ≤ length sizes
    → let L = length (strings ts) in
    let bytes = take (bytes_for L) (join_all pack [] ts) in
    (bytes ≡ packed (strings ts)) × (split_pack bytes L (length ts) firsts sizes ≡ split_into ts firsts sizes)

-- ---- By what a pack is refused for.

-- the last row of splitting, and then the starts and sizes
abbrev pub split_last : List ℕ → ℕ → ℕ → List ℕ → List ℕ → Outcome (List ℕ × List ℕ)
split_last bytes L k firsts sizes_out =
    let bits = bits_from bytes 0 L in
    settle (firsts, sizes_out)
    (1 at 0 when (too_short (starts bits) firsts || too_short (sizes bits) sizes_out) ∷ [])
    (counts L k)
    (written (starts bits) firsts, written (sizes bits) sizes_out)

-- the last rows of joining, and then the longer pack
abbrev pub join_last : List ℕ → ℕ → ℕ → List ℕ → Outcome (List ℕ)
join_last pack L k ps =
    let joined = packed (bits_from pack 0 L ++ string_of ps) in
    settle pack
    (3 at bad_entry ps when ltb 0 (bad_entry ps) ∷ 1 at 0 when too_short joined pack ∷ [])
    (counts (L + (2 * length ps + 1)) (k + 1))
    (written joined pack)

-- where the sizes are right, splitting comes to the numbers of what the pack is refused for
abbrev pub SplitByHeld : Type 0
SplitByHeld = (bytes : List ℕ) (L k : ℕ) (firsts sizes : List ℕ) → ToSplit.SplitSized (length bytes) L k
    → split_pack bytes L k firsts sizes ≡ unless_refused (firsts, sizes) (first_holding (pack_rows bytes L k)) (split_last bytes L k firsts sizes)

-- and so does joining
abbrev pub JoinByHeld : Type 0
JoinByHeld = (pack : List ℕ) (L k : ℕ) (ps : List ℕ) → ToJoin.JoinSized (length pack) L k (length ps)
    → join_pack pack L k ps ≡ unless_refused pack (first_holding (pack_rows pack L k)) (join_last pack L k ps)

-- where no leftover bit is set, these are the numbers of what the scan finds
abbrev pub HeldByScan : Type 0
HeldByScan = (bytes : List ℕ) (L k : ℕ) (pack : Result ℕ ℕ) → leftover bytes L ≡ false → found_of pack ≡ found (bits_from bytes 0 L)
    → first_holding (pack_rows bytes L k) ≡ first_holding (pack_row pack k ∷ [])

-- ---- Damage.

-- two accepted packs with one length in bits and one number of trees never differ in an odd number
-- of bits
abbrev pub OddNeverSplit : Type 0
OddNeverSplit = (a b : List ℕ) (L k : ℕ) (firsts sizes firsts' sizes' : List ℕ)
    → (split_pack a L k firsts sizes).answer.code ≡ 0 → (split_pack b L k firsts' sizes').answer.code ≡ 0
    → (m : ℕ) → changed (bits_from a 0 L) (bits_from b 0 L) ≡ 2 * m + 1 → ⊥

-- nor does a pack that was split from one that a tree is joined to
abbrev pub OddNeverJoined : Type 0
OddNeverJoined = (a b : List ℕ) (L k : ℕ) (firsts sizes ps : List ℕ)
    → (split_pack a L k firsts sizes).answer.code ≡ 0 → (join_pack b L k ps).answer.code ≡ 0
    → (m : ℕ) → changed (bits_from a 0 L) (bits_from b 0 L) ≡ 2 * m + 1 → ⊥

-- however many bits of an accepted pack are changed, code 4 names none before the first changed
-- bit: where the first j are the same, one after them
abbrev pub NeverNamedBefore : Type 0
NeverNamedBefore = (a b : List ℕ) (L k k' : ℕ) (firsts sizes firsts' sizes' : List ℕ) (j : ℕ)
    → (split_pack a L k firsts sizes).answer.code ≡ 0 → (split_pack b L k' firsts' sizes').answer.code ≡ 4
    → take j (bits_from a 0 L) ≡ take j (bits_from b 0 L) → j ≤ L
    → j < (split_pack b L k' firsts' sizes').answer.place

-- however many bits of an accepted pack are changed before a tree is joined to it, code 4 names
-- none before the first changed bit
abbrev pub JoinNeverNamesBefore : Type 0
JoinNeverNamesBefore = (a b : List ℕ) (L k k' : ℕ) (firsts sizes ps : List ℕ) (j : ℕ)
    → (split_pack a L k firsts sizes).answer.code ≡ 0 → (join_pack b L k' ps).answer.code ≡ 4
    → take j (bits_from a 0 L) ≡ take j (bits_from b 0 L) → j ≤ L
    → j < (join_pack b L k' ps).answer.place
