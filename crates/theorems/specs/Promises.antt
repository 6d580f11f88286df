-- What the theory promises of trees, parent lists, strings, packs and images, in the order of the
-- customer's demands.
-- Each name is a statement; crates/theorems/proofs/Promises.antt has a proof of each.
use Rattle.std.specs.Prelude.{◌≡◌, true, false, List, [], ◌∷◌, ◌++◌, map, ◌↔◌, ℕ, suc, ◌+◌, ◌-◌, ◌*◌, ◌≤◌, ◌<◌, ℤ, pos, length, get_or, take, drop}
use Rattle.std.proofs.Math.Option.{Option, none}
use Rattle.meaning.specs.Trees.{Tree, depth, child_nodes, end_to_end, level_order, nodes}
use Rattle.meaning.specs.Parents.{parents, entry, IsParents, Lowest, bad_entry}
use Rattle.meaning.specs.Strings.{Bit, O, I, ones, zeros, lbs, strings, R1, R0, parents_of, string_of, woven}
use Rattle.meaning.specs.Bytes.{bits_from, bytes_for, leftover, packed}
use Rattle.meaning.specs.Blocks.{blocks_in, wrong_block}
use Rattle.meaning.specs.Image.{Content, Measured, FitImage, image_of_string, image, parents_in, metres_in, is_image, samples}
use Rattle.meaning.specs.Scan.{Kind, one, many, Small, Place, place}
use Rattle.meaning.specs.Packs.{starts_of, sizes_of, sizes, starts}
use Rattle.meaning.specs.Questions.{Ask, next_sibling, previous_sibling, degree, rank, child, sibling, children_of, siblings_of, place_of, sibling_at, answer}
use Rattle.meaning.specs.Listing.{listing, deep}
use Rattle.meaning.specs.declared.Answer.{Answer}
use Rattle.meaning.specs.Answers.{Row, settle}
use Rattle.theory.specs.Rows.{Wins}
use Rattle.theory.specs.Changes.{changed}
use Rattle.theory.specs.Rank.{ones_left, position, ones_before, counting, with_children}
use Rattle.theory.specs.ByStrings.{by_strings}
use Rattle.theory.specs.Layout.{AreBytes, Runs, Laid}
use Rattle.theory.specs.Walks.{root, node_at, Number, Gives, everything, Lists, AllBelow, FirstAt}

-- ---- Demand 1: what a call comes to.

-- the upper row wins, for every call of specs/Calls.antt, since each is settled by its rows
abbrev pub UpperRowWins : Type 1
UpperRowWins = (A : Type 0) (before : A) (rows : List Row) (a : Answer) (after : A) → Wins before rows a after (settle before rows a after)

-- ---- Level order.

-- after the root come the children of node 1, then those of node 2, and so on
abbrev pub LevelOrder : Type 0
LevelOrder = (t : Tree) → level_order t ≡ root t ∷ end_to_end (map child_nodes (level_order t))

-- ---- Demand 2: parent lists.

-- a list of numbers is a parent list exactly if some tree has it
abbrev pub ParentLists : Type 0
ParentLists = (ps : List ℕ) → IsParents ps ↔ ((t : Tree) × (parents t ≡ ps))

-- the tree is one
abbrev pub OneTree : Type 0
OneTree = (t u : Tree) → parents t ≡ parents u → t ≡ u

-- of a list that is not empty: 0 exactly if it is a parent list, and else the lowest offending
-- entry
abbrev pub LowestEntry : Type 0
LowestEntry = (ps : List ℕ) → 1 ≤ length ps
    → ((bad_entry ps ≡ 0) ↔ IsParents ps) × ((bad_entry ps ≡ 0 → ⊥) → Lowest ps (bad_entry ps))

-- ---- Demand 2: tree strings.

-- n ones and n + 1 zeros
abbrev pub StringCounts : Type 0
StringCounts = (t : Tree) → (ones (lbs t) ≡ nodes t) × (zeros (lbs t) ≡ nodes t + 1) × (length (parents t) ≡ nodes t)

-- parent list to string and back
abbrev pub StringBack : Type 0
StringBack = (t : Tree) → (string_of (parents t) ≡ lbs t) × (parents_of (lbs t) ≡ parents t)

-- bits are accepted exactly if some tree of 1 to 65,535 nodes gives them
abbrev pub StringAccepted : Type 0
StringAccepted = (bs : List Bit) → (place one bs ≡ 0) ↔ ((t : Tree) × (nodes t ≤ 65535) × (lbs t ≡ bs))

-- bits of a pack, exactly if some list of such trees gives them
abbrev pub PackAccepted : Type 0
PackAccepted = (bs : List Bit) → (place many bs ≡ 0) ↔ ((ts : List Tree) × Small ts × (strings ts ≡ bs))

-- others are refused at document 01's first p, and there is one such place
abbrev pub RefusedThere : Type 0
RefusedThere = (kind : Kind) (bs : List Bit) → (place kind bs ≡ 0 → ⊥)
    → Place kind bs (place kind bs) × ((p : ℕ) → Place kind bs p → p ≡ place kind bs)

-- the bytes of bits: as many as document 01 says, leftover bits zero, and reading gives the bits
-- back
abbrev pub BytesBack : Type 0
BytesBack = (bs : List Bit) → (length (packed bs) ≡ bytes_for (length bs)) × (leftover (packed bs) (length bs) ≡ false) × (bits_from (packed bs) 0 (length bs) ≡ bs)

-- no other bytes do: of that many bytes with leftover bits zero, what is read and written back is
-- the same
abbrev pub OneBytes : Type 0
OneBytes = (bytes : List ℕ) (L : ℕ) → AreBytes bytes → length bytes ≡ bytes_for L → leftover bytes L ≡ false → packed (bits_from bytes 0 L) ≡ bytes

-- ---- Demand 2: partitioned strings.

-- R1 has n bits, R0 n + 1; both have m ones, where m is one more than the number of nodes with
-- children
abbrev pub PartCounts : Type 0
PartCounts = (t : Tree) → (length (R1 (lbs t)) ≡ nodes t) × (length (R0 (lbs t)) ≡ nodes t + 1)
    × (ones (R1 (lbs t)) ≡ with_children t + 1) × (ones (R0 (lbs t)) ≡ with_children t + 1)

-- to R1 and R0 and back; no other tree has both
abbrev pub PartsBack : Type 0
PartsBack = (t : Tree) → (woven (R1 (lbs t)) (R0 (lbs t)) ≡ lbs t)
    × ((u : Tree) → R1 (lbs t) ≡ R1 (lbs u) → R0 (lbs t) ≡ R0 (lbs u) → t ≡ u)

-- ---- Demand 2: what the strings give, of node x of n.

-- the parent of i is the position in R0 of that one whose number is the count of ones left of i in
-- R1
abbrev pub ParentByStrings : Type 0
ParentByStrings = (t : Tree) (i : ℕ) → 1 ≤ i → i ≤ nodes t → entry (parents t) i ≡ position (R0 (lbs t)) (ones_left (R1 (lbs t)) i)

-- the ones of the string before its z-th zero number the position in R1 of that one whose number is
-- 1 plus the ones left of z in R0
abbrev pub OnesByStrings : Type 0
OnesByStrings = (t : Tree) (z : ℕ) → 1 ≤ z → z ≤ nodes t + 1 → ones_before (lbs t) z ≡ position (R1 (lbs t)) (1 + ones_left (R0 (lbs t)) z)

-- node x has its children after those before zero x, up to those before zero x + 1
abbrev pub ChildrenByStrings : Type 0
ChildrenByStrings = (t : Tree) (x : ℕ)
    → children_of (parents t) x ≡ counting (ones_before (lbs t) x + 1) (ones_before (lbs t) (x + 1) - ones_before (lbs t) x)

-- node x is a leaf exactly if R0 has 0 at x
abbrev pub LeafByStrings : Type 0
LeafByStrings = (t : Tree) (x : ℕ) → 1 ≤ x → x ≤ nodes t → (get_or (R0 (lbs t)) (x - 1) I ≡ O) ↔ (length (children_of (parents t) x) ≡ 0)

-- and has a next sibling, x + 1, exactly if R1 has 0 at x
abbrev pub NextByStrings : Type 0
NextByStrings = (t : Tree) (x : ℕ) → 1 ≤ x → x ≤ nodes t → (get_or (R1 (lbs t)) (x - 1) I ≡ O) ↔ (sibling_at (parents t) x (pos 1) ≡ x + 1)

-- so each answer, of all ten kinds, is given by R1 and R0 alone
abbrev pub AnswersByStrings : Type 0
AnswersByStrings = (t : Tree) (kind : Ask) (x : ℕ) → 1 ≤ x → x ≤ nodes t → (z : ℤ)
    → answer (parents t) kind x z ≡ by_strings (R1 (lbs t)) (R0 (lbs t)) kind x z

-- ---- Demand 2: the tree's own answers. Node number x is the x-th in level order, and known by its
-- address.

-- an address has one number
abbrev pub OneNumber : Type 0
OneNumber = (t : Tree) (a : List ℕ) (x y : ℕ) → Number t a x → Number t a y → x ≡ y

-- what the parent list gives as children of x are, in order, the numbers of the children of the
-- x-th node
abbrev pub OwnChildren : Type 0
OwnChildren = (t : Tree) (x : ℕ) → 1 ≤ x → x ≤ nodes t → map (node_at t) (children_of (parents t) x) ≡ child_nodes (node_at t x)

-- its parent is the number of the node that has it as a child, at the depth above; and its siblings
-- are that node's children
abbrev pub OwnParent : Type 0
OwnParent = (t : Tree) (x : ℕ) → 2 ≤ x → x ≤ nodes t
    → let p = entry (parents t) x in
    (1 ≤ p) × (p < x)
    × ((node_at t x).address ≡ place_of (parents t) x ∷ (node_at t p).address)
    × (depth (node_at t x) ≡ suc (depth (node_at t p)))
    × (map (node_at t) (siblings_of (parents t) x) ≡ child_nodes (node_at t p))

-- each answer, of all ten kinds, for every node and argument, is the one the tree itself gives
abbrev pub OwnAnswer : Type 0
OwnAnswer = (t : Tree) (kind : Ask) (x : ℕ) → 1 ≤ x → x ≤ nodes t → (z : ℤ)
    → Gives t kind (node_at t x).address (node_at t x).below z (answer (parents t) kind x z)

-- document 02, item 3: kind 7 answers 0 for the root, and for no other node
abbrev pub RootHasNoRank : Type 0
RootHasNoRank = (t : Tree) (x : ℕ) → 1 ≤ x → x ≤ nodes t → (answer (parents t) rank x (pos 0) ≡ 0) ↔ (x ≡ 1)

-- every other node keeps its rank, which is its place: it is child number k of the n children of
-- its parent
abbrev pub OthersKeepTheirRank : Type 0
OthersKeepTheirRank = (t : Tree) (x : ℕ) → 2 ≤ x → x ≤ nodes t
    → let p = entry (parents t) x in
    let k = answer (parents t) rank x (pos 0) in
    let n = answer (parents t) degree p (pos 0) in
    (k ≡ place_of (parents t) x) × (1 ≤ k) × (k ≤ n) × (answer (parents t) child p (pos k) ≡ x)

-- kinds 4, 5 and 10 keep their answers for the root, an only child: none next to it or before it,
-- itself 0 places away, and none at any other number of places
abbrev pub RootStaysAlone : Type 0
RootStaysAlone = (t : Tree)
    → (answer (parents t) next_sibling 1 (pos 0) ≡ 0)
    × (answer (parents t) previous_sibling 1 (pos 0) ≡ 0)
    × (answer (parents t) sibling 1 (pos 0) ≡ 1)
    × ((z : ℤ) → (z ≡ pos 0 → ⊥) → answer (parents t) sibling 1 z ≡ 0)

-- the listing is the depth-first order of everything below x, with depths, if no node below it is
-- at depth 64
abbrev pub OwnListing : Type 0
OwnListing = (t : Tree) (x : ℕ) → 1 ≤ x → x ≤ nodes t
    → let v = node_at t x in
    let pairs = listing 65 (parents t) x 0 in
    ((deep pairs ≡ 0) ↔ AllBelow (64 + depth v) (everything v))
    × (deep pairs ≡ 0 → Lists t (depth v) (everything v) pairs)
    × ((deep pairs ≡ 0 → ⊥) → FirstAt t (64 + depth v) (everything v) (deep pairs))

-- ---- Demand 2: images.

-- bytes are an image exactly if some tree of 1 to 65,535 nodes, with metres or without, gives them
abbrev pub ImageAccepted : Type 0
ImageAccepted = (bytes : List ℕ) → (is_image bytes ≡ true) ↔ ((c : Content) × FitImage c × (image c ≡ bytes))

-- the same tree comes back from its image, and its metres, if it has any; two trees never give one
-- image, and nor do a tree with metres and the same tree with others or without
abbrev pub ImageBack : Type 0
ImageBack = (c : Content) → FitImage c
    → (image_of_string c.metres (string_of (parents c.tree)) ≡ image c) × (parents_in (image c) ≡ parents c.tree) × (metres_in (image c) ≡ c.metres)
    × ((d : Content) → FitImage d → image c ≡ image d → c ≡ d)

-- an image has whole blocks, 5 to 574 of them, without metres 5 to 53, and all of them check
abbrev pub ImageBlocks : Type 0
ImageBlocks = (c : Content) → FitImage c
    → (length (image c) ≡ 512 * blocks_in (image c)) × (5 ≤ blocks_in (image c)) × (blocks_in (image c) ≤ 574) × (c.metres ≡ none → blocks_in (image c) ≤ 53)
    × (wrong_block (image c) ≡ blocks_in (image c))

-- what R1, R0, counts, samples, metres and padding must be for some tree to give these bytes, and
-- that this is enough
abbrev pub ImageLaid : Type 0
ImageLaid = (bytes : List ℕ) → AreBytes bytes
    → ((c : Content) × FitImage c × (image c ≡ bytes))
    ↔ ((m : ℕ) × (ms : Option (List ℕ)) × (a : List Bit) × (b : List Bit) × Runs m a × Runs m b
    × (length b ≡ suc (length a)) × (length a ≤ 65535) × Measured (length a) ms × IsParents (parents_of (woven a b)) × Laid bytes ms a b)

-- sample number j, from 0, is the position of one number 64 j + 1
abbrev pub SamplesAre : Type 0
SamplesAre = (bs : List Bit) (j : ℕ) → j < length (samples bs) → get_or (samples bs) j 0 ≡ position bs (64 * j + 1)

-- ---- Demand 3.

-- no tree's string is the beginning of another tree's
abbrev pub NoneBegins : Type 0
NoneBegins = (t u : Tree) (rest : List Bit) → lbs t ++ rest ≡ lbs u → (t ≡ u) × (rest ≡ [])

-- strings end to end: no other list gives those bits
abbrev pub OneList : Type 0
OneList = (ts us : List Tree) → strings ts ≡ strings us → ts ≡ us

-- the splitter's starts and sizes are those of the trees, and it finds as many as there are
abbrev pub StartsAndSizes : Type 0
StartsAndSizes = (ts : List Tree) → Small ts
    → (starts (strings ts) ≡ starts_of ts 0) × (sizes (strings ts) ≡ sizes_of ts) × (length (sizes (strings ts)) ≡ length ts)

-- each part, the 2 × size + 1 bits from its first bit, moved to bit 1, is its tree's string
abbrev pub PartsOfPack : Type 0
PartsOfPack = (ts : List Tree) (j : ℕ) (other : Tree) → Small ts → j < length ts
    → take (2 * get_or (sizes (strings ts)) j 0 + 1) (drop (get_or (starts (strings ts)) j 0 - 1) (strings ts)) ≡ lbs (get_or ts j other)

-- with the number of trees known, changing an odd number of bits never yields bits that are
-- accepted with that number
abbrev pub OddChanges : Type 0
OddChanges = (as' bs : List Bit) (k : ℕ) → length as' ≡ length bs
    → place many as' ≡ 0 → length (sizes as') ≡ k → place many bs ≡ 0 → length (sizes bs) ≡ k
    → (m : ℕ) → changed as' bs ≡ 2 * m + 1 → ⊥

-- however many bits are changed, a refusal names none before the first changed bit: where the first
-- j are the same, one after them
abbrev pub NeverBefore : Type 0
NeverBefore = (kind : Kind) (as' bs : List Bit) (j : ℕ) → place kind as' ≡ 0 → take j as' ≡ take j bs → j ≤ length bs
    → (place kind bs ≡ 0 → ⊥) → j < place kind bs
