-- What sealing, the check, reading back, questions and listings promise of images (demand 2, of a
-- tree and its metres, if it has any: document 02, item 2).
-- Each name is a statement; proofs/Promises.antt has a proof of each.
use Rattle.std.specs.Prelude.{◌≡◌, Bool, true, false, cond, List, [], ◌∷◌, ◌++◌, ◌↔◌, ℕ, suc, ◌+◌, ◌-◌, ◌*◌, ◌/◌, ◌%◌, ◌≤◌, eqb, ℤ, pos, length, take, replicate}
use Rattle.std.proofs.Math.Option.{Option, none, some}
use Rattle.std.proofs.Math.ListN.{get_elem?}
use Rattle.meaning.specs.declared.Answer.{Answer}
use Rattle.meaning.specs.Trees.{Tree, nodes, depth}
use Rattle.meaning.specs.Parents.{parents}
use Rattle.meaning.specs.Strings.{ones, lbs, R1, R0}
use Rattle.meaning.specs.Blocks.{word_bytes, sum_start, sealed}
use Rattle.meaning.specs.Image.{Content, FitImage, present, string_part, sample_part, image}
use Rattle.meaning.specs.Questions.{Asked, of_tree, of_metres, Question, questions, kind_of, number_of, is_zero, takes, not_allowed}
use Rattle.meaning.specs.Listing.{listing}
use Rattle.meaning.specs.Answers.{Outcome, counts, refused_with, came_to, written}
use Rattle.calls.specs.Calls.{image_of_parents, image_with_metres, check_image, parents_of_image, metres_of_image, wrong_questions, ask_image, list_image}
use Rattle.theory.specs.Rank.{with_children}
use Rattle.theory.specs.Walks.{node_at, Gives, everything, Lists, AllBelow, FirstAt}
use Rattle.image_found.specs.Checked.{checked, answered}
use Rattle.list_measure.specs.Levels.{size_of}
use Rattle.list_measure.specs.Numbers.{measured_outcome}

-- ---- Sealing and the check.

-- n, and m, which is one more than the number of nodes with children
abbrev pub counts_of : Tree → Answer
counts_of t = counts (nodes t) (with_children t + 1)

-- a tree alone, and with its metres
abbrev pub alone : Tree → Content
alone t = record { tree = t; metres = none }

abbrev pub measured : Tree → List ℕ → Content
measured t ms = record { tree = t; metres = some ms }

-- sealing a parent list with metres, if there are any: by the call of that version
abbrev pub seal_by : Option (List ℕ) → List ℕ → List ℕ → Outcome (List ℕ)
seal_by none ps bytes = image_of_parents ps bytes
seal_by (some ms) ps bytes = image_with_metres ps ms bytes

-- as many metres as nodes, where there are any
abbrev pub Counted : Option (List ℕ) → ℕ → Type 0
Counted none n = Unit
Counted (some ms) n = length ms ≡ n

-- a list of numbers is sealed exactly if it is the parent list of some tree of 1 to 65,535 nodes,
-- the metres, if any, are as many, and there is room for the image
abbrev pub ListSealedExactly : Type 0
ListSealedExactly = (ms : Option (List ℕ)) (ps bytes : List ℕ)
    → ((seal_by ms ps bytes).answer.code ≡ 0)
    ↔ ((t : Tree) × (nodes t ≤ 65535) × (parents t ≡ ps) × Counted ms (nodes t) × (length (image (record { tree = t; metres = ms })) ≤ length bytes))

-- sealing a tree and its metres, if it has any, gives its image, and answers its n and m
abbrev pub SealedOfTree : Type 0
SealedOfTree = (c : Content) (bytes : List ℕ) → FitImage c → length (image c) ≤ length bytes
    → seal_by c.metres (parents c.tree) bytes ≡ came_to (counts_of c.tree) (written (image c) bytes)

-- a list of metres whose length is not that of the parent list is refused, whatever the entries are
abbrev pub OtherLength : Type 0
OtherLength = (ps ms bytes : List ℕ) → (length ms ≡ length ps → ⊥) → image_with_metres ps ms bytes ≡ came_to (refused_with 2 0) bytes

-- bytes are accepted exactly if they are the image of some tree of 1 to 65,535 nodes and of its
-- metres, if it has any
abbrev pub ImageAcceptedExactly : Type 0
ImageAcceptedExactly = (bytes : List ℕ) → ((check_image bytes).answer.code ≡ 0) ↔ ((c : Content) × FitImage c × (image c ≡ bytes))

-- the check of a tree's image answers its n and m
abbrev pub CheckedOfTree : Type 0
CheckedOfTree = (c : Content) → FitImage c → check_image (image c) ≡ came_to (counts_of c.tree) tt

-- the check comes to the numbers of what it finds
abbrev pub CheckedByFound : Type 0
CheckedByFound = (bytes : List ℕ) → came_to (answered (checked bytes)) tt ≡ check_image bytes

-- every public reading makes the whole check first: what the check refuses, each reading refuses
-- alike, and no lent list changes
abbrev pub CheckedFirst : Type 0
CheckedFirst = (bytes out : List ℕ)
    → let found = (check_image bytes).answer in
    (found.code ≡ 0 → ⊥)
    → (parents_of_image bytes out ≡ came_to found out)
    × (metres_of_image bytes out ≡ came_to found out)
    × ((qs : List ℤ) → wrong_questions qs ≡ false → ask_image bytes qs out ≡ came_to found out)
    × ((x : ℕ) → list_image bytes x out ≡ came_to found out)

-- ---- Reading back.

-- what reading the metres back comes to: there are none, or there are n
abbrev pub metres_back : Option (List ℕ) → List ℕ → Outcome (List ℕ)
metres_back none out = came_to (refused_with 8 1) out
metres_back (some ms) out = came_to (counts (length ms) 0) (written ms out)

-- a tree's parent list and its metres, if it has any, give its image, and the bytes that were
-- written give both back
abbrev pub SealedThenRead : Type 0
SealedThenRead = (c : Content) (bytes out : List ℕ) → FitImage c → length (image c) ≤ length bytes → nodes c.tree ≤ length out
    → let sealed = seal_by c.metres (parents c.tree) bytes in
    let stored = take (length (image c)) sealed.lent in
    (sealed ≡ came_to (counts_of c.tree) (written (image c) bytes))
    × (parents_of_image stored out ≡ came_to (counts (nodes c.tree) 0) (written (parents c.tree) out))
    × (metres_of_image stored out ≡ metres_back c.metres out)

-- bytes are read exactly if they are the image of some tree of 1 to 65,535 nodes, and there is room
-- for its parent list
abbrev pub ImageReadExactly : Type 0
ImageReadExactly = (bytes out : List ℕ)
    → ((parents_of_image bytes out).answer.code ≡ 0) ↔ ((c : Content) × FitImage c × (image c ≡ bytes) × (nodes c.tree ≤ length out))

-- metres are read exactly if they are the image of a tree with metres, and there is room for these
abbrev pub MetresReadExactly : Type 0
MetresReadExactly = (bytes out : List ℕ)
    → ((metres_of_image bytes out).answer.code ≡ 0)
    ↔ ((t : Tree) × (ms : List ℕ) × FitImage (measured t ms) × (image (measured t ms) ≡ bytes) × (nodes t ≤ length out))

-- the metres that were read back: none where that was refused
abbrev pub read_back : Outcome (List ℕ) → Option (List ℕ)
read_back o = cond (eqb o.answer.code 0) (some (take o.answer.first o.lent)) none

-- an image that is read gives a parent list and metres, or no metres, that give the same bytes back
-- by the call of its version, with the n that was read and the m of the check
abbrev pub AcceptedIsSealed : Type 0
AcceptedIsSealed = (bytes out out' bytes' : List ℕ) → length bytes ≤ length bytes'
    → let read = parents_of_image bytes out in
    let metres = metres_of_image bytes out' in
    read.answer.code ≡ 0 → read.answer.first ≤ length out'
    → seal_by (read_back metres) (take read.answer.first read.lent) bytes'
    ≡ came_to (counts read.answer.first (check_image bytes).answer.second) (written bytes bytes')

-- images that are read and give one parent list and the same metres, or none, are the same bytes
abbrev pub OneImagePerContent : Type 0
OneImagePerContent = (a b out out' : List ℕ)
    → let first = parents_of_image a out in
    let second = parents_of_image b out' in
    first.answer.code ≡ 0 → second.answer.code ≡ 0
    → take first.answer.first first.lent ≡ take second.answer.first second.lent
    → read_back (metres_of_image a out) ≡ read_back (metres_of_image b out') → a ≡ b

-- ---- Metres, and none.

-- the question for the metres of node x
abbrev pub metres_asked : ℕ → List ℤ
metres_asked x = pos 11 ∷ pos x ∷ pos 0 ∷ []

-- no metres are not 0 metres: the images differ, reading back is refused for the one and gives n
-- zeros for the other, and so does question 11
abbrev pub NoMetresIsNotZero : Type 0
NoMetresIsNotZero = (t : Tree) (out : List ℕ) → nodes t ≤ 65535 → nodes t ≤ length out
    → let without = image (alone t) in
    let zeros = image (measured t (replicate (nodes t) 0)) in
    (without ≡ zeros → ⊥)
    × (metres_of_image without out ≡ came_to (refused_with 8 1) out)
    × (metres_of_image zeros out ≡ came_to (counts (nodes t) 0) (written (replicate (nodes t) 0) out))
    × ((x : ℕ) → 1 ≤ x → x ≤ nodes t
    → (ask_image without (metres_asked x) out ≡ came_to (refused_with 8 1) out)
    × (ask_image zeros (metres_asked x) out ≡ came_to (counts 1 0) (written (0 ∷ []) out)))

-- the image of a tree alone is the one of document 01: version 1, n, m, the number of blocks; R1,
-- R0, the samples of R1 and those of R0
abbrev pub VersionOneStays : Type 0
VersionOneStays = (t : Tree)
    → let r1 = R1 (lbs t) in
    let r0 = R0 (lbs t) in
    let parts = string_part r1 ++ string_part r0 ++ sample_part r1 ++ sample_part r0 in
    image (alone t) ≡ sealed sum_start (word_bytes (1 ∷ length r1 ∷ ones r1 ∷ suc (length parts) ∷ []) ∷ parts) 0

-- ---- Questions.

-- what is asked takes this argument: of the tree by its kind, of metres 0, where there are any
abbrev pub Takes : Bool → Asked → ℤ → Type 0
Takes metres (of_tree ask) z = takes ask z ≡ true
Takes metres of_metres z = (metres ≡ true) × (is_zero z ≡ true)

-- node, kind and argument of a question are allowed in a tree of n nodes, with metres or without
abbrev pub Allowed : ℕ → Bool → Question → Type 0
Allowed n metres q =
    (1 ≤ number_of q.node) × (number_of q.node ≤ n) × ((asked : Asked) × (kind_of q.kind ≡ some asked) × Takes metres asked q.argument)

-- each of these questions is allowed
abbrev pub EachAllowed : ℕ → Bool → List Question → Type 0
EachAllowed n metres [] = Unit
EachAllowed n metres (q ∷ qs) = Allowed n metres q × EachAllowed n metres qs

-- no question is refused exactly if each is allowed
abbrev pub AllowedExactly : Type 0
AllowedExactly = (n : ℕ) (metres : Bool) (qs : List Question) → (not_allowed n metres qs 0 ≡ 0) ↔ EachAllowed n metres qs

-- the questions come in threes, 256 at most, each is allowed of this tree and its metres, if it has
-- any, and there is room for the answers
pub record Askable (c : Content) (qs : List ℤ) (out : List ℕ) : Type 0 where
  pub threes : length qs % 3 ≡ 0
  pub few : length qs / 3 ≤ 256
  pub allowed : not_allowed (nodes c.tree) (present c.metres) (questions qs) 0 ≡ 0
  pub room : length (questions qs) ≤ length out

-- questions are answered exactly if the bytes are the image of some tree of 1 to 65,535 nodes, with
-- metres or without, that they can be asked of
abbrev pub AskedExactly : Type 0
AskedExactly = (bytes : List ℕ) (qs : List ℤ) (out : List ℕ)
    → ((ask_image bytes qs out).answer.code ≡ 0) ↔ ((c : Content) × FitImage c × (image c ≡ bytes) × Askable c qs out)

-- r is what the tree itself gives about the x-th node in level order, or the x-th of its metres
abbrev pub Answers : Content → Asked → ℕ → ℤ → ℕ → Type 0
Answers c (of_tree ask) x z r = let v = node_at c.tree x in Gives c.tree ask v.address v.below z r
Answers c of_metres x z r = (ms : List ℕ) × (c.metres ≡ some ms) × (get_elem? ms (x - 1) ≡ some r)

-- r is the answer to a question
abbrev pub Given : Content → Question → ℕ → Type 0
Given c q r = (asked : Asked) × (kind_of q.kind ≡ some asked) × Answers c asked (number_of q.node) q.argument r

-- one answer to each question
abbrev pub AllGiven : Content → List Question → List ℕ → Type 0
AllGiven c [] [] = Unit
AllGiven c [] (r ∷ rs) = ⊥
AllGiven c (q ∷ qs) [] = ⊥
AllGiven c (q ∷ qs) (r ∷ rs) = Given c q r × AllGiven c qs rs

-- and then each answer is the tree's own
abbrev pub AskedOfContent : Type 0
AskedOfContent = (c : Content) (qs : List ℤ) (out : List ℕ) → FitImage c → Askable c qs out
    → (answers : List ℕ) × (ask_image (image c) qs out ≡ came_to (counts (length (questions qs)) 0) (written answers out)) × AllGiven c (questions qs) answers

-- document 02, item 3: the question for the rank of the root is answered by 0, of any tree with
-- metres or without
abbrev pub RootAsked : Type 0
RootAsked = (c : Content) (r : ℕ) (out : List ℕ) → FitImage c
    → ask_image (image c) (pos 7 ∷ pos 1 ∷ pos 0 ∷ []) (r ∷ out) ≡ came_to (counts 1 0) (0 ∷ out)

-- those for its siblings by what they always were: none next, none before, and z places away itself
-- if z is 0, and else none
abbrev pub RootAskedAlone : Type 0
RootAskedAlone = (c : Content) (z : ℤ) (r s t : ℕ) (out : List ℕ) → FitImage c
    → ask_image (image c) (pos 4 ∷ pos 1 ∷ pos 0 ∷ pos 5 ∷ pos 1 ∷ pos 0 ∷ pos 10 ∷ pos 1 ∷ z ∷ []) (r ∷ s ∷ t ∷ out)
    ≡ came_to (counts 3 0) (0 ∷ 0 ∷ cond (is_zero z) 1 0 ∷ out)

-- ---- Listings.

-- every node below x is less than 64 deeper
abbrev pub Shallow : Tree → ℕ → Type 0
Shallow t x = let v = node_at t x in AllBelow (64 + depth v) (everything v)

-- x is a node, every node below it is less than 64 deeper, and there is room for its listing
pub record Listable (t : Tree) (x : ℕ) (out : List ℕ) : Type 0 where
  pub from : 1 ≤ x
  pub to : x ≤ nodes t
  pub shallow : Shallow t x
  pub room : 2 * length (everything (node_at t x)) ≤ length out

-- node x is listed exactly if the bytes are the image of some tree of 1 to 65,535 nodes, with
-- metres or without, of which it can be listed
abbrev pub ListedExactly : Type 0
ListedExactly = (bytes : List ℕ) (x : ℕ) (out : List ℕ)
    → ((list_image bytes x out).answer.code ≡ 0) ↔ ((c : Content) × FitImage c × (image c ≡ bytes) × Listable c.tree x out)

-- and then the listing is the depth-first order of everything below x, with depths, two numbers to
-- a node
abbrev pub ListedOfTree : Type 0
ListedOfTree = (c : Content) (x : ℕ) (out : List ℕ) → FitImage c → Listable c.tree x out
    → let t = c.tree in
    let v = node_at t x in
    (pairs : List ℕ) × (list_image (image c) x out ≡ came_to (counts (length (everything v)) 0) (written pairs out)) × Lists t (depth v) (everything v) pairs

-- else the first node in that order that is 64 deeper is named
abbrev pub TooDeepIsNamed : Type 0
TooDeepIsNamed = (c : Content) (x : ℕ) (out : List ℕ) → FitImage c → 1 ≤ x → x ≤ nodes c.tree → (Shallow c.tree x → ⊥)
    → let t = c.tree in
    let v = node_at t x in
    (y : ℕ) × (list_image (image c) x out ≡ came_to (refused_with 9 y) out) × FirstAt t (64 + depth v) (everything v) y

-- the listing of a node comes to the numbers of what it takes
abbrev pub ListedByMeasure : Type 0
ListedByMeasure = (c : Content) (x : ℕ) (out : List ℕ) → FitImage c → 1 ≤ x → x ≤ nodes c.tree
    → let pairs = listing 65 (parents c.tree) x 0 in
    list_image (image c) x out ≡ measured_outcome (size_of pairs) pairs out
