-- Questions and their answers, from the lists of children and siblings (document 01, "Questions";
-- the rank of the root: document 02, item 3), and from the metres (item 2). Number 0 is no node.
use Rattle.std.specs.Prelude.{Bool, true, false, cond, ◌&&◌, List, [], ◌∷◌, ◌++◌, map, ℕ, zero, suc, ◌+◌, ◌-◌, leb, eqb, ℤ, pos, negsuc, length, take}
use Rattle.std.proofs.Math.Option.{Option, none, some}
use Rattle.std.proofs.Math.ListN.{get_elem?}
use Rattle.meaning.specs.Parents.{entry}

-- ---- Children and siblings in a parent list.

abbrev pub keep : Bool → ℕ → List ℕ → List ℕ
keep true i rest = i ∷ rest
keep false i rest = rest

-- the numbers, counted from i, of the entries that are x
abbrev pub numbers_of : List ℕ → ℕ → ℕ → List ℕ
numbers_of [] x i = []
numbers_of (p ∷ ps) x i = keep (eqb p x) i (numbers_of ps x (suc i))

-- the children of node x, in order
unfoldable pub children_of : List ℕ → ℕ → List ℕ
children_of ps x = numbers_of ps x 1

-- node x and its siblings, in order: of the root itself alone, since no other entry is 0
unfoldable pub siblings_of : List ℕ → ℕ → List ℕ
unfolding children_of
siblings_of ps x = children_of ps (entry ps x)

-- a node's place among its siblings, from 1: how many of the nodes up to x have x's parent; the
-- root's is 1, since it is an only child
unfoldable pub place_of : List ℕ → ℕ → ℕ
unfolding children_of
place_of ps x = length (children_of (take x ps) (entry ps x))

-- a node's rank is that place; the root, node 1, has none
unfoldable pub rank_of : List ℕ → ℕ → ℕ
unfolding place_of
rank_of ps x = cond (eqb x 1) 0 (place_of ps x)

-- ---- The ten kinds that ask the tree.

pub data Ask : Type 0 where
  parent first_child last_child next_sibling previous_sibling degree rank child leaf sibling : Ask

-- kinds 1 to 10
abbrev pub kinds : List Ask
kinds = parent ∷ first_child ∷ last_child ∷ next_sibling ∷ previous_sibling ∷ degree ∷ rank ∷ child ∷ leaf ∷ sibling ∷ []

-- what is asked: something of the tree, or by kind 11 the metres
pub data Asked : Type 0 where
  of_tree : Ask → Asked
  of_metres : Asked

abbrev pub is_none : ℕ → ℕ
is_none zero = 1
is_none (suc n) = 0

-- child number z
unfoldable pub child_at : List ℕ → ℕ → ℤ → ℕ
unfolding children_of
child_at ps x (pos a) = entry (children_of ps x) a
child_at ps x (negsuc a) = 0

-- the sibling z places to the right, to the left where z is negative
unfoldable pub sibling_at : List ℕ → ℕ → ℤ → ℕ
unfolding siblings_of place_of
sibling_at ps x (pos a) = entry (siblings_of ps x) (place_of ps x + a)
sibling_at ps x (negsuc a) = entry (siblings_of ps x) (place_of ps x - suc a)

-- the answer about node x, with argument z
unfoldable pub answer : List ℕ → Ask → ℕ → ℤ → ℕ
unfolding children_of child_at sibling_at rank_of
answer ps parent x z = entry ps x
answer ps first_child x z = entry (children_of ps x) 1
answer ps last_child x z = entry (children_of ps x) (length (children_of ps x))
answer ps next_sibling x z = sibling_at ps x (pos 1)
answer ps previous_sibling x z = sibling_at ps x (negsuc 0)
answer ps degree x z = length (children_of ps x)
answer ps rank x z = rank_of ps x
answer ps child x z = child_at ps x z
answer ps leaf x z = is_none (length (children_of ps x))
answer ps sibling x z = sibling_at ps x z

-- ---- Lists of questions, three numbers to a question: kind, node, argument.

pub record Question : Type 0 where
  pub kind : ℤ
  pub node : ℤ
  pub argument : ℤ

abbrev pub questions : List ℤ → List Question
questions [] = []
questions (k ∷ []) = []
questions (k ∷ x ∷ []) = []
questions (k ∷ x ∷ z ∷ rest) = record { kind = k; node = x; argument = z } ∷ questions rest

-- what is asked, if the kind is 1 to 11
abbrev pub kind_of : ℤ → Option Asked
kind_of (pos zero) = none
kind_of (pos (suc k)) = get_elem? (map of_tree kinds ++ of_metres ∷ []) k
kind_of (negsuc k) = none

-- 0 where a number is negative: no node
abbrev pub number_of : ℤ → ℕ
number_of (pos x) = x
number_of (negsuc x) = 0

abbrev pub is_zero : ℤ → Bool
is_zero (pos zero) = true
is_zero (pos (suc a)) = false
is_zero (negsuc a) = false

-- kinds 8 and 10 take any argument, the others 0
abbrev pub takes : Ask → ℤ → Bool
takes child z = true
takes sibling z = true
takes parent z = is_zero z
takes first_child z = is_zero z
takes last_child z = is_zero z
takes next_sibling z = is_zero z
takes previous_sibling z = is_zero z
takes degree z = is_zero z
takes rank z = is_zero z
takes leaf z = is_zero z

-- is x a node, 1 to n?
abbrev pub is_node : ℕ → ℕ → Bool
is_node n x = leb 1 x && leb x n

-- kind 11 takes argument 0, and there must be metres
abbrev pub allowed_kind : Bool → Option Asked → ℤ → Bool
allowed_kind metres none z = false
allowed_kind metres (some (of_tree ask)) z = takes ask z
allowed_kind metres (some of_metres) z = metres && is_zero z

-- kind, node and argument are allowed, in a tree of n nodes with metres or without
unfoldable pub allowed : ℕ → Bool → Question → Bool
allowed n metres q = is_node n (number_of q.node) && allowed_kind metres (kind_of q.kind) q.argument

-- the lowest question that is not allowed, where i come before these: 0 if there is none
unfoldable pub not_allowed : ℕ → Bool → List Question → ℕ → ℕ
unfolding allowed
not_allowed n metres [] i = 0
not_allowed n metres (q ∷ qs) i = let rest = not_allowed n metres qs (suc i) in cond (allowed n metres q) rest (suc i)

-- about node x of the tree with these parents, or its metres
abbrev pub answer_kind : List ℕ → List ℕ → Option Asked → ℕ → ℤ → ℕ
answer_kind ps ms none x z = 0
answer_kind ps ms (some (of_tree ask)) x z = answer ps ask x z
answer_kind ps ms (some of_metres) x z = entry ms x

unfoldable pub answer_to : List ℕ → List ℕ → Question → ℕ
unfolding answer
answer_to ps ms q = answer_kind ps ms (kind_of q.kind) (number_of q.node) q.argument
