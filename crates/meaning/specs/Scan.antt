-- Reading bits: which are the string of a tree, or strings end to end, and where others are refused
-- (document 01, code 4).
use Rattle.std.specs.Prelude.{◌≡◌, List, [], ◌∷◌, ◌++◌, ℕ, zero, suc, ◌≤◌, ◌<◌, length, take}
use Rattle.std.proofs.Math.Option.{Option, none, some}
use Rattle.meaning.specs.Trees.{Tree, nodes}
use Rattle.meaning.specs.Strings.{Bit, O, I, strings}

-- ---- What is asked: one tree's string, or any number of them end to end.

pub data Kind : Type 0 where
  one many : Kind

-- every tree has at most 65,535 nodes
abbrev pub Small : List Tree → Type 0
Small [] = Unit
Small (t ∷ ts) = (nodes t ≤ 65535) × Small ts

abbrev pub AsMany : Kind → List Tree → Type 0
AsMany one ts = length ts ≡ 1
AsMany many ts = Unit

-- bs is the string of a tree of 1 to 65,535 nodes, or a list of such strings
pub record Good (kind : Kind) (bs : List Bit) : Type 0 where
  pub trees : List Tree
  pub small : Small trees
  pub as_many : AsMany kind trees
  pub same : strings trees ≡ bs

abbrev pub Begins : Kind → List Bit → Type 0
Begins kind bs = (rest : List Bit) × Good kind (bs ++ rest)

-- p is the first number such that the first p of a list begin none; length + 1 if there is no such
-- p
pub record FirstNone {A : Type 0} (Begins : List A → Type 0) (xs : List A) (p : ℕ) : Type 0 where
  pub inside : p ≤ suc (length xs)
  pub before : (q : ℕ) → q < p → Begins (take q xs)
  pub here : p ≤ length xs → Begins (take p xs) → ⊥

-- of bits that are to be one string, or strings end to end
abbrev pub Place : Kind → List Bit → ℕ → Type 0
Place kind bs p = FirstNone (Begins kind) bs p

-- ---- How it is read, from left to right: a tree is over at the first bit where no node is
-- pending.

pub data State : Type 0 where
  -- k trees are over and none is open
  closed : (k : ℕ) → State
  -- the first bit of tree k + 1 was read
  begun : (k : ℕ) → State
  -- tree k + 1 is open: p nodes are pending besides the one that is read, and m more nodes are
  -- allowed
  inside : (k p m : ℕ) → State

-- may tree k + 1 begin?
abbrev pub begin : Kind → ℕ → Option State
begin many k = some (begun k)
begin one zero = some (begun 0)
begin one (suc k) = none

-- the state after a bit more; none where the bit is refused
abbrev pub step : Kind → State → Bit → Option State
step kind (closed k) I = begin kind k
step kind (closed k) O = none
step kind (begun k) I = none
step kind (begun k) O = some (inside k 0 65534)
step kind (inside k p zero) I = none
step kind (inside k p (suc m)) I = some (inside k (suc p) m)
step kind (inside k zero m) O = some (closed (suc k))
step kind (inside k (suc p) m) O = some (inside k p m)

-- where bits that end after i of them, in this state, are refused: 0 if they are not
abbrev pub at_end : Kind → ℕ → State → ℕ
at_end many i (closed k) = 0
at_end one i (closed zero) = suc i
at_end one i (closed (suc k)) = 0
at_end kind i (begun k) = suc i
at_end kind i (inside k p m) = suc i

-- where bits are refused, with i bits read before them and the state after those: 0 if they are not
unfoldable pub refusal : Kind → List Bit → ℕ → Option State → ℕ
refusal kind [] i none = i
refusal kind [] i (some s) = at_end kind i s
refusal kind (b ∷ bs) i none = i
refusal kind (b ∷ bs) i (some s) = refusal kind bs (suc i) (step kind s b)

unfoldable pub place : Kind → List Bit → ℕ
unfolding refusal
place kind bs = refusal kind bs 0 (some (closed 0))
