-- What reading a node or a list of nodes from a text needs and gives.
use Rattle.std.specs.Prelude.{◌≡◌, false, List, [], ◌∷◌, ℕ, suc, ◌+◌, ◌-◌, ◌≤◌, ◌<◌, length, get_or, set, drop, Result, Ok, Err}
use Rattle.meaning.specs.Strings.{Bit, O, I}
use Rattle.meaning.specs.Text.{is_blank, brackets_in, Reading, inside, over, wrong, too_deep, closed, whole, broken, deeper, read_from, read_text}
use Rattle.text_nesting.specs.declared.TextFault.{TextFault}
use Rattle.text_nesting.specs.declared.TextFault.TheVariants.{Broken, Deeper}
use Rattle.text_nesting.specs.declared.Found.{Found}
use Rattle.text_nesting.specs.declared.Found.TheVariants as found

-- how many nodes each level has, where o nodes are open and so many were met before: an opening
-- bracket is a node more at level o + 1
unfoldable pub tally : List Bit → ℕ → List ℕ → List ℕ
tally [] o levels = levels
tally (I ∷ bs) o levels = tally bs (suc o) (set levels (suc o) (get_or levels (suc o) 0 + 1))
tally (O ∷ bs) o levels = tally bs (o - 1) levels

-- what a state has open
abbrev pub open_in : Reading → ℕ
open_in (inside k m) = k
open_in over = 0
open_in wrong = 0
open_in too_deep = 0

-- from byte number `from`, counted from 0, in one state to number `to` in another, with the levels
-- counted from one list to the other: from there it all ends as from here
pub record Same (text : List ℕ) (from to : ℕ) (s s' : Reading) (levels levels' : List ℕ) : Type 0 where
  pub up : from ≤ to
  pub read : read_from (drop from text) from s ≡ read_from (drop to text) to s'
  pub counted : tally (brackets_in (drop from text)) (open_in s) levels ≡ tally (brackets_in (drop to text)) (open_in s') levels'

-- a state in which a text may go on
abbrev pub Going : Reading → Type 0
Going (inside k m) = Unit
Going over = Unit
Going wrong = ⊥
Going too_deep = ⊥

-- a byte after blanks alone, which change nothing, and which is not blank itself, or the end
pub record AfterBlanks (text : List ℕ) (from r : ℕ) : Type 0 where
  pub within : r ≤ length text
  pub same : (s : Reading) (levels : List ℕ) → Going s → Same text from r s s levels levels
  pub here : r < length text → is_blank (get_or text r 0) ≡ false

-- a text that may be read, and levels of which none has more nodes than bytes were read
pub record Ready (text : List ℕ) (at : ℕ) (levels : List ℕ) : Type 0 where
  pub short : length text ≤ 1048576
  pub within : at ≤ length text
  pub count : length levels ≡ 66
  pub few : (e : ℕ) → get_or levels e 0 ≤ at

-- what is found, as a result
abbrev pub result_of : Found → Result ℕ TextFault
result_of (found.Over to) = Ok to
result_of (found.Broken p) = Err (Broken p)
result_of (found.Deeper p) = Err (Deeper p)

-- the reading from byte number `at` on comes to a byte where it stops
abbrev pub Stops : List ℕ → ℕ → Reading → TextFault → Type 0
Stops text at s (Broken p) = (1 ≤ p) × (p ≤ length text + 1) × (read_from (drop at text) at s ≡ broken p)
Stops text at s (Deeper p) = (1 ≤ p) × (p ≤ length text + 1) × (read_from (drop at text) at s ≡ deeper p)

-- the reading from byte number `at` on stops, or comes to the second state, at a byte for which Q
abbrev pub Goes : (ℕ → Type 0) → List ℕ → ℕ → Reading → Reading → List ℕ → Result ℕ TextFault → List ℕ → Type 0
Goes Q text at s s' levels (Ok to) levels' = Q to × Ready text to levels' × Same text at to s s' levels levels'
Goes Q text at s s' levels (Err e) levels' = Stops text at s e

-- a node whose bracket is byte number `at`, with `left` of the 64 levels left, its own among them
abbrev pub NodeRead : List ℕ → ℕ → ℕ → List ℕ → Result ℕ TextFault → List ℕ → Type 0
NodeRead text at left = Goes (λ to. at < to) text at (inside (64 - left) left) (closed (64 - left) left)

-- the nodes from byte number `from` on, inside a node, with `left` levels left for them: up to a
-- byte that is no blank and no opening bracket
abbrev pub ListRead : List ℕ → ℕ → ℕ → List ℕ → Result ℕ TextFault → List ℕ → Type 0
ListRead text from left =
    Goes (λ to. to < length text → (is_blank (get_or text to 0) ≡ false) × (get_or text to 0 ≡ 40 → ⊥)) text from
    (inside (64 - left) left)
    (inside (64 - left) left)

-- the whole text: how its reading ends, and the nodes of each level
abbrev pub TextRead : List ℕ → List ℕ → Result ℕ TextFault → List ℕ → Type 0
TextRead text levels (Ok to) levels' =
    (read_text text ≡ whole) × (levels' ≡ tally (brackets_in text) 0 levels) × (length levels' ≡ 66) × ((e : ℕ) → get_or levels' e 0 ≤ 1048576)
TextRead text levels (Err (Broken p)) levels' = (1 ≤ p) × (p ≤ length text + 1) × (read_text text ≡ broken p)
TextRead text levels (Err (Deeper p)) levels' = (1 ≤ p) × (p ≤ length text + 1) × (read_text text ≡ deeper p)
