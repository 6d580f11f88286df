-- What listing a node by the cursors of its levels needs and gives.
use Rattle.std.specs.Prelude.{◌≡◌, List, ℕ, ◌+◌, ◌-◌, ◌≤◌, ◌<◌, length, take, drop}
use Rattle.meaning.specs.Answers.{written}
use Rattle.meaning.specs.Image.{parents_in}
use Rattle.meaning.specs.Listing.{listing}
use Rattle.theory.specs.Stages.{nodes_of, r0_block}
use Rattle.image_found.specs.Checked.{layout_in}
use Rattle.nav_strings.specs.Nodes.{IsNode}
use Rattle.list_measure.specs.Levels.{ones_before_in, below}
use Rattle.list_measure.specs.Cursors.{CursorsReady}

-- once node x is listed: cursors that were ready for all below x and below the nodes after it, up
-- to any z - 1, are ready for all below these
abbrev pub MovedOn : List ℕ → ℕ → List ℕ → List ℕ → Type 0
MovedOn bytes x before after =
    (z : ℕ) → x < z → CursorsReady (below bytes) before (ones_before_in bytes x) (ones_before_in bytes z)
    → CursorsReady (below bytes) after (ones_before_in bytes (x + 1)) (ones_before_in bytes z)

-- ---- listing node x where `left` of the 64 levels are left, its own among them: cursor 65 - left
-- is that of its children

-- its pairs
abbrev pub pairs_of : List ℕ → ℕ → ℕ → List ℕ
pairs_of bytes left x = listing left (parents_in bytes) x (64 - left)

-- what it needs
pub record ToList (bytes : List ℕ) (r0-block x left : ℕ) (cursors out : List ℕ) : Type 0 where
  pub node : IsNode bytes (layout_in bytes) x
  pub begins : r0-block ≡ r0_block (nodes_of bytes)
  pub some : 1 ≤ left
  pub most : left ≤ 64
  pub count : length cursors ≡ 64
  pub ready : CursorsReady (below bytes) (drop (65 - left) cursors) (ones_before_in bytes x) (ones_before_in bytes (x + 1))
  pub room : length (pairs_of bytes left x) ≤ length out

-- what it gives: n numbers are written, and the cursors of the levels below x have moved on
pub record Listed (bytes : List ℕ) (x left : ℕ) (cursors cursors' out out' : List ℕ) (n : ℕ) : Type 0 where
  pub pairs : out' ≡ written (pairs_of bytes left x) out
  pub many : n ≡ length (pairs_of bytes left x)
  pub count : length cursors' ≡ 64
  pub above : take (65 - left) cursors' ≡ take (65 - left) cursors
  pub moved : MovedOn bytes x (drop (65 - left) cursors) (drop (65 - left) cursors')
