-- What a listing takes, from its pairs and level by level.
use Rattle.std.specs.Prelude.{Ok, Err, Result, cond, List, ℕ, zero, suc, ◌+◌, ◌-◌, ◌/◌, ltb, length}
use Rattle.meaning.specs.Strings.{string_of}
use Rattle.meaning.specs.Image.{parents_in}
use Rattle.meaning.specs.Listing.{deep}
use Rattle.theory.specs.Rank.{ones_before}

-- the ones before zero z of the string of an image's tree: node x has its children after those
-- before zero x, up to those before zero x + 1
unfoldable pub ones_before_in : List ℕ → ℕ → ℕ
ones_before_in bytes z = ones_before (string_of (parents_in bytes)) z

-- so the nodes after a, up to z, have their children after `below a`, up to `below z`
abbrev pub below : List ℕ → ℕ → ℕ
below bytes a = ones_before_in bytes (a + 1)

-- how many nodes are listed, or the first node at depth 64
abbrev pub sized : ℕ → ℕ → Result ℕ ℕ
sized zero n = Ok n
sized (suc x) n = Err (suc x)

unfoldable pub size_of : List ℕ → Result ℕ ℕ
size_of pairs = sized (deep pairs) (length pairs / 2)

-- what holds if the listing fits
abbrev pub WhereFits : Result ℕ ℕ → Type 0 → Type 0
WhereFits (Ok n) p = p
WhereFits (Err x) p = Unit

-- what a listing takes, found level by level, where n nodes are above: a level is the nodes after
-- a, up to z, the next one those after `next a`, up to `next z`, and none may be there after `left`
-- more
unfoldable pub levels_from : (ℕ → ℕ) → ℕ → ℕ → ℕ → ℕ → Result ℕ ℕ
levels_from next zero a z n = cond (ltb a z) (Err (suc a)) (Ok n)
levels_from next (suc left) a z n = cond (ltb a z) (levels_from next left (next a) (next z) (n + (z - a))) (Ok n)
