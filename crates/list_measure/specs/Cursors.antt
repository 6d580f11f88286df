-- The cursors by which a listing finds the next node of each level.
use Rattle.std.specs.Prelude.{◌≡◌, List, [], ◌∷◌, ℕ, ◌≤◌, ◌<◌}

-- the cursors of a level and of those below it are ready for the nodes after a, up to z, of that
-- level and for all below them:
-- at each level that has some of these, its cursor is the number before the first; a level without
-- a cursor has none
unfoldable pub CursorsReady : (ℕ → ℕ) → List ℕ → ℕ → ℕ → Type 0
CursorsReady next [] a z = z ≤ a
CursorsReady next (c ∷ cs) a z = a < z → (c ≡ a) × CursorsReady next cs (next a) (next z)
