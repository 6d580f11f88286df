-- Packs: strings end to end, and where each tree starts (document 01, "Splitting, joining,
-- listing").
use Rattle.std.specs.Prelude.{List, [], ◌∷◌, map, ℕ, zero, suc, ◌+◌, ◌-◌, ◌*◌, length}
use Rattle.std.proofs.Math.Option.{Option, none, some}
use Rattle.meaning.specs.Trees.{Tree, nodes}
use Rattle.meaning.specs.Strings.{Bit, O, I, lbs}
use Rattle.meaning.specs.Scan.{many, State, closed, begun, inside, step}

-- ---- Of a list of trees.

-- the first bit of each tree, where p bits come before the first
abbrev pub starts_of : List Tree → ℕ → List ℕ
starts_of [] p = []
starts_of (t ∷ ts) p = suc p ∷ starts_of ts (p + length (lbs t))

abbrev pub sizes_of : List Tree → List ℕ
sizes_of ts = map nodes ts

-- ---- The same, read off the bits.

-- a tree is over at the first bit where no node is pending; it has the nodes that are no longer
-- allowed
abbrev pub note_size : State → Bit → List ℕ → List ℕ
note_size (closed k) b rest = rest
note_size (begun k) b rest = rest
note_size (inside k zero m) O rest = (65535 - m) ∷ rest
note_size (inside k zero m) I rest = rest
note_size (inside k (suc p) m) b rest = rest

-- the node counts of the trees that end in bs, where s is the state before it
unfoldable pub sizes_from : List Bit → Option State → List ℕ
sizes_from [] none = []
sizes_from [] (some s) = []
sizes_from (b ∷ bs) none = []
sizes_from (b ∷ bs) (some s) = note_size s b (sizes_from bs (step many s b))

unfoldable pub sizes : List Bit → List ℕ
unfolding sizes_from
sizes bs = sizes_from bs (some (closed 0))

-- trees of these sizes start one after the other, each 2 × size + 1 bits after the one before it
unfoldable pub starts_from : List ℕ → ℕ → List ℕ
starts_from [] p = []
starts_from (n ∷ ns) p = suc p ∷ starts_from ns (p + (2 * n + 1))

unfoldable pub starts : List Bit → List ℕ
unfolding sizes starts_from
starts bs = starts_from (sizes bs) 0
