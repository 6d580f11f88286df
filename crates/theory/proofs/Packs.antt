-- What is read off the bits of a pack is what its trees give.
use mathlib.Core.Path.{◌≡◌, refl, sym, ap, ap₂, ◌∙◌}
use mathlib.Core.List.{List, [], ◌∷◌, ◌++◌, append_assoc}
use mathlib.Core.Option.{some}
use Prim.Native.Nat.{ℕ, zero, suc, ◌+◌, ◌-◌, ◌*◌, ◌≤◌, ◌<◌}
use native.Mathlib.Omega.{arith}
use lib.ListN.{length, get_or, take, drop, length-append, length-map}
use lib.Seq.{take_at, drop_at}
use Rattle.meaning.specs.Trees.{Tree, degrees, nodes}
use Rattle.meaning.specs.Strings.{Bit, O, I, unary, lbs, ones, strings}
use Rattle.meaning.specs.Scan.{Small, closed, inside}
use Rattle.meaning.specs.Packs.{starts_of, sizes_of, sizes_from, sizes, starts_from, starts}
use Rattle.theory.proofs.Bits.{Over, string_of_tree}
use Rattle.theory.proofs.Scan.{nodes-ones}
use Rattle.theory.proofs.Odd.{both, tree-counts}

pub string-length : (t : Tree) → length (lbs t) ≡ 2 * nodes t + 1
string-length t = omega (arith, both (lbs t), tree-counts t, nodes-ones t)

-- ---- sizes

-- `◌∷◌` with its head written in another way
headed : (i j : ℕ) (r : List ℕ) → i ≡ j → i ∷ r ≡ j ∷ r
headed i j r e = ap (λ k. k ∷ r) e

sizes-over : (xs ys : List Bit) (k p m : ℕ) → Over (suc p) xs → ones xs ≤ m
    → sizes_from (xs ++ ys) (some (inside k p m)) ≡ (65535 - (m - ones xs)) ∷ sizes_from ys (some (closed (suc k)))
unfolding sizes_from
sizes-over [] ys k p m h l = absurd h
sizes-over (I ∷ xs) ys k p zero h l = absurd (omega arith)
sizes-over (I ∷ xs) ys k zero (suc m) h l = sizes-over xs ys k 1 m h (omega arith) ∙ headed _ _ _ (let e : 65535 - (m - ones xs) ≡ 65535 - (suc m - suc (ones xs)) = omega arith in e)
sizes-over (I ∷ xs) ys k (suc p) (suc m) h l = sizes-over xs ys k (suc (suc p)) m h (omega arith) ∙ headed _ _ _ (let e : 65535 - (m - ones xs) ≡ 65535 - (suc m - suc (ones xs)) = omega arith in e)
sizes-over (O ∷ []) ys k zero m h l = headed _ _ _ (let e : 65535 - m ≡ 65535 - (m - 0) = omega arith in e)
sizes-over (O ∷ x ∷ xs) ys k zero m h l = absurd h
sizes-over (O ∷ xs) ys k (suc p) m h l = sizes-over xs ys k p m h l

sizes-from : (ts : List Tree) (k : ℕ) → Small ts → sizes_from (strings ts) (some (closed k)) ≡ sizes_of ts
unfolding lbs sizes_from
sizes-from [] k l = refl
sizes-from (t ∷ ts) k l =
    sizes-over (unary (degrees t)) (strings ts) k 0 65534 (string_of_tree t) (omega (arith, nodes-ones t, l.0))
    ∙ ap₂ ◌∷◌ (let e : 65535 - (65534 - ones (unary (degrees t))) ≡ nodes t = omega (arith, nodes-ones t, l.0) in e) (sizes-from ts (suc k) l.1)

pub sizes_are : (ts : List Tree) → Small ts → sizes (strings ts) ≡ sizes_of ts
unfolding sizes
sizes_are ts l = sizes-from ts 0 l

-- the number of trees found is the number of trees
pub found_is : (ts : List Tree) → Small ts → length (sizes (strings ts)) ≡ length ts
found_is ts l = ap length (sizes_are ts l) ∙ length-map ts nodes

-- ---- starts

starts_from_lem : (ts : List Tree) (p : ℕ) → starts_from (sizes_of ts) p ≡ starts_of ts p
unfolding starts_from
starts_from_lem [] p = refl
starts_from_lem (t ∷ ts) p =
    ap (λ r. suc p ∷ r) (ap (λ n. starts_from (sizes_of ts) (p + n)) (sym (string-length t)) ∙ starts_from_lem ts (p + length (lbs t)))

pub starts_are : (ts : List Tree) → Small ts → starts (strings ts) ≡ starts_of ts 0
unfolding starts
starts_are ts l = ap (λ ns. starts_from ns 0) (sizes_are ts l) ∙ starts_from_lem ts 0

-- ---- parts: the bits from a tree's start, as many as its string has, are its string

part_from : (ts : List Tree) (xs : List Bit) (j : ℕ) (other : Tree) → j < length ts
    → take (2 * get_or (sizes_of ts) j 0 + 1) (drop (get_or (starts_of ts (length xs)) j 0 - 1) (xs ++ strings ts)) ≡ lbs (get_or ts j other)
part_from [] xs j other h = absurd (omega arith)
part_from (t ∷ ts) xs zero other h =
    ap (take (2 * nodes t + 1)) (drop_at xs (lbs t ++ strings ts) (suc (length xs) - 1) (omega arith)) ∙ take_at (lbs t) (strings ts) (2 * nodes t + 1) (string-length t)
part_from (t ∷ ts) xs (suc j) other h =
    ap₂ (λ n r. take (2 * get_or (sizes_of ts) j 0 + 1) (drop (get_or (starts_of ts n) j 0 - 1) r)) (sym (length-append xs (lbs t))) (sym (append_assoc xs (lbs t) (strings ts)))
    ∙ part_from ts (xs ++ lbs t) j other (omega arith)

pub part_is : (ts : List Tree) (j : ℕ) (other : Tree) → Small ts → j < length ts
    → take (2 * get_or (sizes (strings ts)) j 0 + 1) (drop (get_or (starts (strings ts)) j 0 - 1) (strings ts)) ≡ lbs (get_or ts j other)
part_is ts j other l h =
    ap₂ (λ ns ps. take (2 * get_or ns j 0 + 1) (drop (get_or ps j 0 - 1) (strings ts))) (sizes_are ts l) (starts_are ts l) ∙ part_from ts [] j other h
