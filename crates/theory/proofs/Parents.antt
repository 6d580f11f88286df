-- T3: a list is a parent list exactly if it is the parents of a tree, and of one tree only.
use mathlib.Core.Path.{◌≡◌, refl, sym, ap, ap₂, ◌∙◌, subst}
use mathlib.Core.List.{List, [], ◌∷◌, ◌++◌, tail-eq_of_cons-eq}
use Prim.Native.Nat.{ℕ, zero, suc, ◌+◌, ◌-◌, ◌≤◌, ◌<◌}
use native.Mathlib.Nat.{add-zero, add-suc, suc-add}
use native.Mathlib.Omega.{arith}
use lib.ListN.{length, get_or, replicate}
use Rattle.meaning.specs.Trees.{Tree, degrees}
use Rattle.meaning.specs.Parents.{parents, each, IsParents, Rule}
use Rattle.theory.proofs.Bits.{bump}
use Rattle.theory.proofs.Build.{Done, degrees-done, tree_of, degrees_tree_of, degrees_injective}

-- ---- the rule, entry after entry: i nodes so far, x the least that the next entry may be

abbrev pub Later : ℕ → ℕ → List ℕ → Type 0
Later i x [] = Unit
Later i x (p ∷ ps) = (x ≤ p) × (p ≤ i) × Later (suc i) p ps

pub later_lower : (i x y : ℕ) (ps : List ℕ) → x ≤ y → Later i y ps → Later i x ps
later_lower i x y [] h k = tt
later_lower i x y (p ∷ ps) h k = (omega arith, k.1, k.2)

-- ---- from degrees: x is the node whose children come next, c nodes wait, x among them

later-run : (i x d : ℕ) (ps : List ℕ) → x ≤ i → Later (i + d) x ps → Later i x (replicate d x ++ ps)
later-run i x zero ps h k = rw add-zero at k
later-run i x (suc d) ps h k = (omega arith, h, later-run (suc i) x d ps (omega arith) (rw (add-suc, ← suc-add) at k))

later-each : (c i x : ℕ) (ds : List ℕ) → x + c ≡ suc i → Done c ds → Later i x (each x ds)
later-each zero i x [] e h = tt
later-each zero i x (d ∷ ds) e h = absurd h
later-each (suc c) i x [] e h = absurd h
later-each (suc c) i x (d ∷ ds) e h =
    later-run i x d (each (suc x) ds) (omega arith)
    (later_lower (i + d) x (suc x) (each (suc x) ds) (omega arith) (later-each (c + d) (i + d) (suc x) ds (omega arith) h))

-- ---- back to degrees

abbrev pub counts : ℕ → ℕ → List ℕ → List ℕ
counts i x [] = replicate (suc i - x) 0
counts i x (p ∷ ps) = replicate (p - x) 0 ++ bump (counts (suc i) p ps)

-- ds is a degree sequence, with c nodes waiting of which x is the first, and gives the parents ps
record Fits (c x : ℕ) (ps ds : List ℕ) : Type 0 where
  done : Done c ds
  gives : each x ds ≡ ps

cast_fit : {c c' x x' : ℕ} {ps ds : List ℕ} → c ≡ c' → x ≡ x' → Fits c x ps ds → Fits c' x' ps ds
cast_fit {ps} {ds} e f h = record { done = subst (λ n. Done n ds) e h.done; gives = subst (λ n. each n ds ≡ ps) f h.gives }

-- a node with no children
fits-none : {c x : ℕ} {ps ds : List ℕ} → Fits c (suc x) ps ds → Fits (suc c) x ps (0 ∷ ds)
fits-none {c} {ds} h = record { done = subst (λ n. Done n ds) (sym (add-zero c)) h.done; gives = h.gives }

fits_nones : (k : ℕ) {c x : ℕ} {ps ds : List ℕ} → Fits c (x + k) ps ds → Fits (k + c) x ps (replicate k 0 ++ ds)
fits_nones zero h = cast_fit (omega arith) (omega arith) h
fits_nones (suc k) h = cast_fit (omega arith) refl (fits-none (fits_nones k (cast_fit refl (omega arith) h)))

-- one more child of the first node
fits_more : {c x : ℕ} {ps : List ℕ} (ds : List ℕ) → Fits (suc (suc c)) x ps ds → Fits (suc c) x (x ∷ ps) (bump ds)
fits_more [] h = absurd h.done
fits_more {c} {x} (d ∷ ds) h =
    let e : suc c + d ≡ c + suc d = omega arith in
    record { done = subst (λ n. Done n ds) e h.done; gives = ap (λ r. x ∷ r) h.gives }

fits-end : (c x : ℕ) → Fits c x [] (replicate c 0)
fits-end zero x = record { done = tt; gives = refl }
fits-end (suc c) x = fits-none (fits-end c (suc x))

counts_fit : (i x : ℕ) (ps : List ℕ) → Later i x ps → Fits (suc i - x) x ps (counts i x ps)
counts_fit i x [] h = fits-end (suc i - x) x
counts_fit i x (p ∷ ps) h =
    let r = fits_more {c = i - p} (counts (suc i) p ps) (cast_fit (omega (arith, h.1)) refl (counts_fit (suc i) p ps h.2)) in
    cast_fit (omega (arith, h.0, h.1)) refl (fits_nones (p - x) (cast_fit {x = p} refl (omega (arith, h.0)) r))

-- ---- the rule by entries and the rule entry after entry

-- what the rule says of entry k of the list after x, with i nodes so far
abbrev pub Said : ℕ → ℕ → List ℕ → ℕ → Type 0
Said i x ps k = (get_or (x ∷ ps) k 0 ≤ get_or ps k 0) × (get_or ps k 0 ≤ i + k)

pub later_said : (i x : ℕ) (ps : List ℕ) → Later i x ps → (k : ℕ) → k < length ps → Said i x ps k
later_said i x [] h k l = absurd (omega arith)
later_said i x (p ∷ ps) h zero l = (h.0, omega (arith, h.1))
later_said i x (p ∷ ps) h (suc k) l = let r = later_said (suc i) p ps h.2 k (omega arith) in (r.0, omega (arith, r.1))

pub said_later : (i x : ℕ) (ps : List ℕ) → ((k : ℕ) → k < length ps → Said i x ps k) → Later i x ps
said_later i x [] h = tt
said_later i x (p ∷ ps) h =
    let z = h 0 (omega arith) in
    (z.0, omega (arith, z.1), said_later (suc i) p ps (λ k l. let r = h (suc k) (omega arith) in (r.0, omega (arith, r.1))))

pub later_pos : (i x : ℕ) (ps : List ℕ) → 1 ≤ x → Later i x ps → (k : ℕ) → k < length ps → 1 ≤ get_or ps k 0
later_pos i x [] g h k l = absurd (omega arith)
later_pos i x (p ∷ ps) g h zero l = omega (arith, h.0)
later_pos i x (p ∷ ps) g h (suc k) l = later_pos (suc i) p ps (omega (arith, h.0)) h.2 k (omega arith)

-- with another number before it, the entry before entry k + 1 is the same but where k is 0
pub before-first : (x y k : ℕ) (ps : List ℕ) → x ≤ y → get_or (x ∷ ps) k 0 ≤ get_or (y ∷ ps) k 0
before-first x y zero ps h = h
before-first x y (suc k) ps h = omega arith

pub later_rule : (qs : List ℕ) → Later 1 1 qs → (i : ℕ) → 1 ≤ i → i ≤ length (0 ∷ qs) → Rule (0 ∷ qs) i
later_rule qs h zero g l = tt
later_rule qs h (suc zero) g l = refl
later_rule qs h (suc (suc k)) g l =
    let r = later_said 1 1 qs h k (omega arith) in
    (later_pos 1 1 qs (omega arith) h k (omega arith), omega (arith, r.1), omega (arith, r.0, before-first 0 1 k qs (omega arith)))

pub rule_later : (qs : List ℕ) → ((i : ℕ) → 1 ≤ i → i ≤ length (0 ∷ qs) → Rule (0 ∷ qs) i) → Later 1 1 qs
rule_later qs h = said_later 1 1 qs go
  where
    go : (k : ℕ) → k < length qs → Said 1 1 qs k
    go zero l = let r = h 2 (omega arith) (omega arith) in (r.0, omega (arith, r.1))
    go (suc k) l = let r = h (suc (suc (suc k))) (omega arith) (omega arith) in (r.2, omega (arith, r.1))

-- T3
pub parents_are : (t : Tree) → IsParents (parents t)
unfolding parents
parents_are t = record { some = omega arith; rule = later_rule (each 1 (degrees t)) (later-each 1 1 1 (degrees t) refl (degrees-done t)) }

pub are_parents : (ps : List ℕ) → IsParents ps → (t : Tree) × (parents t ≡ ps)
unfolding parents
are_parents [] h = absurd (omega (arith, h.some))
are_parents (p ∷ qs) h =
    let e : p ≡ 0 = h.rule 1 (omega arith) (omega arith) in
    let h' : IsParents (0 ∷ qs) = subst (λ z. IsParents (z ∷ qs)) e h in
    let f = counts_fit 1 1 qs (rule_later qs h'.rule) in
    (tree_of (counts 1 1 qs), ap₂ ◌∷◌ (sym e) (ap (each 1) (degrees_tree_of (counts 1 1 qs) f.done) ∙ f.gives))

-- ---- one tree only

counts-first : (i x : ℕ) (ps : List ℕ) → x ≤ i → Later i (suc x) ps → counts i x ps ≡ 0 ∷ counts i (suc x) ps
counts-first i x [] h k = ap (λ n. replicate n 0) (let e : suc i - x ≡ suc (suc i - suc x) = omega arith in e)
counts-first i x (p ∷ ps) h k =
    ap (λ n. replicate n 0 ++ bump (counts (suc i) p ps)) (let e : p - x ≡ suc (p - suc x) = omega (arith, k.0) in e)

counts-run : (i x d : ℕ) (ps ds : List ℕ) → counts (i + d) x ps ≡ 0 ∷ ds → counts i x (replicate d x ++ ps) ≡ d ∷ ds
counts-run i x zero ps ds h = subst (λ n. counts n x ps ≡ 0 ∷ ds) (add-zero i) h
counts-run i x (suc d) ps ds h =
    ap (λ n. replicate n 0 ++ bump (counts (suc i) x (replicate d x ++ ps))) (let e : x - x ≡ 0 = omega arith in e)
    ∙ ap bump (counts-run (suc i) x d ps ds (subst (λ n. counts n x ps ≡ 0 ∷ ds) (add-suc i d ∙ sym (suc-add i d)) h))

counts_each : (c i x : ℕ) (ds : List ℕ) → x + c ≡ suc i → Done c ds → counts i x (each x ds) ≡ ds
counts_each zero i x [] e h = ap (λ n. replicate n 0) (let e : suc i - x ≡ 0 = omega arith in e)
counts_each zero i x (d ∷ ds) e h = absurd h
counts_each (suc c) i x [] e h = absurd h
counts_each (suc c) i x (d ∷ ds) e h =
    counts-run i x d (each (suc x) ds) ds
    (counts-first (i + d) x (each (suc x) ds) (omega arith) (later-each (c + d) (i + d) (suc x) ds (omega arith) h)
    ∙ ap (λ r. 0 ∷ r) (counts_each (c + d) (i + d) (suc x) ds (omega arith) h))

-- the degrees of a tree, read off its parents
pub parents-degrees : (t : Tree) → counts 1 1 (each 1 (degrees t)) ≡ degrees t
parents-degrees t = counts_each 1 1 1 (degrees t) refl (degrees-done t)

pub parents_injective : (t u : Tree) → parents t ≡ parents u → t ≡ u
unfolding parents
parents_injective t u e =
    degrees_injective t u (sym (parents-degrees t) ∙ ap (counts 1 1) (tail-eq_of_cons-eq e) ∙ parents-degrees u)
