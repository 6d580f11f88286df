-- Tree strings: which bits are one, that none begins another, and that a list of them end to end
-- can be cut in one way only.
use mathlib.Core.Path.{◌≡◌, refl, sym, ap, ap₂, ◌∙◌, subst}
use mathlib.Core.List.{List, [], ◌∷◌, ◌++◌, append-nil, cons≢nil, nil≢cons, head-eq_of_cons-eq, tail-eq_of_cons-eq}
use Prim.Native.Nat.{ℕ, zero, suc, ◌+◌}
use native.Mathlib.Nat.{add-zero, add-suc, suc-add}
use native.Mathlib.Omega.{arith}
use lib.ListN.{replicate}
use Rattle.meaning.specs.Trees.{Tree, degrees}
use Rattle.meaning.specs.Strings.{Bit, O, I, unary, lbs, strings}
use Rattle.theory.proofs.Build.{Done, degrees-done, tree_of, degrees_tree_of, degrees_injective}

-- with c nodes pending, the bits end the last of them and nothing is left
abbrev pub Over : ℕ → List Bit → Type 0
Over zero [] = Unit
Over zero (b ∷ bs) = ⊥
Over (suc c) [] = ⊥
Over (suc c) (I ∷ bs) = Over (suc (suc c)) bs
Over (suc c) (O ∷ bs) = Over c bs

abbrev pub IsString : List Bit → Type 0
IsString [] = ⊥
IsString (O ∷ bs) = ⊥
IsString (I ∷ []) = ⊥
IsString (I ∷ I ∷ bs) = ⊥
IsString (I ∷ O ∷ bs) = Over 1 bs

-- ---- degrees and bits

over-run : (c d : ℕ) (bs : List Bit) → Over (c + d) bs → Over (suc c) (replicate d I ++ O ∷ bs)
over-run c zero bs h = rw add-zero at h
over-run c (suc d) bs h = over-run (suc c) d bs (rw (add-suc, ← suc-add) at h)

pub over-unary : (c : ℕ) (ds : List ℕ) → Done c ds → Over c (unary ds)
over-unary zero [] h = tt
over-unary zero (d ∷ ds) h = absurd h
over-unary (suc c) [] h = absurd h
over-unary (suc c) (d ∷ ds) h = over-run c d (unary ds) (over-unary (c + d) ds h)

abbrev pub bump : List ℕ → List ℕ
bump [] = []
bump (d ∷ ds) = suc d ∷ ds

abbrev pub degrees_of : List Bit → List ℕ
degrees_of [] = []
degrees_of (O ∷ bs) = 0 ∷ degrees_of bs
degrees_of (I ∷ bs) = bump (degrees_of bs)

degrees_of-run : (d : ℕ) (bs : List Bit) → degrees_of (replicate d I ++ O ∷ bs) ≡ d ∷ degrees_of bs
degrees_of-run zero bs = refl
degrees_of-run (suc d) bs = ap bump (degrees_of-run d bs)

pub degrees_of-unary : (ds : List ℕ) → degrees_of (unary ds) ≡ ds
degrees_of-unary [] = refl
degrees_of-unary (d ∷ ds) = degrees_of-run d (unary ds) ∙ ap (λ r. d ∷ r) (degrees_of-unary ds)

abbrev Parsed : ℕ → List Bit → List ℕ → Type 0
Parsed c bs ds = Done c ds × (unary ds ≡ bs)

parsed_bump : (c : ℕ) (bs : List Bit) (ds : List ℕ) → Parsed (suc (suc c)) bs ds → Parsed (suc c) (I ∷ bs) (bump ds)
parsed_bump c bs [] h = absurd h.0
parsed_bump c bs (d ∷ ds) h =
    let e : suc c + d ≡ c + suc d = omega arith in
    (subst (λ n. Done n ds) e h.0, ap (λ r. I ∷ r) h.1)

pub parsed : (c : ℕ) (bs : List Bit) → Over c bs → Parsed c bs (degrees_of bs)
parsed zero [] h = (tt, refl)
parsed zero (b ∷ bs) h = absurd h
parsed (suc c) [] h = absurd h
parsed (suc c) (O ∷ bs) h =
    let p = parsed c bs h in
    (subst (λ n. Done n (degrees_of bs)) (sym (add-zero c)) p.0, ap (λ r. O ∷ r) p.1)
parsed (suc c) (I ∷ bs) h = parsed_bump c bs (degrees_of bs) (parsed (suc (suc c)) bs h)

-- ---- T4: which bits are a tree's string

pub string_of_tree : (t : Tree) → IsString (lbs t)
unfolding lbs
string_of_tree t = over-unary 1 (degrees t) (degrees-done t)

pub tree_of_string : (bs : List Bit) → IsString bs → (t : Tree) × (lbs t ≡ bs)
unfolding lbs
tree_of_string [] h = absurd h
tree_of_string (O ∷ bs) h = absurd h
tree_of_string (I ∷ []) h = absurd h
tree_of_string (I ∷ I ∷ bs) h = absurd h
tree_of_string (I ∷ O ∷ bs) h =
    let p = parsed 1 bs h in
    (tree_of (degrees_of bs), ap (λ r. I ∷ O ∷ unary r) (degrees_tree_of (degrees_of bs) p.0) ∙ ap (λ r. I ∷ O ∷ r) p.1)

-- ---- T1, T2

pub I≢O : {A : Type 0} → I ≡ O → A
I≢O e = absurd (let z : ◌≡◌ {A = ℕ} 0 1 = cc in omega arith)

-- where two strings end to end with something else are the same, so are they and the rest
cut : (c : ℕ) (xs ys us vs : List Bit) → Over c xs → Over c ys → xs ++ us ≡ ys ++ vs → (xs ≡ ys) × (us ≡ vs)
cut zero [] [] us vs h k e = (refl, e)
cut zero [] (y ∷ ys) us vs h k e = absurd k
cut zero (x ∷ xs) ys us vs h k e = absurd h
cut (suc c) [] ys us vs h k e = absurd h
cut (suc c) (O ∷ xs) [] us vs h k e = absurd k
cut (suc c) (I ∷ xs) [] us vs h k e = absurd k
cut (suc c) (O ∷ xs) (O ∷ ys) us vs h k e =
    let r = cut c xs ys us vs h k (tail-eq_of_cons-eq e) in (ap (λ l. O ∷ l) r.0, r.1)
cut (suc c) (I ∷ xs) (I ∷ ys) us vs h k e =
    let r = cut (suc (suc c)) xs ys us vs h k (tail-eq_of_cons-eq e) in (ap (λ l. I ∷ l) r.0, r.1)
cut (suc c) (O ∷ xs) (I ∷ ys) us vs h k e = I≢O (sym (head-eq_of_cons-eq e))
cut (suc c) (I ∷ xs) (O ∷ ys) us vs h k e = I≢O (head-eq_of_cons-eq e)

unary_injective : (ds es : List ℕ) → unary ds ≡ unary es → ds ≡ es
unary_injective ds es e = sym (degrees_of-unary ds) ∙ ap degrees_of e ∙ degrees_of-unary es

pub strings-cut : (t u : Tree) (xs ys : List Bit) → lbs t ++ xs ≡ lbs u ++ ys → (t ≡ u) × (xs ≡ ys)
unfolding lbs
strings-cut t u xs ys e =
    let r = cut 1 (unary (degrees t)) (unary (degrees u)) xs ys (string_of_tree t) (string_of_tree u) (tail-eq_of_cons-eq (tail-eq_of_cons-eq e)) in
    (degrees_injective t u (unary_injective (degrees t) (degrees u) r.0), r.1)

pub lbs_injective : (t u : Tree) → lbs t ≡ lbs u → t ≡ u
lbs_injective t u e = (strings-cut t u [] [] (append-nil (lbs t) ∙ e ∙ sym (append-nil (lbs u)))).0

-- T1: no tree's string begins another's
pub prefix_free : (t u : Tree) (xs : List Bit) → lbs t ++ xs ≡ lbs u → (t ≡ u) × (xs ≡ [])
prefix_free t u xs e = strings-cut t u xs [] (e ∙ sym (append-nil (lbs u)))

-- T2: equal strings end to end come from equal lists of trees
pub strings_injective : (ts us : List Tree) → strings ts ≡ strings us → ts ≡ us
unfolding lbs
strings_injective [] [] e = refl
strings_injective [] (u ∷ us) e = absurd (nil≢cons e)
strings_injective (t ∷ ts) [] e = absurd (cons≢nil e)
strings_injective (t ∷ ts) (u ∷ us) e =
    let r = strings-cut t u (strings ts) (strings us) e in ap₂ ◌∷◌ r.0 (strings_injective ts us r.1)
