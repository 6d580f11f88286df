-- T8: the way back from each form: the string of a parent list, and the string of ends1 and ends0.
use mathlib.Core.Path.{◌≡◌, refl, sym, ap, ap₂, ◌∙◌, subst}
use mathlib.Core.List.{List, [], ◌∷◌, ◌++◌}
use Prim.Native.Nat.{ℕ, zero, suc, ◌+◌, ◌-◌, ◌*◌, ◌≤◌, ◌<◌}
use native.Mathlib.Nat.{le_refl}
use native.Mathlib.Omega.{arith}
use lib.ListN.{length, replicate}
use Rattle.meaning.specs.Trees.{Tree, nodes, degrees}
use Rattle.meaning.specs.Strings.{Bit, O, I, unary, lbs, ones, zeros, R1, R0, zeros_before, parents_of, string_from, string_of, weave, woven}
use Rattle.meaning.specs.Parents.{parents, IsParents}
use Rattle.theory.specs.Layout.{Runs}
use Rattle.theory.specs.Rank.{position, some, with_children}
use Rattle.theory.proofs.Runs.{ends, ends1, ends0, R1-bits, R0-bits, R1-length, R0-length}
use Rattle.theory.proofs.Scan.{nodes-ones}
use Rattle.theory.proofs.Bits.{lbs_injective, Over, string_of_tree}
use Rattle.theory.proofs.Navigate.{position-zero, parents-bits}
use Rattle.theory.proofs.Parents.{are_parents, parents_are}
use Rattle.theory.proofs.Odd.{both, tree-counts}

-- ---- from the parents

abbrev Above : ℕ → List ℕ → Type 0
Above z [] = Unit
Above z (p ∷ ps) = z < p

above : (bs : List Bit) (y z : ℕ) → z < y → Above z (zeros_before bs y)
above [] y z h = tt
above (I ∷ bs) y z h = h
above (O ∷ bs) y z h = above bs (suc y) z (omega arith)

one-zero : (ps : List ℕ) (z n : ℕ) → z < n → Above z ps → string_from ps z n ≡ O ∷ string_from ps (suc z) n
one-zero [] z n h a = ap (λ k. replicate k O) (let e : n - z ≡ suc (n - suc z) = omega arith in e)
one-zero (p ∷ ps) z n h a = ap (λ k. replicate k O ++ I ∷ string_from ps p n) (let e : p - z ≡ suc (p - suc z) = omega arith in e)

back : (bs : List Bit) (z n : ℕ) → z + zeros bs ≡ n → string_from (zeros_before bs z) z n ≡ bs
back [] z n h = ap (λ k. replicate k O) (let e : n - z ≡ 0 = omega arith in e)
back (O ∷ bs) z n h = one-zero (zeros_before bs (suc z)) z n (omega arith) (above bs (suc z) z (omega arith)) ∙ ap (λ r. O ∷ r) (back bs (suc z) n (omega arith))
back (I ∷ bs) z n h =
    ap (λ k. replicate k O ++ I ∷ string_from (zeros_before bs z) z n) (let e : z - z ≡ 0 = omega arith in e) ∙ ap (λ r. I ∷ r) (back bs z n h)

pub length_before : (bs : List Bit) (z : ℕ) → length (zeros_before bs z) ≡ ones bs
length_before [] z = refl
length_before (I ∷ bs) z = ap suc (length_before bs z)
length_before (O ∷ bs) z = length_before bs (suc z)

pub string-parents : (t : Tree) → string_of (parents t) ≡ lbs t
unfolding string_of
string-parents t =
    ap (λ ps. string_from ps 0 (length ps + 1)) (parents-bits t)
    ∙ back (lbs t) 0 _ (omega (arith, length_before (lbs t) 0, tree-counts t))

-- ---- from ends1 and ends0

-- the bit that comes first, or the one that would come after a run that has ended
abbrev first : Bit → List Bit → Bit
first b [] = b
first b (x ∷ bs) = x

weave-nil : (f : ℕ) (b : Bit) → weave f b [] [] ≡ []
weave-nil zero b = refl
weave-nil (suc f) O = refl
weave-nil (suc f) I = refl

unwoven : (bs : List Bit) (b : Bit) (f : ℕ) → length bs ≤ f → weave f (first b bs) (ends1 bs) (ends0 bs) ≡ bs
unwoven [] b f h = weave-nil f b
unwoven (x ∷ bs) b zero h = absurd (omega arith)
unwoven (I ∷ []) b (suc f) h = ap (λ r. I ∷ r) (weave-nil f O)
unwoven (I ∷ I ∷ bs) b (suc f) h = ap (λ r. I ∷ r) (unwoven (I ∷ bs) I f (omega arith))
unwoven (I ∷ O ∷ bs) b (suc f) h = ap (λ r. I ∷ r) (unwoven (O ∷ bs) I f (omega arith))
unwoven (O ∷ []) b (suc f) h = ap (λ r. O ∷ r) (weave-nil f I)
unwoven (O ∷ I ∷ bs) b (suc f) h = ap (λ r. O ∷ r) (unwoven (I ∷ bs) I f (omega arith))
unwoven (O ∷ O ∷ bs) b (suc f) h = ap (λ r. O ∷ r) (unwoven (O ∷ bs) I f (omega arith))

-- the string of a tree from its parts
pub string_parts : (t : Tree) → woven (R1 (lbs t)) (R0 (lbs t)) ≡ lbs t
unfolding lbs woven
string_parts t =
    let s = lbs t in
    ap₂ (λ a b. weave (length (R1 s) + length (R0 s)) I a b) (R1-bits s) (R0-bits s)
    ∙ unwoven s I (length (R1 s) + length (R0 s)) (omega (arith, R1-length s, R0-length s, both s))

-- one tree only has the two parts
pub parts_injective : (t u : Tree) → R1 (lbs t) ≡ R1 (lbs u) → R0 (lbs t) ≡ R0 (lbs u) → t ≡ u
parts_injective t u e f = lbs_injective t u (sym (string_parts t) ∙ ap₂ woven e f ∙ string_parts u)

-- ---- T9: which bits, and which two parts, are a tree's: what the check of an image has to see

-- bits with one zero more than ones, whose parents keep the rule
pub string_by_parents : (bs : List Bit) → zeros bs ≡ suc (ones bs) → IsParents (zeros_before bs 0) → (t : Tree) × (lbs t ≡ bs)
unfolding string_of
string_by_parents bs h p =
    let r = are_parents (zeros_before bs 0) p in
    (r.0, sym (string-parents r.0) ∙ ap string_of r.1 ∙ back bs 0 (length (zeros_before bs 0) + 1) (omega (arith, length_before bs 0)))

weave_O : (f : ℕ) (a b : List Bit) → ends I (weave f O a b) ≡ I
weave_O zero a b = refl
weave_O (suc f) a [] = refl
weave_O (suc f) a (O ∷ b) = refl
weave_O (suc f) a (I ∷ b) = refl

weave_I : (f : ℕ) (a b : List Bit) → ends O (weave f I a b) ≡ I
weave_I zero a b = refl
weave_I (suc f) [] b = refl
weave_I (suc f) (O ∷ a) b = refl
weave_I (suc f) (I ∷ a) b = refl

weave_II : (f k : ℕ) (a b : List Bit) → Runs (suc k) a → length a ≤ f → ends I (weave f I a b) ≡ O
weave_II f k [] b h l = absurd h
weave_II zero k (x ∷ a) b h l = absurd (omega arith)
weave_II (suc f) k (O ∷ a) b h l = refl
weave_II (suc f) k (I ∷ a) b h l = refl

weave_OO : (f k : ℕ) (a b : List Bit) → Runs (suc k) b → length b ≤ f → ends O (weave f O a b) ≡ O
weave_OO f k a [] h l = absurd h
weave_OO zero k a (x ∷ b) h l = absurd (omega arith)
weave_OO (suc f) k a (O ∷ b) h l = refl
weave_OO (suc f) k a (I ∷ b) h l = refl

abbrev Parts : List Bit → List Bit → List Bit → Type 0
Parts s a b = (ends1 s ≡ a) × (ends0 s ≡ b)

mutual
  parts_I : (f k : ℕ) (a b : List Bit) → Runs k a → Runs k b → length a + length b ≤ f → Parts (weave f I a b) a b
  parts_I zero k [] [] h g l = (refl, refl)
  parts_I zero k [] (y ∷ b) h g l = absurd (omega arith)
  parts_I zero k (x ∷ a) b h g l = absurd (omega arith)
  parts_I (suc f) zero [] [] h g l = (refl, refl)
  parts_I (suc f) zero [] (y ∷ b) h g l = absurd g
  parts_I (suc f) zero (x ∷ a) b h g l = absurd h
  parts_I (suc f) (suc k) [] b h g l = absurd h
  parts_I (suc f) (suc k) (O ∷ a) b h g l =
      let r = parts_I f (suc k) a b h g (omega arith) in (ap₂ ◌∷◌ (weave_II f k a b h (omega arith)) r.0, r.1)
  parts_I (suc f) (suc k) (I ∷ a) b h g l =
      let r = parts_O f k a b h g (omega arith) in (ap₂ ◌∷◌ (weave_O f a b) r.0, r.1)

  parts_O : (f k : ℕ) (a b : List Bit) → Runs k a → Runs (suc k) b → length a + length b ≤ f → Parts (weave f O a b) a b
  parts_O zero k a [] h g l = absurd g
  parts_O zero k a (y ∷ b) h g l = absurd (omega arith)
  parts_O (suc f) k a [] h g l = absurd g
  parts_O (suc f) k a (O ∷ b) h g l =
      let r = parts_O f k a b h g (omega arith) in (r.0, ap₂ ◌∷◌ (weave_OO f k a b g (omega arith)) r.1)
  parts_O (suc f) k a (I ∷ b) h g l =
      let r = parts_I f k a b h g (omega arith) in (r.0, ap₂ ◌∷◌ (weave_I f a b) r.1)

-- two strings with m runs each, the second one bit longer, whose parents keep the rule, are the
-- parts of a tree
pub tree_of_parts : (m : ℕ) (a b : List Bit) → Runs m a → Runs m b → length b ≡ suc (length a)
    → IsParents (parents_of (woven a b)) → (t : Tree) × (R1 (lbs t) ≡ a) × (R0 (lbs t) ≡ b)
unfolding woven parents_of
tree_of_parts m a b h g e p =
    let s = weave (length a + length b) I a b in
    let q = parts_I (length a + length b) m a b h g (le_refl _) in
    let q1 : R1 s ≡ a = R1-bits s ∙ q.0 in
    let q0 : R0 s ≡ b = R0-bits s ∙ q.1 in
    let r = string_by_parents s (omega (arith, R1-length s, R0-length s, ap length q1, ap length q0)) p in
    (r.0, ap R1 r.1 ∙ q1, ap R0 r.1 ∙ q0)

-- ---- and every tree's parts pass: what a refusal rests on

abbrev EndsO : List Bit → Type 0
EndsO [] = ⊥
EndsO (O ∷ []) = Unit
EndsO (I ∷ []) = ⊥
EndsO (O ∷ y ∷ bs) = EndsO (y ∷ bs)
EndsO (I ∷ y ∷ bs) = EndsO (y ∷ bs)

over-ends : (c : ℕ) (bs : List Bit) → Over (suc c) bs → EndsO bs
over-ends c [] h = h
over-ends zero (O ∷ []) h = tt
over-ends (suc c) (O ∷ []) h = absurd h
over-ends c (I ∷ []) h = h
over-ends zero (O ∷ y ∷ bs) h = absurd h
over-ends (suc c) (O ∷ y ∷ bs) h = over-ends c (y ∷ bs) h
over-ends c (I ∷ y ∷ bs) h = over-ends (suc c) (y ∷ bs) h

-- how many runs of zeros go with m runs of ones: one more where the bits begin with a zero
abbrev zero_runs : Bit → ℕ → ℕ
zero_runs O m = suc m
zero_runs I m = m

pub same-run : (m : ℕ) (x : Bit) (r : List Bit) → Runs m (x ∷ r) → Runs m (O ∷ x ∷ r)
same-run zero x r h = absurd h
same-run (suc m) x r h = h

count_runs : (x : Bit) (bs : List Bit) → EndsO (x ∷ bs) → (m : ℕ) × Runs m (ends1 (x ∷ bs)) × Runs (zero_runs x m) (ends0 (x ∷ bs))
count_runs O [] h = (0, tt, tt)
count_runs I [] h = absurd h
count_runs I (I ∷ bs) h = let r = count_runs I bs h in (r.0, same-run r.0 (ends I bs) (ends1 bs) r.1, r.2)
count_runs I (O ∷ bs) h = let r = count_runs O bs h in (suc r.0, r.1, r.2)
count_runs O (I ∷ bs) h = let r = count_runs I bs h in (r.0, r.1, r.2)
count_runs O (O ∷ bs) h = let r = count_runs O bs h in (r.0, r.1, r.2)

pub tree-runs : (t : Tree) → (m : ℕ) × Runs m (R1 (lbs t)) × Runs m (R0 (lbs t))
unfolding lbs
tree-runs t =
    let s = lbs t in
    let r = count_runs I (O ∷ unary (degrees t)) (over-ends 1 (O ∷ unary (degrees t)) (string_of_tree t)) in
    (r.0, subst (Runs r.0) (sym (R1-bits s)) r.1, subst (Runs r.0) (sym (R0-bits s)) r.2)

pub tree_rule : (t : Tree) → IsParents (parents_of (woven (R1 (lbs t)) (R0 (lbs t))))
unfolding parents_of
tree_rule t = subst (λ s. IsParents (zeros_before s 0)) (sym (string_parts t)) (subst IsParents (parents-bits t) (parents_are t))

-- ---- how many runs there are: one more than the nodes with children

pub runs-ones : (m : ℕ) (bs : List Bit) → Runs m bs → ones bs ≡ m
runs-ones zero [] h = refl
runs-ones zero (x ∷ bs) h = absurd h
runs-ones (suc m) [] h = absurd h
runs-ones (suc m) (O ∷ bs) h = runs-ones (suc m) bs h
runs-ones (suc m) (I ∷ bs) h = ap suc (runs-ones m bs h)

run_ends : (d : ℕ) (bs : List Bit) → ones (ends1 (I ∷ replicate d I ++ O ∷ bs)) ≡ suc (ones (ends1 bs))
run_ends zero bs = refl
run_ends (suc d) bs = run_ends d bs

unary-ends : (ds : List ℕ) → ones (ends1 (unary ds)) ≡ some ds
unary-ends [] = refl
unary-ends (zero ∷ ds) = unary-ends ds
unary-ends (suc d ∷ ds) = run_ends d (unary ds) ∙ ap suc (unary-ends ds)

pub marks-count : (t : Tree) → ones (R1 (lbs t)) ≡ suc (with_children t)
unfolding lbs with_children
marks-count t = ap ones (R1-bits (lbs t)) ∙ ap suc (unary-ends (degrees t))

pub marks-same : (t : Tree) → ones (R0 (lbs t)) ≡ ones (R1 (lbs t))
marks-same t = let r = tree-runs t in runs-ones r.0 (R0 (lbs t)) r.2 ∙ sym (runs-ones r.0 (R1 (lbs t)) r.1)

-- ---- how long each form is

pub length-parents : (t : Tree) → length (parents t) ≡ nodes t
length-parents t = ap length (parents-bits t) ∙ length_before (lbs t) 0 ∙ sym (nodes-ones t)

pub length-R1 : (t : Tree) → length (R1 (lbs t)) ≡ nodes t
length-R1 t = R1-length (lbs t) ∙ sym (nodes-ones t)

pub length-R0 : (t : Tree) → length (R0 (lbs t)) ≡ suc (nodes t)
length-R0 t = R0-length (lbs t) ∙ tree-counts t ∙ ap suc (sym (nodes-ones t))

-- the string of a parent list has two bits an entry and one more
pub string-size : (ps : List ℕ) → IsParents ps → length (string_of ps) ≡ 2 * length ps + 1
string-size ps h =
    let r = are_parents ps h in
    let t = r.0 in
    let n = length-parents t in
    ap (λ qs. length (string_of qs)) (sym r.1) ∙ ap length (string-parents t) ∙ omega (arith, both (lbs t), tree-counts t, nodes-ones t, ap length r.1)

-- ---- select in two parts: a one of the first is found in it, a later one in the second

pub position-front : (a b : List Bit) (k : ℕ) → k < ones a → position (a ++ b) (suc k) ≡ position a (suc k)
position-front [] b k h = absurd (omega arith)
position-front (O ∷ a) b k h = ap suc (position-front a b k h)
position-front (I ∷ a) b zero h = ap suc (position-zero (a ++ b) ∙ sym (position-zero a))
position-front (I ∷ a) b (suc k) h = ap suc (position-front a b k (omega arith))

pub position_split : (a b : List Bit) (k : ℕ) → position (a ++ b) (suc (ones a + k)) ≡ length a + position b (suc k)
position_split [] b k = ap (λ n. position b (suc n)) (let e : 0 + k ≡ k = omega arith in e) ∙ omega arith
position_split (O ∷ a) b k = omega (arith, position_split a b k)
position_split (I ∷ a) b k =
    ap (λ n. suc (position (a ++ b) n)) (let e : suc (ones a) + k ≡ suc (ones a + k) = omega arith in e) ∙ omega (arith, position_split a b k)
