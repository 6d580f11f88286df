-- T7: what the strings give. First of any bits, by induction from the left; then of a tree's
-- string.
use mathlib.Core.Path.{◌≡◌, refl, sym, ap, ap₂, ◌∙◌, subst, subst₂}
use mathlib.Core.List.{List, [], ◌∷◌, ◌++◌}
use mathlib.Core.Logic.{◌↔◌}
use Prim.Native.Nat.{ℕ, zero, suc, ◌+◌, ◌-◌, ◌≤◌, ◌<◌}
use native.Mathlib.Nat.{add-suc, suc-add, zero-add}
use native.Mathlib.Omega.{arith}
use lib.ListN.{length, get_or, take, replicate}
use borrow.Author.Tests.{eq-eqb, ne_eqb}
use Rattle.meaning.specs.Trees.{Tree, degrees}
use Rattle.meaning.specs.Strings.{Bit, O, I, unary, lbs, ones, zeros, R1, R0, zeros_before}
use Rattle.meaning.specs.Parents.{parents, each, entry}
use Rattle.theory.proofs.Runs.{ends, ends1, ends0, R1-bits, R0-bits}
use Rattle.theory.proofs.Bits.{I≢O}
use Rattle.theory.specs.Rank.{ones_left, position, ones_before, counting}
use Rattle.meaning.specs.Questions.{keep, numbers_of, children_of, place_of}

-- ---- the parents, read off the bits: for each one, how many zeros are before it

before-run : (d : ℕ) (bs : List Bit) (x : ℕ) → zeros_before (replicate d I ++ O ∷ bs) x ≡ replicate d x ++ zeros_before bs (suc x)
before-run zero bs x = refl
before-run (suc d) bs x = ap (λ r. x ∷ r) (before-run d bs x)

before-unary : (ds : List ℕ) (x : ℕ) → zeros_before (unary ds) x ≡ each x ds
before-unary [] x = refl
before-unary (d ∷ ds) x = before-run d (unary ds) x ∙ ap (λ r. replicate d x ++ r) (before-unary ds (suc x))

pub parents-bits : (t : Tree) → parents t ≡ zeros_before (lbs t) 0
unfolding parents lbs
parents-bits t = ap (λ r. 0 ∷ r) (sym (before-unary (degrees t) 1))

before-suc : (bs : List Bit) (z i : ℕ) → i < ones bs → get_or (zeros_before bs (suc z)) i 0 ≡ suc (get_or (zeros_before bs z) i 0)
before-suc [] z i h = absurd (omega arith)
before-suc (I ∷ bs) z zero h = refl
before-suc (I ∷ bs) z (suc i) h = before-suc bs z i (omega arith)
before-suc (O ∷ bs) z i h = before-suc bs (suc z) i h

-- ---- zeros before a one: the runs of zeros before it are as many as the runs of ones, or one more
-- where the bits begin with a zero

-- one more where the bits begin with a zero
abbrev led : List Bit → ℕ → ℕ
led [] k = k
led (O ∷ bs) k = suc k
led (I ∷ bs) k = k

pub position-zero : (bs : List Bit) → position bs 0 ≡ 0
position-zero [] = refl
position-zero (b ∷ bs) = refl

-- each one that the bits have, by how many come before it
pub one-there : (r : List Bit) (k : ℕ) → k < ones r → (p : ℕ) × (p < length r) × (get_or r p O ≡ I) × (ones (take p r) ≡ k)
one-there [] k h = absurd (omega arith)
one-there (O ∷ r) k h = let o = one-there r k h in (suc o.0, omega (arith, o.1), o.2, o.3)
one-there (I ∷ r) zero h = (0, omega arith, refl, refl)
one-there (I ∷ r) (suc k) h = let o = one-there r k (omega arith) in (suc o.0, omega (arith, o.1), o.2, ap suc o.3)

-- a one that k ones come before is one number k + 1
pub place_of_one : (r : List Bit) (i : ℕ) → i < length r → get_or r i O ≡ I → position r (suc (ones (take i r))) ≡ suc i
place_of_one [] i h e = absurd (omega arith)
place_of_one (O ∷ r) zero h e = I≢O (sym e)
place_of_one (I ∷ r) zero h e = ap suc (position-zero r)
place_of_one (O ∷ r) (suc i) h e = ap suc (place_of_one r i (omega arith) e)
place_of_one (I ∷ r) (suc i) h e = ap suc (place_of_one r i (omega arith) e)

pub zeros-before : (bs : List Bit) (i : ℕ) → i < ones bs → get_or (zeros_before bs 0) i 0 ≡ position (ends0 bs) (led bs (ones (take i (ends1 bs))))
zeros-before [] i h = absurd (omega arith)
zeros-before (I ∷ bs) zero h = sym (position-zero (ends0 bs))
zeros-before (I ∷ []) (suc i) h = absurd (omega arith)
zeros-before (I ∷ I ∷ bs) (suc i) h = zeros-before (I ∷ bs) i (omega arith)
zeros-before (I ∷ O ∷ bs) (suc i) h = zeros-before (O ∷ bs) i (omega arith)
zeros-before (O ∷ []) i h = absurd (omega arith)
zeros-before (O ∷ I ∷ bs) i h = before-suc (I ∷ bs) 0 i h ∙ ap suc (zeros-before (I ∷ bs) i h)
zeros-before (O ∷ O ∷ bs) i h = before-suc (O ∷ bs) 0 i h ∙ ap suc (zeros-before (O ∷ bs) i h)

-- T7, parent: the position in ends0 of that one whose number is the count of ones left of i in
-- ends1
pub parent_is : (t : Tree) (i : ℕ) → 1 ≤ i → i ≤ ones (lbs t) → entry (parents t) i ≡ position (R0 (lbs t)) (ones_left (R1 (lbs t)) i)
unfolding lbs ones_left
parent_is t zero h l = absurd (omega arith)
parent_is t (suc i) h l =
    let s = lbs t in
    ap (λ r. get_or r i 0) (parents-bits t) ∙ zeros-before s i l
    ∙ ap₂ (λ r k. position r k) (sym (R0-bits s)) (ap₂ (λ n r. ones (take n r)) (let e : i ≡ suc i - 1 = omega arith in e) (sym (R1-bits s)))

-- ---- ones before a zero: the same, with the bits turned round

abbrev flip : List Bit → List Bit
flip [] = []
flip (O ∷ bs) = I ∷ flip bs
flip (I ∷ bs) = O ∷ flip bs

ends-flip : (bs : List Bit) → (ends I (flip bs) ≡ ends O bs) × (ends O (flip bs) ≡ ends I bs)
ends-flip [] = (refl, refl)
ends-flip (O ∷ bs) = (refl, refl)
ends-flip (I ∷ bs) = (refl, refl)

R1-flip : (bs : List Bit) → ends1 (flip bs) ≡ ends0 bs
R1-flip [] = refl
R1-flip (O ∷ bs) = ap₂ ◌∷◌ (ends-flip bs).0 (R1-flip bs)
R1-flip (I ∷ bs) = R1-flip bs

R0-flip : (bs : List Bit) → ends0 (flip bs) ≡ ends1 bs
R0-flip [] = refl
R0-flip (I ∷ bs) = ap₂ ◌∷◌ (ends-flip bs).1 (R0-flip bs)
R0-flip (O ∷ bs) = R0-flip bs

ones-flip : (bs : List Bit) → ones (flip bs) ≡ zeros bs
ones-flip [] = refl
ones-flip (O ∷ bs) = ap suc (ones-flip bs)
ones-flip (I ∷ bs) = ones-flip bs

ones_before-flip : (bs : List Bit) (c w : ℕ) → w < zeros bs → get_or (zeros_before (flip bs) c) w 0 ≡ c + ones_before bs (suc w)
ones_before-flip [] c w h = absurd (omega arith)
ones_before-flip (I ∷ bs) c w h = omega (arith, ones_before-flip bs (suc c) w h)
ones_before-flip (O ∷ []) c zero h = omega arith
ones_before-flip (O ∷ x ∷ bs) c zero h = omega arith
ones_before-flip (O ∷ bs) c (suc w) h = ones_before-flip bs c w (omega arith)

ones-before : (bs : List Bit) (w : ℕ) → w < zeros bs → ones_before (I ∷ bs) (suc w) ≡ position (ends1 (I ∷ bs)) (suc (ones (take w (ends0 bs))))
ones-before bs w h =
    sym (ones_before-flip (I ∷ bs) 0 w h ∙ zero-add _)
    ∙ zeros-before (flip (I ∷ bs)) w (subst (λ n. w < n) (sym (ones-flip bs)) h)
    ∙ ap₂ position (R0-flip (I ∷ bs)) (ap (λ r. suc (ones (take w r))) (R1-flip bs))

-- T7, ones before zero z: the position in ends1 of that one whose number is 1 plus the ones left of
-- z in ends0
pub ones_before_is : (t : Tree) (z : ℕ) → 1 ≤ z → z ≤ zeros (lbs t) → ones_before (lbs t) z ≡ position (R1 (lbs t)) (1 + ones_left (R0 (lbs t)) z)
unfolding lbs ones_left
ones_before_is t z h l =
    let s = lbs t in
    ap (ones_before s) (let e : z ≡ suc (z - 1) = omega arith in e)
    ∙ ones-before (O ∷ unary (degrees t)) (z - 1) (omega arith)
    ∙ ap₂ (λ r k. position r k) (sym (R1-bits s)) (ap (λ r. suc (ones (take (z - 1) r))) (sym (R0-bits s)) ∙ add_comm_one (ones (take (z - 1) (R0 s))))
  where
    add_comm_one : (k : ℕ) → suc k ≡ 1 + k
    add_comm_one k = omega arith

-- ---- the children of x: after the ones before zero x, up to those before zero x + 1

pub ones_before-zero : (bs : List Bit) → ones_before bs 0 ≡ 0
ones_before-zero [] = refl
ones_before-zero (b ∷ bs) = refl

places_none : (bs : List Bit) (x z i : ℕ) → x < z → numbers_of (zeros_before bs z) x i ≡ []
places_none [] x z i h = refl
places_none (O ∷ bs) x z i h = places_none bs x (suc z) i (omega arith)
places_none (I ∷ bs) x z i h = ap (λ b. keep b i (numbers_of (zeros_before bs z) x (suc i))) (ne_eqb z x (omega arith)) ∙ places_none bs x z (suc i) h

-- `ap₂ counting`, with its ends written: `counting` computes, so antt cannot read them off
pub counted : (i j m n : ℕ) → i ≡ j → m ≡ n → counting i m ≡ counting j n
counted i j m n e f = ap₂ counting e f

places_are : (bs : List Bit) (z w i : ℕ) → numbers_of (zeros_before bs z) (z + w) i ≡ counting (i + ones_before bs w) (ones_before bs (suc w) - ones_before bs w)
places_are [] z w i = refl
places_are (I ∷ bs) z zero i =
    let m : ℕ = ones_before bs 1 in
    let l = ones_before bs 0 in
    ap (λ b. keep b i (numbers_of (zeros_before bs z) (z + 0) (suc i))) (eq-eqb z (z + 0) (omega arith))
    ∙ ap (λ r. i ∷ r) (places_are bs z 0 (suc i) ∙ counted (suc i + l) (suc i) (m - l) m (omega (arith, ones_before-zero bs)) (omega (arith, ones_before-zero bs)))
    ∙ counted i (i + 0) (suc m) (suc m - 0) (omega arith) (omega arith)
places_are (I ∷ bs) z (suc w) i =
    let l = ones_before bs (suc w) in
    let m = ones_before bs (suc (suc w)) in
    ap (λ b. keep b i (numbers_of (zeros_before bs z) (z + suc w) (suc i))) (ne_eqb z (z + suc w) (omega arith))
    ∙ places_are bs z (suc w) (suc i) ∙ counted (suc i + l) (i + suc l) (m - l) (suc m - suc l) (omega arith) (omega arith)
places_are (O ∷ bs) z zero i =
    places_none bs (z + 0) (suc z) i (omega arith) ∙ counted i (i + 0) 0 (ones_before bs 0 - 0) (omega arith) (omega (arith, ones_before-zero bs))
places_are (O ∷ bs) z (suc w) i =
    ap (λ x. numbers_of (zeros_before bs (suc z)) x i) (add-suc z w ∙ sym (suc-add z w)) ∙ places_are bs (suc z) w i

-- T7, children
pub children_are : (t : Tree) (x : ℕ) → children_of (parents t) x ≡ counting (1 + ones_before (lbs t) x) (ones_before (lbs t) (suc x) - ones_before (lbs t) x)
unfolding children_of
children_are t x =
    ap (λ r. numbers_of r x 1) (parents-bits t) ∙ ap (λ y. numbers_of (zeros_before (lbs t) 0) y 1) (sym (zero-add x)) ∙ places_are (lbs t) 0 x 1

-- ---- leaves and next siblings

pub ones_before_mono : (bs : List Bit) (z : ℕ) → ones_before bs z ≤ ones_before bs (suc z)
ones_before_mono [] z = omega arith
ones_before_mono (I ∷ bs) zero = omega arith
ones_before_mono (I ∷ bs) (suc z) = omega (arith, ones_before_mono bs (suc z))
ones_before_mono (O ∷ bs) zero = omega arith
ones_before_mono (O ∷ bs) (suc z) = ones_before_mono bs z

pub ones_before_upto : (bs : List Bit) (y z : ℕ) → y ≤ z → ones_before bs y ≤ ones_before bs z
ones_before_upto bs y z h = subst (λ k. ones_before bs y ≤ ones_before bs k) (let e : y + (z - y) ≡ z = omega arith in e) (go (z - y))
  where
    go : (m : ℕ) → ones_before bs y ≤ ones_before bs (y + m)
    go zero = omega (arith, ap (ones_before bs) (let e : y ≡ y + 0 = omega arith in e))
    go (suc m) = omega (arith, go m, ones_before_mono bs (y + m), ap (ones_before bs) (let e : suc (y + m) ≡ y + suc m = omega arith in e))

pub ones_before-all : (bs : List Bit) (z : ℕ) → ones_before bs z ≤ ones bs
ones_before-all [] z = omega arith
ones_before-all (b ∷ bs) zero = omega arith
ones_before-all (I ∷ bs) (suc z) = omega (arith, ones_before-all bs (suc z))
ones_before-all (O ∷ bs) (suc z) = ones_before-all bs z

-- zero w + 1, if it is not the last, is followed by a zero exactly if no one is between it and
-- the next
pub leaf_mark : (bs : List Bit) (w : ℕ) → suc w < zeros bs
    → (get_or (ends0 bs) w I ≡ O) ↔ (ones_before bs (suc (suc w)) ≡ ones_before bs (suc w))
leaf_mark [] w h = absurd (omega arith)
leaf_mark (I ∷ bs) w h = let r = leaf_mark bs w h in (λ e. ap suc (r.0 e), λ e. r.1 (omega arith))
leaf_mark (O ∷ []) zero h = absurd (omega arith)
leaf_mark (O ∷ O ∷ bs) zero h = (λ e. ones_before-zero bs, λ e. refl)
leaf_mark (O ∷ I ∷ bs) zero h = (λ e. absurd (let z : ◌≡◌ {A = ℕ} 0 1 = cc in omega arith), λ e. absurd (omega arith))
leaf_mark (O ∷ bs) (suc w) h = leaf_mark bs w (omega arith)

-- ---- a node among its siblings

-- one i + 1 is after zero k and before zero k + 1, where z + k is its parent; and how many up
-- to it have that parent
record Between (bs : List Bit) (z i k : ℕ) : Type 0 where
  parent : get_or (zeros_before bs z) i 0 ≡ z + k
  low : ones_before bs k ≤ i
  high : i < ones_before bs (suc k)
  count : (j : ℕ) → length (numbers_of (take (suc i) (zeros_before bs z)) (z + k) j) ≡ suc i - ones_before bs k
  -- the next one is there too exactly if ends1 has 0 here
  next : (get_or (ends1 bs) i I ≡ O) ↔ (suc i < ones_before bs (suc k))

next-first : (bs : List Bit) → (ends I bs ≡ O) ↔ (1 < suc (ones_before bs 1))
next-first [] = (λ e. I≢O e, λ h. absurd (omega arith))
next-first (I ∷ bs) = (λ e. omega arith, λ h. refl)
next-first (O ∷ bs) = (λ e. I≢O e, λ h. absurd (omega (arith, ones_before-zero bs)))

between_first : (bs : List Bit) (z : ℕ) → Between (I ∷ bs) z 0 0
between_first bs z = record {
  parent = omega arith;
  low = omega arith;
  high = omega arith;
  count = λ j. ap (λ b. length (keep b j [])) (eq-eqb z (z + 0) (omega arith)) ∙ omega arith;
  next = next-first bs;
}

between_I : (bs : List Bit) (z i k : ℕ) → Between bs z i k → Between (I ∷ bs) z (suc i) k
between_I bs z i zero r = record {
  parent = r.parent;
  low = omega arith;
  high = omega (arith, r.high);
  count = λ j. ap (λ b. length (keep b j (numbers_of (take (suc i) (zeros_before bs z)) (z + 0) (suc j)))) (eq-eqb z (z + 0) (omega arith))
      ∙ omega (arith, r.count (suc j), ones_before-zero bs);
  next = (λ e. omega (arith, r.next.0 e), λ h. r.next.1 (omega arith));
}
between_I bs z i (suc k) r = record {
  parent = r.parent;
  low = omega (arith, r.low);
  high = omega (arith, r.high);
  count = λ j. ap (λ b. length (keep b j (numbers_of (take (suc i) (zeros_before bs z)) (z + suc k) (suc j)))) (ne_eqb z (z + suc k) (omega arith))
      ∙ omega (arith, r.count (suc j));
  next = (λ e. omega (arith, r.next.0 e), λ h. r.next.1 (omega arith));
}

between_O : (bs : List Bit) (z i k : ℕ) → Between bs (suc z) i k → Between (O ∷ bs) z i (suc k)
between_O bs z i k r = record {
  parent = omega (arith, r.parent);
  low = r.low;
  high = r.high;
  count = λ j. ap (λ x. length (numbers_of (take (suc i) (zeros_before bs (suc z))) x j)) (let e : z + suc k ≡ suc z + k = omega arith in e) ∙ r.count j;
  next = r.next;
}

between : (bs : List Bit) (z i : ℕ) → i < ones bs → (k : ℕ) × Between bs z i k
between [] z i h = absurd (omega arith)
between (I ∷ bs) z zero h = (0, between_first bs z)
between (I ∷ bs) z (suc i) h = let r = between bs z i (omega arith) in (r.0, between_I bs z i r.0 r.1)
between (O ∷ bs) z i h = let r = between bs (suc z) i h in (suc r.0, between_O bs z i r.0 r.1)

-- node x comes after the ones before its parent's zero, up to those before the next; and its place
pub record Placed (t : Tree) (x p : ℕ) : Type 0 where
  pub above : ones_before (lbs t) p < x
  pub upto : x ≤ ones_before (lbs t) (suc p)
  pub place : place_of (parents t) x ≡ x - ones_before (lbs t) p
  pub next : (get_or (R1 (lbs t)) (x - 1) I ≡ O) ↔ (x < ones_before (lbs t) (suc p))

pub is_placed : (t : Tree) (i : ℕ) → suc i ≤ ones (lbs t) → Placed t (suc i) (entry (parents t) (suc i))
unfolding place_of children_of
is_placed t i l =
    let s = lbs t in
    let r = between s 0 i l in
    let k = r.0 in
    let e : entry (parents t) (suc i) ≡ k =
    ap (λ q. get_or q i 0) (parents-bits t) ∙ r.1.parent ∙ zero-add k in
    subst (λ p. Placed t (suc i) p) (sym e) (record {
      above = omega (arith, r.1.low);
      upto = omega (arith, r.1.high);
      place = ap₂ (λ q p. length (numbers_of (take (suc i) q) p 1)) (parents-bits t) (e ∙ sym (zero-add k)) ∙ r.1.count 1;
      next = subst₂ (λ b m. (get_or b m I ≡ O) ↔ (suc i < ones_before s (suc k))) (sym (R1-bits s)) (let f : i ≡ suc i - 1 = omega arith in f) r.1.next;
    })
