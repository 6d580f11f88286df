-- A string of m runs by its last bit, and which two strings are the parts of a tree by the ones
-- read so far: what a check of an image counts.
use mathlib.Core.Path.{◌≡◌, refl, sym, ap, ◌∙◌, subst}
use mathlib.Core.Logic.{◌↔◌}
use mathlib.Core.List.{List, [], ◌∷◌}
use Prim.Native.Nat.{ℕ, zero, suc, ◌+◌, ◌-◌, ◌≤◌, ◌<◌}
use native.Mathlib.Omega.{arith}
use lib.ListN.{length, get_or, take}
use Rattle.meaning.specs.Strings.{Bit, O, I, ones, zeros_before, parents_of, weave, woven}
use Rattle.meaning.specs.Parents.{IsParents}
use Rattle.theory.specs.Rank.{position}
use Rattle.theory.specs.Layout.{Runs}
use Rattle.theory.specs.Stages.{Ended, InStep}
use Rattle.theory.proofs.Bits.{I≢O}
use Rattle.theory.proofs.Parents.{Later, rule_later, later_rule}
use Rattle.theory.proofs.Navigate.{position-zero}
use Rattle.theory.proofs.Forms.{same-run, runs-ones}

-- ---- a string of runs is one that ends in a one

runs_last : (r : List Bit) (m : ℕ) (x : Bit) → Runs m (x ∷ r) → get_or (x ∷ r) (length r) O ≡ I
runs_last [] zero x h = absurd h
runs_last [] (suc m) O h = absurd h
runs_last [] (suc m) I h = refl
runs_last (y ∷ r) zero x h = absurd h
runs_last (y ∷ r) (suc m) O h = runs_last r (suc m) y h
runs_last (y ∷ r) (suc m) I h = runs_last r m y h

last_runs : (r : List Bit) (x : Bit) → get_or (x ∷ r) (length r) O ≡ I → Runs (ones (x ∷ r)) (x ∷ r)
last_runs [] O h = I≢O (sym h)
last_runs [] I h = tt
last_runs (y ∷ r) O h = same-run (ones (y ∷ r)) y r (last_runs r y h)
last_runs (y ∷ r) I h = last_runs r y h

pub runs_ended : (m : ℕ) (r : List Bit) → 1 ≤ length r → Runs m r ↔ Ended m r
runs_ended m [] l = absurd (omega arith)
runs_ended m (x ∷ r) l =
    (λ h. record { count = runs-ones m (x ∷ r) h; last = at ∙ runs_last r m x h }, λ e. subst (λ k. Runs k (x ∷ r)) e.count (last_runs r x (sym at ∙ e.last)))
  where
    at : get_or (x ∷ r) (length (x ∷ r) - 1) O ≡ get_or (x ∷ r) (length r) O
    at = ap (λ n. get_or (x ∷ r) n O) (let e : length (x ∷ r) - 1 ≡ length r = omega arith in e)

-- ---- one number k is among the first p bits exactly if these have k ones

within : (bs : List Bit) (k p : ℕ) → k ≤ ones bs → position bs k ≤ p → k ≤ ones (take p bs)
within [] k p l h = omega arith
within (b ∷ bs) zero p l h = omega arith
within (O ∷ bs) (suc k) zero l h = absurd (omega arith)
within (O ∷ bs) (suc k) (suc p) l h = within bs (suc k) p l (omega arith)
within (I ∷ bs) (suc k) zero l h = absurd (omega arith)
within (I ∷ bs) (suc k) (suc p) l h = omega (arith, within bs k p (omega arith) (omega arith))

found : (bs : List Bit) (k p : ℕ) → k ≤ ones (take p bs) → position bs k ≤ p
found [] k p h = omega arith
found (b ∷ bs) zero p h = omega arith
found (O ∷ bs) (suc k) zero h = absurd (omega arith)
found (O ∷ bs) (suc k) (suc p) h = omega (arith, found bs (suc k) p h)
found (I ∷ bs) (suc k) zero h = absurd (omega arith)
found (I ∷ bs) (suc k) (suc p) h = omega (arith, found bs k p (omega arith))

-- the last bit is a one, so one is missing before it
pub one_missing : (a : List Bit) (m p : ℕ) → Runs m a → p < length a → ones (take p a) < m
one_missing [] m p h l = absurd (omega arith)
one_missing (x ∷ a) zero p h l = absurd h
one_missing (O ∷ a) (suc m) zero h l = omega arith
one_missing (O ∷ a) (suc m) (suc p) h l = one_missing a (suc m) p h (omega arith)
one_missing (I ∷ a) (suc m) zero h l = omega arith
one_missing (I ∷ a) (suc m) (suc p) h l = omega (arith, one_missing a m p h (omega arith))

not_last : (a : List Bit) (m k : ℕ) → Runs m a → k < m → position a k < length a
not_last [] zero k h l = absurd (omega arith)
not_last [] (suc m) k h l = absurd h
not_last (x ∷ a) zero k h l = absurd h
not_last (x ∷ a) (suc m) zero h l = omega arith
not_last (O ∷ a) (suc m) (suc k) h l = omega (arith, not_last a (suc m) (suc k) h l)
not_last (I ∷ a) (suc m) (suc k) h l = omega (arith, not_last a m k h (omega arith))

-- by positions and by counts
counted : (m : ℕ) (a b : List Bit) → Runs m a → Runs m b
    → ((k : ℕ) → k < m → position b k ≤ position a k) ↔ ((p : ℕ) → p < length a → ones (take p a) ≤ ones (take p b))
counted m a b h g = (
  λ q p l. let n = one_missing a m p h l in
      let k = ones (take p a) in
      within b k p (omega (arith, runs-ones m b g)) (omega (arith, q k n, found a k p (omega arith))),
  λ q k l. let p = position a k in
      found b k p (omega (arith, q p (not_last a m k h l), within a k p (omega (arith, runs-ones m a h)) (omega arith))),
)

-- ---- the rule along the woven bits: after i ones and z zeros, m runs of ones are still to end

-- in a run of ones, which is run 0: before run k there are z zeros and b's up to its one number k
abbrev PacedI : ℕ → ℕ → ℕ → List Bit → List Bit → Type 0
PacedI m i z a b = (k : ℕ) → k < m → z + position b k ≤ i + position a k

-- in a run of zeros, which ends before run 0
abbrev PacedO : ℕ → ℕ → ℕ → List Bit → List Bit → Type 0
PacedO m i z a b = (k : ℕ) → k < m → z + position b (suc k) ≤ i + position a k

begun : (m i z : ℕ) (x : Bit) (a b : List Bit) → PacedI (suc m) i z (x ∷ a) b → z ≤ i
begun m i z x a b q = omega (arith, q 0 (omega arith), position-zero b)

goes_on : (m i z : ℕ) (a b : List Bit) → z ≤ i → PacedI m (suc i) z a b → PacedI m i z (O ∷ a) b
goes_on m i z a b h q zero l = omega (arith, position-zero b)
goes_on m i z a b h q (suc k) l = omega (arith, q (suc k) l)

went_on : (m i z : ℕ) (a b : List Bit) → PacedI m i z (O ∷ a) b → PacedI m (suc i) z a b
went_on m i z a b q zero l = omega (arith, q 0 l, position-zero b)
went_on m i z a b q (suc k) l = omega (arith, q (suc k) l)

ends-here : (m i z : ℕ) (a b : List Bit) → z ≤ i → PacedO m (suc i) z a b → PacedI (suc m) i z (I ∷ a) b
ends-here m i z a b h q zero l = omega (arith, position-zero b)
ends-here m i z a b h q (suc k) l = omega (arith, q k (omega arith))

mutual
  paced_I : (f m i x z : ℕ) (a b : List Bit) → Runs m a → Runs m b → length a + length b ≤ f → x ≤ z
      → Later i x (zeros_before (weave f I a b) z) ↔ PacedI m i z a b
  paced_I zero zero i x z [] b h g l e = (λ p k n. absurd (omega arith), λ q. tt)
  paced_I zero (suc m) i x z [] b h g l e = absurd h
  paced_I zero m i x z (y ∷ a) b h g l e = absurd (omega arith)
  paced_I (suc f) zero i x z [] b h g l e = (λ p k n. absurd (omega arith), λ q. tt)
  paced_I (suc f) zero i x z (y ∷ a) b h g l e = absurd h
  paced_I (suc f) (suc m) i x z [] b h g l e = absurd h
  paced_I (suc f) (suc m) i x z (O ∷ a) b h g l e =
      let r = paced_I f (suc m) (suc i) z z a b h g (omega arith) (omega arith) in
      (λ p. goes_on (suc m) i z a b p.1 (r.0 p.2), λ q. (e, begun m i z O a b q, r.1 (went_on (suc m) i z a b q)))
  paced_I (suc f) (suc m) i x z (I ∷ a) b h g l e =
      let r = paced_O f m (suc i) z z a b h g (omega arith) (omega arith) in
      (λ p. ends-here m i z a b p.1 (r.0 p.2), λ q. (e, begun m i z I a b q, r.1 (λ k n. omega (arith, q (suc k) (omega arith)))))

  paced_O : (f m i x z : ℕ) (a b : List Bit) → Runs m a → Runs (suc m) b → length a + length b ≤ f → x ≤ suc z
      → Later i x (zeros_before (weave f O a b) z) ↔ PacedO m i z a b
  paced_O zero m i x z a [] h g l e = absurd g
  paced_O zero m i x z a (y ∷ b) h g l e = absurd (omega arith)
  paced_O (suc f) m i x z a [] h g l e = absurd g
  paced_O (suc f) m i x z a (O ∷ b) h g l e =
      let r = paced_O f m i x (suc z) a b h g (omega arith) (omega arith) in
      (λ p k n. omega (arith, r.0 p k n), λ q. r.1 (λ k n. omega (arith, q k n)))
  paced_O (suc f) m i x z a (I ∷ b) h g l e =
      let r = paced_I f m i x (suc z) a b h g (omega arith) e in
      (λ p k n. omega (arith, r.0 p k n), λ q. r.1 (λ k n. omega (arith, q k n)))

-- ---- the first run of ones, and all

-- the root is alone
not-alone : (f m : ℕ) (a b : List Bit) → Runs (suc m) a → length a ≤ f → Later 1 1 (zeros_before (weave f I a b) 0) → ⊥
not-alone f m [] b h l p = absurd h
not-alone zero m (x ∷ a) b h l p = absurd (omega arith)
not-alone (suc f) m (O ∷ a) b h l p = omega (arith, p.0)
not-alone (suc f) m (I ∷ a) b h l p = omega (arith, p.0)

woven_more : (x y : Bit) (a b : List Bit) → weave (length (x ∷ a) + length b) y (x ∷ a) b ≡ weave (suc (length a + length b)) y (x ∷ a) b
woven_more x y a b = ap (λ n. weave n y (x ∷ a) b) (let e : length (x ∷ a) + length b ≡ suc (length a + length b) = omega arith in e)

-- two strings of m runs, the second one bit longer: their parents keep the rule exactly if they are
-- in step
pub in_step : (m : ℕ) (a b : List Bit) → Runs m a → Runs m b → length b ≡ suc (length a) → IsParents (parents_of (woven a b)) ↔ InStep a b
unfolding parents_of woven
in_step zero [] [] h g e = absurd (omega arith)
in_step zero [] (y ∷ b) h g e = absurd g
in_step zero (x ∷ a) b h g e = absurd h
in_step (suc m) [] b h g e = absurd h
in_step (suc m) (O ∷ a) b h g e =
    let f = length a + length b in
    let s = woven_more O I a b in (
      λ p. absurd (not-alone f m a b h (omega arith) (rule_later (zeros_before (weave f I a b) 0) (subst (λ t. IsParents (zeros_before t 0)) s p).rule)),
      λ q. I≢O (sym q.first),
    )
in_step (suc m) (I ∷ a) b h g e =
    let f = length a + length b in
    let s = woven_more I I a b in
    let c = counted (suc m) (I ∷ a) b h g in
    let r = paced_O f m 1 1 0 a b h g (omega arith) (omega arith) in
    let qs = zeros_before (weave f O a b) 0 in (
      λ p. record {
        first = refl;
        never = c.0 (behind m a b (r.0 (rule_later qs (subst (λ t. IsParents (zeros_before t 0)) s p).rule)));
      },
      λ q. subst (λ t. IsParents (zeros_before t 0)) (sym s)
          (record { some = omega arith; rule = later_rule qs (r.1 (λ k n. omega (arith, c.1 q.never (suc k) (omega arith)))) }),
    )
  where
    behind : (m : ℕ) (a b : List Bit) → PacedO m 1 0 a b → (k : ℕ) → k < suc m → position b k ≤ position (I ∷ a) k
    behind m a b q zero l = omega (arith, position-zero b)
    behind m a b q (suc k) l = omega (arith, q k (omega arith))
