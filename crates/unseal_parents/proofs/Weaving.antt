-- The positions of the ones of R0, after a 0, spread over R1 are the parents of the string woven
-- from the two; and how the list comes to hold them.
use mathlib.Core.Path.{◌≡◌, refl, sym, ap, ap₂, ◌∙◌, subst}
use mathlib.Core.List.{List, [], ◌∷◌, ◌++◌}
use Prim.Native.Nat.{ℕ, zero, suc, ◌+◌, ◌-◌, ◌≤◌}
use native.Mathlib.Nat.{le_refl}
use native.Mathlib.Omega.{arith}
use lib.ListN.{length, get_or, drop, set, length-append, length-set}
use lib.Seq.{append_snoc, drop_at, drop-cons, drop-drop, drop-set-lt, get_or-drop, get_or-set_same}
use Rattle.meaning.specs.Strings.{Bit, O, I, ones, positions, zeros_before, parents_of, weave, woven}
use Rattle.meaning.specs.Image.{string_in}
use Rattle.meaning.specs.Answers.{written}
use Rattle.theory.specs.Layout.{Runs}
use Rattle.theory.proofs.Odd.{ones-append}
use Rattle.theory.proofs.Payloads.{ones-le}
use Rattle.theory.proofs.Forms.{runs-ones}
use Rattle.theory.proofs.TreeImages.{length-string_in}
use Rattle.theory.proofs.InBlocks.{string_in-cut}
use Rattle.unseal_byte.specs.Placed.{Placed}
use Rattle.unseal_parents.specs.Spread.{spread, InRuns}
use Rattle.unseal_byte.proofs.Placing.{positions-append, positions-length}
use Rattle.unseal_parents.proofs.Spreading.{spread-append, spread-length}

-- ---- the woven string

mutual
  unfolding spread positions

  weave_I : (f k : ℕ) (a b : List Bit) (z : ℕ) → Runs k a → Runs k b → length a + length b ≤ f → zeros_before (weave f I a b) z ≡ spread a (z ∷ positions b (suc z))
  weave_I zero k [] b z h g l = refl
  weave_I zero k (x ∷ a) b z h g l = absurd (omega arith)
  weave_I (suc f) k [] b z h g l = refl
  weave_I (suc f) zero (x ∷ a) b z h g l = absurd h
  weave_I (suc f) (suc k) (O ∷ a) b z h g l = ap (λ r. z ∷ r) (weave_I f (suc k) a b z h g (omega arith))
  weave_I (suc f) (suc k) (I ∷ a) b z h g l = ap (λ r. z ∷ r) (weave_O f k a b z h g (omega arith))

  weave_O : (f k : ℕ) (a b : List Bit) (z : ℕ) → Runs k a → Runs (suc k) b → length a + length b ≤ f → zeros_before (weave f O a b) z ≡ spread a (positions b (suc z))
  weave_O zero k a [] z h g l = absurd g
  weave_O zero k a (y ∷ b) z h g l = absurd (omega arith)
  weave_O (suc f) k a [] z h g l = absurd g
  weave_O (suc f) k a (O ∷ b) z h g l = weave_O f k a b (suc z) h g (omega arith)
  weave_O (suc f) k a (I ∷ b) z h g l = weave_I f k a b (suc z) h g (omega arith)

woven-parents : (m : ℕ) (a b : List Bit) → Runs m a → Runs m b → parents_of (woven a b) ≡ spread a (0 ∷ positions b 1)
unfolding parents_of woven
woven-parents m a b h g = weave_I (length a + length b) m a b 0 h g (le_refl _)

-- as many numbers are looked at as there are runs
spread-front : (k : ℕ) (a : List Bit) (xs ys zs : List ℕ) → Runs k a → k ≤ length xs → spread a (xs ++ ys) ≡ spread a (xs ++ zs)
unfolding spread
spread-front k [] xs ys zs h l = refl
spread-front zero (x ∷ a) xs ys zs h l = absurd h
spread-front (suc k) (x ∷ a) [] ys zs h l = absurd (omega arith)
spread-front (suc k) (O ∷ a) (x ∷ xs) ys zs h l = ap (λ r. x ∷ r) (spread-front (suc k) a (x ∷ xs) ys zs h l)
spread-front (suc k) (I ∷ a) (x ∷ xs) ys zs h l = ap (λ r. x ∷ r) (spread-front k a xs ys zs h (omega arith))

-- ---- the last bits

ends : (m : ℕ) (xs : List Bit) (x : Bit) → Runs m (xs ++ x ∷ []) → x ≡ I
ends zero [] x h = absurd h
ends (suc m) [] O h = absurd h
ends (suc m) [] I h = refl
ends zero (y ∷ xs) x h = absurd h
ends (suc m) (O ∷ xs) x h = ends (suc m) xs x h
ends (suc m) (I ∷ xs) x h = ends m xs x h

string-ends : (bytes : List ℕ) (first n m : ℕ) → Runs m (string_in bytes first 0 (n + 1)) → string_in bytes first 0 (n + 1) ≡ string_in bytes first 0 n ++ I ∷ []
unfolding string_in
string-ends bytes first n m h =
    let e = string_in-cut bytes first n 1 0 in
    e ∙ ap (λ x. string_in bytes first 0 n ++ x ∷ []) (ends m (string_in bytes first 0 n) _ (subst (Runs m) e h))

one_fewer : (m : ℕ) (xs : List Bit) → Runs m (xs ++ I ∷ []) → ones xs + 1 ≡ m
one_fewer m xs h = sym (ones-append xs (I ∷ [])) ∙ runs-ones m (xs ++ I ∷ []) h

-- two strings of n and n + 1 bits, without their last bits
pub record Lasts (bytes : List ℕ) (zeros n : ℕ) : Type 0 where
  pub marks : ℕ
  pub some : 1 ≤ n
  pub most : marks ≤ n
  pub last1 : string_in bytes 1 0 n ≡ string_in bytes 1 0 (n - 1) ++ I ∷ []
  pub last0 : string_in bytes zeros 0 (n + 1) ≡ string_in bytes zeros 0 n ++ I ∷ []
  pub runs1 : Runs marks (string_in bytes 1 0 (n - 1) ++ I ∷ [])
  pub runs0 : Runs marks (string_in bytes zeros 0 n ++ I ∷ [])
  pub ones1 : ones (string_in bytes 1 0 (n - 1)) + 1 ≡ marks
  pub ones0 : ones (string_in bytes zeros 0 n) + 1 ≡ marks

pub lasts : (bytes : List ℕ) (zeros n : ℕ) → InRuns (string_in bytes 1 0 n) (string_in bytes zeros 0 (n + 1)) → Lasts bytes zeros n
lasts bytes zeros n h =
    let m = h.marks in
    let last0 = string-ends bytes zeros n m h.second in
    let runs0 = subst (Runs m) last0 h.second in
    let ones0 = one_fewer m (string_in bytes zeros 0 n) runs0 in
    let most : m ≤ n = omega (arith, runs-ones m (string_in bytes 1 0 n) h.first, ones-le (string_in bytes 1 0 n), length-string_in bytes 1 0 n) in
    let s : n ≡ n - 1 + 1 = omega arith in
    let last1 = ap (string_in bytes 1 0) s ∙ string-ends bytes 1 (n - 1) m (subst (λ k. Runs m (string_in bytes 1 0 k)) s h.first) in
    let runs1 = subst (Runs m) last1 h.first in
    record {
      marks = m;
      some = omega arith;
      most = most;
      last1 = last1;
      last0 = last0;
      runs1 = runs1;
      runs0 = runs0;
      ones1 = one_fewer m (string_in bytes 1 0 (n - 1)) runs1;
      ones0 = ones0;
    }

-- ---- the list

module _ (a b : List Bit) (m n k : ℕ) (old mid : List ℕ) (la : length a + 1 ≡ n) (lb : length b ≡ n) (room : n ≤ length old) (size : length mid ≡ length old)
    (ra : Runs m (a ++ I ∷ [])) (rb : Runs m (b ++ I ∷ [])) (h : Placed b 0 n old mid k) where
  -- the list before the numbers are spread
  abbrev ready : List ℕ
  ready = set mid (k - 1) 0

  marks-a : ones a + 1 ≡ m
  marks-a = one_fewer m a ra

  marks-b : ones b + 1 ≡ m
  marks-b = one_fewer m b rb

  root : 1 ≤ k
  root = omega (arith, h.count, marks-a, marks-b, ones-le a, la)

  abbrev numbers : List ℕ
  numbers = 0 ∷ positions b 1

  count : length numbers ≡ m
  count = omega (arith, positions-length b 1, marks-b)

  there : drop (k - 1) ready ≡ numbers ++ drop n old
  there =
      drop-cons ready (k - 1) 0 (omega (arith, h.count, length-set mid (k - 1) 0, root))
      ∙ ap₂ ◌∷◌
      (get_or-set_same mid (k - 1) 0 0 (omega (arith, h.count, root)))
      (ap (λ j. drop j ready) (let e : suc (k - 1) ≡ k = omega (arith, root) in e) ∙ drop-set-lt k mid (k - 1) 0 (omega (arith, root)) ∙ h.made)

  -- the last node's parent, and what comes after it
  rest : drop (n - 1) ready ≡ get_or (drop (ones a) (drop (k - 1) ready)) 0 0 ∷ drop n old
  rest =
      let zs = drop (k - 1) ready in
      let e : k - 1 + ones a ≡ n - 1 = omega (arith, h.count, marks-a, marks-b, root) in
      let f : suc (ones a) ≡ m = omega (arith, marks-a) in
      ap (λ j. drop j ready) (sym e)
      ∙ sym (drop-drop (ones a) (k - 1) ready)
      ∙ drop-cons zs (ones a) 0 (omega (arith, ap length there, length-append numbers (drop n old), count))
      ∙ ap₂ ◌∷◌
      (ap (λ j. get_or zs j 0) (let q : ones a ≡ ones a + 0 = omega arith in q) ∙ sym (get_or-drop (ones a) zs 0 0))
      (ap₂ drop f there ∙ drop_at numbers (drop n old) m count)

  all-spread : spread (a ++ I ∷ []) (drop (k - 1) ready) ≡ parents_of (woven (a ++ I ∷ []) (b ++ I ∷ []))
  all-spread =
      ap (spread (a ++ I ∷ [])) there
      ∙ spread-front m (a ++ I ∷ []) numbers (drop n old) (positions (I ∷ []) (1 + length b)) ra (omega (arith, count))
      ∙ ap (λ l. spread (a ++ I ∷ []) (0 ∷ l)) (sym (positions-append b (I ∷ []) 1))
      ∙ sym (woven-parents m (a ++ I ∷ []) (b ++ I ∷ []) ra rb)

  pub parents-written : (out : List ℕ) → out ≡ spread a (drop (k - 1) ready) ++ drop (n - 1) ready → out ≡ written (parents_of (woven (a ++ I ∷ []) (b ++ I ∷ []))) old
  unfolding spread
  parents-written out e =
      let zs = drop (k - 1) ready in
      let ps = parents_of (woven (a ++ I ∷ []) (b ++ I ∷ [])) in
      let s : length ps ≡ n = ap length (sym all-spread) ∙ spread-length (a ++ I ∷ []) zs ∙ length-append a (I ∷ []) ∙ la in
      e
      ∙ ap (λ l. spread a zs ++ l) rest
      ∙ sym (append_snoc (spread a zs) (get_or (drop (ones a) zs) 0 0) (drop n old))
      ∙ ap₂ (λ l j. l ++ drop j old) (sym (spread-append a (I ∷ []) zs) ∙ all-spread) (sym s)
