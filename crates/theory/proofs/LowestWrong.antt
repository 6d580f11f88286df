-- The lowest block whose payload fails its test: it is the lowest wrong one, there is one such
-- number, and that of two groups of blocks is that of the first or of the second.
use mathlib.Core.Path.{◌≡◌, refl, sym, ap, ◌∙◌, subst}
use mathlib.Core.Bool.{Bool, true, false, true≢false, cond}
use mathlib.Core.List.{List, [], ◌∷◌, ◌++◌, map}
use mathlib.Core.Logic.{◌↔◌}
use Prim.Native.Nat.{ℕ, zero, suc, ◌+◌, ◌≤◌, ◌<◌}
use native.Mathlib.Decide.{dec_lt}
use native.Mathlib.Omega.{arith}
use lib.ListN.{length, get_or}
use Rattle.meaning.specs.Faults.{payload_at, lowest_failing}
use Rattle.theory.specs.Faults.{LowestWrong, none, here}

-- ---- one number

pub lowest-one : (Right : ℕ → Type 0) (from k r s : ℕ) → LowestWrong Right from k r → LowestWrong Right from k s → r ≡ s
lowest-one Right from k r s (none e f) (none g h) = e ∙ sym g
lowest-one Right from k r s (none e f) (here j l g b n) = absurd (n (f j l))
lowest-one Right from k r s (here j l g b n) (none e f) = absurd (n (f j l))
lowest-one Right from k r s (here i l e b n) (here j m g c o) = elim (dec_lt i j) [
  | yes h ↦ absurd (n (c i h))
  | no h ↦ elim (dec_lt j i) [
    | yes f ↦ absurd (o (b j f))
    | no f ↦ omega arith
  ]
]

pub lowest-map : (P Q : ℕ → Type 0) (from k r : ℕ) → ((j : ℕ) → j < k → P j ↔ Q j) → LowestWrong P from k r → LowestWrong Q from k r
lowest-map P Q from k r same (none e f) = none e (λ j l. (same j l).0 (f j l))
lowest-map P Q from k r same (here j l e b n) = here j l e (λ i m. (same i (omega arith)).0 (b i m)) (λ q. n ((same j l).1 q))

pub lowest-none : (Right : ℕ → Type 0) (from k r : ℕ) → 1 ≤ from → r ≡ 0 → LowestWrong Right from k r → (j : ℕ) → j < k → Right j
lowest-none Right from k r one z (none e f) = f
lowest-none Right from k r one z (here j l e b n) = absurd (omega arith)

-- ---- what the tests find is the lowest wrong block

abbrev Passes : (List ℕ → List ℕ → Bool) → List (List ℕ) → List ℕ → ℕ → ℕ → Type 0
Passes test ps bytes from j = test (get_or ps j []) (payload_at bytes (from + j)) ≡ true

module _ (test : List ℕ → List ℕ → Bool) (bytes : List ℕ) where
  find : (ps : List (List ℕ)) (from : ℕ) → LowestWrong (Passes test ps bytes from) from (length ps) (lowest_failing (map test ps) bytes from)
  unfolding lowest_failing
  find [] from = none refl (λ j l. absurd (omega arith))
  find (p ∷ ps) from = go (test p (payload_at bytes from)) refl (find ps (suc from))
    where
      at_first : test p (payload_at bytes (from + 0)) ≡ test p (payload_at bytes from)
      at_first = ap (λ b. test p (payload_at bytes b)) (let e : from + 0 ≡ from = omega arith in e)

      later : (j : ℕ) → Passes test ps bytes (suc from) j → Passes test (p ∷ ps) bytes from (suc j)
      later j e = ap (λ b. test (get_or ps j []) (payload_at bytes b)) (let e : from + suc j ≡ suc from + j = omega arith in e) ∙ e

      earlier : (j : ℕ) → Passes test (p ∷ ps) bytes from (suc j) → Passes test ps bytes (suc from) j
      earlier j e = ap (λ b. test (get_or ps j []) (payload_at bytes b)) (let e : suc from + j ≡ from + suc j = omega arith in e) ∙ e

      each : test p (payload_at bytes from) ≡ true → (k : ℕ) → ((j : ℕ) → j < k → Passes test ps bytes (suc from) j)
          → (j : ℕ) → j < suc k → Passes test (p ∷ ps) bytes from j
      each e k f zero l = at_first ∙ e
      each e k f (suc j) l = later j (f j (omega arith))

      shifted : test p (payload_at bytes from) ≡ true → (r : ℕ) → LowestWrong (Passes test ps bytes (suc from)) (suc from) (length ps) r
          → LowestWrong (Passes test (p ∷ ps) bytes from) from (suc (length ps)) r
      shifted e r (none z f) = none z (each e (length ps) f)
      shifted e r (here j l g b n) = here (suc j) (omega arith) (omega arith) (each e j b) (λ q. n (earlier j q))

      go : (t : Bool) → test p (payload_at bytes from) ≡ t
          → LowestWrong (Passes test ps bytes (suc from)) (suc from) (length ps) (lowest_failing (map test ps) bytes (suc from))
          → LowestWrong (Passes test (p ∷ ps) bytes from) from (suc (length ps)) (cond (test p (payload_at bytes from)) (lowest_failing (map test ps) bytes (suc from)) from)
      go true e rest =
          subst (λ t. LowestWrong (Passes test (p ∷ ps) bytes from) from (suc (length ps)) (cond t (lowest_failing (map test ps) bytes (suc from)) from)) (sym e)
          (shifted e (lowest_failing (map test ps) bytes (suc from)) rest)
      go false e rest =
          subst (λ t. LowestWrong (Passes test (p ∷ ps) bytes from) from (suc (length ps)) (cond t (lowest_failing (map test ps) bytes (suc from)) from)) (sym e)
          (here 0 (omega arith) (omega arith) (λ i l. absurd (omega arith)) (λ q. true≢false (sym q ∙ (at_first ∙ e))))

  -- blocks that are right exactly if they pass
  module _ (ps : List (List ℕ)) (from k : ℕ) (count : length ps ≡ k) (Right : ℕ → Type 0)
      (decided : (j : ℕ) → j < k → Right j ↔ (test (get_or ps j []) (payload_at bytes (from + j)) ≡ true)) where
    pub failing_is : LowestWrong Right from k (lowest_failing (map test ps) bytes from)
    failing_is =
        lowest-map (Passes test ps bytes from) Right from k (lowest_failing (map test ps) bytes from) (λ j l. ((decided j l).1, (decided j l).0))
        (subst (λ n. LowestWrong (Passes test ps bytes from) from n (lowest_failing (map test ps) bytes from)) count (find ps from))

    pub is_failing : (r : ℕ) → LowestWrong Right from k r → r ≡ lowest_failing (map test ps) bytes from
    is_failing r w = lowest-one Right from k r (lowest_failing (map test ps) bytes from) w failing_is

  -- none fails exactly if all pass
  pub all_pass : (ps : List (List ℕ)) (from : ℕ) → ((j : ℕ) → j < length ps → Passes test ps bytes from j) → lowest_failing (map test ps) bytes from ≡ 0
  all_pass ps from f =
      lowest-one (Passes test ps bytes from) from (length ps) (lowest_failing (map test ps) bytes from) 0 (find ps from) (none refl f)

  pub none_fails : (ps : List (List ℕ)) (from : ℕ) → 1 ≤ from → lowest_failing (map test ps) bytes from ≡ 0 → (j : ℕ) → j < length ps → Passes test ps bytes from j
  none_fails ps from one e = lowest-none (Passes test ps bytes from) from (length ps) (lowest_failing (map test ps) bytes from) one e (find ps from)

-- ---- two groups of blocks

module _ (bytes : List ℕ) where
  pub first_fails : (xs ys : List (List ℕ → Bool)) (from : ℕ) → (lowest_failing xs bytes from ≡ 0 → ⊥) → lowest_failing (xs ++ ys) bytes from ≡ lowest_failing xs bytes from
  unfolding lowest_failing
  first_fails [] ys from n = absurd (n refl)
  first_fails (x ∷ xs) ys from n = go (x (payload_at bytes from)) n (first_fails xs ys (suc from))
    where
      go : (t : Bool) → (cond t (lowest_failing xs bytes (suc from)) from ≡ 0 → ⊥)
          → ((lowest_failing xs bytes (suc from) ≡ 0 → ⊥) → lowest_failing (xs ++ ys) bytes (suc from) ≡ lowest_failing xs bytes (suc from))
          → cond t (lowest_failing (xs ++ ys) bytes (suc from)) from ≡ cond t (lowest_failing xs bytes (suc from)) from
      go true n rest = rest n
      go false n rest = refl

  pub first_passes : (xs ys : List (List ℕ → Bool)) (from : ℕ) → 1 ≤ from → lowest_failing xs bytes from ≡ 0
      → lowest_failing (xs ++ ys) bytes from ≡ lowest_failing ys bytes (from + length xs)
  unfolding lowest_failing
  first_passes [] ys from one e = ap (lowest_failing ys bytes) (let e : from ≡ from + 0 = omega arith in e)
  first_passes (x ∷ xs) ys from one e = go (x (payload_at bytes from)) e (first_passes xs ys (suc from) (omega arith))
    where
      go : (t : Bool) → cond t (lowest_failing xs bytes (suc from)) from ≡ 0
          → (lowest_failing xs bytes (suc from) ≡ 0 → lowest_failing (xs ++ ys) bytes (suc from) ≡ lowest_failing ys bytes (suc from + length xs))
          → cond t (lowest_failing (xs ++ ys) bytes (suc from)) from ≡ lowest_failing ys bytes (from + suc (length xs))
      go true e rest = rest e ∙ ap (lowest_failing ys bytes) (let e : suc from + length xs ≡ from + suc (length xs) = omega arith in e)
      go false e rest = absurd (omega arith)

  -- no test fails: none of the first group does
  pub front_passes : (xs ys : List (List ℕ → Bool)) (from : ℕ) → lowest_failing (xs ++ ys) bytes from ≡ 0 → lowest_failing xs bytes from ≡ 0
  front_passes xs ys from e = go (lowest_failing xs bytes from) refl
    where
      go : (r : ℕ) → lowest_failing xs bytes from ≡ r → lowest_failing xs bytes from ≡ 0
      go zero f = f
      go (suc r) f = sym (first_fails xs ys from (λ z. omega arith)) ∙ e
