-- What a parent list without a bad entry keeps to.
use mathlib.Core.Path.{◌≡◌, sym, subst}
use mathlib.Core.List.{List, [], ◌∷◌}
use Prim.Native.Nat.{ℕ, suc, ◌+◌, ◌≤◌}
use native.Mathlib.Omega.{arith}
use lib.ListN.{length}
use Rattle.meaning.specs.Parents.{IsParents, bad_entry}
use Rattle.theory.proofs.Parents.{Later, later_lower, rule_later}
use Rattle.theorems.proofs.Promises.{lowest_entry}

-- ---- entries that never fall, from z on, and never pass n

abbrev pub Rising : ℕ → ℕ → List ℕ → Type 0
Rising n z [] = Unit
Rising n z (p ∷ ps) = (z ≤ p) × (p ≤ n) × Rising n p ps

later_rising : (n i x : ℕ) (ps : List ℕ) → Later i x ps → i + length ps ≤ n → Rising n x ps
later_rising n i x [] h l = tt
later_rising n i x (p ∷ ps) h l = (h.0, omega (arith, h.1), later_rising n (suc i) p ps h.2 (omega arith))

pub parents_rising : (ps : List ℕ) → IsParents ps → Rising (length ps) 0 ps
parents_rising [] h = tt
parents_rising (p ∷ qs) h =
    let e : p ≡ 0 = h.rule 1 (omega arith) (omega arith) in
    let h' : IsParents (0 ∷ qs) = subst (λ z. IsParents (z ∷ qs)) e h in
    (omega arith, omega arith, subst (λ z. Rising (suc (length qs)) z qs) (sym e) (later_rising (suc (length qs)) 1 0 qs (later_lower 1 0 1 qs (omega arith) (rule_later qs h'.rule)) (omega arith)))

pub good_parents : (ps : List ℕ) → 1 ≤ length ps → bad_entry ps ≡ 0 → IsParents ps
good_parents ps l e = (lowest_entry ps l).0.0 e
