-- For every n and m that the header can have there is a tree: R1 is m - 1 ones, zeros and a one,
-- and R0 the same with a zero more.
use mathlib.Core.Path.{◌≡◌, refl, sym, ap, ◌∙◌, subst}
use mathlib.Core.List.{List, [], ◌∷◌, ◌++◌}
use Prim.Native.Nat.{ℕ, zero, suc, ◌+◌, ◌-◌, ◌≤◌, ◌<◌}
use native.Mathlib.Decide.{dec_lt}
use native.Mathlib.Omega.{arith}
use lib.ListN.{length, get_or, take, replicate, length-append, length-replicate}
use Rattle.meaning.specs.Trees.{Tree, nodes}
use Rattle.meaning.specs.Strings.{Bit, O, I, ones, lbs, R1, R0}
use Rattle.theory.specs.Layout.{Runs}
use Rattle.theory.specs.Stages.{InStep}
use Rattle.theory.proofs.Forms.{length-R1, tree_of_parts, runs-ones}
use Rattle.theory.proofs.InStep.{in_step}

-- k ones, z zeros, a one
abbrev marks : ℕ → ℕ → List Bit
marks k z = replicate k I ++ (replicate z O ++ I ∷ [])

length-marks : (k z : ℕ) → length (marks k z) ≡ k + z + 1
length-marks k z =
    omega (arith, length-append (replicate k I) (replicate z O ++ I ∷ []), length-append (replicate z O) (I ∷ []), length-replicate {A = Bit} k I, length-replicate {A = Bit} z O)

runs-zeros : (z : ℕ) → Runs 1 (replicate z O ++ I ∷ [])
runs-zeros zero = tt
runs-zeros (suc z) = runs-zeros z

runs-marks : (k z : ℕ) → Runs (suc k) (marks k z)
runs-marks zero z = runs-zeros z
runs-marks (suc k) z = runs-marks k z

-- with one zero more there are as many ones before each bit but the last
zeros_never : (z p : ℕ) → p < z + 1 → ones (take p (replicate z O ++ I ∷ [])) ≤ ones (take p (replicate (suc z) O ++ I ∷ []))
zeros_never zero zero h = omega arith
zeros_never zero (suc p) h = absurd (omega arith)
zeros_never (suc z) zero h = omega arith
zeros_never (suc z) (suc p) h = zeros_never z p (omega arith)

never : (k z p : ℕ) → p < k + z + 1 → ones (take p (marks k z)) ≤ ones (take p (marks k (suc z)))
never zero z p h = zeros_never z p (omega arith)
never (suc k) z zero h = omega arith
never (suc k) z (suc p) h = omega (arith, never k z p (omega arith))

first : (k z : ℕ) → (k ≡ 0 → z ≡ 0) → get_or (marks k z) 0 O ≡ I
first zero zero h = refl
first zero (suc z) h = absurd (omega (arith, h refl))
first (suc k) z h = refl

pub some-tree-has : (n m : ℕ) → 1 ≤ n → 1 ≤ m → m ≤ n → (2 ≤ n → 2 ≤ m) → (t : Tree) × (nodes t ≡ n) × (ones (R1 (lbs t)) ≡ m)
some-tree-has n m some runs few two =
    let k = m - 1 in
    let z = n - m in
    let a = marks k z in
    let b = marks k (suc z) in
    let la = length-marks k z in
    let lb = length-marks k (suc z) in
    let longer : length b ≡ suc (length a) = omega arith in
    let step : InStep a b = record {
      first = first k z alone;
      never = λ p h. never k z p (omega arith);
    } in
    let u = tree_of_parts (suc k) a b (runs-marks k z) (runs-marks k (suc z)) longer ((in_step (suc k) a b (runs-marks k z) (runs-marks k (suc z)) longer).1 step) in
    let t = u.0 in
    (t, sym (length-R1 t) ∙ ap length u.1 ∙ omega arith, ap (λ r. ones r) u.1 ∙ runs-ones (suc k) a (runs-marks k z) ∙ omega arith)
  where
    alone : m - 1 ≡ 0 → n - m ≡ 0
    alone e = elim (dec_lt n 2) [
      | yes h ↦ omega arith
      | no h ↦ absurd (omega (arith, two (omega arith)))
    ]
