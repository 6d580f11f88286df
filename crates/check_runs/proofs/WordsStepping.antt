-- Two strings in step, whose counts both leave out the same ones.
use mathlib.Core.List.{List}
use Prim.Native.Nat.{ℕ, ◌+◌}
use native.Mathlib.Omega.{arith}
use Rattle.check_runs_words.specs.Steps.{StepAt}

module _ (bytes : List ℕ) (at1 at0 n k1 k0 s : ℕ) where
  pub step_with : StepAt bytes at1 at0 n k1 k0 → StepAt bytes at1 at0 n (k1 + s) (k0 + s)
  step_with all p h = omega (arith, all p h)

  pub step_left : StepAt bytes at1 at0 n (k1 + s) (k0 + s) → StepAt bytes at1 at0 n k1 k0
  step_left all p h = omega (arith, all p h)
