-- What a test that passed tells.
use mathlib.Core.Path.{◌≡◌}
use mathlib.Core.Bool.{Bool, true, false}
use Prim.Native.Nat.{ℕ}
use native.Mathlib.Omega.{arith}
use Rattle.check_runs_samples.specs.Ahead.{Tells}

pub told : (t : Bool) (P : Type 0) → Tells t P → t ≡ true → P
told true P s e = s
told false P s e = let z : ◌≡◌ {A = ℕ} 0 1 = cc in absurd (omega arith)
