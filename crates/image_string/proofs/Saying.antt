-- What a test tells, used and passed on.
use mathlib.Core.Path.{◌≡◌, refl}
use mathlib.Core.Bool.{Bool, true, false}
use Prim.Native.Nat.{ℕ}
use native.Mathlib.Omega.{arith}
use borrow.Author.Tests.{eqb-true, eq-eqb}
use lib.Dec.{eqb}
use Rattle.image_string.specs.Decides.{Decides}

says : (t : Bool) (P : Type 0) → (t ≡ true → P) → (P → t ≡ true) → Decides t P
says true P there back = there refl
says false P there back = λ p. let e = back p in let z : ◌≡◌ {A = ℕ} 0 1 = cc in omega arith

pub decides_is : (a b : ℕ) (P : Type 0) → (a ≡ b → P) → (P → a ≡ b) → Decides (eqb a b) P
decides_is a b P there back = says (eqb a b) P (λ e. there (eqb-true a b e)) (λ p. eq-eqb a b (back p))

pub decides_same : (t : Bool) (P Q : Type 0) → (P → Q) → (Q → P) → Decides t P → Decides t Q
decides_same true P Q there back s = there s
decides_same false P Q there back s = λ q. s (back q)

-- `if !t { return .. }` passed
pub decides_held : (t : Bool) (P : Type 0) → Decides t P → t ≡ true → P
decides_held true P s e = s
decides_held false P s e = let z : ◌≡◌ {A = ℕ} 0 1 = cc in absurd (omega arith)

-- and taken
pub decides_missed : (t : Bool) (P : Type 0) → Decides t P → t ≡ false → P → ⊥
decides_missed false P s e = s
decides_missed true P s e = let z : ◌≡◌ {A = ℕ} 0 1 = cc in absurd (omega arith)
