-- A layout made number by number is the one of its version, n nodes and m runs.
use Rattle.std.specs.Prelude.{None, Some, Option}
use mathlib.Core.Path.{◌≡◌, refl, sym, ap}
use mathlib.Core.Bool.{Bool, true, false, cond}
use Prim.Native.Nat.{ℕ, ◌+◌, ◌≤◌}
use native.Mathlib.Omega.{arith}
use borrow.Author.Tests.{eq-eqb, ne_eqb}
use lib.Dec.{eqb}
use Rattle.theory.specs.Stages.{r0_block, r1_samples, blocks_of_samples, metres_block, metres_held, blocks_needed}
use Rattle.image_layout.specs.declared.Layout.{Layout}
use Rattle.image_layout.specs.Layout.{metres_at, layout_of}

pub laid_out : (v n m r0 s1 s0 blocks : ℕ) (metres : Option ℕ)
    → r0 ≡ r0_block n → s1 ≡ r1_samples n → s0 ≡ r1_samples n + blocks_of_samples m → metres ≡ metres_at v (metres_block n m) → blocks ≡ blocks_needed v n m
    → ◌≡◌ {A = Layout} (record { nodes = n; runs = m; r0_block = r0; r1_samples = s1; r0_samples = s0; metres = metres; blocks = blocks }) (layout_of v n m)
laid_out v n m r0 s1 s0 blocks metres e f g h i = cc

-- version 2 has metres, and no other has any
module _ (v : ℕ) where
  module _ (two : v ≡ 2) where
    pub held_all : (n : ℕ) → n ≡ metres_held v n
    held_all n = sym (ap (λ t. cond t n 0) (eq-eqb v 2 two))

    pub at_block : (block : ℕ) → Some block ≡ metres_at v block
    at_block block = sym (ap (λ t. cond t (Some block) None) (eq-eqb v 2 two))

  module _ (other : v ≡ 2 → ⊥) where
    pub held_none : (n : ℕ) → 0 ≡ metres_held v n
    held_none n = sym (ap (λ t. cond t n 0) (ne_eqb v 2 other))

    pub at_none : (block : ℕ) → None ≡ metres_at v block
    at_none block = sym (ap (λ t. cond t (Some block) None) (ne_eqb v 2 other))

  pub held_most : (n : ℕ) → metres_held v n ≤ n
  held_most n = go (eqb v 2)
    where
      go : (t : Bool) → cond t n 0 ≤ n
      go true = omega arith
      go false = omega arith

-- where the metres are tells the version, and the block
clash : {X : Type 0} {block : ℕ} → None ≡ Some block → X
clash e = let z : ◌≡◌ {A = ℕ} 0 1 = cc in absurd (omega arith)

pub from-version : (t : Bool) (k block : ℕ) → cond t (Some k) None ≡ Some block → (t ≡ true) × (k ≡ block)
from-version true k block e = (refl, cc)
from-version false k block e = clash e

pub nowhere_version : (t : Bool) (k : ℕ) → cond t (Some k) None ≡ None → t ≡ false
nowhere_version true k e = clash (sym e)
nowhere_version false k e = refl
