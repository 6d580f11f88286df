-- What reading the header tells.
use Rattle.std.specs.Prelude.{Some, None, Option, ◌≡◌, List, ℕ, ◌≤◌}
use Rattle.theory.specs.Stages.{Header}
use Rattle.image_layout.specs.Layout.{layout_in}
use Rattle.image_layout.specs.declared.Layout.{Layout}

-- some tree of n nodes has m runs of ones
pub record RunsFit (n m : ℕ) : Type 0 where
  pub some : 1 ≤ m
  pub most : m ≤ n
  pub two : 2 ≤ n → 2 ≤ m

-- the header is right, and this is the layout that its version, n and m give; or it is wrong
abbrev pub HeaderIs : Option Layout → List ℕ → Type 0
HeaderIs (Some layout) bytes = Header bytes × (layout ≡ layout_in bytes)
HeaderIs None bytes = Header bytes → ⊥
