-- What a question about one node of a checked image needs.
use Rattle.std.specs.Prelude.{Ok, ◌≡◌, List, ℕ, ◌≤◌}
use Rattle.image_layout.specs.declared.Layout.{Layout}
use Rattle.image_found.specs.Checked.{checked}

-- the check found an image of this layout sound, and x is one of its nodes
pub record IsNode (bytes : List ℕ) (image : Layout) (x : ℕ) : Type 0 where
  pub sound : checked bytes ≡ Ok image
  pub some : 1 ≤ x
  pub most : x ≤ image.nodes
