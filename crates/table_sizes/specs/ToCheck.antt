-- The sizes that an image can have (document 01, code 2).
use Rattle.std.specs.Prelude.{◌≡◌, Bool, true, false, List, ℕ, ◌/◌, ◌%◌, ◌≤◌, length}
use Rattle.meaning.specs.Tests.{wrong_size}

-- whole blocks, 5 to 574 of them
pub record ImageSized (bytes : ℕ) : Type 0 where
  pub whole : bytes % 512 ≡ 0
  pub some : 5 ≤ bytes / 512
  pub most : bytes / 512 ≤ 574

-- what the test of the size tells of any image with so many bytes
abbrev pub ImageSize : Bool → ℕ → Type 0
ImageSize true bytes = (image : List ℕ) → length image ≡ bytes → wrong_size image ≡ true
ImageSize false bytes = ImageSized bytes
