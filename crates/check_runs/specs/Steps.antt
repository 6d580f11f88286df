-- Two strings in step, in parts.
use Rattle.std.specs.Prelude.{ℕ, ◌≤◌, ◌<◌, List}
use Rattle.image_string.specs.Parts.{ones_to}

-- R1 has no more ones among its first p bits than R0, at each p from a to before b
abbrev pub StepWithin : List ℕ → ℕ → ℕ → ℕ → Type 0
StepWithin bytes zeros a b = (p : ℕ) → a ≤ p → p < b → ones_to bytes 1 p ≤ ones_to bytes zeros p
