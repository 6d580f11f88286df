-- Are there metres? By where a layout has them.
use Rattle.std.specs.Prelude.{ℕ, None, Some, Option, Bool, true, false}

abbrev pub are_at : Option ℕ → Bool
are_at None = false
are_at (Some block) = true
