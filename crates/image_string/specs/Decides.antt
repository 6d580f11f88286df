-- What a test tells.
use Rattle.std.specs.Prelude.{Bool, true, false}

-- a test tells whether something holds
abbrev pub Decides : Bool → Type 0 → Type 0
Decides true P = P
Decides false P = P → ⊥
