-- A byte as its bits, most significant first.
use Rattle.std.specs.Prelude.{List, [], ◌∷◌, ℕ}
use Rattle.meaning.specs.Strings.{Bit}
use Rattle.meaning.specs.Bytes.{bits_from}

-- the eight bits of a byte
abbrev pub byte_bits : ℕ → List Bit
byte_bits x = bits_from (x ∷ []) 0 8
