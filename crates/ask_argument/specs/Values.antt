-- A node's number moved by the argument of a question.
use Rattle.std.specs.Prelude.{ℕ, suc, ◌+◌, ◌-◌, ℤ, pos, negsuc}

-- x + z, and 0 where that is below 0
abbrev pub moved : ℕ → ℤ → ℕ
moved x (pos k) = x + k
moved x (negsuc k) = x - suc k
