-- One bound for the blocks and one for the counts that inner functions are handed. Both are far
-- above what an image of any version has, and so low that no sum or product of places leaves 64
-- bits; the limits of the format are in `meaning`.
use Rattle.std.specs.Prelude.{ℕ}

abbrev pub most_block : ℕ
most_block = 100000

-- more than a 32-bit word says and a block has
abbrev pub most_ones : ℕ
most_ones = 8589934592
