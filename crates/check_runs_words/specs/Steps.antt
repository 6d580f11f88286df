-- Two strings in step, in a piece of each.
use Rattle.std.specs.Prelude.{ℕ, ◌+◌, ◌*◌, ◌≤◌, ◌<◌, List}
use Rattle.meaning.specs.Strings.{ones}
use Rattle.meaning.specs.Bytes.{bits_from}

-- of n bits of R1 from byte at1 on, which k1 ones come before, and n of R0 from at0 on, which k0
-- come before: R1 has no more ones before each of them than R0
abbrev pub StepAt : List ℕ → ℕ → ℕ → ℕ → ℕ → ℕ → Type 0
StepAt bytes at1 at0 n k1 k0 = (p : ℕ) → p < n → k1 + ones (bits_from bytes (8 * at1) p) ≤ k0 + ones (bits_from bytes (8 * at0) p)
