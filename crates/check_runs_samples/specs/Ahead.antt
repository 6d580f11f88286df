-- What the samples of two strings tell of their runs.
use Rattle.std.specs.Prelude.{Bool, true, false, List, ℕ, ◌+◌, ◌-◌, ◌*◌, ◌/◌, ◌≤◌, ◌<◌}
use Rattle.theory.specs.Layout.{sample_in}

-- a test that tells something only where it passes
abbrev pub Tells : Bool → Type 0 → Type 0
Tells true P = P
Tells false P = Unit

-- of the `by` samples up to sample number s, one where R0 has the one of its sample `by` further on
abbrev pub Seen : List ℕ → ℕ → ℕ → ℕ → ℕ → Type 0
Seen bytes s1 s0 by s = (q : ℕ) × (q ≤ s) × (s < q + by) × (sample_in bytes s0 (q + by) ≤ sample_in bytes s1 q)

-- so at each sample of R1's ones after the first k up to number `end`, of m
abbrev pub Ahead : List ℕ → ℕ → ℕ → ℕ → ℕ → ℕ → ℕ → Type 0
Ahead bytes s1 s0 k end m by =
    (1 ≤ k) × (64 * ((end + 63) / 64 + by - 1) < m) × ((s : ℕ) → (k - 1) / 64 ≤ s → s < (end + 63) / 64 → Seen bytes s1 s0 by s)
