use Prim.Native.Nat.{ℕ, ◌-◌, ◌/◌, ◌≤◌, ◌<◌}
use Rattle.check_runs_samples.specs.Ahead.{Seen}
use Rattle.check_runs_samples.proofs.samples_ahead.Given as goal

abbrev pub invariant-loop-s : goal.invariant-loop-s
invariant-loop-s l = (r : ℕ) → (l.before - 1) / 64 ≤ r → r < l.s → Seen l.b l.samples1 l.samples0 l.by r

abbrev pub decreases-loop-s : goal.decreases-loop-s
decreases-loop-s l = l.to - l.s
