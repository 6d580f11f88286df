use Rattle.std.proofs.Common.{◌≡◌, ℕ, ◌-◌, ◌*◌, ◌≤◌, drop}
use Rattle.meaning.specs.Blocks.{sums}
use Rattle.image_sums.proofs.Summing.{words_from}
use Rattle.image_sums.proofs.block_sums.Given as goal

abbrev pub invariant-loop-i : goal.invariant-loop-i
invariant-loop-i l = (k : ℕ) × (k ≤ 126) × (l.i ≡ 4 * k) × (sums (drop k (words_from l.b l.at)) l.s l.t ≡ sums (words_from l.b l.at) l.start 0)

abbrev pub decreases-loop-i : goal.decreases-loop-i
decreases-loop-i l = 504 - l.i
