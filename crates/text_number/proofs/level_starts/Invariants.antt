use Rattle.std.proofs.Common.{◌≡◌, ℕ, length, get_or, ◌*◌, ◌≤◌, ◌<◌}
use Rattle.theory.specs.Tables.{sum_to}
use Rattle.text_number.proofs.level_starts.Given as goal

abbrev pub invariant-loop-level : goal.invariant-loop-level
invariant-loop-level l =
    (length l.levels ≡ 66) × (l.above ≡ sum_to l.initial.levels l.level-index) × (l.above ≤ 1048576 * l.level-index)
    × ((e : ℕ) → e < l.level-index → get_or l.levels e 0 ≡ sum_to l.initial.levels e) × ((e : ℕ) → l.level-index ≤ e → get_or l.levels e 0 ≡ get_or l.initial.levels e 0)
