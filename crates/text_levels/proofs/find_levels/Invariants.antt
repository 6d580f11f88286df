use Rattle.std.proofs.Common.{◌≡◌, length, ◌≤◌}
use Rattle.meaning.specs.Trees.{Tree}
use Rattle.meaning.specs.Parents.{parents}
use Rattle.text_levels.proofs.Finding.{Finding}
use Rattle.text_levels.proofs.find_levels.Given as goal

abbrev pub invariant-loop-i : goal.invariant-loop-i
invariant-loop-i l =
    (1 ≤ l.level) × (l.level ≤ 64) × (length l.levels ≡ 66) × ((t : Tree) → parents t ≡ l.list → Finding t l.levels l.level l.before l.i)
