use Rattle.std.proofs.Common.{◌≡◌, length, ◌≤◌}
use Rattle.meaning.specs.Trees.{Tree}
use Rattle.meaning.specs.Parents.{parents}
use Rattle.text_write.proofs.Writing.{Writing}
use Rattle.text_write.proofs.write_brackets.Given as goal

abbrev pub invariant-loop-at : goal.invariant-loop-at
invariant-loop-at l =
    (length l.text ≡ length l.initial.text) × (l.open ≤ 64) × ((t : Tree) × (parents t ≡ l.parents) × Writing t l.levels l.open l.text l.initial.text l.at)
