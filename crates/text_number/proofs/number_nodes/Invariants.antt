use Rattle.std.proofs.Common.{drop}
use Rattle.meaning.specs.Brackets.{tree_in}
use Rattle.meaning.specs.Text.{brackets_in}
use Rattle.text_walk.specs.Walk.{Walking}
use Rattle.text_number.specs.Numbering.{Numbered}
use Rattle.text_number.proofs.number_nodes.Given as goal

abbrev pub invariant-loop-c : goal.invariant-loop-c
invariant-loop-c l =
    let t = tree_in (brackets_in l.text) in
    Walking t l.levels l.open (brackets_in (drop l.c-index l.text)) × Numbered t l.levels l.out l.initial.out
