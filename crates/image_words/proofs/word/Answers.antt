use Rattle.std.proofs.Common.{rules}
use Rattle.theory.specs.Layout.{word_at}
use Rattle.image_words.proofs.word.Goals as goal

pub returns : goal.returns
unfolding word_at
returns c = search rules
