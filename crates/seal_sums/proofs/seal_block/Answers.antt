use mathlib.Core.Path.{ap, ◌∙◌}
use Prim.Native.Nat.{◌+◌, ◌*◌}
use Rattle.image_words.specs.Words.{with_word}
use Rattle.seal_sums.proofs.Laws.{sums-written}
use Rattle.seal_sums.proofs.seal_block.Goals as goal

pub returns : goal.returns
returns c =
    let a = c.args in
    let r = c.block_sums-made.result in
    c.put_word-2.ensures ∙ ap (λ x. with_word x (512 * a.i + 508) r.t) c.put_word.ensures
    ∙ sums-written a.b.now a.i c.requires.i_in_bounds r.s r.t
    c.block_sums-made.ensures
