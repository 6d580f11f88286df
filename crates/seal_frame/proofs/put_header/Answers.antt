use Rattle.seal_frame.specs.Passes.{headed}
use Rattle.image_words.specs.Words.{with_word}
use mathlib.Core.Path.{ap, ◌∙◌}
use Rattle.seal_frame.proofs.put_header.Goals as goal

pub returns : goal.returns
unfolding headed
returns c =
    let a = c.args in
    let version = c.put_word.ensures ∙ ap (with_word a.image.now 0) c.version_at.ensures in
    let nodes = c.put_word-2.ensures ∙ ap (λ s. with_word s 4 a.layout.nodes) version in
    let runs = c.put_word-3.ensures ∙ ap (λ s. with_word s 8 a.layout.runs) nodes in
    c.put_word-4.ensures ∙ ap (λ s. with_word s 12 a.layout.blocks) runs
