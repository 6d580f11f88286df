use mathlib.Core.Path.{◌∙◌, ap}
use Prim.Native.Nat.{◌+◌, ◌*◌, ◌/◌, ◌%◌}
use Rattle.meaning.specs.Strings.{ones}
use Rattle.meaning.specs.Bytes.{bits_from}
use Rattle.nav_rank.proofs.Counts.{front_is}
use Rattle.nav_rank.proofs.from_front.Goals as goal

pub returns : goal.returns
returns c =
    let a = c.args in
    let p = c.requires in
    let at = c.bits_at-start.ensures in
    let words = c.ones_in_words.ensures ∙ ap (λ q. ones (bits_from a.b.now (8 * q) (64 * (a.p / 64)))) at in
    let rest = c.ones_before.ensures ∙ ap (λ q. ones (bits_from a.b.now (8 * (q + 8 * (a.p / 64))) (a.p % 64))) at in
    front_is a.b.now a.bits_block a.j a.p p.p_bound c.word.result c.ones_in_words.result c.ones_before.result
    (c.word.ensures ∙ p.j_value) words rest
