use mathlib.Core.Path.{ap, ◌∙◌}
use native.Mathlib.Omega.{arith}
use Rattle.theory.specs.Layout.{word_at}
use Rattle.nav_metres.proofs.Measures.{unmeasured, measure}
use Rattle.nav_metres.proofs.metres_of.Goals as goal

pub returns-in_default : goal.returns-in_default
returns-in_default c = unmeasured c.requires c.in_default.is

pub sample_at-requires : goal.sample_at-requires
sample_at-requires c =
    let m = measure c.requires _ c.in-Some.is in
    record { samples_le_most_block = m.near; s_bound = omega (arith, m.place) }

pub word-requires : goal.word-requires
word-requires c =
    let m = measure c.requires _ c.in-Some.is in
    omega (arith, c.sample_at.ensures, m.room)

pub returns : goal.returns
returns c =
    let m = measure c.requires _ c.in-Some.is in
    c.word.ensures ∙ ap (word_at c.args.b.now) c.sample_at.ensures ∙ m.value
