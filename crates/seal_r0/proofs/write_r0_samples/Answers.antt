use mathlib.Core.Path.{◌∙◌, ap, subst}
use native.Mathlib.Omega.{arith}
use Rattle.theory.specs.Layout.{word_at}
use Rattle.theory.specs.Stages.{blocks_of_samples}
use Rattle.image_words.specs.Words.{with_word}
use Rattle.parents_check.proofs.Rising.{good_parents}
use Rattle.seal_r1.specs.Passes.{Blank}
use Rattle.seal_r0.proofs.Following.{following_first, following_last, following_place, following_small, following_next}
use Rattle.seal_r0.proofs.write_r0_samples.Goals as goal

pub loop-s-init : goal.loop-s-init
loop-s-init c =
    following_first _ _ _ (subst (λ k. Blank c.args.image.now c.args.r0_samples (blocks_of_samples k)) c.requires.m_value c.requires.blank)

pub overflow_sub-place : goal.overflow_sub-place
overflow_sub-place c =
    let a = c.args in
    let are = good_parents a.ps.now c.requires.in_bounds c.requires.ps_value in
    (following_place a.ps.now a.image.now c.loop-s.image a.r1_samples a.r0_samples c.loop-s.s are c.loop-s.invariant c.requires.r1samples_known (omega arith)
    (omega arith) c.requires.ps_len_bound (omega arith) c.word-place.result (c.word-place.ensures ∙ ap (word_at c.loop-s.image) c.sample_at.ensures)).0

pub next_entry-next-requires : goal.next_entry-next-requires
next_entry-next-requires c =
    let a = c.args in
    let are = good_parents a.ps.now c.requires.in_bounds c.requires.ps_value in
    let f =
    following_place a.ps.now a.image.now c.loop-s.image a.r1_samples a.r0_samples c.loop-s.s are c.loop-s.invariant c.requires.r1samples_known (omega arith)
    (omega arith) c.requires.ps_len_bound (omega arith) c.word-place.result (c.word-place.ensures ∙ ap (word_at c.loop-s.image) c.sample_at.ensures) in
    record { i_in_bounds = omega (arith, f.0, f.1); ps_len_bound = c.requires.ps_len_bound }

pub overflow_cast-next : goal.overflow_cast-next
overflow_cast-next c =
    let a = c.args in
    let are = good_parents a.ps.now c.requires.in_bounds c.requires.ps_value in
    omega (
      arith,
      following_small a.ps.now a.image.now c.loop-s.image a.r1_samples a.r0_samples c.loop-s.s are c.loop-s.invariant c.requires.r1samples_known (omega arith)
          (omega arith) c.requires.ps_len_bound (omega arith) c.word-place.result
          (c.word-place.ensures ∙ ap (word_at c.loop-s.image) c.sample_at.ensures) c.next_entry-next.result
          c.next_entry-next.ensures,
    )

pub loop-s-preserved : goal.loop-s-preserved
loop-s-preserved c =
    let apart = c.requires.m_bound in
    let fits = c.requires.m_in_bounds in
    let a = c.args in
    let are = good_parents a.ps.now c.requires.in_bounds c.requires.ps_value in
    following_next a.ps.now a.image.now c.loop-s.image a.r1_samples a.r0_samples c.loop-s.s are c.loop-s.invariant c.requires.r1samples_known (omega (arith, apart))
    (omega (arith, fits)) c.requires.ps_len_bound (omega arith) c.word-place.result
    (c.word-place.ensures ∙ ap (word_at c.loop-s.image) c.sample_at.ensures)
    c.next_entry-next.result c.next_entry-next.ensures _
    (c.put_word.ensures ∙ ap (λ p. with_word c.loop-s.image p c.next_entry-next.result) c.sample_at-in-loop-s.ensures)

pub returns : goal.returns
returns c =
    let a = c.args in
    let are = good_parents a.ps.now c.requires.in_bounds c.requires.ps_value in
    following_last a.ps.now a.image.now c.loop-s.image a.r1_samples a.r0_samples c.loop-s.s are c.loop-s.invariant (omega arith)
