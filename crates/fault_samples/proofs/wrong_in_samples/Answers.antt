use mathlib.Core.Path.{◌≡◌, refl, sym, ap, ◌∙◌}
use Prim.Native.Nat.{◌+◌, ◌-◌, ◌*◌, ◌/◌, ◌≤◌}
use native.Mathlib.Omega.{arith}
use Rattle.std.specs.Prelude.{Some, None}
use Rattle.meaning.specs.Image.{string_in}
use Rattle.theory.specs.Layout.{word_at, sample_in}
use Rattle.theory.proofs.InBlocks.{no_string}
use Rattle.image_string.specs.Parts.{ones_to}
use Rattle.image_string.proofs.Blanks.{kept-counts}
use Rattle.nav_select.proofs.Found.{one-start}
use Rattle.fault_samples.proofs.Wrong.{sampled_more, front-sampled, none_wrong, wrong_sample_lem}
use Rattle.fault_samples.proofs.wrong_in_samples.Goals as goal
use Rattle.fault_samples.proofs.wrong_in_samples.Goals.{After-select_after-place, After-word, After-word-passed}

-- the ones before the block in which the walk begins
counted : (c : goal.After-word-passed)
    → let a = c.args in
    c.word-passed.result ≡ ones_to a.b.now a.bits_block (4000 * c.blocks_right-j.result)
counted c =
    let a = c.args in
    c.word-passed.ensures
    ∙ kept-counts a.b.now a.bits_block a.n c.requires.le_n c.requires.counts_and_padding c.blocks_right-j.result (omega (arith, c.blocks_right-j.ensures.inside))

-- the sample that is read
read : (c : goal.After-word)
    → let a = c.args in
    c.word.result ≡ sample_in a.b.now a.samples c.loop-s.s
read c = c.word.ensures ∙ ap (word_at c.args.b.now) c.sample_at.ensures

-- where its one is
found : (c : goal.After-select_after-place)
    → let a = c.args in
    let x = c.select_after-place.result in
    (1 ≤ x) × (x ≤ a.n) × (ones_to a.b.now a.bits_block (x - 1) ≡ 64 * c.loop-s.s)
found c =
    let a = c.args in
    one-start a.b.now a.bits_block a.n (64 * c.loop-s.s) c.select_after-place.result (omega (arith, c.requires.m_value, c.loop-s-test.true)) c.select_after-place.ensures

pub blocks_right-j-requires-clause-bits_block_value : goal.blocks_right-j-requires-clause-bits_block_value
blocks_right-j-requires-clause-bits_block_value c =
    let a = c.args in
    ap (word_at a.b.now) (let e : 512 * a.bits_block ≡ 512 * (a.bits_block + 0) = omega arith in e)
    ∙ kept-counts a.b.now a.bits_block a.n c.requires.le_n c.requires.counts_and_padding 0 (omega arith) ∙ sym (no_string a.b.now a.bits_block)

pub loop-s-init : goal.loop-s-init
loop-s-init c =
    let a = c.args in
    let j = c.blocks_right-j in
    let e = counted (goal.at.loop-s-init c).After-word-passed in (
      omega (arith, j.ensures.inside),
      e,
      omega arith,
      λ q h. front-sampled a.b.now a.samples a.bits_block a.n (4000 * j.result) q (omega (arith, j.ensures.inside)) j.ensures.sampled (omega arith),
    )

pub returns-then-word-place : goal.returns-then-word-place
returns-then-word-place c =
    let a = c.args in
    let x = c.select_after-place in
    wrong_sample_lem a.b.now a.samples a.m (string_in a.b.now a.bits_block 0 a.n) c.requires.m_value c.loop-s.s (Some (a.samples + c.loop-s.s / 126))
    c.loop-s-test.true c.loop-s.invariant.3 (λ e. c.if-word-place.true (read (goal.at.returns-then-word-place c).After-word ∙ e ∙ sym x.ensures)) refl

pub overflow_sub-i : goal.overflow_sub-i
overflow_sub-i c = omega (arith, (found (goal.at.overflow_sub-i c).After-select_after-place).0)

pub loop-s-preserved : goal.loop-s-preserved
loop-s-preserved c =
    let a = c.args in
    let x = c.select_after-place in
    let at = found (goal.at.loop-s-preserved c).After-select_after-place in (
      omega (arith, at.0, at.1),
      sym at.2,
      omega arith,
      sampled_more a.b.now a.samples (string_in a.b.now a.bits_block 0 a.n) c.loop-s.s c.loop-s.invariant.3 (sym (read (goal.at.loop-s-preserved c).After-word) ∙ c.if-word-place.false ∙ x.ensures),
    )

pub returns : goal.returns
returns c =
    let a = c.args in
    none_wrong a.b.now a.samples a.m (string_in a.b.now a.bits_block 0 a.n) c.requires.m_value None
    (λ q h. c.loop-s.invariant.3 q (omega (arith, c.loop-s-test.false))) c.requires.by_index refl
