use Rattle.std.proofs.Common.{◌+◌, refl, ap, ◌∙◌, arith}
use Rattle.theory.specs.Layout.{word_at}
use Rattle.image_sums.proofs.Summing.{sums_next, sums-last}
use Rattle.image_sums.proofs.block_sums.Goals as goal

pub loop-i-init : goal.loop-i-init
loop-i-init c = (0, omega arith, refl, refl)

pub overflow_add-at : goal.overflow_add-at
overflow_add-at c = omega arith

pub word-s-requires : goal.word-s-requires
word-s-requires c = omega arith

pub overflow_add-i : goal.overflow_add-i
overflow_add-i c = omega arith

pub loop-i-smaller : goal.loop-i-smaller
loop-i-smaller c = omega arith

pub loop-i-preserved : goal.loop-i-preserved
loop-i-preserved c =
    let a = c.args in
    let v = c.loop-i.invariant in
    let k = v.0 in
    let word = c.word-s.ensures ∙ ap (λ i. word_at a.b.now (a.at + i)) v.2 in (
      k + 1,
      omega arith,
      omega arith,
      sums_next a.b.now a.at (omega arith) k _ _ _ _ _ _ (omega arith) v.3 word refl refl,
    )

pub returns : goal.returns
returns c =
    let a = c.args in
    let v = c.loop-i.invariant in
    sums-last a.b.now a.at (omega arith) v.0 _ _ _ (omega arith) v.3
