use mathlib.Core.Path.{sym, ap, ◌∙◌}
use Prim.Native.Nat.{◌+◌, ◌-◌, ◌*◌}
use native.Mathlib.Omega.{arith}
use borrow.Author.Count.{below_more}
use Rattle.theory.specs.Layout.{word_at}
use Rattle.bits_count.proofs.Runs.{bits-ones-le}
use Rattle.image_string.proofs.Saying.{decides_held}
use Rattle.check_sample.specs.Words.{bits_in, NamesOne}
use Rattle.check_counts_and_samples.proofs.Numbering.{number-named, none_before, numbers_piece}
use Rattle.check_counts_and_samples.proofs.each_sampled.Goals as goal

pub overflow_add-s-end : goal.overflow_add-s-end
overflow_add-s-end c = omega (arith, bits-ones-le c.args.b.now (8 * c.args.piece.at) (bits_in c.args.piece))

pub loop-s-init : goal.loop-s-init
loop-s-init c =
    let a = c.args in
    let n = bits_in a.piece in
    (c.sample_at-p.ensures, omega (arith, bits-ones-le a.b.now (8 * a.piece.at) n), none_before a.b.now a.samples a.piece.at n a.piece.first a.k)

pub loop-s-preserved : goal.loop-s-preserved
loop-s-preserved c =
    let a = c.args in
    let l = c.loop-s in
    let this =
    decides_held c.sample_right.result
    (NamesOne a.b.now a.piece.at (bits_in a.piece) a.piece.first (64 * l.s + 1 - a.k) (word_at a.b.now l.p)) c.sample_right.ensures
    c.if-not-sample_right.false in
    let right =
    number-named a.b.now a.samples a.piece.at (bits_in a.piece) a.piece.first a.k l.s (omega arith)
    (λ p h e d. ap (word_at a.b.now) (sym l.invariant.0) ∙ this p h e d) in
    (c.next_sample-p.ensures a.samples l.s l.invariant.0, l.invariant.1, below_more _ _ l.invariant.2 right)

pub returns : goal.returns
returns c =
    let a = c.args in
    let l = c.loop-s in
    numbers_piece a.b.now a.samples a.piece.at (bits_in a.piece) a.piece.first a.k l.s a.end c.requires.end_value (omega arith) l.invariant.2
