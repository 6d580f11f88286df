use mathlib.Core.Path.{sym, ◌∙◌}
use Prim.Native.Nat.{◌+◌, ◌-◌, ◌*◌, ◌/◌, ◌%◌, ◌≤◌}
use native.Mathlib.Omega.{arith}
use lib.ListN.{get_or}
use Rattle.theory.specs.Layout.{word_at}
use Rattle.bits_count.proofs.Runs.{bits-ones-le}
use Rattle.bits_count.proofs.Words.{ending_le}
use Rattle.image_string.proofs.Saying.{decides_is}
use Rattle.check_sample.specs.Words.{bits_in, NamesOne}
use Rattle.check_sample.proofs.Naming.{named, named_inside, named-one, one-counted, counted-one}
use Rattle.check_sample.proofs.sample_right.Goals as goal
use Rattle.check_sample.proofs.sample_right.Goals.{After-result-1}

pub returns-then-place-first : goal.returns-then-place-first
returns-then-place-first c = λ all.
    let a = c.args in
    omega (
      arith,
      (named_inside a.b.now a.piece.at (bits_in a.piece) a.piece.first a.nth c.word-place.result (omega arith) (omega arith)
          (λ p l e d. c.word-place.ensures ∙ all p l e d)).0,
    )

pub returns-then-last-place : goal.returns-then-last-place
returns-then-last-place c = λ all.
    let a = c.args in
    omega (
      arith,
      (named_inside a.b.now a.piece.at (bits_in a.piece) a.piece.first a.nth c.word-place.result (omega arith) (omega arith)
          (λ p l e d. c.word-place.ensures ∙ all p l e d)).1,
    )

pub returns-then-upto-eq0 : goal.returns-then-upto-eq0
returns-then-upto-eq0 c = λ all.
    let a = c.args in
    let w = c.word-place in
    let o = w.result - a.piece.first in
    let one = named-one a.b.now a.piece.at (bits_in a.piece) a.piece.first a.nth w.result (omega arith) (omega arith) (λ p l e d. w.ensures ∙ all p l e d) in
    omega (
      arith,
      (one-counted a.b.now a.piece.at o (get_or a.table.now (o / 64) 0) c.ones_ending-upto.result (c.requires.counts_before (o / 64) (omega arith))
          c.ones_ending-upto.ensures one.0).0,
    )

-- what the table has is no more than the bits before
before : (c : goal.After-result-1)
    → let a = c.args in
    get_or a.table.now ((c.word-place.result - a.piece.first) / 64) 0 + c.ones_ending-upto.result ≤ 10000
before c =
    let a = c.args in
    let o = c.word-place.result - a.piece.first in
    omega (
      arith,
      c.requires.counts_before (o / 64) (omega arith),
      bits-ones-le a.b.now (8 * a.piece.at) (64 * (o / 64)),
      ending_le a.b.now (8 * (a.piece.at + 8 * (o / 64))) (o % 64) c.ones_ending-upto.result (omega arith) c.ones_ending-upto.ensures,
    )

pub returns : goal.returns
returns c =
    let a = c.args in
    let w = c.word-place in
    let o = w.result - a.piece.first in
    let r = c.ones_ending-upto.result in
    let t = get_or a.table.now (o / 64) 0 in
    let counts = c.requires.counts_before (o / 64) (omega arith) in
    decides_is (t + r) a.nth (NamesOne a.b.now a.piece.at (bits_in a.piece) a.piece.first a.nth (word_at a.b.now a.p))
    (λ h.
    let one = counted-one a.b.now a.piece.at o t r counts c.ones_ending-upto.ensures c.if-upto-eq0.false in
    let here = one-counted a.b.now a.piece.at o t r counts c.ones_ending-upto.ensures one in
    λ p l e d. sym w.ensures ∙ named a.b.now a.piece.at (bits_in a.piece) a.piece.first a.nth w.result (omega arith) one (sym here.1 ∙ h) p l e d)
    (λ all.
    let one = named-one a.b.now a.piece.at (bits_in a.piece) a.piece.first a.nth w.result (omega arith) (omega arith) (λ p l e d. w.ensures ∙ all p l e d) in
    (one-counted a.b.now a.piece.at o t r counts c.ones_ending-upto.ensures one.0).1 ∙ one.1)
