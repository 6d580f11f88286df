use mathlib.Core.Path.{◌≡◌, ap}
use Prim.Native.Nat.{◌+◌, ◌*◌, ◌≤◌}
use native.Mathlib.Omega.{arith}
use lib.ListN.{get_or}
use Rattle.meaning.specs.Strings.{ones}
use Rattle.meaning.specs.Bytes.{bits_from}
use Rattle.bits_count.proofs.Runs.{bits-ones-le, ones-after}
use Rattle.check_sample_table.specs.Table.{CountsBefore}
use Rattle.check_sample_table.proofs.Adding.{counts-few, counts-before}
use Rattle.check_sample.specs.Words.{bits_in}
use Rattle.check_counts_and_samples.specs.Pieces.{PieceSampled}
use Rattle.image_string.proofs.Saying.{decides_same}
use Rattle.check_counts_and_samples.proofs.full_piece_right.Goals as goal
use Rattle.check_counts_and_samples.proofs.full_piece_right.Goals.{After-add_up, After-ones_from}

pub add_up-requires-clause-by_index : goal.add_up-requires-clause-by_index
add_up-requires-clause-by_index c = counts-few c.args.b.now c.args.piece.at c.count_words.new.table c.count_words.ensures.word_counts

counts : (c : goal.After-add_up) → CountsBefore c.args.b.now c.args.piece.at c.add_up.new.table
counts c =
    let a = c.args in
    let made = c.count_words in
    counts-before a.b.now a.piece.at made.new.table made.ensures.word_counts c.add_up.new.table c.add_up.ensures

few : (c : goal.After-add_up) → get_or c.add_up.new.table 62 0 ≤ 3968
few c =
    let a = c.args in
    omega (arith, counts c 62 (omega arith), bits-ones-le a.b.now (8 * a.piece.at) 3968)

pub overflow_cast-table : goal.overflow_cast-table
overflow_cast-table c = omega (arith, few (goal.at.overflow_cast-table c).After-add_up)

pub overflow_add-k : goal.overflow_add-k
overflow_add-k c = omega (arith, few (goal.at.overflow_add-k c).After-add_up)

whole : (c : goal.After-ones_from) → let a = c.args in
    get_or c.add_up.new.table 62 0 + c.ones_from.result ≡ ones (bits_from a.b.now (8 * a.piece.at) (bits_in a.piece))
whole c =
    let a = c.args in
    let all = ap (λ n. ones (bits_from a.b.now (8 * a.piece.at) n)) c.requires.piece_value in
    let made = c.count_words in
    let counted = counts-before a.b.now a.piece.at made.new.table made.ensures.word_counts c.add_up.new.table c.add_up.ensures in
    omega (arith, counted 62 (omega arith), c.ones_from.ensures, ones-after a.b.now a.piece.at 496 32, all)

pub overflow_add-k-2 : goal.overflow_add-k-2
overflow_add-k-2 c =
    let a = c.args in
    omega (arith, few (goal.at.overflow_add-k-2 c).After-add_up, whole (goal.at.overflow_add-k-2 c).After-ones_from, bits-ones-le a.b.now (8 * a.piece.at) (bits_in a.piece))

pub returns-then-k-table : goal.returns-then-k-table
returns-then-k-table c = λ p. c.if-k-table.true (omega (arith, whole (goal.at.returns-then-k-table c).After-ones_from, p.0))

pub each_sampled-requires-clause-end_value : goal.each_sampled-requires-clause-end_value
each_sampled-requires-clause-end_value c = omega (arith, whole (goal.at.each_sampled-requires-clause-end_value c).After-ones_from, c.if-k-table.false)

pub each_sampled-requires-clause-counts_before : goal.each_sampled-requires-clause-counts_before
each_sampled-requires-clause-counts_before c = counts (goal.at.each_sampled-requires-clause-counts_before c).After-add_up

pub returns : goal.returns
returns c =
    let a = c.args in
    let e : a.end ≡ a.k + ones (bits_from a.b.now (8 * a.piece.at) (bits_in a.piece)) = omega (arith, whole (goal.at.returns c).After-ones_from, c.if-k-table.false) in
    decides_same c.each_sampled.result (PieceSampled a.b.now a.samples a.piece.at (bits_in a.piece) a.piece.first a.k)
    ((a.end ≡ a.k + ones (bits_from a.b.now (8 * a.piece.at) (bits_in a.piece))) × PieceSampled a.b.now a.samples a.piece.at (bits_in a.piece) a.piece.first a.k)
    (λ s. (e, s)) (λ p. p.1) c.each_sampled.ensures
