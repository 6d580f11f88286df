use Rattle.check_sample_table.proofs.Adding.{counts-few, counts-before}
use Rattle.check_counts_and_samples.proofs.piece_sampled.Goals as goal

pub add_up-requires-clause-by_index : goal.add_up-requires-clause-by_index
add_up-requires-clause-by_index c = counts-few c.args.b.now c.args.piece.at c.count_words.new.table c.count_words.ensures.word_counts

pub each_sampled-requires-clause-counts_before : goal.each_sampled-requires-clause-counts_before
each_sampled-requires-clause-counts_before c =
    let made = c.count_words in
    counts-before c.args.b.now c.args.piece.at made.new.table made.ensures.word_counts c.add_up.new.table c.add_up.ensures
