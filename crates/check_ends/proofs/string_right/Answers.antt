use native.Mathlib.Omega.{arith}
use Rattle.image_string.proofs.Saying.{decides_held, decides_missed, decides_same}
use Rattle.check_ends.proofs.string_right.Goals as goal

pub padding_right-requires : goal.padding_right-requires
padding_right-requires c = record { le_n = omega arith; n_bound = omega arith; bits_block_le_most_block = omega arith; n_in_bounds = omega arith; counted = c.requires.counted }

pub returns-then-not-padding_right : goal.returns-then-not-padding_right
returns-then-not-padding_right c = λ s. decides_missed c.padding_right.result _ c.padding_right.ensures c.if-not-padding_right.true s.kept

pub string_ended-requires : goal.string_ended-requires
string_ended-requires c = record { le_n = omega arith; n_bound = omega arith; bits_block_le_most_block = omega arith; n_in_bounds = omega arith; counted = c.requires.counted }

pub returns : goal.returns
returns c =
    let k = decides_held c.padding_right.result _ c.padding_right.ensures c.if-not-padding_right.false in
    decides_same c.string_ended.result _ _ (λ e. record { kept = k; ended = e }) (λ s. s.ended) c.string_ended.ensures
