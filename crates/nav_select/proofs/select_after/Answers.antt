use mathlib.Core.Path.{◌≡◌, ◌∙◌}
use Prim.Native.Nat.{◌-◌, ◌*◌, ◌/◌}
use native.Mathlib.Omega.{arith}
use Rattle.image_string.specs.Parts.{ones_to}
use Rattle.image_string.proofs.Ones.{ones_to_mono}
use Rattle.nav_rank.proofs.Counts.{kept-count}
use Rattle.nav_select.proofs.Found.{one-there-after, one_found}
use Rattle.nav_select.proofs.select_after.Goals as goal
use Rattle.nav_select.proofs.select_after.Goals.{After-word-earlier}

-- the count of the block that has it
counted : (c : goal.After-word-earlier)
    → let a = c.args in
    c.word-earlier.result ≡ ones_to a.b.now a.bits_block (4000 * c.block_of-j.result)
counted c =
    let a = c.args in
    c.word-earlier.ensures ∙ kept-count a.b.now a.bits_block a.n c.requires.counts_and_padding c.block_of-j.result c.block_of-j.ensures.1

pub block_of-j-requires : goal.block_of-j-requires
block_of-j-requires c =
    let a = c.args in record {
      n_bound = omega arith;
      bits_block_le_most_block = omega arith;
      n_in_bounds = omega arith;
      counts_and_padding = c.requires.counts_and_padding;
      j_bound = omega arith;
      j_bound_2 = omega (arith, ones_to_mono a.b.now a.bits_block (4000 * (a.i / 4000)) a.i (omega arith));
      k_bound = omega arith;
    }

pub overflow_sub-k-then-i-j : goal.overflow_sub-k-then-i-j
overflow_sub-k-then-i-j c = let j = c.block_of-j.ensures in omega (arith, counted (goal.at.overflow_sub-k-then-i-j c).After-word-earlier, j.2)

pub place_after-requires : goal.place_after-requires
place_after-requires c =
    let a = c.args in
    let found = c.block_of-j in
    let j = found.result in
    let e = found.ensures in
    let w = c.word-earlier.result in
    let n = counted (goal.at.place_after-requires c).After-word-earlier in record {
      i_bound = omega arith;
      bits_block_le_most_block = omega arith;
      b_len_bound = omega arith;
      i_in_bounds = omega arith;
      more_bound = one-there-after a.b.now a.bits_block a.n (4000 * j) (a.k - 1 - w) j a.k (omega arith) (omega arith) e.3;
    }

pub returns-then-i-j : goal.returns-then-i-j
returns-then-i-j c =
    let a = c.args in
    let found = c.block_of-j in
    let j = found.result in
    let e = found.ensures in
    let w = c.word-earlier.result in
    let n = counted (goal.at.returns-then-i-j c).After-word-earlier in
    one_found a.b.now a.bits_block a.n (4000 * j) (a.k - 1 - w) j a.k (omega arith) (omega arith) e.3 (omega arith) c.place_after.result c.place_after.ensures

pub place_after-requires-2 : goal.place_after-requires-2
place_after-requires-2 c =
    let a = c.args in
    let found = c.block_of-j in
    let j = found.result in
    let e = found.ensures in record {
      i_bound = omega arith;
      bits_block_le_most_block = omega arith;
      b_len_bound = omega arith;
      i_in_bounds = omega arith;
      more_bound = one-there-after a.b.now a.bits_block a.n a.i (a.k - 1 - a.passed) j a.k (omega arith) (omega arith) e.3;
    }

pub returns : goal.returns
returns c =
    let a = c.args in
    let found = c.block_of-j in
    let j = found.result in
    let e = found.ensures in
    one_found a.b.now a.bits_block a.n a.i (a.k - 1 - a.passed) j a.k (omega arith) (omega arith) e.3 (omega arith) c.place_after-2.result c.place_after-2.ensures
