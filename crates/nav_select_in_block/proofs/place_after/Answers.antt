use mathlib.Core.Path.{ap, ◌∙◌}
use Prim.Native.Nat.{◌+◌, ◌-◌, ◌*◌, ◌/◌, ◌%◌, ◌≤◌}
use native.Mathlib.Omega.{arith}
use lib.ListN.{length}
use Rattle.meaning.specs.Strings.{ones}
use Rattle.meaning.specs.Bytes.{bits_from}
use Rattle.theory.proofs.Packing.{bits-length, bits-cut}
use Rattle.bits_count.proofs.Runs.{bits-ones-le}
use Rattle.bits_select.proofs.Reaching.{place-le}
use Rattle.nav_select_in_block.proofs.Blocks.{after_read, after_is}
use Rattle.nav_select_in_block.proofs.place_after.Goals as goal
use Rattle.nav_select_in_block.proofs.place_after.Goals.{After-ones_in_front-passed}

-- the one is in what is read
there : (c : goal.After-ones_in_front-passed)
    → let bits = c.before.before in
    let a = c.args in
    let at = c.bits_at.result + a.i % 4000 / 8 in
    c.ones_in_front-passed.result + a.more + 1 ≤ ones (bits_from a.b.now (8 * at) (8 * (length a.b.now - 7 - at)))
there c =
    let bits = c.before.before in
    let a = c.args in
    let at = c.bits_at.result + a.i % 4000 / 8 in
    after_read a.b.now a.bits_block a.i at (omega arith) c.ones_in_front-passed.result a.more c.ones_in_front-passed.ensures c.requires.more_bound
    (length a.b.now) c.requires.i_in_bounds

most : (c : goal.After-ones_in_front-passed) → let a = c.args in
    c.ones_in_front-passed.result + a.more + 1 ≤ 8 * length a.b.now
most c =
    let a = c.args in
    let at = c.bits_at.result + a.i % 4000 / 8 in
    let n = length a.b.now in
    omega (arith, there c, bits-ones-le a.b.now (8 * at) (8 * (n - 7 - at)))

pub overflow_cast-more : goal.overflow_cast-more
overflow_cast-more c = omega (arith, most (goal.at.overflow_cast-more c).After-ones_in_front-passed)

pub overflow_add-passed : goal.overflow_add-passed
overflow_add-passed c = omega (arith, most (goal.at.overflow_add-passed c).After-ones_in_front-passed)

pub overflow_add-passed-2 : goal.overflow_add-passed-2
overflow_add-passed-2 c = omega (arith, most (goal.at.overflow_add-passed-2 c).After-ones_in_front-passed)

pub place_from-requires-clause-k_bound : goal.place_from-requires-clause-k_bound
place_from-requires-clause-k_bound c = there (goal.at.place_from-requires-clause-k_bound c).After-ones_in_front-passed

pub overflow_add-result : goal.overflow_add-result
overflow_add-result c =
    let a = c.args in
    let b = a.b.now in
    let at = c.bits_at.result + a.i % 4000 / 8 in
    let n = length b in
    let k = c.ones_in_front-passed.result + a.more + 1 in
    omega (arith, c.place_from.ensures, place-le (bits_from b) (bits-cut b) (bits-length b) (8 * at) (8 * (n - 7 - at)) k)

pub returns : goal.returns
returns c =
    let a = c.args in
    let at = c.bits_at.result + a.i % 4000 / 8 in
    let front = c.ones_in_front-passed in
    ap (λ n. a.i - a.i % 8 + n) c.place_from.ensures
    ∙ after_is a.b.now a.bits_block a.i at (omega arith) front.result a.more front.ensures c.requires.more_bound (length a.b.now) c.requires.i_in_bounds
