use mathlib.Core.Path.{◌≡◌, refl}
use Prim.Native.Nat.{◌+◌, ◌*◌}
use native.Mathlib.Omega.{arith}
use Rattle.theory.proofs.Tables.{sum-none}
use Rattle.check_sample_table.proofs.Adding.{summed_more}
use Rattle.check_sample_table.proofs.add_up.Goals as goal

pub loop-turn-init : goal.loop-turn-init
loop-turn-init c = (c.requires.table_len, sum-none c.args.table.now, omega arith, λ q h. absurd (omega arith), λ q h. refl)

pub loop-turn-preserved : goal.loop-turn-preserved
loop-turn-preserved c =
    let few = c.requires.by_index in
    let l = c.loop-turn in
    let w = 3 * l.turn in
    let one = c.put_before-sum in
    let two = c.put_before-sum-in-loop-turn in
    let three = c.put_before-sum-in-loop-turn-2 in
    let after_one = summed_more _ few l.table l.sum w (omega arith) l.invariant one.new.table one.result one.ensures.table_after one.ensures.value in
    let after_two = summed_more _ few one.new.table one.result (w + 1) (omega arith) after_one two.new.table two.result two.ensures.table_after two.ensures.value in
    let e : w + 1 + 1 ≡ w + 2 = omega arith in
    let f : w + 2 + 1 ≡ 3 * (l.turn + 1) = omega arith in
    rw f at (summed_more _ few two.new.table two.result (w + 2) (omega arith) (rw e at after_two) three.new.table three.result three.ensures.table_after three.ensures.value)
