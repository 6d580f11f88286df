use mathlib.Core.Path.{subst}
use Prim.Native.Nat.{◌-◌, ◌*◌, ◌%◌}
use native.Mathlib.Omega.{arith}
use Rattle.bits_nearest.specs.Found.{IsLast}
use Rattle.nav_strings.proofs.Strings.{ready1}
use Rattle.nav_sibling_range.proofs.Near.{near_left}
use Rattle.nav_sibling_range.proofs.run_before.Goals as goal

pub bits_at-requires : goal.bits_at-requires
bits_at-requires c =
    let r = ready1 c.args.b.now c.args.image c.requires.sound in
    omega (arith, r.most)

pub last_one-requires : goal.last_one-requires
last_one-requires c =
    let a = c.args in
    let r = ready1 a.b.now a.image c.requires.sound in
    record { n_bound = omega arith; at_in_bounds = omega (arith, r.most, r.room) }

pub overflow_sub-result : goal.overflow_sub-result
overflow_sub-result c = omega arith

pub overflow_add-result : goal.overflow_add-result
overflow_add-result c = omega (arith, c.in-Some.ensures.within)

pub returns : goal.returns
returns c =
    let found = c.in-Some.found in
    near_left c.requires found (subst (λ p. IsLast c.args.b.now (8 * p) ((c.args.x - 1) % 4000) found) c.bits_at.ensures c.in-Some.ensures)
