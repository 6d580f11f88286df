use mathlib.Core.Path.{◌≡◌, subst}
use Prim.Native.Nat.{◌+◌, ◌-◌, ◌*◌}
use native.Mathlib.Omega.{arith}
use lib.ListN.{length}
use Rattle.meaning.specs.Bytes.{bits_from}
use Rattle.theory.proofs.Packing.{bits-length, bits-cut}
use Rattle.bits_count.proofs.Runs.{bits-ones-le}
use Rattle.bits_select.proofs.Reaching.{place-le, Reached, reached_past, reached_place}
use Rattle.bits_select.proofs.place_from.Goals as goal
use Rattle.bits_select.proofs.place_from.Goals.{In-loop-here}

-- the word at i does not have it
next : (c : goal.In-loop-here)
    → let a = c.args in
    let l = c.loop-here in
    Reached a.b.now a.at (length a.b.now - 7 - a.at) a.k (l.i + 8) (length a.b.now - 7 - (l.i + 8)) (l.need - l.here)
next c =
    let a = c.args in
    let b = a.b.now in
    let l = c.loop-here in
    subst (λ v. Reached b a.at (length b - 7 - a.at) a.k (l.i + 8) v (l.need - l.here)) (let e : length b - 7 - l.i - 8 ≡ length b - 7 - (l.i + 8) = omega arith in e)
    (reached_past b a.at (length b - 7 - a.at) a.k l.i (length b - 7 - l.i) l.need 8 l.here l.invariant.1 l.invariant.0 c.loop-here-test.true)

pub ones_in_word-here-requires : goal.ones_in_word-here-requires
ones_in_word-here-requires c =
    let a = c.args in
    omega (arith, bits-ones-le a.b.now (8 * a.at) (8 * (length a.b.now - 7 - a.at)))

pub overflow_add-i : goal.overflow_add-i
overflow_add-i c = let r = next (goal.at.overflow_add-i c).In-loop-here in omega (arith, r.end)

pub ones_in_word-here-requires-in-loop-here : goal.ones_in_word-here-requires-in-loop-here
ones_in_word-here-requires-in-loop-here c =
    let r = next (goal.at.ones_in_word-here-requires-in-loop-here c).In-loop-here in
    let a = c.args in
    let n = length a.b.now in
    let i = c.loop-here.i + 8 in
    omega (arith, r.some, r.there, bits-ones-le a.b.now (8 * i) (8 * (n - 7 - i)))

pub loop-here-smaller : goal.loop-here-smaller
loop-here-smaller c =
    let r = next (goal.at.loop-here-smaller c).In-loop-here in
    let a = c.args in
    let n = length a.b.now in
    let i = c.loop-here.i + 8 in
    omega (arith, r.some, r.there, bits-ones-le a.b.now (8 * i) (8 * (n - 7 - i)))

pub loop-here-preserved : goal.loop-here-preserved
loop-here-preserved c = (next (goal.at.loop-here-preserved c).In-loop-here, c.ones_in_word-here-in-loop-here.ensures)

pub place_in_word-requires : goal.place_in_word-requires
place_in_word-requires c =
    let a = c.args in
    let l = c.loop-here in
    let r = l.invariant.0 in
    let n = length a.b.now in
    record { le_k = r.some; at_in_bounds = omega (arith, r.some, r.there, bits-ones-le a.b.now (8 * l.i) (8 * (n - 7 - l.i))); k_bound = omega arith }

pub overflow_add-result : goal.overflow_add-result
overflow_add-result c =
    let a = c.args in
    let l = c.loop-here in
    let r = l.invariant.0 in
    omega (arith, r.end, place-le (bits_from a.b.now) (bits-cut a.b.now) (bits-length a.b.now) (8 * l.i) 64 l.need)

pub returns : goal.returns
returns c =
    let a = c.args in
    let b = a.b.now in
    let l = c.loop-here in
    reached_place b a.at (length b - 7 - a.at) a.k l.i (length b - 7 - l.i) l.need 8 l.here l.invariant.1 l.invariant.0 c.loop-here-test.false
    c.place_in_word.result c.place_in_word.ensures
