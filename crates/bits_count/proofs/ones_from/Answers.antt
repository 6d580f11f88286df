use mathlib.Core.Path.{◌≡◌, ap, ap₂, ◌∙◌}
use mathlib.Core.List.{[], ◌∷◌}
use Prim.Native.Nat.{◌+◌, ◌*◌, ◌/◌, ◌%◌}
use native.Mathlib.Omega.{arith}
use lib.ListN.{get_or}
use Rattle.meaning.specs.Strings.{ones}
use Rattle.meaning.specs.Bytes.{bits_from}
use Rattle.bits_count.proofs.Runs.{no_bits, bits-ones-le, front-ones-le, eight_more, one_more, last_more}
use Rattle.bits_count.proofs.ones_from.Goals as goal

pub loop-i-init : goal.loop-i-init
loop-i-init c = no_bits c.args.b.now (8 * c.args.at)

pub overflow_add-count : goal.overflow_add-count
overflow_add-count c =
    let a = c.args in
    let l = c.loop-i in
    omega (arith, bits-ones-le a.b.now (8 * a.at) (8 * (8 * l.i)), bits-ones-le a.b.now (8 * (a.at + 8 * l.i)) 64)

pub loop-i-preserved : goal.loop-i-preserved
loop-i-preserved c =
    let l = c.loop-i in
    let a = c.args in
    ap₂ ◌+◌ l.invariant c.ones_in_word-count.ensures ∙ eight_more a.b.now a.at (8 * l.i)
    ∙ ap (λ k. ones (bits_from a.b.now (8 * a.at) (8 * k))) (let e : 8 * l.i + 8 ≡ 8 * (l.i + 1) = omega arith in e)

pub overflow_add-count-in-loop-i-2 : goal.overflow_add-count-in-loop-i-2
overflow_add-count-in-loop-i-2 c =
    let a = c.args in
    let l = c.loop-i-2 in
    omega (arith, bits-ones-le a.b.now (8 * a.at) (8 * l.i), bits-ones-le (get_or a.b.now (a.at + l.i) 0 ∷ []) 0 8)

pub loop-i-2-preserved : goal.loop-i-2-preserved
loop-i-2-preserved c =
    let l = c.loop-i-2 in
    let a = c.args in
    (omega arith, ap₂ ◌+◌ l.invariant.1 c.ones_in_byte-count.ensures ∙ one_more a.b.now a.at l.i)

pub overflow_add-result : goal.overflow_add-result
overflow_add-result c =
    let a = c.args in
    let l = c.loop-i-2 in
    omega (arith, bits-ones-le a.b.now (8 * a.at) (8 * l.i), front-ones-le (get_or a.b.now (a.at + a.n / 8) 0) (a.n % 8) (omega arith))

pub returns : goal.returns
returns c =
    let a = c.args in
    let l = c.loop-i-2 in
    let n = a.n in
    ap₂ ◌+◌ (l.invariant.1 ∙ ap (λ k. ones (bits_from a.b.now (8 * a.at) (8 * k))) (let e : l.i ≡ n / 8 = omega arith in e))
    c.ones_in_front.ensures ∙ last_more a.b.now a.at n
