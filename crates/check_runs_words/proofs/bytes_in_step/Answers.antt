use mathlib.Core.Path.{◌≡◌, ap, ◌∙◌}
use Prim.Native.Nat.{◌+◌, ◌*◌, ◌/◌, ◌%◌}
use native.Mathlib.Omega.{arith}
use Rattle.meaning.specs.Strings.{ones}
use Rattle.meaning.specs.Bytes.{bits_from}
use Rattle.check_runs_words.specs.Steps.{StepAt}
use Rattle.bits_count.proofs.Runs.{bits-ones-le, whole_byte_run, ones-after}
use Rattle.image_string.proofs.Saying.{decides_held, decides_missed, decides_same}
use Rattle.check_runs_words.proofs.BytesStepping.{step-none, step_join, step_part}
use Rattle.check_runs_words.proofs.bytes_in_step.Goals as goal

pub loop-i-init : goal.loop-i-init
loop-i-init c =
    let a = c.args in
    (omega (arith, bits-ones-le a.b.now (8 * a.at1) 0), omega (arith, bits-ones-le a.b.now (8 * a.at0) 0), step-none a.b.now a.at1 a.at0 a.ones1 a.ones0)

pub byte_in_step-requires-clause-ones1_bound : goal.byte_in_step-requires-clause-ones1_bound
byte_in_step-requires-clause-ones1_bound c = omega (arith, bits-ones-le c.args.b.now (8 * c.args.at1) (8 * c.loop-i.i))

pub byte_in_step-requires-clause-ones0_bound : goal.byte_in_step-requires-clause-ones0_bound
byte_in_step-requires-clause-ones0_bound c = omega (arith, bits-ones-le c.args.b.now (8 * c.args.at0) (8 * c.loop-i.i))

pub byte_in_step-requires-clause-more_value : goal.byte_in_step-requires-clause-more_value
byte_in_step-requires-clause-more_value c = c.ones_in_byte-more.ensures ∙ whole_byte_run c.args.b.now (c.args.at1 + c.loop-i.i)

pub returns-then-not-byte_in_step : goal.returns-then-not-byte_in_step
returns-then-not-byte_in_step c = λ all.
    let a = c.args in
    let l = c.loop-i in
    decides_missed c.byte_in_step.result (StepAt a.b.now (a.at1 + l.i) (a.at0 + l.i) 8 l.before1 l.before0) c.byte_in_step.ensures c.if-not-byte_in_step.true
    (step_part a.b.now a.at1 a.at0 a.ones1 a.ones0 l.i l.before1 l.before0 l.invariant.0 l.invariant.1 8 a.n (omega arith) all)

pub overflow_add-before1 : goal.overflow_add-before1
overflow_add-before1 c =
    let a = c.args in
    let b = a.b.now in
    let i = c.loop-i.i in
    omega (arith, whole_byte_run b (a.at1 + i), bits-ones-le b (8 * a.at1) (8 * i), bits-ones-le b (8 * (a.at1 + i)) 8)

pub overflow_add-before0 : goal.overflow_add-before0
overflow_add-before0 c =
    let a = c.args in
    let b = a.b.now in
    let i = c.loop-i.i in
    omega (arith, whole_byte_run b (a.at0 + i), bits-ones-le b (8 * a.at0) (8 * i), bits-ones-le b (8 * (a.at0 + i)) 8)

pub loop-i-preserved : goal.loop-i-preserved
loop-i-preserved c =
    let a = c.args in
    let b = a.b.now in
    let l = c.loop-i in
    let i = l.i in
    let next : 8 * i + 8 ≡ 8 * (i + 1) = omega arith in (
      omega (arith, whole_byte_run b (a.at1 + i), ones-after b a.at1 i 8, ap (λ m. ones (bits_from b (8 * a.at1) m)) next),
      omega (arith, whole_byte_run b (a.at0 + i), ones-after b a.at0 i 8, ap (λ m. ones (bits_from b (8 * a.at0) m)) next),
      step_join b a.at1 a.at0 a.ones1 a.ones0 i l.before1 l.before0 l.invariant.0 l.invariant.1 8 (8 * (i + 1)) next l.invariant.2
          (decides_held c.byte_in_step.result (StepAt b (a.at1 + i) (a.at0 + i) 8 l.before1 l.before0) c.byte_in_step.ensures c.if-not-byte_in_step.false),
    )

pub bits_in_step-requires-clause-n_bound_2 : goal.bits_in_step-requires-clause-n_bound_2
bits_in_step-requires-clause-n_bound_2 c = omega (arith, bits-ones-le c.args.b.now (8 * c.args.at1) (8 * c.loop-i.i))

pub bits_in_step-requires-clause-n_bound_3 : goal.bits_in_step-requires-clause-n_bound_3
bits_in_step-requires-clause-n_bound_3 c = omega (arith, bits-ones-le c.args.b.now (8 * c.args.at0) (8 * c.loop-i.i))

pub returns : goal.returns
returns c =
    let a = c.args in
    let b = a.b.now in
    let l = c.loop-i in
    let i = a.n / 8 in
    let e : l.i ≡ i = omega arith in
    let r = a.n % 8 in
    let one = l.invariant.0 ∙ ap (λ k. a.ones1 + ones (bits_from b (8 * a.at1) (8 * k))) e in
    let zero = l.invariant.1 ∙ ap (λ k. a.ones0 + ones (bits_from b (8 * a.at0) (8 * k))) e in
    decides_same c.bits_in_step.result (StepAt b (a.at1 + i) (a.at0 + i) r l.before1 l.before0) (StepAt b a.at1 a.at0 a.n a.ones1 a.ones0)
    (step_join b a.at1 a.at0 a.ones1 a.ones0 i l.before1 l.before0 one zero r a.n (omega arith) (λ p h. l.invariant.2 p (omega arith)))
    (step_part b a.at1 a.at0 a.ones1 a.ones0 i l.before1 l.before0 one zero r a.n (omega arith))
    c.bits_in_step.ensures
