use mathlib.Core.Path.{◌≡◌, ap, ◌∙◌}
use Prim.Native.Nat.{◌+◌, ◌-◌, ◌*◌, ◌/◌, ◌%◌}
use native.Mathlib.Omega.{arith}
use Rattle.meaning.specs.Strings.{ones}
use Rattle.meaning.specs.Bytes.{bits_from}
use Rattle.check_runs_words.specs.Steps.{StepAt}
use Rattle.bits_count.proofs.Runs.{bits-ones-le, ones-after}
use Rattle.check_runs_words.proofs.Stepping.{word_apart, word-few}
use Rattle.check_runs.proofs.WordsStepping.{step_with, step_left}
use Rattle.image_string.proofs.Saying.{decides_held, decides_missed, decides_same}
use Rattle.check_runs_words.proofs.BytesStepping.{step-none, step_join, step_part}
use Rattle.check_runs.proofs.words_in_step.Goals as goal

pub loop-w-init : goal.loop-w-init
loop-w-init c =
    let a = c.args in
    (0, omega (arith, bits-ones-le a.b.now (8 * a.at1) 0), omega (arith, bits-ones-le a.b.now (8 * a.at0) 0), step-none a.b.now a.at1 a.at0 a.ones1 a.ones0)

pub word_in_step-requires-clause-ones1_bound : goal.word_in_step-requires-clause-ones1_bound
word_in_step-requires-clause-ones1_bound c = omega (arith, bits-ones-le c.args.b.now (8 * c.args.at1) (8 * (8 * c.loop-w.w)))

pub word_in_step-requires-clause-ones0_bound : goal.word_in_step-requires-clause-ones0_bound
word_in_step-requires-clause-ones0_bound c = omega (arith, bits-ones-le c.args.b.now (8 * c.args.at0) (8 * (8 * c.loop-w.w)))

pub returns-then-not-word_in_step : goal.returns-then-not-word_in_step
returns-then-not-word_in_step c = λ all.
    let a = c.args in
    let l = c.loop-w in
    let i = 8 * l.w in
    let s = l.invariant.0 in
    decides_missed c.word_in_step.result (StepAt a.b.now (a.at1 + i) (a.at0 + i) 64 l.before1 l.before0) c.word_in_step.ensures c.if-not-word_in_step.true
    (step_left a.b.now (a.at1 + i) (a.at0 + i) 64 l.before1 l.before0 s
    (step_part a.b.now a.at1 a.at0 a.ones1 a.ones0 i (l.before1 + s) (l.before0 + s) l.invariant.1 l.invariant.2 64 a.n (omega arith) all))

pub overflow_add-before1 : goal.overflow_add-before1
overflow_add-before1 c =
    let a = c.args in
    let b = a.b.now in
    let i = 8 * c.loop-w.w in
    omega (arith, bits-ones-le b (8 * a.at1) (8 * i), word-few b (a.at1 + i) (a.at0 + i), bits-ones-le b (8 * (a.at1 + i)) 64)

pub overflow_add-before0 : goal.overflow_add-before0
overflow_add-before0 c =
    let a = c.args in
    let b = a.b.now in
    let i = 8 * c.loop-w.w in
    omega (arith, bits-ones-le b (8 * a.at0) (8 * i), word-few b (a.at0 + i) (a.at1 + i), bits-ones-le b (8 * (a.at0 + i)) 64)

pub loop-w-preserved : goal.loop-w-preserved
loop-w-preserved c =
    let a = c.args in
    let b = a.b.now in
    let l = c.loop-w in
    let i = 8 * l.w in
    let s = l.invariant.0 in
    let next : 8 * i + 64 ≡ 8 * (8 * (l.w + 1)) = omega arith in
    let few = word-few b (a.at1 + i) (a.at0 + i) in
    let apart = word_apart b (a.at1 + i) (a.at0 + i) in (
      s + (ones (bits_from b (8 * (a.at1 + i)) 64) - c.ones_without-more.result),
      omega (arith, ones-after b a.at1 i 64, ap (λ m. ones (bits_from b (8 * a.at1) m)) next),
      omega (arith, ones-after b a.at0 i 64, ap (λ m. ones (bits_from b (8 * a.at0) m)) next),
      step_join b a.at1 a.at0 a.ones1 a.ones0 i (l.before1 + s) (l.before0 + s) l.invariant.1 l.invariant.2 64 (8 * (8 * (l.w + 1))) next l.invariant.3
          (step_with b (a.at1 + i) (a.at0 + i) 64 l.before1 l.before0 s
          (decides_held c.word_in_step.result (StepAt b (a.at1 + i) (a.at0 + i) 64 l.before1 l.before0) c.word_in_step.ensures c.if-not-word_in_step.false)),
    )

pub bytes_in_step-requires-clause-n_bound_2 : goal.bytes_in_step-requires-clause-n_bound_2
bytes_in_step-requires-clause-n_bound_2 c = omega (arith, bits-ones-le c.args.b.now (8 * c.args.at1) (8 * (8 * c.loop-w.w)))

pub bytes_in_step-requires-clause-n_bound_3 : goal.bytes_in_step-requires-clause-n_bound_3
bytes_in_step-requires-clause-n_bound_3 c = omega (arith, bits-ones-le c.args.b.now (8 * c.args.at0) (8 * (8 * c.loop-w.w)))

pub returns : goal.returns
returns c =
    let a = c.args in
    let b = a.b.now in
    let l = c.loop-w in
    let i = 8 * (a.n / 64) in
    let e : 8 * l.w ≡ i = omega arith in
    let s = l.invariant.0 in
    let r = a.n % 64 in
    let one = l.invariant.1 ∙ ap (λ k. a.ones1 + ones (bits_from b (8 * a.at1) (8 * k))) e in
    let zero = l.invariant.2 ∙ ap (λ k. a.ones0 + ones (bits_from b (8 * a.at0) (8 * k))) e in
    decides_same c.bytes_in_step.result (StepAt b (a.at1 + i) (a.at0 + i) r l.before1 l.before0) (StepAt b a.at1 a.at0 a.n a.ones1 a.ones0)
    (λ rest. step_join b a.at1 a.at0 a.ones1 a.ones0 i (l.before1 + s) (l.before0 + s) one zero r a.n (omega arith) (λ p h. l.invariant.3 p (omega arith))
    (step_with b (a.at1 + i) (a.at0 + i) r l.before1 l.before0 s rest))
    (λ all. step_left b (a.at1 + i) (a.at0 + i) r l.before1 l.before0 s
    (step_part b a.at1 a.at0 a.ones1 a.ones0 i (l.before1 + s) (l.before0 + s) one zero r a.n (omega arith) all)) c.bytes_in_step.ensures
