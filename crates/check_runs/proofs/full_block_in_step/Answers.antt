use mathlib.Core.Path.{◌∙◌}
use Prim.Native.Nat.{ℕ, ◌+◌, ◌*◌, ◌≤◌}
use native.Mathlib.Omega.{arith}
use Rattle.image_string.proofs.Ones.{ones_to-le}
use Rattle.check_runs_samples.specs.Ahead.{Ahead}
use Rattle.check_runs_samples.proofs.Telling.{told}
use Rattle.check_runs.specs.Steps.{StepWithin}
use Rattle.check_runs.proofs.Stepping.{next-count, step-behind, step-sampled}
use Rattle.check_runs.proofs.full_block_in_step.Goals as goal
use Rattle.check_runs.proofs.full_block_in_step.Goals.{After-word-ones1}

pub returns-then-end1-ones0 : goal.returns-then-end1-ones0
returns-then-end1-ones0 c =
    let a = c.args in
    let j = a.j in
    let b = a.b.now in
    let end = c.word-end1.ensures ∙ next-count b a.layout.nodes j c.requires.counted c.requires.j_bound in
    let before = c.word-ones0.ensures ∙ c.requires.counted_2 j (omega arith) in
    step-behind b a.layout.r0_block (4000 * a.j) (4000 * a.j + 4000) (omega arith)

-- the ones up to the end of the block
end_few : (c : goal.After-word-ones1) → c.word-end1.result ≤ 70000
end_few c =
    let a = c.args in
    omega (arith, c.word-end1.ensures, next-count a.b.now a.layout.nodes a.j c.requires.counted c.requires.j_bound, ones_to-le a.b.now 1 (4000 * a.j + 4000))

pub samples_ahead-requires-clause-end_bound : goal.samples_ahead-requires-clause-end_bound
samples_ahead-requires-clause-end_bound c = end_few (goal.at.samples_ahead-requires-clause-end_bound c).After-word-ones1

pub samples_ahead-requires-2-clause-end_bound : goal.samples_ahead-requires-2-clause-end_bound
samples_ahead-requires-2-clause-end_bound c = end_few (goal.at.samples_ahead-requires-2-clause-end_bound c).After-word-ones1

-- samples that are ahead
by_samples : (c : goal.After-word-ones1) (by : ℕ)
    → Ahead c.args.b.now c.args.layout.r1_samples c.args.layout.r0_samples c.word-ones1.result c.word-end1.result c.args.layout.runs by
    → StepWithin c.args.b.now c.args.layout.r0_block (4000 * c.args.j) (4000 * c.args.j + 4000)
by_samples c by =
    let a = c.args in
    let l = a.layout in
    let b = a.b.now in
    let counted = c.requires.counted in
    let before = c.word-ones1.ensures ∙ counted a.j (omega arith) in
    let end = c.word-end1.ensures ∙ next-count b l.nodes a.j counted c.requires.j_bound in
    step-sampled b l.r0_block l.r1_samples l.r0_samples l.runs c.word-ones1.result c.word-end1.result by
    (4000 * a.j) (4000 * a.j + 4000) c.requires.placed c.requires.placed_2 before end

pub returns-then-samples_ahead : goal.returns-then-samples_ahead
returns-then-samples_ahead c = by_samples (goal.at.returns-then-samples_ahead c).After-word-ones1 4 (told c.samples_ahead.result _ c.samples_ahead.ensures c.if-samples_ahead.true)

pub returns-then-samples_ahead-2 : goal.returns-then-samples_ahead-2
returns-then-samples_ahead-2 c = by_samples (goal.at.returns-then-samples_ahead-2 c).After-word-ones1 1 (told c.samples_ahead-2.result _ c.samples_ahead-2.ensures c.if-samples_ahead-2.true)
