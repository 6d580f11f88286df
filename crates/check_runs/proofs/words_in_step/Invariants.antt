use mathlib.Core.Path.{◌≡◌}
use Prim.Native.Nat.{ℕ, ◌+◌, ◌*◌}
use Rattle.meaning.specs.Strings.{ones}
use Rattle.meaning.specs.Bytes.{bits_from}
use Rattle.check_runs_words.specs.Steps.{StepAt}
use Rattle.check_runs.proofs.words_in_step.Given as goal

abbrev pub invariant-loop-w : goal.invariant-loop-w
invariant-loop-w l =
    (s : ℕ) × (l.before1 + s ≡ l.ones1 + ones (bits_from l.b (8 * l.at1) (8 * (8 * l.w)))) ×
    (l.before0 + s ≡ l.ones0 + ones (bits_from l.b (8 * l.at0) (8 * (8 * l.w)))) × StepAt l.b l.at1 l.at0 (8 * (8 * l.w)) l.ones1 l.ones0
