use mathlib.Core.Path.{◌≡◌}
use Prim.Native.Nat.{◌+◌, ◌*◌}
use Rattle.meaning.specs.Strings.{ones}
use Rattle.meaning.specs.Bytes.{bits_from}
use Rattle.check_runs_words.specs.Steps.{StepAt}
use Rattle.check_runs_words.proofs.bytes_in_step.Given as goal

abbrev pub invariant-loop-i : goal.invariant-loop-i
invariant-loop-i l =
    (l.before1 ≡ l.ones1 + ones (bits_from l.b (8 * l.at1) (8 * l.i))) × (l.before0 ≡ l.ones0 + ones (bits_from l.b (8 * l.at0) (8 * l.i))) × StepAt l.b l.at1 l.at0
    (8 * l.i) l.ones1 l.ones0
