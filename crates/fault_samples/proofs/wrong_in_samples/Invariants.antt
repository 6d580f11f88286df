use mathlib.Core.Path.{◌≡◌}
use Prim.Native.Nat.{◌*◌, ◌≤◌, ◌<◌}
use Rattle.meaning.specs.Image.{string_in}
use Rattle.image_string.specs.Parts.{ones_to}
use Rattle.fault_samples.proofs.Wrong.{SampledTo}
use Rattle.fault_samples.proofs.wrong_in_samples.Given as goal

abbrev pub invariant-loop-s : goal.invariant-loop-s
invariant-loop-s l =
    (l.i < l.n) × (l.passed ≡ ones_to l.b l.bits_block l.i) × (l.passed ≤ 64 * l.s) × SampledTo l.b l.samples (string_in l.b l.bits_block 0 l.n) l.s
