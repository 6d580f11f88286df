use mathlib.Core.Path.{◌≡◌}
use Prim.Native.Nat.{◌+◌, ◌*◌}
use Rattle.fault_strings.specs.Lowest.{LowestBlock}
use Rattle.image_string.specs.Parts.{ones_to}
use Rattle.check_runs.specs.Steps.{StepWithin}
use Rattle.fault_strings.specs.Given.{CountKept}
use Rattle.fault_strings.proofs.step_counted.Given as goal

abbrev pub invariant-loop-j : goal.invariant-loop-j
invariant-loop-j l =
    (l.ones1 ≡ ones_to l.b 1 (4000 * l.j)) × (l.ones0 ≡ ones_to l.b l.r0_block (4000 * l.j)) × StepWithin l.b l.r0_block 0 (4000 * l.j)
    × LowestBlock (CountKept l.b 1) 1 (l.j + 1) l.wrong1 × LowestBlock (CountKept l.b l.r0_block) l.r0_block (l.j + 1) l.wrong0
