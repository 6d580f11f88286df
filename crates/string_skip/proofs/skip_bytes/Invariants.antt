use Prim.Native.Nat.{◌-◌, ◌/◌}
use Rattle.string_skip.specs.Strides.{ReadOn}
use Rattle.string_skip.proofs.skip_bytes.Given as goal

abbrev pub invariant-loop-r : goal.invariant-loop-r
invariant-loop-r l = ReadOn l.b l.n l.initial.r l.r

abbrev pub decreases-loop-r : goal.decreases-loop-r
decreases-loop-r l = l.n / 8 - l.r.at
