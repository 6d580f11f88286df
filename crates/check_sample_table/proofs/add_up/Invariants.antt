use Prim.Native.Nat.{◌*◌}
use Rattle.check_sample_table.proofs.Adding.{Summed}
use Rattle.check_sample_table.proofs.add_up.Given as goal

abbrev pub invariant-loop-turn : goal.invariant-loop-turn
invariant-loop-turn l = Summed l.initial.table l.table l.sum (3 * l.turn)
