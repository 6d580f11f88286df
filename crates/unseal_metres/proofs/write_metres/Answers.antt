use native.Mathlib.Omega.{arith}
use Rattle.unseal_metres.proofs.Copying.{copying_last}
use Rattle.unseal_metres.proofs.write_metres.Goals as goal

pub returns : goal.returns
returns c = copying_last _ _ _ _ _ _ c.loop-j.invariant (omega arith) (omega arith)
