use Prim.Native.Nat.{◌+◌, ◌*◌}
use mathlib.Core.Path.{◌≡◌}
use lib.ListN.{drop}
use Rattle.std.specs.Iterator.Adapters.{enumerate_source, enumerate_count}
use Rattle.std.specs.Slice.Iter.{chunks_rest, chunks_size}
use Rattle.seal_metres.proofs.Putting.{Putting}
use Rattle.seal_metres.proofs.put_metres.Given as goal

abbrev pub invariant-loop-w : goal.invariant-loop-w
invariant-loop-w l = Putting l.initial.image l.image l.block l.metres (126 * l.j + l.w)

abbrev pub invariant-loop-j : goal.invariant-loop-j
invariant-loop-j l = record {
  put : Putting l.initial.image l.image l.block l.metres (126 * enumerate_count l.j-iterator);
  size : chunks_size (enumerate_source l.j-iterator) ≡ 126;
  left : chunks_rest (enumerate_source l.j-iterator) ≡ drop (126 * enumerate_count l.j-iterator) l.metres;
}
