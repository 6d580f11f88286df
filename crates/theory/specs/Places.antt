-- A place, counted from 1, that may not be there: where a definition says 0 for none, code says
-- `None`.
use Prim.Native.Nat.{ℕ, zero, suc}
use Rattle.std.specs.Prelude.{Option, Some, None}

abbrev pub place_of : ℕ → Option ℕ
place_of zero = None
place_of (suc p) = Some (suc p)
