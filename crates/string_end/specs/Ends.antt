-- Where the code says that a tree ends, as the end that is meant.
use Rattle.std.specs.Prelude.{Result, Ok, Err, ℕ}
use Rattle.string_end_laws.specs.Ends.{End, over, refused}
use Rattle.string_end.specs.declared.TreeEnd.{TreeEnd}

abbrev pub end_of : Result TreeEnd ℕ → End
end_of (Ok end) = over end.next end.size
end_of (Err place) = refused place
