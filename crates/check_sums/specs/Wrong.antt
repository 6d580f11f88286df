-- The lowest wrong block, if there is one: where the definition says the number of blocks for none,
-- code says `None`.
use Rattle.std.specs.Prelude.{List, ℕ, cond, nat_lt, Option, Some, None}
use Rattle.meaning.specs.Blocks.{blocks_in, wrong_block}

abbrev pub wrong_if_any : List ℕ → Option ℕ
wrong_if_any bytes = cond (nat_lt (wrong_block bytes) (blocks_in bytes)) (Some (wrong_block bytes)) None
