-- What is told of the bytes that are passed over.
use Rattle.std.specs.Prelude.{◌≡◌, ℕ, ◌≤◌}
use Rattle.meaning.specs.Strings.{ones}
use Rattle.string_pass.specs.Falls.{fall}
use Rattle.bits_lanes.specs.Lanes.{word_bits}
use Rattle.string_pass.specs.declared.Passed.{Passed}

-- with so many nodes pending none of these first bytes of a word closes the tree; so many of their
-- bits are ones
pub record Passes (word pending : ℕ) (r : Passed) : Type 0 where
  pub few : r.bytes ≤ 8
  pub falls : fall (word_bits word r.bytes) ≤ pending
  pub opened : r.opened ≡ ones (word_bits word r.bytes)
