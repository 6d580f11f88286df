-- Bytes with room for the parts of a layout.
use Rattle.std.specs.Prelude.{None, Some, Option, ◌≡◌, List, ℕ, ◌+◌, ◌*◌, ◌≤◌, length}
use Rattle.theory.specs.Bounds.{most_block}
use Rattle.theory.specs.Stages.{word_blocks, r0_block, r1_samples, blocks_of_samples}
use Rattle.image_layout.specs.declared.Layout.{Layout}

-- room for the metres of n nodes, where there are any
abbrev pub MetresFit : List ℕ → Option ℕ → ℕ → Type 0
MetresFit bytes None n = Unit
MetresFit bytes (Some block) n = 512 * (block + word_blocks n) ≤ length bytes

-- n is 1 to 65,535, each part begins where n and m say, and the bytes have room for all of them
pub record LaidOut (bytes : List ℕ) (layout : Layout) : Type 0 where
  pub some : 1 ≤ layout.nodes
  pub most : layout.nodes ≤ 65535
  pub is_r0 : layout.r0_block ≡ r0_block layout.nodes
  pub is_r1_samples : layout.r1_samples ≡ r1_samples layout.nodes
  pub is_r0_samples : layout.r0_samples ≡ layout.r1_samples + blocks_of_samples layout.runs
  pub room : 512 * (layout.r0_samples + blocks_of_samples layout.runs) ≤ length bytes
  pub metres_room : MetresFit bytes layout.metres layout.nodes
  pub small : length bytes ≤ 512 * most_block
