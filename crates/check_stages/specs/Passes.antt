-- The stages after the header.
use Rattle.std.specs.Prelude.{List, ℕ, ◌+◌}
use Rattle.meaning.specs.Image.{string_in}
use Rattle.theory.specs.Stages.{InStep, Sampled}
use Rattle.image_layout.specs.declared.Layout.{Layout}
use Rattle.check_ends.specs.Parts.{StringRight}
use Rattle.check_metres.specs.Ends.{MetresEnded}

-- both strings are right, at the blocks of the layout, and so are their samples
pub record StringsPass (bytes : List ℕ) (layout : Layout) : Type 0 where
  pub right1 : StringRight bytes 1 layout.nodes layout.runs
  pub right0 : StringRight bytes layout.r0_block (layout.nodes + 1) layout.runs
  pub in_step : InStep (string_in bytes 1 0 layout.nodes) (string_in bytes layout.r0_block 0 (layout.nodes + 1))
  pub sampled1 : Sampled bytes layout.r1_samples layout.runs (string_in bytes 1 0 layout.nodes)
  pub sampled0 : Sampled bytes layout.r0_samples layout.runs (string_in bytes layout.r0_block 0 (layout.nodes + 1))

-- and nothing is behind the metres, where there are any
pub record StagesPass (bytes : List ℕ) (layout : Layout) : Type 0 where
  pub strings : StringsPass bytes layout
  pub metres : MetresEnded bytes layout.metres layout.nodes
