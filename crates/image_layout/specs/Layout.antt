-- Where the parts of an image begin, for a version, n nodes and m runs.
use Rattle.std.specs.Prelude.{None, Some, Option, cond, List, ℕ, ◌+◌, eqb}
use Rattle.theory.specs.Stages.{nodes_of, runs_of, version_in, r0_block, r1_samples, blocks_of_samples, metres_block, blocks_needed}
use Rattle.image_layout.specs.declared.Layout.{Layout}

-- in version 2 from this block on
abbrev pub metres_at : ℕ → ℕ → Option ℕ
metres_at v block = cond (eqb v 2) (Some block) None

abbrev pub layout_of : ℕ → ℕ → ℕ → Layout
layout_of v n m = record {
  nodes = n;
  runs = m;
  r0_block = r0_block n;
  r1_samples = r1_samples n;
  r0_samples = r1_samples n + blocks_of_samples m;
  metres = metres_at v (metres_block n m);
  blocks = blocks_needed v n m;
}

-- by the version, n and m as the header has them
abbrev pub layout_in : List ℕ → Layout
layout_in bytes = layout_of (version_in bytes) (nodes_of bytes) (runs_of bytes)
