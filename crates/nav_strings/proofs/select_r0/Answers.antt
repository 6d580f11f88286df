use Rattle.theory.specs.Rank.{position}
use Rattle.nav_strings.proofs.Strings.{in_r0, ready0}
use native.Mathlib.Omega.{arith}
use Rattle.nav_strings.proofs.select_r0.Goals as goal

pub overflow_cast-image : goal.overflow_cast-image
overflow_cast-image c = omega arith

pub overflow_cast-image-2 : goal.overflow_cast-image-2
overflow_cast-image-2 c = omega arith

pub overflow_add-image : goal.overflow_add-image
overflow_add-image c = omega arith

pub overflow_cast-image-3 : goal.overflow_cast-image-3
overflow_cast-image-3 c = omega arith

pub overflow_cast-image-4 : goal.overflow_cast-image-4
overflow_cast-image-4 c = omega arith

pub select-requires : goal.select-requires
select-requires c =
    let r = ready0 c.args.b.now c.args.image c.requires.b_value in
    record {
      le_k = c.requires.le_k;
      k_le_m = c.requires.k_le_runs;
      n_bound = r.most;
      m_value = r.count;
      bits_block_le_most_block = r.near;
      samples_le_most_block = r.nearer;
      b_len_bound = r.size;
      n_in_bounds = r.room;
      m_in_bounds = r.roomier;
      counts_and_padding = r.kept;
      sampled = r.sampled;
    }

pub returns : goal.returns
returns c =
    let a = c.args in
    in_r0 a.b.now a.image c.requires.b_value (λ r. position r a.k) c.select.result c.select.ensures
