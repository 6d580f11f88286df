use mathlib.Core.Path.{◌≡◌, ◌∙◌, ap, sym}
use Prim.Native.Nat.{◌-◌, ◌*◌, ◌/◌, ◌≤◌}
use native.Mathlib.Omega.{arith}
use Rattle.theory.specs.Layout.{word_at}
use Rattle.image_string.specs.Parts.{ones_to}
use Rattle.nav_select.proofs.Found.{sample_start}
use Rattle.nav_select.proofs.select.Goals as goal
use Rattle.nav_select.proofs.select.Goals.{After-word}

-- the sample that is read
started : (c : goal.After-word)
    → let a = c.args in
    (1 ≤ c.word.result) × (c.word.result ≤ a.n) × (ones_to a.b.now a.bits_block (c.word.result - 1) ≡ 64 * ((a.k - 1) / 64))
started c =
    let a = c.args in
    let read = c.word.ensures ∙ ap (word_at a.b.now) c.sample_at.ensures in
    sample_start a.b.now a.samples a.bits_block a.n a.m ((a.k - 1) / 64) c.word.result c.requires.m_value c.requires.sampled (omega arith) read

pub overflow_sub-i : goal.overflow_sub-i
overflow_sub-i c = omega (arith, (started (goal.at.overflow_sub-i c).After-word).0)

pub select_after-requires : goal.select_after-requires
select_after-requires c =
    let r = started (goal.at.select_after-requires c).After-word in record {
      i_lt_n = omega arith;
      passed_value = sym r.2;
      passed_lt_k = omega arith;
      k_bound = omega arith;
      n_bound = omega arith;
      bits_block_le_most_block = omega arith;
      b_len_bound = omega arith;
      n_in_bounds = omega arith;
      counts_and_padding = c.requires.counts_and_padding;
    }
