use lib.ListN.{length}
use mathlib.Core.Path.{◌≡◌, sym, subst}
use native.Mathlib.Omega.{arith}
use Rattle.theory.specs.Stages.{blocks_of_samples}
use Rattle.seal_r1.specs.Passes.{Blank}
use Rattle.seal_r0.proofs.Running.{runs-few, known, blank_second, all_ran}
use Rattle.seal_r0.proofs.write_strings.Goals as goal

pub write_r0_samples-requires : goal.write_r0_samples-requires
write_r0_samples-requires c =
    let a = c.args in
    let r = c.requires in
    let gaps = c.write_r0 in
    let ends = c.write_r1-m in
    let m = ends.ensures.0 in
    let kept1 : length ends.new.image ≡ length a.image.now = ends.auto.image in
    let kept2 : length gaps.new.image ≡ length ends.new.image = gaps.auto.image in
    let few = runs-few a.ps.now a.image.now a.layout.r0_block a.layout.r1_samples a.layout.r0_samples r in record {
      in_bounds = r.some;
      ps_len_bound = r.most;
      ps_value = r.good;
      m_value = m;
      r0_samples_le_most_block = omega (arith, r.is_second, r.most, few);
      m_bound = omega (arith, m, r.is_first, r.is_second);
      m_in_bounds = omega (arith, m, r.is_second, r.room, kept1, kept2);
      r1samples_known = known a.ps.now a.image.now a.layout.r0_block a.layout.r1_samples a.layout.r0_samples r _ ends.ensures.1 _ gaps.ensures;
      blank = subst (λ k. Blank gaps.new.image a.layout.r0_samples (blocks_of_samples k)) (sym m)
          (blank_second a.ps.now a.image.now a.layout.r0_block a.layout.r1_samples a.layout.r0_samples r _ ends.ensures.1 _ gaps.ensures);
    }

pub returns : goal.returns
returns c =
    let a = c.args in
    let r = c.requires in
    all_ran a.ps.now a.image.now a.layout.r0_block a.layout.r1_samples a.layout.r0_samples r _
    c.write_r1-m.ensures.1 _
    c.write_r0.ensures _ c.write_r0_samples.ensures
