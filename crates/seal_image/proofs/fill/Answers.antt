use mathlib.Core.Path.{◌≡◌, ap, ◌∙◌}
use Prim.Native.Nat.{◌-◌}
use native.Mathlib.Omega.{arith}
use lib.ListN.{length}
use Rattle.parents_check.proofs.Rising.{good_parents}
use Rattle.image_layout.specs.declared.Layout.{Layout}
use Rattle.seal_image.proofs.Preparing.{few-runs, few-metres, blocks_split, room_for_metres, all_prepared}
use Rattle.seal_image.proofs.fill.Goals as goal

pub put_metres-requires : goal.put_metres-requires
put_metres-requires c =
    let a = c.args in
    let p = c.requires in
    let n = length a.ps.now in
    let few = few-metres n a.metres.now p.metres_len in
    let runs = few-runs a.ps.now (good_parents _ p.in_bounds p.ps_value) in
    let split = blocks_split a.ps.now a.metres.now a.layout p.metres_len p.layout_value in
    let blocks = ap (λ (l : Layout). l.blocks) p.layout_value in
    let size : length c.put_counts-2.new.image ≡ length a.image.now = c.put_counts-2.auto.image ∙ c.put_counts.auto.image ∙ c.write_strings.auto.image ∙ c.clear.auto.image in
    record {
      block_le_most_block = omega (arith, c.list_blocks.ensures);
      metres_len_bound = omega arith;
      metres_in_bounds = omega (arith, c.list_blocks.ensures, size, p.ps_in_bounds);
      blank = room_for_metres a.image.now _ a.ps.now a.metres.now a.layout p.in_bounds p.ps_len_bound p.ps_value p.metres_len p.layout_value c.clear.ensures _ _ _ _
          (ap (λ k. a.layout.blocks - k) c.list_blocks.ensures) c.write_strings.ensures c.put_counts.ensures c.put_counts-2.ensures;
    }

pub returns : goal.returns
returns c =
    let a = c.args in
    let p = c.requires in
    let size : length c.put_counts-2.new.image ≡ length a.image.now = c.put_counts-2.auto.image ∙ c.put_counts.auto.image ∙ c.write_strings.auto.image ∙ c.clear.auto.image in
    all_prepared a.image.now _ a.ps.now a.metres.now a.layout p.in_bounds p.ps_len_bound p.ps_value p.metres_len p.layout_value c.clear.ensures _ _ _ _
    (ap (λ k. a.layout.blocks - k) c.list_blocks.ensures) c.write_strings.ensures c.put_counts.ensures c.put_counts-2.ensures _ _
    (omega (arith, c.put_metres.auto.image, size, p.ps_in_bounds))
    c.put_metres.ensures c.put_header.ensures
