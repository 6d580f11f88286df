use mathlib.Core.Path.{ap, ◌∙◌}
use native.Mathlib.Omega.{arith}
use lib.ListN.{length}
use Rattle.parents_check.proofs.Rising.{good_parents}
use Rattle.image_layout.specs.declared.Layout.{Layout}
use Rattle.seal_image.specs.Given.{given}
use Rattle.seal_image.proofs.Preparing.{few-runs, given-measured, few-metres, blocks_split}
use Rattle.seal_image.proofs.Filled.{prepared_sealed}
use Rattle.seal_image.proofs.write_image.Goals as goal

pub seal_blocks-requires : goal.seal_blocks-requires
seal_blocks-requires c =
    let a = c.args in
    let p = c.requires in
    let runs = few-runs a.ps.now (good_parents _ p.in_bounds p.ps_value) in
    let few = few-metres (length a.ps.now) a.metres.now p.metres_len in
    let split = blocks_split a.ps.now a.metres.now a.layout p.metres_len p.layout_value in
    let blocks = ap (λ (l : Layout). l.blocks) p.layout_value in
    record { blocks_in_bounds = omega (arith, c.fill.auto.image); blocks_le_most_block = omega arith }

pub returns : goal.returns
returns c =
    let a = c.args in
    let p = c.requires in
    let blocks = ap (λ (l : Layout). l.blocks) p.layout_value in
    c.seal_blocks.ensures
    ∙ prepared_sealed a.image.now _ (given a.metres.now) a.ps.now a.layout.blocks (good_parents _ p.in_bounds p.ps_value) p.ps_len_bound
    (given-measured (length a.ps.now) a.metres.now p.metres_len (λ i h. omega (arith, c.type_inv.metres i)))
    (λ i h. omega (arith, c.slice_known-2-1.given i)) c.fill.auto.image blocks (omega (arith, blocks)) c.fill.ensures
