use native.Mathlib.Omega.{arith}
use Rattle.parents_check.proofs.Rising.{good_parents}
use Rattle.seal_r1.proofs.Ending.{ending_first, ending_few, ending_within, ending_next, ending_last}
use borrow.Author.Rules.{rules}
use Rattle.seal_r1.proofs.write_r1.Goals as goal

pub loop-b-init : goal.loop-b-init
loop-b-init c =
    ending_first _ _ _ c.requires.blank c.requires.blank_2

pub write_r1_byte-k-requires : goal.write_r1_byte-k-requires
write_r1_byte-k-requires c =
    let a = c.args in
    let are = good_parents a.ps.now c.requires.in_bounds c.requires.ps_value in
    let within =
    ending_within a.ps.now a.image.now c.loop-b.image a.samples c.loop-b.b c.loop-b.k are c.loop-b.invariant _ c.r1_byte-x.ensures
    c.loop-b-test.true in
    let few = ending_few a.ps.now a.image.now c.loop-b.image a.samples c.loop-b.b c.loop-b.k are c.loop-b.invariant (omega arith) in
    search rules

pub loop-b-preserved : goal.loop-b-preserved
loop-b-preserved c =
    let a = c.args in
    let are = good_parents a.ps.now c.requires.in_bounds c.requires.ps_value in
    ending_next a.ps.now a.image.now c.loop-b.image a.samples c.loop-b.b c.loop-b.k are c.loop-b.invariant _ c.r1_byte-x.ensures
    c.loop-b-test.true c.requires.ps_len_bound c.requires.ps_bound c.requires.ps_in_bounds _ _
    c.write_r1_byte-k.ensures.1 c.write_r1_byte-k.ensures.0

pub shape_of-image : goal.shape_of-image
shape_of-image c = c.loop-b.invariant.kept

pub returns : goal.returns
returns c =
    let a = c.args in
    let are = good_parents a.ps.now c.requires.in_bounds c.requires.ps_value in
    ending_last a.ps.now a.image.now c.loop-b.image a.samples c.loop-b.b c.loop-b.k are c.loop-b.invariant c.loop-b-test.false
