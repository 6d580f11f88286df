use native.Mathlib.Omega.{arith}
use Rattle.string_read.proofs.Writing.{kept-first, kept_next, kept_byte, byte_more, kept-last, more}
use Rattle.string_read.proofs.write_parents.Goals as goal

pub loop-k-init : goal.loop-k-init
loop-k-init c = kept-first _ _ _ _ c.requires.nodes_value

pub bounds-b-i : goal.bounds-b-i
bounds-b-i c = let m = byte_more _ _ _ _ _ _ _ c.loop-k.invariant (omega arith) in omega arith

pub write_byte-k-requires-clause-p_bound : goal.write_byte-k-requires-clause-p_bound
write_byte-k-requires-clause-p_bound c = let m = byte_more _ _ _ _ _ _ _ c.loop-k.invariant (omega arith) in omega arith

pub loop-k-smaller : goal.loop-k-smaller
loop-k-smaller c = let m = byte_more _ _ _ _ _ _ _ c.loop-k.invariant (omega arith) in omega arith

pub loop-k-preserved : goal.loop-k-preserved
loop-k-preserved c =
    kept_byte _ _ _ _ _ _ _ c.loop-k.invariant (omega arith) _ _ c.write_byte-k.ensures
    c.requires.nodes_in_bounds

pub bit_at-requires : goal.bit_at-requires
bit_at-requires c = let l = more _ _ _ _ _ _ _ c.loop-k-2.invariant c.loop-k-2-test.true in omega arith

pub loop-k-2-smaller : goal.loop-k-2-smaller
loop-k-2-smaller c = let l = more _ _ _ _ _ _ _ c.loop-k-2.invariant c.loop-k-2-test.true in omega arith

pub loop-k-2-preserved : goal.loop-k-2-preserved
loop-k-2-preserved c =
    kept_next _ _ _ _ _ _ _ c.loop-k-2.invariant c.loop-k-2-test.true _ c.bit_at.ensures
    (omega (arith, c.loop-k.invariant.size))

pub returns : goal.returns
returns c = kept-last _ _ _ _ _ _ _ _ c.loop-k.invariant.rest c.loop-k-2.invariant c.loop-k-2-test.false c.requires.nodes_value
