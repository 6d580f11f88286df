use Prim.Native.Nat.{◌-◌, ◌*◌, ◌/◌, ◌%◌}
use native.Mathlib.Omega.{arith}
use Rattle.meaning.specs.Bytes.{bits_from}
use Rattle.meaning.specs.Image.{string_in}
use Rattle.theory.proofs.TreeImages.{length-string_in}
use Rattle.theory.proofs.InBlocks.{string_in-take}
use Rattle.unseal_byte.proofs.Pieces.{block_piece}
use Rattle.unseal_byte.proofs.Placing.{down-room, down-next, down-done, placed_at, last-room, last-down, down_again, down-joined}
use Rattle.unseal_r0.proofs.write_string_positions.Goals as goal

pub write_block_positions-low-requires-clause-n_bound_3 : goal.write_block_positions-low-requires-clause-n_bound_3
write_block_positions-low-requires-clause-n_bound_3 c =
    let a = c.args in
    let p = c.requires in
    let b = a.b.now in
    let v = a.n / 4000 in
    let r = a.n % 4000 in
    let at = c.bits_at-last in
    let l = length-string_in b a.bits_block 0 a.n in
    last-room (string_in b a.bits_block 0 a.n) (bits_from b (8 * at.result) r) 0 a.n a.out.now (4000 * v) r (omega arith)
    (block_piece b a.bits_block a.n v r at.result at.ensures (omega arith) (omega arith)) p.n_bound_2 p.n_in_bounds_2

pub loop-j-init : goal.loop-j-init
loop-j-init c =
    let a = c.args in
    let p = c.requires in
    let f = c.write_block_positions-low in
    let b = a.b.now in
    let v = a.n / 4000 in
    let r = a.n % 4000 in
    let at = c.bits_at-last in
    let all = string_in b a.bits_block 0 a.n in
    let new = bits_from b (8 * at.result) r in
    let l = length-string_in b a.bits_block 0 a.n in
    let piece = block_piece b a.bits_block a.n v r at.result at.ensures (omega arith) (omega arith) in
    down_again all (string_in b a.bits_block 0 (4000 * v)) 0 a.n a.out.now (4000 * v) (string_in-take b a.bits_block (4000 * v) a.n (omega arith)) (omega arith) _ _
    (last-down all new 0 a.n a.out.now (4000 * v) r (omega arith) piece p.n_bound_2 p.n_in_bounds_2 _ _
    f.auto.out (placed_at new (4000 * v) _ _ _ _ f.ensures))

pub write_block_positions-low-requires-in-loop-j-clause-n_bound_3 : goal.write_block_positions-low-requires-in-loop-j-clause-n_bound_3
write_block_positions-low-requires-in-loop-j-clause-n_bound_3 c =
    let a = c.args in
    let o = c.loop-j in
    let b = a.b.now in
    let v = a.n / 4000 in
    let j = o.j - 1 in
    let most = length-string_in b a.bits_block 0 (4000 * v) in
    down-room (string_in b a.bits_block 0 (4000 * v)) (bits_from b (8 * c.bits_at.result) 4000) 0 _ _ (4000 * j) 4000 (4000 * o.j) (omega arith)
    (block_piece b a.bits_block (4000 * v) j 4000 c.bits_at.result c.bits_at.ensures (omega arith) (omega arith)) (omega arith) o.out o.low o.invariant

pub loop-j-preserved : goal.loop-j-preserved
loop-j-preserved c =
    let f = c.write_block_positions-low-in-loop-j in
    let a = c.args in
    let o = c.loop-j in
    let b = a.b.now in
    let v = a.n / 4000 in
    let j = o.j - 1 in
    let new = bits_from b (8 * c.bits_at.result) 4000 in
    let most = length-string_in b a.bits_block 0 (4000 * v) in
    let piece = block_piece b a.bits_block (4000 * v) j 4000 c.bits_at.result c.bits_at.ensures (omega arith) (omega arith) in
    down-next (string_in b a.bits_block 0 (4000 * v)) new 0 _ _ (4000 * j) 4000 (4000 * o.j) (omega arith) piece (omega arith) o.out
    o.low o.invariant _ _ f.auto.out (placed_at new (4000 * j) _ _ _ _ f.ensures)

pub returns : goal.returns
returns c =
    let f = c.write_block_positions-low in
    let a = c.args in
    let p = c.requires in
    let o = c.loop-j in
    let b = a.b.now in
    let v = a.n / 4000 in
    let r = a.n % 4000 in
    let at = c.bits_at-last in
    let all = string_in b a.bits_block 0 a.n in
    let front = string_in b a.bits_block 0 (4000 * v) in
    let new = bits_from b (8 * at.result) r in
    let l = length-string_in b a.bits_block 0 a.n in
    let piece = block_piece b a.bits_block a.n v r at.result at.ensures (omega arith) (omega arith) in
    down-joined all front 0 a.n a.out.now (4000 * v) (string_in-take b a.bits_block (4000 * v) a.n (omega arith)) (omega arith) _ _
    (last-down all new 0 a.n a.out.now (4000 * v) r (omega arith) piece p.n_bound_2 p.n_in_bounds_2 _ _
    f.auto.out (placed_at new (4000 * v) _ _ _ _ f.ensures))
    o.out o.low o.invariant.size (down-done front 0 _ _ (4000 * o.j) o.out o.low (omega arith) o.invariant)
