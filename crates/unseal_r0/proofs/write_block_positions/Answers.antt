use mathlib.Core.Path.{refl}
use mathlib.Core.List.{[], ◌∷◌}
use Prim.Native.Nat.{◌+◌, ◌-◌, ◌*◌, ◌/◌, ◌%◌}
use native.Mathlib.Omega.{arith}
use lib.ListN.{get_or}
use Rattle.meaning.specs.Bytes.{bits_from}
use Rattle.theory.proofs.Packing.{bits-length}
use Rattle.bits_count.proofs.Runs.{bits-take}
use Rattle.unseal_byte.proofs.Pieces.{byte_piece}
use Rattle.unseal_byte.proofs.Placing.{placed-zeros, down-room, down-next, down-done, last-room, last-down, down_again, down-joined}
use Rattle.unseal_r0.proofs.write_block_positions.Goals as goal

pub write_byte_positions-low-requires-clause-n_bound_3 : goal.write_byte_positions-low-requires-clause-n_bound_3
write_byte_positions-low-requires-clause-n_bound_3 c =
    let a = c.args in
    let p = c.requires in
    let b = a.b.now in
    let v = a.n / 8 in
    let r = a.n % 8 in
    let l = bits-length b (8 * a.at) a.n in
    last-room (bits_from b (8 * a.at) a.n) (bits_from (get_or b (a.at + v) 0 ∷ []) 0 r) a.i a.k a.out.now (8 * v) r (omega arith)
    (byte_piece b a.at a.n v r (omega arith) (omega arith)) p.n_bound_3 p.k_in_bounds

pub loop-w-init : goal.loop-w-init
loop-w-init c =
    let a = c.args in
    let p = c.requires in
    let b = a.b.now in
    let v = a.n / 8 in
    let r = a.n % 8 in
    let all = bits_from b (8 * a.at) a.n in
    let l = bits-length b (8 * a.at) a.n in
    down_again all (bits_from b (8 * a.at) (8 * v)) a.i a.k a.out.now (8 * v) (bits-take b (8 * a.at) (8 * v) a.n (omega arith)) (omega arith) _ _
    (last-down all (bits_from (get_or b (a.at + v) 0 ∷ []) 0 r) a.i a.k a.out.now (8 * v) r (omega arith) (byte_piece b a.at a.n v r (omega arith) (omega arith))
    p.n_bound_3 p.k_in_bounds _ _ c.write_byte_positions-low.auto.out c.write_byte_positions-low.ensures)

pub write_byte_positions-low-requires-then-x-ne0-clause-n_bound_3 : goal.write_byte_positions-low-requires-then-x-ne0-clause-n_bound_3
write_byte_positions-low-requires-then-x-ne0-clause-n_bound_3 c =
    let a = c.args in
    let l = c.loop-w in
    let b = a.b.now in
    let v = a.n / 8 in
    let w = l.w - 1 in
    let most = bits-length b (8 * a.at) (8 * v) in
    down-room (bits_from b (8 * a.at) (8 * v)) (bits_from (get_or b (a.at + w) 0 ∷ []) 0 8) a.i _ _ (8 * w) 8 (8 * l.w) (omega arith)
    (byte_piece b a.at (8 * v) w 8 (omega arith) (omega arith)) (omega arith) l.out l.low l.invariant

pub loop-w-preserved-then-x-ne0 : goal.loop-w-preserved-then-x-ne0
loop-w-preserved-then-x-ne0 c =
    let a = c.args in
    let l = c.loop-w in
    let b = a.b.now in
    let v = a.n / 8 in
    let w = l.w - 1 in
    let most = bits-length b (8 * a.at) (8 * v) in
    down-next (bits_from b (8 * a.at) (8 * v)) (bits_from (get_or b (a.at + w) 0 ∷ []) 0 8) a.i _ _ (8 * w) 8 (8 * l.w) (omega arith)
    (byte_piece b a.at (8 * v) w 8 (omega arith) (omega arith)) (omega arith) l.out l.low l.invariant _ _ c.write_byte_positions-low-then-x-ne0.auto.out
    c.write_byte_positions-low-then-x-ne0.ensures

pub loop-w-preserved : goal.loop-w-preserved
loop-w-preserved c =
    let a = c.args in
    let l = c.loop-w in
    let b = a.b.now in
    let v = a.n / 8 in
    let w = l.w - 1 in
    let x = get_or b (a.at + w) 0 in
    let most = bits-length b (8 * a.at) (8 * v) in
    down-next (bits_from b (8 * a.at) (8 * v)) (bits_from (x ∷ []) 0 8) a.i _ _ (8 * w) 8 (8 * l.w) (omega arith) (byte_piece b a.at (8 * v) w 8 (omega arith) (omega arith))
    (omega arith) l.out l.low l.invariant _ _ refl (placed-zeros x (a.i + 8 * w) l.low l.out c.if-x-ne0.false)

pub returns : goal.returns
returns c =
    let a = c.args in
    let p = c.requires in
    let f = c.write_byte_positions-low in
    let o = c.loop-w in
    let b = a.b.now in
    let v = a.n / 8 in
    let r = a.n % 8 in
    let all = bits_from b (8 * a.at) a.n in
    let l = bits-length b (8 * a.at) a.n in
    down-joined all (bits_from b (8 * a.at) (8 * v)) a.i a.k a.out.now (8 * v) (bits-take b (8 * a.at) (8 * v) a.n (omega arith)) (omega arith) _ _
    (last-down all (bits_from (get_or b (a.at + v) 0 ∷ []) 0 r) a.i a.k a.out.now (8 * v) r (omega arith) (byte_piece b a.at a.n v r (omega arith) (omega arith))
    p.n_bound_3 p.k_in_bounds _ _ f.auto.out f.ensures)
    o.out o.low o.invariant.size (down-done (bits_from b (8 * a.at) (8 * v)) a.i _ _ (8 * o.w) o.out o.low (omega arith) o.invariant)
