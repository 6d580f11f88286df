use mathlib.Core.Path.{◌≡◌, refl}
use mathlib.Core.List.{[], ◌∷◌}
use Prim.Native.Nat.{◌+◌, ◌*◌, ◌/◌, ◌%◌}
use native.Mathlib.Omega.{arith}
use lib.ListN.{get_or}
use Rattle.meaning.specs.Bytes.{bits_from}
use Rattle.theory.proofs.Packing.{bits-length}
use Rattle.unseal_byte.proofs.Pieces.{byte_piece}
use Rattle.unseal_parents.proofs.Spreading.{up_first, up-behind, up_room, up_next, up_done}
use Rattle.unseal_parents.proofs.spread_block.Goals as goal

pub loop-w-init : goal.loop-w-init
loop-w-init c =
    let l = bits-length c.args.b.now (8 * c.args.at) c.args.n in
    up_first _ _ _ _ (omega arith) (omega arith)

pub spread_byte-from-requires : goal.spread_byte-from-requires
spread_byte-from-requires c =
    let a = c.args in
    let o = c.loop-w in
    let b = a.b.now in
    let w = o.w in
    let all = bits_from b (8 * a.at) a.n in
    let new = bits_from (get_or b (a.at + w) 0 ∷ []) 0 8 in
    let l = bits-length b (8 * a.at) a.n in
    let e = byte_piece b a.at a.n w 8 (omega arith) (omega arith) in record {
      n_bound = omega arith;
      n_bound_2 = up-behind all new a.i a.p a.out.now (8 * w) 8 (8 * w + 8) refl e (omega arith) o.out o.from o.invariant;
      n_in_bounds = up_room all new a.i a.p a.out.now (8 * w) 8 (8 * w + 8) refl e (omega arith) o.out o.from o.invariant;
    }

pub loop-w-preserved : goal.loop-w-preserved
loop-w-preserved c =
    let a = c.args in
    let f = c.spread_byte-from in
    let o = c.loop-w in
    let b = a.b.now in
    let w = o.w in
    let all = bits_from b (8 * a.at) a.n in
    let new = bits_from (get_or b (a.at + w) 0 ∷ []) 0 8 in
    let l = bits-length b (8 * a.at) a.n in
    up_next all new a.i a.p a.out.now (8 * w) 8 (8 * (w + 1)) (omega arith) (byte_piece b a.at a.n w 8 (omega arith) (omega arith)) (omega arith) o.out o.from
    o.invariant _ _ f.auto.out f.ensures

pub spread_byte-requires : goal.spread_byte-requires
spread_byte-requires c =
    let a = c.args in
    let o = c.loop-w in
    let b = a.b.now in
    let w = a.n / 8 in
    let r = a.n % 8 in
    let all = bits_from b (8 * a.at) a.n in
    let new = bits_from (get_or b (a.at + w) 0 ∷ []) 0 r in
    let l = bits-length b (8 * a.at) a.n in
    let e = byte_piece b a.at a.n w r (omega arith) (omega arith) in
    let last : o.w ≡ w = omega arith in
    let up = rw last at o.invariant in record {
      n_bound = omega arith;
      n_bound_2 = up-behind all new a.i a.p a.out.now (8 * w) r a.n (omega arith) e (omega arith) o.out o.from up;
      n_in_bounds = up_room all new a.i a.p a.out.now (8 * w) r a.n (omega arith) e (omega arith) o.out o.from up;
    }

pub returns : goal.returns
returns c =
    let a = c.args in
    let f = c.spread_byte in
    let o = c.loop-w in
    let b = a.b.now in
    let w = a.n / 8 in
    let r = a.n % 8 in
    let all = bits_from b (8 * a.at) a.n in
    let new = bits_from (get_or b (a.at + w) 0 ∷ []) 0 r in
    let l = bits-length b (8 * a.at) a.n in
    let last : o.w ≡ w = omega arith in
    up_done all a.i a.p a.out.now a.n _ _ (omega arith)
    (up_next all new a.i a.p a.out.now (8 * w) r a.n (omega arith) (byte_piece b a.at a.n w r (omega arith) (omega arith)) (omega arith) o.out o.from
    (rw last at o.invariant) _ _ f.auto.out f.ensures)
