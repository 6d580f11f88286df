use mathlib.Core.Path.{◌≡◌, ap, ◌∙◌}
use mathlib.Core.List.{◌++◌}
use Prim.Native.Nat.{◌+◌, ◌*◌, ◌/◌, ◌%◌}
use native.Mathlib.Omega.{arith}
use lib.ListN.{drop, length}
use Rattle.meaning.specs.Bytes.{bits_from}
use Rattle.meaning.specs.Image.{string_in}
use Rattle.theory.proofs.TreeImages.{length-string_in}
use Rattle.unseal_parents.specs.Spread.{spread}
use Rattle.unseal_byte.proofs.Pieces.{block_piece}
use Rattle.unseal_parents.proofs.Spreading.{up_first, up-behind, up_room, up_next, up_done, spread_at}
use Rattle.unseal_parents.proofs.spread_string.Goals as goal

pub loop-j-init : goal.loop-j-init
loop-j-init c =
    let l = length-string_in c.args.b.now 1 0 c.args.n in
    up_first _ 0 _ _ (omega arith) (omega arith)

pub spread_block-from-requires : goal.spread_block-from-requires
spread_block-from-requires c =
    let a = c.args in
    let o = c.loop-j in
    let b = a.b.now in
    let j = o.j in
    let all = string_in b 1 0 a.n in
    let new = bits_from b (8 * c.bits_at.result) 4000 in
    let l = length-string_in b 1 0 a.n in
    let e = block_piece b 1 a.n j 4000 c.bits_at.result c.bits_at.ensures (omega arith) (omega arith) in
    let t = 4000 * (j + 1) in record {
      n_bound = omega arith;
      at_in_bounds = omega arith;
      n_bound_2 = omega (arith, up-behind all new 0 a.p a.out.now (4000 * j) 4000 t (omega arith) e (omega arith) o.out o.from o.invariant);
      n_in_bounds = up_room all new 0 a.p a.out.now (4000 * j) 4000 t (omega arith) e (omega arith) o.out o.from o.invariant;
    }

pub loop-j-preserved : goal.loop-j-preserved
loop-j-preserved c =
    let f = c.spread_block-from in
    let a = c.args in
    let o = c.loop-j in
    let b = a.b.now in
    let j = o.j in
    let all = string_in b 1 0 a.n in
    let new = bits_from b (8 * c.bits_at.result) 4000 in
    let l = length-string_in b 1 0 a.n in
    let e = block_piece b 1 a.n j 4000 c.bits_at.result c.bits_at.ensures (omega arith) (omega arith) in
    up_next all new 0 a.p a.out.now (4000 * j) 4000 (4000 * (j + 1)) (omega arith) e (omega arith) o.out o.from
    o.invariant _ _ f.auto.out (spread_at new (4000 * j) _ _ _ _ f.ensures)

pub spread_block-requires : goal.spread_block-requires
spread_block-requires c =
    let a = c.args in
    let o = c.loop-j in
    let b = a.b.now in
    let j = a.n / 4000 in
    let r = a.n % 4000 in
    let all = string_in b 1 0 a.n in
    let new = bits_from b (8 * c.bits_at-2.result) r in
    let l = length-string_in b 1 0 a.n in
    let e = block_piece b 1 a.n j r c.bits_at-2.result c.bits_at-2.ensures (omega arith) (omega arith) in
    let last : o.j ≡ j = omega arith in
    let up = rw last at o.invariant in record {
      n_bound = omega arith;
      at_in_bounds = omega arith;
      n_bound_2 = omega (arith, up-behind all new 0 a.p a.out.now (4000 * j) r a.n (omega arith) e (omega arith) o.out o.from up);
      n_in_bounds = up_room all new 0 a.p a.out.now (4000 * j) r a.n (omega arith) e (omega arith) o.out o.from up;
    }

pub returns : goal.returns
returns c =
    let f = c.spread_block in
    let a = c.args in
    let o = c.loop-j in
    let b = a.b.now in
    let j = a.n / 4000 in
    let r = a.n % 4000 in
    let all = string_in b 1 0 a.n in
    let new = bits_from b (8 * c.bits_at-2.result) r in
    let l = length-string_in b 1 0 a.n in
    let e = block_piece b 1 a.n j r c.bits_at-2.result c.bits_at-2.ensures (omega arith) (omega arith) in
    let last : o.j ≡ j = omega arith in
    (up_done all 0 a.p a.out.now a.n _ _ (omega arith)
    (up_next all new 0 a.p a.out.now (4000 * j) r a.n (omega arith) e (omega arith) o.out o.from
    (rw last at o.invariant) _ _ f.auto.out (spread_at new (4000 * j) _ _ _ _ f.ensures))).made
    ∙ ap (λ n. spread all (drop a.p a.out.now) ++ drop n a.out.now) (let e : 0 + length all ≡ a.n = omega arith in e)
