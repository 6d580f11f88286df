use Prim.Native.Nat.{◌+◌, ◌*◌, min}
use mathlib.Core.Path.{◌≡◌, sym, ap, ◌∙◌}
use native.Mathlib.Omega.{arith}
use lib.ListN.{length, drop}
use Rattle.image_words.specs.Words.{with_word}
use Rattle.std.specs.Iterator.Adapters.{enumerate_source, enumerate_count}
use Rattle.std.specs.Slice.Iter.{chunks_rest, chunks_size}
use Rattle.seal_metres.proofs.Putting.{putting_first, putting_here, putting_block, putting_next, number_inside, number_at, cut_end, rest_is}
use Rattle.seal_metres.proofs.put_metres.Goals as goal

pub loop-j-init : goal.loop-j-init
loop-j-init c =
    let given = c.into_iter-j-iterator.ensures.into_iter_gives in
    let count = ap enumerate_count given ∙ c.enumerate-j-items.ensures.count in
    let source = ap enumerate_source given ∙ c.enumerate-j-items.ensures.source in record {
      put = putting_here _ _ _ _ _ _ (putting_first _ _ _ c.requires.blank) (omega (arith, count));
      size = ap chunks_size source ∙ c.chunks.ensures.size;
      left = ap chunks_rest source ∙ c.chunks.ensures.rest ∙ sym (ap (λ k. drop (126 * k) c.args.metres.now) count);
    }

pub loop-w-preserved : goal.loop-w-preserved
loop-w-preserved c =
    let l = c.loop-j.invariant in
    let s = c.in-Some.ensures.steps in
    let w = c.loop-w.w in
    let whole = l.left ∙ ap (λ k. drop (126 * k) c.args.metres.now) (sym s.1) in
    let in_list = number_inside _ _ _ _ _ _ l.size whole s.0.1.0 s.0.1.1 w c.loop-w-test.true in
    let is = number_at c.args.metres.now _ c.in-Some.words.now _ _ c.in-Some.j l.size whole s.0.1.0 s.0.1.1 w c.loop-w-test.true in
    let known = c.type_inv.metres (126 * c.in-Some.j + w) in
    putting_next _ _ _ _ _ _ c.loop-w.invariant in_list.0 in_list.1 (omega (arith, known)) (omega (arith, l.put.kept)) _
    (c.put_word.ensures ∙ ap (with_word c.loop-w.image (512 * (c.args.block + c.in-Some.j) + 4 * w)) (omega (arith, is)))

pub loop-j-preserved : goal.loop-j-preserved
loop-j-preserved c =
    let l = c.loop-j.invariant in
    let s = c.in-Some.ensures.steps in
    let next : enumerate_count c.next.new.self ≡ c.in-Some.j + 1 = omega (arith, s.1, s.2) in
    let whole = l.left ∙ ap (λ k. drop (126 * k) c.args.metres.now) (sym s.1) in record {
      put = putting_block _ _ _ _ _ _ _ _ l.put c.loop-w.invariant
          (cut_end _ _ _ _ _ _ l.size whole s.0.1.0 s.0.1.1 c.loop-w.w c.loop-w-test.false c.loop-w.auto.w-end ∙ ap (λ k. min (126 * k) (length c.args.metres.now)) (sym next));
      size = s.0.0 ∙ l.size;
      left = rest_is c.args.metres.now _ _ _ _ c.in-Some.j l.size whole s.0.1.0 s.0.1.1 ∙ ap (λ k. drop (126 * k) c.args.metres.now) (sym next);
    }
