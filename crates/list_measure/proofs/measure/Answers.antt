use Rattle.std.specs.Prelude.{Err}
use mathlib.Core.Path.{◌≡◌, sym, ap, ap₂, ◌∙◌}
use Prim.Native.Nat.{ℕ, suc, ◌+◌, ◌-◌}
use native.Mathlib.Numerals.{add-one}
use native.Mathlib.Omega.{arith}
use lib.ListN.{length-set}
use Rattle.meaning.specs.Image.{parents_in}
use Rattle.list_measure.specs.Levels.{ones_before_in, below, levels_from}
use Rattle.list_measure.proofs.Levels.{levels-end, levels-deep, levels_more, levels-size}
use Rattle.list_measure.proofs.Numbers.{ones_before_in_mono, ones_before_in_kids, ones_before_in_most, by_is_in, most_nodes}
use Rattle.list_measure.proofs.Cursors.{found_more, found_all}
use Rattle.list_measure.proofs.measure.Goals as goal

pub overflow_sub-a : goal.overflow_sub-a
overflow_sub-a c = omega arith

pub loop-a-init : goal.loop-a-init
loop-a-init c =
    let b = c.args.b.now in
    let i = c.args.image in
    let f = c.requires.node.sound in (
      levels-size (parents_in b) (ones_before_in b) (ones_before_in_mono b i f) (ones_before_in_kids b i f) c.args.x c.requires.node.some,
      omega arith,
      omega arith,
      omega arith,
      omega arith,
      c.requires.cursors_len,
      λ rest r. r,
    )

pub overflow_cast-result : goal.overflow_cast-result
overflow_cast-result c = omega arith

pub overflow_add-result : goal.overflow_add-result
overflow_add-result c = omega arith

pub returns-then-depth-eq64 : goal.returns-then-depth-eq64
returns-then-depth-eq64 c =
    let l = c.loop-a in
    let b = c.args.b.now in record {
      value = ap Err (let e : l.a + 1 ≡ suc l.a = omega arith in e)
          ∙ sym (levels-deep (λ k. ones_before_in b (suc k)) (64 - l.depth) l.a l.z l.nodes (omega arith) c.loop-a-test.true)
          ∙ l.invariant.0;
      cursors_len_2 = l.invariant.5;
      where_fits = tt;
    }

pub overflow_cast-cursors : goal.overflow_cast-cursors
overflow_cast-cursors c = omega arith

pub offset_bounds-cursors-depth : goal.offset_bounds-cursors-depth
offset_bounds-cursors-depth c = omega arith

pub bounds-cursors-depth : goal.bounds-cursors-depth
bounds-cursors-depth c = omega arith

pub overflow_sub-nodes : goal.overflow_sub-nodes
overflow_sub-nodes c = omega arith

pub overflow_add-nodes : goal.overflow_add-nodes
overflow_add-nodes c = omega arith

pub overflow_add-a : goal.overflow_add-a
overflow_add-a c = omega arith

pub ones_before_zero-a-requires : goal.ones_before_zero-a-requires
ones_before_zero-a-requires c = record { b_value = c.requires.node.sound; le_z = omega arith; z_bound = omega arith }

pub overflow_add-z : goal.overflow_add-z
overflow_add-z c = omega arith

pub ones_before_zero-z-requires : goal.ones_before_zero-z-requires
ones_before_zero-z-requires c = record { b_value = c.requires.node.sound; le_z = omega arith; z_bound = omega arith }

pub overflow_add-depth : goal.overflow_add-depth
overflow_add-depth c = omega arith

pub loop-a-smaller : goal.loop-a-smaller
loop-a-smaller c = omega arith

pub loop-a-preserved : goal.loop-a-preserved
loop-a-preserved c =
    let l = c.loop-a in
    let b = c.args.b.now in
    let i = c.args.image in
    let f = c.requires.node.sound in
    let e : c.ones_before_zero-a.result ≡ below b l.a = c.ones_before_zero-a.ensures ∙ by_is_in b i f (l.a + 1) (omega arith) (omega arith) in
    let g : c.ones_before_zero-z.result ≡ below b l.z = c.ones_before_zero-z.ensures ∙ by_is_in b i f (l.z + 1) (omega arith) (omega arith) in
    let next : (k : ℕ) → below b k ≡ ones_before_in b (suc k) = λ k. ap (ones_before_in b) (add-one k) in (
      ap (λ d. levels_from (λ k. ones_before_in b (suc k)) d c.ones_before_zero-a.result c.ones_before_zero-z.result (l.nodes + (l.z - l.a)))
          (let h : 64 - (l.depth + 1) ≡ 64 - l.depth - 1 = omega arith in h)
          ∙ ap₂ (λ p q. levels_from (λ k. ones_before_in b (suc k)) (64 - l.depth - 1) p q (l.nodes + (l.z - l.a))) (e ∙ next l.a) (g ∙ next l.z)
          ∙ sym (levels_more (λ k. ones_before_in b (suc k)) (64 - l.depth) l.a l.z l.nodes (omega arith) c.loop-a-test.true)
          ∙ l.invariant.0,
      omega (arith, e, ones_before_in_most b i f (l.a + 1)),
      omega (arith, g, ones_before_in_most b i f (l.z + 1)),
      omega (arith, most_nodes b i f),
      omega arith,
      simp length-set l.invariant.5,
      found_more (below b) l.cursors l.depth l.a l.z _ _ (c.args.x - 1) c.args.x (omega arith) e g l.invariant.6,
    )

pub overflow_cast-result-2 : goal.overflow_cast-result-2
overflow_cast-result-2 c = omega arith

pub returns : goal.returns
returns c =
    let l = c.loop-a in
    let a = c.args in
    let b = a.b.now in record {
      value = sym (levels-end (λ k. ones_before_in b (suc k)) (64 - l.depth) l.a l.z l.nodes c.loop-a-test.false) ∙ l.invariant.0;
      cursors_len_2 = l.invariant.5;
      where_fits = found_all (below b) l.cursors l.depth l.a l.z (a.x - 1) a.x c.loop-a-test.false l.invariant.6;
    }
