use mathlib.Core.Path.{sym, ap₂, ◌∙◌}
use Prim.Native.Nat.{◌-◌}
use native.Mathlib.Omega.{arith}
use lib.ListN.{length-set}
use Rattle.meaning.specs.Strings.{parents_of, woven}
use Rattle.meaning.specs.Image.{string_in}
use Rattle.meaning.specs.Answers.{written}
use Rattle.theory.proofs.TreeImages.{length-string_in}
use Rattle.unseal_parents.proofs.Weaving.{lasts, parents-written}
use Rattle.unseal_parents.proofs.write_parents.Goals as goal

pub write_string_positions-root-requires-clause-n_bound_2 : goal.write_string_positions-root-requires-clause-n_bound_2
write_string_positions-root-requires-clause-n_bound_2 c =
    let h = lasts c.args.b.now c.args.zeros c.args.n c.requires.in_runs in
    omega arith

pub overflow_sub-root : goal.overflow_sub-root
overflow_sub-root c =
    let h = lasts c.args.b.now c.args.zeros c.args.n c.requires.in_runs in
    omega (arith, c.write_string_positions-root.ensures.count)

pub bounds-out-root : goal.bounds-out-root
bounds-out-root c =
    let h = lasts c.args.b.now c.args.zeros c.args.n c.requires.in_runs in
    omega (arith, c.write_string_positions-root.ensures.count)

pub overflow_sub-n : goal.overflow_sub-n
overflow_sub-n c =
    let h = lasts c.args.b.now c.args.zeros c.args.n c.requires.in_runs in
    omega arith

pub spread_string-requires-clause-n_bound_2 : goal.spread_string-requires-clause-n_bound_2
spread_string-requires-clause-n_bound_2 c =
    let h = lasts c.args.b.now c.args.zeros c.args.n c.requires.in_runs in
    omega (arith, c.write_string_positions-root.ensures.count)

pub spread_string-requires-clause-n_in_bounds_2 : goal.spread_string-requires-clause-n_in_bounds_2
spread_string-requires-clause-n_in_bounds_2 c =
    let h = lasts c.args.b.now c.args.zeros c.args.n c.requires.in_runs in
    simp length-set (omega (arith, c.write_string_positions-root.ensures.count))

pub returns : goal.returns
returns c =
    let a = c.args in
    let f = c.write_string_positions-root in
    let b = a.b.now in
    let h = lasts b a.zeros a.n c.requires.in_runs in
    let l = length-string_in b 1 0 (a.n - 1) in
    parents-written (string_in b 1 0 (a.n - 1)) (string_in b a.zeros 0 a.n) h.marks a.n f.result a.out.now f.new.out (omega arith)
    (length-string_in b a.zeros 0 a.n) (omega arith) f.auto.out h.runs1 h.runs0 f.ensures _ c.spread_string.ensures
    ∙ ap₂ (λ r1 r0. written (parents_of (woven r1 r0)) a.out.now) (sym h.last1) (sym h.last0)
