use mathlib.Core.Path.{sym, ap, ap₂, ◌∙◌}
use native.Mathlib.Omega.{arith}
use Rattle.meaning.specs.Answers.{answer_of, came_to}
use Rattle.call_parents_of_string.proofs.Ending.{refused-place, refused-from, refused_to, over_to, over-size, over-place, over-whole}
use Rattle.call_parents_of_string.proofs.Answers.{parents-long, parents_bytes, parents-leftover, parents-refused, parents-room, parents-made}
use Rattle.call_parents_of_string.proofs.try_parents_of_string.Goals as goal

pub returns-then-bits-gt-MOST_BITS : goal.returns-then-bits-gt-MOST_BITS
returns-then-bits-gt-MOST_BITS c = ap (λ r. came_to (answer_of r) c.args.parents.now) c.refuse.ensures ∙ parents-long _ _ _ c.if-bits-gt-MOST_BITS.true

pub returns-then-bytes-bits : goal.returns-then-bytes-bits
returns-then-bytes-bits c = ap (λ r. came_to (answer_of r) c.args.parents.now) c.refuse-then-bytes-bits.ensures ∙ parents_bytes _ _ _ c.if-bytes-bits.true

pub returns-then-leftover_set : goal.returns-then-leftover_set
returns-then-leftover_set c =
    ap (λ r. came_to (answer_of r) c.args.parents.now) c.refuse-then-leftover_set.ensures
    ∙ parents-leftover _ _ _ c.if-bits-gt-MOST_BITS.false c.if-bytes-bits.false
    (sym c.leftover_set.ensures ∙ c.if-leftover_set.true)

pub overflow_cast-place : goal.overflow_cast-place
overflow_cast-place c = omega (arith, refused_to _ _ _ c.tree_end.ensures c.in-Err.is)

pub overflow_add-next : goal.overflow_add-next
overflow_add-next c = omega (arith, over_to _ _ _ c.tree_end.ensures c.in-Ok.is)

pub overflow_cast-next : goal.overflow_cast-next
overflow_cast-next c = omega (arith, over_to _ _ _ c.tree_end.ensures c.in-Ok.is)

pub returns-then-next-bits : goal.returns-then-next-bits
returns-then-next-bits c =
    ap (λ r. came_to (answer_of r) c.args.parents.now) c.refuse-then-next-bits.ensures
    ∙ parents-refused _ _ _ c.if-bits-gt-MOST_BITS.false
    c.if-bytes-bits.false
    (sym c.leftover_set.ensures ∙ c.if-leftover_set.false) _
    (over-place _ _ _ c.tree_end.ensures c.in-Ok.is c.if-next-bits.true) (omega arith)

pub returns-then-parents-size : goal.returns-then-parents-size
returns-then-parents-size c =
    let w =
    over-whole _ _ _ c.tree_end.ensures c.in-Ok.is c.if-next-bits.false in
    ap (λ r. came_to (answer_of r) c.args.parents.now) c.refuse-then-parents-size.ensures
    ∙ parents-room _ _ _ c.if-bits-gt-MOST_BITS.false
    c.if-bytes-bits.false
    (sym c.leftover_set.ensures ∙ c.if-leftover_set.false) w.0 _
    w.1 c.if-parents-size.true

pub write_parents-requires : goal.write_parents-requires
write_parents-requires c =
    let w =
    over-whole _ _ _ c.tree_end.ensures c.in-Ok.is c.if-next-bits.false in
    record { n_bound = omega arith; n_bound_2 = omega arith; nodes_value = sym w.1; nodes_in_bounds = c.if-parents-size.false }

pub overflow_cast-size : goal.overflow_cast-size
overflow_cast-size c =
    omega (
      arith,
      over-size _ _ _ c.tree_end.ensures
          c.in-Ok.is,
    )

pub returns-in-Err : goal.returns-in-Err
returns-in-Err c =
    ap (λ r. came_to (answer_of r) c.args.parents.now) c.refuse-in-Err.ensures
    ∙ parents-refused _ _ _ c.if-bits-gt-MOST_BITS.false c.if-bytes-bits.false
    (sym c.leftover_set.ensures ∙ c.if-leftover_set.false) _
    (refused-place _ _ _ c.tree_end.ensures c.in-Err.is)
    (refused-from _ _ _ c.tree_end.ensures c.in-Err.is)

pub returns : goal.returns
returns c =
    let w =
    over-whole _ _ _ c.tree_end.ensures
    c.in-Ok.is c.if-next-bits.false in
    ap₂ (λ r l. came_to r l) c.done.ensures c.write_parents.ensures
    ∙ parents-made _ _ _ c.if-bits-gt-MOST_BITS.false
    c.if-bytes-bits.false
    (sym c.leftover_set.ensures
    ∙ c.if-leftover_set.false)
    w.0 _ w.1 c.if-parents-size.false
