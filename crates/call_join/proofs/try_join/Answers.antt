use Rattle.std.specs.Prelude.{Err}
use Rattle.std.proofs.Common.{rules}
use mathlib.Core.Path.{◌≡◌, sym, ap, ◌∙◌}
use Rattle.meaning.specs.Answers.{answer_of}
use Rattle.theory.proofs.Places.{no_place, the_place}
use native.Mathlib.Omega.{arith}
use lib.ListN.{length}
use Rattle.theory.proofs.Lowest.{bad-within}
use Rattle.parents_check.proofs.Rising.{good_parents}
use Rattle.theory.proofs.Settled.{answered}
use Rattle.table_sizes.specs.ToJoin.{JoinSized}
use Rattle.table_sizes.proofs.ToJoin.{told_right}
use Rattle.call_join.proofs.Joining.{join_wrong, join_refused, join_entry, join_room, join_done}
use Rattle.call_join.proofs.try_join.Goals as goal
use Rattle.call_join.proofs.try_join.Goals.{Else-join_sizes_wrong}

-- all sizes are right
sized : (c : goal.Else-join_sizes_wrong) → let a = c.args in JoinSized (length a.pack.now) a.bits a.trees (length a.parents.now)
sized c =
    let a = c.args in
    told_right (length a.pack.now) a.bits a.trees (length a.parents.now) c.join_sizes_wrong.ensures c.if-join_sizes_wrong.false

pub returns-then-join_sizes_wrong : goal.returns-then-join_sizes_wrong
returns-then-join_sizes_wrong c = answered (ap answer_of c.refuse.ensures) (join_wrong _ _ _ _ c.join_sizes_wrong.ensures c.if-join_sizes_wrong.true)

pub check_pack-requires : goal.check_pack-requires
check_pack-requires c = let z = sized (goal.at.check_pack-requires c).Else-join_sizes_wrong in record {
  n_bound = omega (arith, z.bytes);
  n_bound_2 = omega (arith, z.fits);
  trees_bound = omega (arith, z.room);
}

pub bad_entry-requires : goal.bad_entry-requires
bad_entry-requires c = let z = sized (goal.at.bad_entry-requires c).Else-join_sizes_wrong in record { in_bounds = z.some; ps_len_bound = z.most }

pub overflow_cast-bad : goal.overflow_cast-bad
overflow_cast-bad c =
    let z = sized (goal.at.overflow_cast-bad c).Else-join_sizes_wrong in
    let at = the_place _ _ (sym c.bad_entry.ensures ∙ c.in-Some.is) in
    omega (arith, at.0, bad-within c.args.parents.now z.some)

pub returns-in-Some : goal.returns-in-Some
returns-in-Some c =
    let at = the_place _ _ (sym c.bad_entry.ensures ∙ c.in-Some.is) in
    answered (ap answer_of c.refuse-in-Some.ensures)
    (join_entry _ _ _ _ (sized (goal.at.returns-in-Some c).Else-join_sizes_wrong) (sym c.in_ok-check_pack.was ∙ c.check_pack.ensures) (sym at.0)
    (λ z. omega (arith, at.1)))

pub overflow_add-longer : goal.overflow_add-longer
overflow_add-longer c = omega (arith, (sized (goal.at.overflow_add-longer c).Else-join_sizes_wrong).fits)

pub overflow_add-longer-2 : goal.overflow_add-longer-2
overflow_add-longer-2 c = omega (arith, (sized (goal.at.overflow_add-longer-2 c).Else-join_sizes_wrong).fits)

pub returns-then-pack-longer : goal.returns-then-pack-longer
returns-then-pack-longer c =
    let a = c.args in
    let z = sized (goal.at.returns-then-pack-longer c).Else-join_sizes_wrong in
    let g = no_place _ (sym c.bad_entry.ensures ∙ c.in_default.is) in
    answered (ap answer_of c.refuse-then-pack-longer.ensures)
    (join_room a.pack.now a.bits a.trees a.parents.now z (sym c.in_ok-check_pack.was ∙ c.check_pack.ensures) g (good_parents _ z.some g)
    (omega (arith, c.if-pack-longer.true)))

pub write_string-requires : goal.write_string-requires
write_string-requires c =
    let z = sized (goal.at.write_string-requires c).Else-join_sizes_wrong in
    record {
      in_bounds = z.some;
      ps_len_bound = z.most;
      ps_value = no_place _ (sym c.bad_entry.ensures ∙ c.in_default.is);
      from_bound = omega (arith, z.fits);
      ps_bound = omega (arith, c.if-pack-longer.false);
    }

pub overflow_cast-found : goal.overflow_cast-found
overflow_cast-found c = let z = sized (goal.at.overflow_cast-found c).Else-join_sizes_wrong in omega arith

pub overflow_cast-longer : goal.overflow_cast-longer
overflow_cast-longer c = let z = sized (goal.at.overflow_cast-longer c).Else-join_sizes_wrong in omega arith

pub overflow_add-found : goal.overflow_add-found
overflow_add-found c = let z = sized (goal.at.overflow_add-found c).Else-join_sizes_wrong in omega arith

pub returns-in_err-check_pack : goal.returns-in_err-check_pack
returns-in_err-check_pack c =
    let e : c.from_residual.result ≡ Err c.in_err-check_pack.field-0.0 = search rules in
    answered (ap answer_of e)
    (join_refused _ _ _ _ (sized (goal.at.returns-in_err-check_pack c).Else-join_sizes_wrong) (sym c.in_err-check_pack.was ∙ c.check_pack.ensures))

pub returns : goal.returns
returns c =
    let z = sized (goal.at.returns c).Else-join_sizes_wrong in
    let g = no_place _ (sym c.bad_entry.ensures ∙ c.in_default.is) in
    join_done _ _ _ _ z (sym c.in_ok-check_pack.was ∙ c.check_pack.ensures) g (good_parents _ z.some g) c.done.ensures
    c.write_string.ensures (omega (arith, c.if-pack-longer.false))
