use Rattle.std.specs.Prelude.{Err}
use mathlib.Core.Path.{◌≡◌, refl, sym, ap, ◌∙◌}
use Rattle.meaning.specs.Answers.{answer_of}
use native.Mathlib.Omega.{arith}
use borrow.Author.Rules.{rules}
use lib.ListN.{length}
use Rattle.theory.proofs.Settled.{answered}
use Rattle.table_sizes.specs.ToSplit.{SplitSized}
use Rattle.table_sizes.proofs.ToSplit.{told_right}
use Rattle.call_split.proofs.Splitting.{split_wrong, split_refused, split_firsts, split_sizes, split_done}
use Rattle.call_split.proofs.try_split.Goals as goal
use Rattle.call_split.proofs.try_split.Goals.{Else-split_sizes_wrong}

-- the sizes of what is lent are right
sized : (c : goal.Else-split_sizes_wrong) → let a = c.args in SplitSized (length a.bytes.now) a.bits a.trees
sized c = let a = c.args in told_right (length a.bytes.now) a.bits a.trees c.split_sizes_wrong.ensures c.if-split_sizes_wrong.false

pub returns-then-split_sizes_wrong : goal.returns-then-split_sizes_wrong
returns-then-split_sizes_wrong c = answered (ap answer_of c.refuse.ensures) (split_wrong _ _ _ _ _ c.split_sizes_wrong.ensures c.if-split_sizes_wrong.true)

pub check_and_note-requires : goal.check_and_note-requires
check_and_note-requires c = let z = sized (goal.at.check_and_note-requires c).Else-split_sizes_wrong in record { n_bound = omega (arith, z.exact); n_bound_2 = z.short; trees_bound = z.few }

pub returns-then-firsts-trees : goal.returns-then-firsts-trees
returns-then-firsts-trees c =
    answered (ap answer_of c.refuse-then-firsts-trees.ensures)
    (split_firsts _ _ _ _ _ (sized (goal.at.returns-then-firsts-trees c).Else-split_sizes_wrong)
    (sym c.in_ok-check_and_note.was ∙ c.check_and_note.ensures.value) c.if-firsts-trees.true)

pub returns-then-counts-trees : goal.returns-then-counts-trees
returns-then-counts-trees c =
    let a = c.args in
    answered (ap answer_of c.refuse-then-counts-trees.ensures)
    (split_sizes a.bytes.now a.bits a.trees a.firsts.now a.counts.now (sized (goal.at.returns-then-counts-trees c).Else-split_sizes_wrong)
    (sym c.in_ok-check_and_note.was ∙ c.check_and_note.ensures.value)
    (omega (arith, c.if-firsts-trees.false, c.if-counts-trees.true)))

pub hand_over-requires : goal.hand_over-requires
hand_over-requires c = let few = (sized (goal.at.hand_over-requires c).Else-split_sizes_wrong).few in search rules

pub hand_over-requires-2 : goal.hand_over-requires-2
hand_over-requires-2 c = let few = (sized (goal.at.hand_over-requires-2 c).Else-split_sizes_wrong).few in search rules

pub overflow_cast-found : goal.overflow_cast-found
overflow_cast-found c = let z = sized (goal.at.overflow_cast-found c).Else-split_sizes_wrong in omega arith

pub overflow_cast-bits : goal.overflow_cast-bits
overflow_cast-bits c = let z = sized (goal.at.overflow_cast-bits c).Else-split_sizes_wrong in omega arith

pub returns-in_err-check_and_note : goal.returns-in_err-check_and_note
returns-in_err-check_and_note c =
    let e : c.from_residual.result ≡ Err c.in_err-check_and_note.field-0.0 = search rules in
    answered (ap answer_of e)
    (split_refused _ _ _ _ _ (sized (goal.at.returns-in_err-check_and_note c).Else-split_sizes_wrong)
    (sym c.in_err-check_and_note.was ∙ c.check_and_note.ensures.value))

pub returns : goal.returns
returns c =
    let h = c.check_and_note.ensures in
    let all = c.in_ok-check_and_note.was in
    split_done _ _ _ _ _ (sized (goal.at.returns c).Else-split_sizes_wrong) (sym all ∙ c.check_and_note.ensures.value) _ c.done.ensures refl
    (c.check_and_note.ensures.firsts_after all) (c.check_and_note.ensures.counts_after all)
    c.hand_over.ensures c.hand_over-2.ensures
    c.if-firsts-trees.false
    c.if-counts-trees.false
