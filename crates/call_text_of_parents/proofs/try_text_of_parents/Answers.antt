use Rattle.std.proofs.Common.{◌≡◌, refl, sym, ap, ◌∙◌, arith, rules, Err}
use Rattle.meaning.specs.Answers.{answer_of}
use lib.ListN.{get_or-replicate}
use Rattle.theory.proofs.Settled.{answered}
use Rattle.parents_check.proofs.Refusing.{writable}
use Rattle.call_text_of_parents.proofs.Calling.{list_refused, list_deep, list_short, to_write, list_written}
use Rattle.call_text_of_parents.proofs.try_text_of_parents.Goals as goal

pub overflow_cast-levels : goal.overflow_cast-levels
overflow_cast-levels c = omega (arith, (writable _ (sym c.in_ok-parents_refusal.was ∙ c.parents_refusal.ensures)).most)

pub find_levels-requires-clause-parents : goal.find_levels-requires-clause-parents
find_levels-requires-clause-parents c = (writable _ (sym c.in_ok-parents_refusal.was ∙ c.parents_refusal.ensures)).parents

pub find_levels-requires-clause-list_len_bound : goal.find_levels-requires-clause-list_len_bound
find_levels-requires-clause-list_len_bound c = (writable _ (sym c.in_ok-parents_refusal.was ∙ c.parents_refusal.ensures)).most

pub find_levels-requires-clause-by_index : goal.find_levels-requires-clause-by_index
find_levels-requires-clause-by_index c = λ e h. get_or-replicate 66 e _ 0 h

pub returns-in-Some : goal.returns-in-Some
returns-in-Some c = answered (ap answer_of c.refuse.ensures) (list_deep _ _ (sym c.in_ok-parents_refusal.was ∙ c.parents_refusal.ensures) _ c.in-Some.ensures.value)

pub returns-then-text-bytes : goal.returns-then-text-bytes
returns-then-text-bytes c =
    answered (ap answer_of c.refuse-then-text-bytes.ensures)
    (list_short _ _ (sym c.in_ok-parents_refusal.was ∙ c.parents_refusal.ensures) c.in_default.ensures.value c.if-text-bytes.true)

pub write_brackets-requires : goal.write_brackets-requires
write_brackets-requires c =
    let f = c.in_default.ensures in
    to_write _ _ (sym c.in_ok-parents_refusal.was ∙ c.parents_refusal.ensures) f.value c.if-text-bytes.false _ (λ t q. f.started t q refl)

pub overflow_cast-bytes : goal.overflow_cast-bytes
overflow_cast-bytes c = omega (arith, (writable _ (sym c.in_ok-parents_refusal.was ∙ c.parents_refusal.ensures)).most)

pub returns-in_err-parents_refusal : goal.returns-in_err-parents_refusal
returns-in_err-parents_refusal c =
    let e : c.from_residual.result ≡ Err c.in_err-parents_refusal.field-0.0 = search rules in
    answered (ap answer_of e) (list_refused _ _ _ (sym c.in_err-parents_refusal.was ∙ c.parents_refusal.ensures))

pub returns : goal.returns
returns c =
    list_written _ _ (sym c.in_ok-parents_refusal.was ∙ c.parents_refusal.ensures) c.in_default.ensures.value c.if-text-bytes.false _ _ c.done.ensures c.write_brackets.ensures
