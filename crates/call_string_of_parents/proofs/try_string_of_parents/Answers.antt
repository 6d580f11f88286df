use Rattle.std.specs.Prelude.{Ok, Err}
use Rattle.std.proofs.Common.{rules}
use mathlib.Core.Path.{◌≡◌, sym, ap, ◌∙◌}
use native.Mathlib.Omega.{arith}
use Rattle.meaning.specs.Answers.{answer_of, first_holding}
use Rattle.meaning.specs.Tests.{parent_rows}
use Rattle.theory.proofs.Settled.{answered}
use Rattle.bits_append.proofs.Appending.{appended-none}
use Rattle.parents_check.proofs.Refusing.{writable}
use Rattle.call_string_of_parents.proofs.Answers.{string-refused, string-room, string-made}
use Rattle.call_string_of_parents.proofs.try_string_of_parents.Goals as goal
use Rattle.call_string_of_parents.proofs.try_string_of_parents.Goals.{In_ok-parents_refusal}

-- the list may be written
passed : (t : goal.In_ok-parents_refusal) → (Ok tt) ≡ first_holding (parent_rows t.args.parents.now)
passed t = sym t.in_ok-parents_refusal.was ∙ t.parents_refusal.ensures

pub returns-then-bytes-bits : goal.returns-then-bytes-bits
returns-then-bytes-bits c =
    answered (ap answer_of c.refuse.ensures) (string-room _ _ (passed (goal.at.returns-then-bytes-bits c).In_ok-parents_refusal) (omega (arith, c.if-bytes-bits.true)))

pub write_string-requires : goal.write_string-requires
write_string-requires c =
    let w = writable _ (passed (goal.at.write_string-requires c).In_ok-parents_refusal) in
    record { in_bounds = w.some; ps_len_bound = w.most; ps_value = w.good; from_bound = omega arith; ps_bound = omega (arith, c.if-bytes-bits.false) }

pub overflow_cast-bits : goal.overflow_cast-bits
overflow_cast-bits c = omega (arith, (writable _ (passed (goal.at.overflow_cast-bits c).In_ok-parents_refusal)).most)

pub returns-in_err-parents_refusal : goal.returns-in_err-parents_refusal
returns-in_err-parents_refusal c =
    let e : c.from_residual.result ≡ Err c.in_err-parents_refusal.field-0.0 = search rules in
    answered (ap answer_of e) (string-refused _ _ (sym c.in_err-parents_refusal.was ∙ c.parents_refusal.ensures))

pub returns : goal.returns
returns c =
    string-made _ _ (passed (goal.at.returns c).In_ok-parents_refusal) c.if-bytes-bits.false c.done.ensures (c.write_string.ensures ∙ appended-none _ _)
