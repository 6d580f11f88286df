use Rattle.std.specs.Prelude.{Ok}
use mathlib.Core.Path.{◌≡◌, sym, ap, ap₂, ◌∙◌}
use mathlib.Core.Bool.{false}
use native.Mathlib.Omega.{arith}
use Rattle.meaning.specs.Answers.{answer_of, came_to}
use Rattle.meaning.specs.Image.{present, metres_in}
use Rattle.meaning.specs.Questions.{questions, not_allowed}
use Rattle.theory.specs.Places.{place_of}
use Rattle.theory.proofs.Places.{no_place}
use Rattle.calls.specs.Calls.{wrong_questions}
use Rattle.image_found.specs.Checked.{checked, answered}
use Rattle.ask_allowed.proofs.Turns.{questions-count}
use Rattle.call_ask.proofs.Asking.{not_threes, too_many, threes, lowest_is, asked_size, asked_refused, asked_bad, asked_short, asked_answered}
use Rattle.call_ask.proofs.try_ask.Goals as goal
use Rattle.call_ask.proofs.try_ask.Goals.{After-lowest_not_allowed}

-- ---- what is known where the lowest question that is not allowed is
right : (l : goal.After-lowest_not_allowed) → wrong_questions l.args.questions.now ≡ false
right l =
    threes l.args.questions.now l.if-questions-ne0.false
    (omega (arith, l.if-count-gt-MOST_QUESTIONS.false))

sound : (l : goal.After-lowest_not_allowed)
    → checked l.args.b.now ≡ Ok l.in-Ok.image
sound l = sym l.check-found.ensures ∙ l.in-Ok.is

lowest : (l : goal.After-lowest_not_allowed)
    → l.lowest_not_allowed.result
    ≡ place_of (not_allowed l.in-Ok.image.nodes (present (metres_in l.args.b.now)) (questions l.args.questions.now) 0)
lowest l =
    let a = l.args in
    lowest_is a.b.now a.questions.now a.answers.now (right l) _ (sound l) _ l.has_metres.result l.has_metres.ensures l.lowest_not_allowed.ensures

pub returns-then-questions-ne0 : goal.returns-then-questions-ne0
returns-then-questions-ne0 c =
    let a = c.args in
    ap (λ r. came_to (answer_of r) a.answers.now) c.refuse.ensures
    ∙ asked_size a.b.now a.questions.now a.answers.now (not_threes a.questions.now (λ e. c.if-questions-ne0.true (omega (arith, e))))

pub returns-then-count-gt-MOST_QUESTIONS : goal.returns-then-count-gt-MOST_QUESTIONS
returns-then-count-gt-MOST_QUESTIONS c =
    let a = c.args in
    ap (λ r. came_to (answer_of r) a.answers.now) c.refuse-then-count-gt-MOST_QUESTIONS.ensures
    ∙ asked_size a.b.now a.questions.now a.answers.now (too_many a.questions.now (omega (arith, c.if-count-gt-MOST_QUESTIONS.true)))

pub returns-in_default : goal.returns-in_default
returns-in_default c =
    let a = c.args in
    ap (λ r. came_to r a.answers.now) (c.answer_of.ensures ∙ ap answered c.in_default.is)
    ∙ asked_refused a.b.now a.questions.now a.answers.now
    (threes a.questions.now c.if-questions-ne0.false (omega (arith, c.if-count-gt-MOST_QUESTIONS.false))) _
    (sym c.check-found.ensures ∙ c.in_default.is)

pub lowest_not_allowed-requires : goal.lowest_not_allowed-requires
lowest_not_allowed-requires c = omega (arith, c.if-questions-ne0.false, c.if-count-gt-MOST_QUESTIONS.false)

pub returns-in-Some : goal.returns-in-Some
returns-in-Some c =
    let a = c.args in
    let l = (goal.at.returns-in-Some c).After-lowest_not_allowed in
    ap (λ r. came_to (answer_of r) a.answers.now) c.refuse-in-Some.ensures
    ∙ asked_bad a.b.now a.questions.now a.answers.now (right l) _ (sound l) c.in-Some.bad (sym (lowest l) ∙ c.in-Some.is)

pub returns-then-answers-count : goal.returns-then-answers-count
returns-then-answers-count c =
    let a = c.args in
    ap (λ r. came_to (answer_of r) a.answers.now) c.refuse-then-answers-count.ensures
    ∙ asked_short a.b.now a.questions.now a.answers.now (right (goal.at.returns-then-answers-count c).After-lowest_not_allowed) _
    (sound (goal.at.returns-then-answers-count c).After-lowest_not_allowed)
    (no_place _ (sym (lowest (goal.at.returns-then-answers-count c).After-lowest_not_allowed) ∙ c.in_default-lowest_not_allowed.is)) c.if-answers-count.true

pub write_answers-requires : goal.write_answers-requires
write_answers-requires c =
    let a = c.args in
    record {
      b_value = sound (goal.at.write_answers-requires c).After-lowest_not_allowed;
      asked_value = no_place _ (sym (lowest (goal.at.write_answers-requires c).After-lowest_not_allowed) ∙ c.in_default-lowest_not_allowed.is);
      asked_in_bounds = omega (arith, questions-count a.questions.now, c.if-answers-count.false);
    }

pub returns : goal.returns
returns c =
    let a = c.args in
    ap₂ came_to c.done.ensures c.write_answers.ensures
    ∙ asked_answered a.b.now a.questions.now a.answers.now (right (goal.at.returns c).After-lowest_not_allowed) _ (sound (goal.at.returns c).After-lowest_not_allowed)
    (no_place _ (sym (lowest (goal.at.returns c).After-lowest_not_allowed) ∙ c.in_default-lowest_not_allowed.is))
    c.if-answers-count.false
