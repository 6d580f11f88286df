use native.Mathlib.Omega.{arith}
use Rattle.ask_allowed.proofs.Turns.{questions-count}
use Rattle.ask_answers.proofs.Answers.{answered-allowed, answered-next, answered-last}
use Rattle.ask_answers.proofs.write_answers.Goals as goal

pub answer_at-requires-clause-i_value : goal.answer_at-requires-clause-i_value
answer_at-requires-clause-i_value c = answered-allowed _ _ _ _ _ _ _ _ c.loop-k.invariant (omega arith)

pub bounds-answers-k : goal.bounds-answers-k
bounds-answers-k c = omega (arith, c.loop-k.invariant.room, questions-count c.args.asked.now)

pub loop-k-preserved : goal.loop-k-preserved
loop-k-preserved c =
    answered-next _ _ _ _ _ _ _ _ c.loop-k.invariant (omega arith) (omega (arith, questions-count c.args.asked.now)) _
    c.answer_at.ensures

pub returns : goal.returns
returns c = answered-last _ _ _ _ _ _ _ _ c.loop-k.invariant (omega arith)
