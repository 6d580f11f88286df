use mathlib.Core.Path.{sym, ap}
use Rattle.meaning.specs.Answers.{◌at◌when◌, alone}
use Rattle.table_answers.proofs.row.Goals as goal

pub returns-then-holds : goal.returns-then-holds
returns-then-holds c = sym (ap (λ b. alone (c.args.code at c.args.place when b)) c.if-holds.true)

pub returns : goal.returns
returns c = sym (ap (λ b. alone (c.args.code at c.args.place when b)) c.if-holds.false)
