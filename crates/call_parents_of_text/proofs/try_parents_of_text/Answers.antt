use Rattle.std.proofs.Common.{◌≡◌, refl, ap, arith, Err}
use Rattle.meaning.specs.Trees.{nodes}
use Rattle.meaning.specs.Brackets.{tree_in}
use Rattle.meaning.specs.Text.{brackets_in}
use Rattle.meaning.specs.Answers.{answer_of}
use Rattle.theory.proofs.Settled.{answered}
use Rattle.text_number.proofs.Starting.{zeros-at}
use Rattle.call_parents_of_text.proofs.Calling.{text-long, text_broken, text_deeper, count_is, to_number, text_many, text-short, text-given}
use Rattle.call_parents_of_text.proofs.try_parents_of_text.Goals as goal
use Rattle.call_parents_of_text.proofs.try_parents_of_text.Goals.{After-level_starts-nodes}

pub returns-then-text-gt-MOST_TEXT : goal.returns-then-text-gt-MOST_TEXT
returns-then-text-gt-MOST_TEXT c = answered (ap answer_of c.refuse.ensures) (text-long _ _ c.if-text-gt-MOST_TEXT.true)

pub read_text-requires : goal.read_text-requires
read_text-requires c =
    record { short = c.if-text-gt-MOST_TEXT.false; within = omega arith; count = refl; few = λ e. omega (arith, zeros-at 66 e) }

-- the nodes that were counted
count : (c : goal.After-level_starts-nodes) → c.level_starts-nodes.result ≡ nodes (tree_in (brackets_in c.args.text.now))
count c =
    let o = c.in-Ok.ensures in
    count_is c.args.text.now c.args.parents.now c.if-text-gt-MOST_TEXT.false o.0 _ c.level_starts-nodes.new.levels o.1 c.level_starts-nodes.result c.level_starts-nodes.ensures.value

pub returns-then-nodes-gt-MOST_NODES : goal.returns-then-nodes-gt-MOST_NODES
returns-then-nodes-gt-MOST_NODES c =
    let n = count (goal.at.returns-then-nodes-gt-MOST_NODES c).After-level_starts-nodes in
    answered (ap answer_of c.refuse-then-nodes-gt-MOST_NODES.ensures) (text_many _ _ c.if-text-gt-MOST_TEXT.false c.in-Ok.ensures.0 (omega (arith, n, c.if-nodes-gt-MOST_NODES.true)))

pub returns-then-parents-nodes : goal.returns-then-parents-nodes
returns-then-parents-nodes c =
    let n = count (goal.at.returns-then-parents-nodes c).After-level_starts-nodes in
    answered (ap answer_of c.refuse-then-parents-nodes.ensures)
    (text-short _ _ c.if-text-gt-MOST_TEXT.false c.in-Ok.ensures.0 (omega (arith, n, c.if-nodes-gt-MOST_NODES.false)) (omega (arith, n, c.if-parents-nodes.true)))

pub number_nodes-requires : goal.number_nodes-requires
number_nodes-requires c =
    let n = count (goal.at.number_nodes-requires c).After-level_starts-nodes in
    let o = c.in-Ok.ensures in
    let starts = c.level_starts-nodes.ensures in
    to_number c.args.text.now c.args.parents.now c.if-text-gt-MOST_TEXT.false o.0 _ c.level_starts-nodes.new.levels o.1 starts.levels_len_2 starts.by_index_2
    (omega (arith, n, c.if-nodes-gt-MOST_NODES.false)) (omega (arith, n, c.if-parents-nodes.false))

pub returns-in-Err-Broken : goal.returns-in-Err-Broken
returns-in-Err-Broken c =
    let b = rw c.in-Err-Broken.field-0-is at c.in-Err-Broken.ensures in
    let e : c.refuse-in-Err-Broken.result ≡ Err (record { code = 16; place = c.in-Err-Broken.byte }) = cc in
    answered (ap answer_of e) (text_broken _ _ c.if-text-gt-MOST_TEXT.false _ b.0 b.2)

pub returns-in-Err-Deeper : goal.returns-in-Err-Deeper
returns-in-Err-Deeper c =
    let b = rw c.in-Err-Deeper.field-0-is at c.in-Err-Deeper.ensures in
    let e : c.refuse-in-Err-Deeper.result ≡ Err (record { code = 17; place = c.in-Err-Deeper.byte }) = cc in
    answered (ap answer_of e) (text_deeper _ _ c.if-text-gt-MOST_TEXT.false _ b.0 b.2)

pub returns-else-parents-nodes : goal.returns-else-parents-nodes
returns-else-parents-nodes c =
    let n = count (goal.at.returns-else-parents-nodes c).After-level_starts-nodes in
    text-given c.args.text.now c.args.parents.now c.if-text-gt-MOST_TEXT.false c.in-Ok.ensures.0 (omega (arith, n, c.if-nodes-gt-MOST_NODES.false))
    (omega (arith, n, c.if-parents-nodes.false)) c.level_starts-nodes.result c.done.result _ n c.done.ensures c.number_nodes.ensures
