use Rattle.std.proofs.Common.{ℕ, ◌+◌, ◌-◌, get_or, set, ◌∙◌, arith}
use Rattle.meaning.specs.Text.{inside}
use Rattle.text_nesting.specs.declared.TextFault.TheVariants.{Broken}
use Rattle.text_nesting.specs.Nesting.{Same, Stops}
use Rattle.text_nesting.proofs.Laws.{then, opens, closes, deep, no_bracket, ends, ready_on, node_stops}
use Rattle.text_nesting.proofs.+list_node.Goals as goal
use Rattle.text_nesting.proofs.+list_node.Goals.{node-Else-left-eq0, node-else-end-text-via-then-end-text+else-text-end-eq-CLOSING, node-else-end-text-via-else-end-text}

pub list-loop-at-init : goal.list-loop-at-init
list-loop-at-init t c =
    let e = c.past_blanks-at.ensures in
    let same = e.same (inside (64 - c.args.left) c.args.left) c.args.levels.now tt in
    (ready_on c.requires.ready same.up e.within, same, e.here)

pub node-returns-then-left-eq0 : goal.node-returns-then-left-eq0
node-returns-then-left-eq0 t c = rw c.if-left-eq0.true (deep c.args.text.now c.args.at c.requires.at_in_bounds _ c.requires.at_value)

-- the bracket is read
opened : (t : ℕ) (c : goal.node-Else-left-eq0 t)
    → let a = c.args in
    let l = a.levels.now in
    let o = 65 - a.left in
    Same a.text.now a.at (a.at + 1) (inside (64 - a.left) a.left) (inside (64 - (a.left - 1)) (a.left - 1)) l (set l o (get_or l o 0 + 1))
opened t c = opens c.args.text.now c.args.at c.requires.at_in_bounds c.args.left c.args.levels.now (omega arith) (omega arith) c.requires.at_value

pub node-returns-in_default : goal.node-returns-in_default
node-returns-in_default t c =
    node_stops c.list-found.new.levels c.args.at c.args.left c.list-found.result c.in_default.not-Over
    (opened t (goal.at.node-returns-in_default t c).Else-left-eq0)
    c.list-found.ensures

pub node-returns-then-text-end-eq-CLOSING : goal.node-returns-then-text-end-eq-CLOSING
node-returns-then-text-end-eq-CLOSING t c =
    let a = c.args in
    let r = c.in-Over.ensures in
    let h = c.if-end-text.true in
    let read = then (opened t (goal.at.node-returns-then-text-end-eq-CLOSING t c).Else-left-eq0) r.2 in
    let same = then read (closes a.text.now _ h a.left _ (omega arith) (omega arith) c.if-text-end-eq-CLOSING.true) in
    (omega (arith, r.2.up), ready_on r.1 (omega arith) (omega arith), same)

pub node-returns : goal.node-returns
node-returns t c =
    let text = c.args.text.now in
    let to = c.in-Over.end in
    let r = c.in-Over.ensures in
    let read = then (opened t (goal.at.node-returns t c).Else-left-eq0) r.2 in
    let s = inside (64 - (c.args.left - 1)) (c.args.left - 1) in
    let x : Stops text to s (Broken (to + 1)) = elim c.else-end-text.branch [
      | node-else-end-text-via-then-end-text+else-text-end-eq-CLOSING w ↦
          let h = w.if-end-text.true in
          let n = r.0 h in
          no_bracket text to h n.0 _ _ n.1 w.if-text-end-eq-CLOSING.false
      | node-else-end-text-via-else-end-text w ↦ ends text to _ _ w.if-end-text.false r.1.within
    ] in
    (omega (arith, r.2.up), omega (arith, r.1.within), read.read ∙ x.2)
