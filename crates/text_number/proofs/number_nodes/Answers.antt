use Rattle.std.proofs.Common.{subst, ◌+◌, ◌<◌, length, drop, arith}
use Rattle.meaning.specs.Brackets.{tree_in}
use Rattle.meaning.specs.Text.{brackets_in}
use Rattle.text_laws.proofs.Bytes.{opening-at, closing_at, none-at, none_left}
use Rattle.text_walk.specs.Walk.{cursor, Walking}
use Rattle.text_walk.proofs.Walk.{walk_start, walk_close, walk_end}
use Rattle.text_number.proofs.Numbering.{numbered-start, opens_node, opened, numbered-end}
use Rattle.text_number.proofs.number_nodes.Goals as goal
use Rattle.text_number.proofs.number_nodes.Goals.{Then-c-eq-OPENING, then-c-eq-OPENING, else-c-eq-OPENING+then-c-eq-CLOSING, else-c-eq-OPENING+else-c-eq-CLOSING}

pub loop-c-init : goal.loop-c-init
loop-c-init c =
    let text = c.args.text.now in
    let t = tree_in (brackets_in text) in (
      subst (Walking t c.args.levels.now 0) c.requires.whole (walk_start t c.args.levels.now c.requires.ready),
      numbered-start t c.args.levels.now c.args.out.now c.requires.ready,
    )

-- where the node is that is opened
bounds : (c : goal.Then-c-eq-OPENING)
    → let l = c.loop-c in
    (l.open < 64) × (cursor l.levels (l.open + 1) < length l.out) × (cursor l.levels (l.open + 1) < 65535)
bounds c =
    let l = c.loop-c in
    let text = c.args.text.now in
    let t = tree_in (brackets_in text) in
    let read = subst (Walking t l.levels l.open) (opening-at text l.c-index c.loop-c-test.true c.if-c-eq-OPENING.true) l.invariant.0 in
    let r = opens_node t l.levels l.out c.args.out.now l.open _ read in
    (r.0, omega (arith, r.1, c.requires.room, l.invariant.1.size), omega (arith, r.1, c.requires.most))

pub bounds-out-before : goal.bounds-out-before
bounds-out-before c = let b = bounds (goal.at.bounds-out-before c).Then-c-eq-OPENING in omega arith

pub overflow_add-levels : goal.overflow_add-levels
overflow_add-levels c = let b = bounds (goal.at.overflow_add-levels c).Then-c-eq-OPENING in omega arith

pub overflow_sub-open : goal.overflow_sub-open
overflow_sub-open c =
    let l = c.loop-c in
    let text = c.args.text.now in
    let t = tree_in (brackets_in text) in
    (walk_close t l.levels l.open _ (subst (Walking t l.levels l.open) (closing_at text l.c-index c.loop-c-test.true c.if-c-eq-OPENING.false c.if-c-eq-CLOSING.true) l.invariant.0)).0

pub loop-c-preserved : goal.loop-c-preserved
loop-c-preserved c =
    let l = c.loop-c in
    let text = c.args.text.now in
    let t = tree_in (brackets_in text) in
    let rest = brackets_in (drop (l.c-index + 1) text) in
    let h = c.loop-c-test.true in
    elim c.if-c-eq-OPENING.branch [
      | then-c-eq-OPENING w ↦
          let read = subst (Walking t l.levels l.open) (opening-at text l.c-index h w.if-c-eq-OPENING.true) l.invariant.0 in
          let r = opened t l.levels l.out c.args.out.now l.open rest read l.invariant.1 c.requires.room in
          rw (w.levels-is, w.out-is, w.open-is) (r.0, r.1)
      | else-c-eq-OPENING+then-c-eq-CLOSING w ↦
          let read = subst (Walking t l.levels l.open) (closing_at text l.c-index h w.if-c-eq-OPENING.false w.if-c-eq-CLOSING.true) l.invariant.0 in
          rw (w.levels-is, w.out-is, w.open-is) ((walk_close t l.levels l.open _ read).1, l.invariant.1)
      | else-c-eq-OPENING+else-c-eq-CLOSING w ↦
          let read = subst (Walking t l.levels l.open) (none-at text l.c-index h w.if-c-eq-OPENING.false w.if-c-eq-CLOSING.false) l.invariant.0 in
          rw (w.levels-is, w.out-is, w.open-is) (read, l.invariant.1)
    ]

pub returns : goal.returns
returns c =
    let l = c.loop-c in
    let text = c.args.text.now in
    let t = tree_in (brackets_in text) in
    numbered-end t l.levels l.out c.args.out.now l.invariant.1 c.requires.room c.requires.ready.last
    (walk_end t l.levels l.open (subst (λ bs. Walking t l.levels l.open bs) (none_left text l.c-index c.loop-c-test.false) l.invariant.0))
