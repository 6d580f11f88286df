use Rattle.std.proofs.Common.{◌≡◌, ℕ, ◌+◌, ◌-◌, ◌*◌, ◌≤◌, ◌<◌, true, false, refl, sym, ap, ◌∙◌, List, length, get_or, set, length-set, arith}
use Rattle.meaning.specs.Trees.{Tree, nodes}
use Rattle.meaning.specs.Brackets.{bracketing}
use Rattle.meaning.specs.Text.{text_of}
use Rattle.meaning.specs.Answers.{written}
use Rattle.text_walk.proofs.Walk.{nodes_of_lem}
use Rattle.text_write.proofs.Writing.{true_not_false, child_told, child_is, Writing, writing_start, writes_open, writes_close, writing_end}
use Rattle.text_write.proofs.write_brackets.Goals as goal
use Rattle.text_write.proofs.write_brackets.Goals.{After-is_child, then-is_child, else-is_child}

pub loop-at-init : goal.loop-at-init
loop-at-init c =
    let p = c.requires in
    (refl, omega arith, (p.tree, p.same, writing_start p.tree c.args.levels.now c.args.text.now p.ready))

-- where the test has been made
module _ (c : goal.After-is_child) where
  abbrev list : List ℕ
  list = c.args.parents.now

  abbrev tree : Tree
  tree = c.loop-at.invariant.2.0

  abbrev next : ℕ
  next = get_or c.loop-at.levels (c.loop-at.open + 1) 0

  size : nodes tree ≡ length list
  size = nodes_of_lem tree c.loop-at.invariant.2.1

  left : c.loop-at.at < 2 * nodes tree
  left = omega (arith, size, c.loop-at-test.true)

  there : 2 * nodes tree ≤ length c.args.text.now
  there = omega (arith, size, c.requires.room)

  -- the next node is a child
  opens : c.is_child.result ≡ true
      → let l = c.loop-at in
      (l.open < 64) × Writing tree (set l.levels (l.open + 1) (next + 1)) (l.open + 1) (set l.text l.at 40) c.args.text.now (l.at + 1)
  opens e =
      let l = c.loop-at in
      let r = child_told list next _ (sym c.is_child.ensures ∙ e) in
      writes_open tree l.levels l.open l.text _ l.at l.invariant.2.2 left there (omega (arith, r.0, size)) (ap (λ ps. get_or ps next 0) l.invariant.2.1 ∙ r.1)

  -- it is not
  closes : c.is_child.result ≡ false → let l = c.loop-at in (1 ≤ l.open) × Writing tree l.levels (l.open - 1) (set l.text l.at 41) c.args.text.now (l.at + 1)
  closes e =
      let l = c.loop-at in
      writes_close tree l.levels l.open l.text _ l.at l.invariant.2.2 left there
      (λ r. true_not_false (sym (child_is list next _ (omega (arith, r.0, size)) (sym (ap (λ ps. get_or ps next 0) l.invariant.2.1) ∙ r.1)) ∙ sym c.is_child.ensures ∙ e))

pub overflow_sub-open : goal.overflow_sub-open
overflow_sub-open c = (closes (goal.at.overflow_sub-open c).After-is_child c.if-is_child.false).0

pub loop-at-preserved : goal.loop-at-preserved
loop-at-preserved c =
    let t = c.loop-at.invariant.2.0 in
    let a = (goal.at.loop-at-preserved c).After-is_child in
    elim c.if-is_child.branch [
      | then-is_child w ↦
          let r = opens a w.if-is_child.true in
          rw (w.levels-is, w.text-is, w.open-is) (simp length-set c.loop-at.invariant.0, omega (arith, r.0), (t, c.loop-at.invariant.2.1, r.1))
      | else-is_child w ↦
          let r = closes a w.if-is_child.false in
          rw (w.levels-is, w.text-is, w.open-is) (simp length-set c.loop-at.invariant.0, omega arith, (t, c.loop-at.invariant.2.1, r.1))
    ]

pub returns : goal.returns
returns c =
    let l = c.loop-at in
    let t = l.invariant.2.0 in
    let text = c.args.text.now in
    writing_end t l.levels l.open l.text text l.at l.invariant.2.2 (omega (arith, nodes_of_lem t l.invariant.2.1, c.loop-at-test.false))
    ∙ ap (λ ps. written (text_of (bracketing ps)) text) l.invariant.2.1
