use Rattle.std.proofs.Common.{◌+◌}
use Rattle.meaning.specs.Text.{inside, over}
use Rattle.text_nesting.specs.declared.TextFault.TheVariants.{Broken, Deeper}
use Rattle.text_nesting.specs.Nesting.{Same, Ready, Stops}
use Rattle.text_nesting.proofs.Laws.{then, no_opening, no_end, ends, ready_on, text_stops, text-over}
use Rattle.text_nesting.proofs.read_text.Goals as goal
use Rattle.text_nesting.proofs.read_text.Goals.{After-past_blanks-first, After-past_blanks-after, else-first-text-via-then-first-text+else-text-first-eq-OPENING, else-first-text-via-else-first-text}

-- the blanks in front
first : (c : goal.After-past_blanks-first)
    → let a = c.args in
    Same a.text.now 0 c.past_blanks-first.result (inside 0 64) (inside 0 64) a.levels.now a.levels.now
first c = c.past_blanks-first.ensures.same (inside 0 64) c.args.levels.now tt

pub returns-in-Broken : goal.returns-in-Broken
returns-in-Broken c = text_stops c.node.new.levels (first (goal.at.returns-in-Broken c).After-past_blanks-first) (Broken c.in-Broken.byte) c.in-Broken.ensures

pub returns-in-Deeper : goal.returns-in-Deeper
returns-in-Deeper c = text_stops c.node.new.levels (first (goal.at.returns-in-Deeper c).After-past_blanks-first) (Deeper c.in-Deeper.byte) c.in-Deeper.ensures

-- the node, and the blanks after it
after : (c : goal.After-past_blanks-after)
    → let a = c.args in
    let levels = c.node.new.levels in
    Ready a.text.now c.past_blanks-after.result levels × Same a.text.now 0 c.past_blanks-after.result (inside 0 64) over a.levels.now levels
after c =
    let r = c.in-Over.ensures in
    let e = c.past_blanks-after.ensures in
    let same = e.same over c.node.new.levels tt in
    (ready_on r.1 same.up e.within, then (c.past_blanks-first.ensures.same (inside 0 64) c.args.levels.now tt) (then r.2 same))

pub returns-then-after-text : goal.returns-then-after-text
returns-then-after-text c =
    let h = c.if-after-text.true in
    let b = after (goal.at.returns-then-after-text c).After-past_blanks-after in
    text_stops c.args.levels.now b.1 (Broken (c.past_blanks-after.result + 1)) (no_end _ _ h (c.past_blanks-after.ensures.here h))

pub returns-then-text-first-eq-OPENING : goal.returns-then-text-first-eq-OPENING
returns-then-text-first-eq-OPENING c =
    let b = after (goal.at.returns-then-text-first-eq-OPENING c).After-past_blanks-after in
    text-over b.1 c.if-after-text.false b.0

pub returns : goal.returns
returns c =
    let text = c.args.text.now in
    let at = c.past_blanks-first.result in
    let e = c.past_blanks-first.ensures in
    let x : Stops text at (inside 0 64) (Broken (at + 1)) = elim c.else-first-text.branch [
      | else-first-text-via-then-first-text+else-text-first-eq-OPENING w ↦
          let h = w.if-first-text.true in
          no_opening text at h (e.here h) 64 w.if-text-first-eq-OPENING.false
      | else-first-text-via-else-first-text w ↦ ends text at _ _ w.if-first-text.false e.within
    ] in
    text_stops c.args.levels.now (e.same (inside 0 64) c.args.levels.now tt) (Broken (at + 1)) x
