use native.Mathlib.Omega.{arith}
use mathlib.Core.Path.{◌∙◌}
use Prim.Native.Nat.{◌+◌}
use Rattle.theory.specs.Rank.{ones_left}
use Rattle.theory.specs.Stages.{read_r1}
use Rattle.ask_argument.proofs.Passed.{moved_passed}
use Rattle.nav_sibling_range.proofs.Own.{strings, small1}
use Rattle.nav_siblings.proofs.Siblings.{left_none, left_some, right_none, right_some}
use Rattle.nav_siblings.proofs.sibling_at.Goals as goal

pub shifted-y-requires : goal.shifted-y-requires
shifted-y-requires c =
    let a = c.args in
    omega (arith, (strings a.b.now a.image c.requires.sound).most)

pub returns-then-y-run_before : goal.returns-then-y-run_before
returns-then-y-run_before c =
    let y = c.shifted-y in
    let low = c.run_before in
    left_none c.requires y.result c.args.z (y.ensures ∙ moved_passed c.args.x c.args.z c.ranges.z) low.result low.ensures (omega arith)

pub returns-then-y-x : goal.returns-then-y-x
returns-then-y-x c =
    let y = c.shifted-y in
    let low = c.run_before in
    left_some c.requires y.result c.args.z (y.ensures ∙ moved_passed c.args.x c.args.z c.ranges.z) low.result low.ensures (omega arith) (omega arith)

pub returns-then-run_last-y : goal.returns-then-run_last-y
returns-then-run_last-y c =
    let y = c.shifted-y in
    let high = c.run_last in
    right_none c.requires y.result c.args.z (y.ensures ∙ moved_passed c.args.x c.args.z c.ranges.z) high.result high.ensures (omega arith)

pub overflow_cast-result-2 : goal.overflow_cast-result-2
overflow_cast-result-2 c =
    let a = c.args in
    omega (arith, small1 a.b.now a.image c.requires.sound (ones_left (read_r1 a.b.now) a.x + 1))

pub returns : goal.returns
returns c =
    let y = c.shifted-y in
    let high = c.run_last in
    right_some c.requires y.result c.args.z (y.ensures ∙ moved_passed c.args.x c.args.z c.ranges.z) high.result high.ensures (omega arith) (omega arith)
