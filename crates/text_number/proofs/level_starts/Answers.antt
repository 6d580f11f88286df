use Rattle.std.proofs.Common.{refl, length-set, get_or, arith}
use Rattle.theory.specs.Tables.{sum_to}
use Rattle.theory.proofs.Tables.{filled_more, kept_more, sum-next, sum-none}
use Rattle.text_number.proofs.level_starts.Goals as goal

pub loop-level-init : goal.loop-level-init
loop-level-init c = (c.requires.levels_len, sum-none c.args.levels.now, omega arith, λ e h. absurd (omega arith), λ e h. refl)

pub loop-level-preserved : goal.loop-level-preserved
loop-level-preserved c =
    let l = c.loop-level in
    let t = c.args.levels.now in
    let level = l.level-index in (
      simp length-set l.invariant.0,
      omega (arith, sum-next t level, l.invariant.1, l.invariant.4 level (omega arith)),
      omega (arith, l.invariant.4 level (omega arith), c.requires.by_index level),
      filled_more (sum_to t) l.levels level l.above (omega arith) l.invariant.1 l.invariant.3,
      kept_more (λ e. get_or t e 0) l.levels level l.above l.invariant.4,
    )
