use mathlib.Core.Path.{ap, ◌∙◌}
use Prim.Native.Nat.{ℕ, ◌+◌, ◌-◌, ◌/◌, ◌≤◌, ◌<◌}
use native.Mathlib.Decide.{dec_lt}
use native.Mathlib.Omega.{arith}
use Rattle.theory.specs.Layout.{word_at}
use Rattle.check_runs_samples.specs.Ahead.{Seen}
use Rattle.check_runs_samples.proofs.samples_ahead.Goals as goal
use Rattle.check_runs_samples.proofs.samples_ahead.Goals.{Else-own-word}

-- up to the next sample that is looked at
seen : (c : Else-own-word)
    → let a = c.args in
    (r : ℕ) → (a.before - 1) / 64 ≤ r → r < c.loop-s.s + a.by → Seen a.b.now a.layout.r1_samples a.layout.r0_samples a.by r
seen c r h g =
    let l = c.loop-s in
    elim (dec_lt r l.s) [
      | yes f ↦ l.invariant r h f
      | no f ↦
          let ahead = c.word.ensures ∙ ap (word_at _) c.sample_at-in-loop-s.ensures in
          let own = c.word-own.ensures ∙ ap (word_at _) c.sample_at.ensures in
          (l.s, omega arith, omega arith, omega (arith, own, ahead))
    ]

pub loop-s-preserved : goal.loop-s-preserved
loop-s-preserved c = seen (goal.at.loop-s-preserved c).Else-own-word

pub returns-else-own-word : goal.returns-else-own-word
returns-else-own-word c = (omega arith, omega arith, λ r h g. seen (goal.at.returns-else-own-word c).Else-own-word r h (omega arith))
