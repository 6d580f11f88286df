use mathlib.Core.Path.{◌≡◌, sym, ap, subst, ◌∙◌}
use Prim.Native.Nat.{ℕ, ◌+◌, ◌^◌, ◌<◌}
use native.Mathlib.Omega.{arith}
use Rattle.bits_lanes.specs.Lanes.{each, ones_earlier}
use Rattle.bits_lanes.proofs.Counts.{moved, two_on, four_on, moving, earlier_le}
use Rattle.bits_lanes.proofs.count_lanes.Goals as goal
use Rattle.bits_lanes.proofs.count_lanes.Goals.{After-ones_of_each-here}

-- all earlier ones
all : (c : goal.After-ones_of_each-here) → four_on c.ones_of_each-here.result + moved (four_on c.ones_of_each-here.result) 32 ≡ ones_earlier 0 c.args.word 8
all c = ap (λ x. four_on x + moved (four_on x) 32) c.ones_of_each-here.ensures ∙ (moving c.args.word).earlier

pub returns : goal.returns
returns c = (c.ones_of_each-here.ensures, all (goal.at.returns c).After-ones_of_each-here)

pub overflow_add-two : goal.overflow_add-two
overflow_add-two c = omega (arith, subst (λ x. two_on x < 2 ^ 64) (sym c.ones_of_each-here.ensures) (moving c.args.word).two_fits)

pub overflow_add-four : goal.overflow_add-four
overflow_add-four c = omega (arith, subst (λ x. four_on x < 2 ^ 64) (sym c.ones_of_each-here.ensures) (moving c.args.word).four_fits)

fits : (w : ℕ) → ones_earlier 0 w 8 < 2 ^ 64
unfolding each
fits w = omega (arith, earlier_le w 8 0 (omega arith))

pub overflow_add-result : goal.overflow_add-result
overflow_add-result c = omega (arith, all (goal.at.overflow_add-result c).After-ones_of_each-here, fits c.args.word)
