use mathlib.Core.Path.{◌≡◌, refl}
use Prim.Native.Nat.{ℕ}
use Rattle.std.specs.Prelude.{Option, Some, None}
use Rattle.std.specs.Option.{option_or}
use Rattle.fault_strings.specs.Given.{Lowest, earlier, right, this}
use Rattle.fault_strings.proofs.lowest_wrong.Goals as goal

-- the earlier of the two, where `block` counts wrong
earlier_one : (found : Option ℕ) (block kept ones : ℕ) (r : Option ℕ) → (kept ≡ ones → ⊥) → r ≡ option_or found (Some block) → Lowest found block kept ones r
earlier_one None block kept ones r other e = this refl other e
earlier_one (Some p) block kept ones r other e = earlier p refl e

pub returns-then-kept-ones : goal.returns-then-kept-ones
returns-then-kept-ones c = right c.if-kept-ones.true refl

pub returns : goal.returns
returns c = earlier_one c.args.found c.args.block c.args.kept c.args.ones c.or.result c.if-kept-ones.false c.or.ensures
