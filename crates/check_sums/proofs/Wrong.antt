-- What the lowest wrong block as an option tells of the definition's number.
use mathlib.Core.Path.{◌≡◌, refl, ap}
use mathlib.Core.Bool.{Bool, true, false, cond}
use mathlib.Core.List.{List}
use Prim.Native.Nat.{ℕ, ◌≤◌, ◌<◌}
use borrow.Author.Tests.{ltb-true, ltb-false}
use lib.Dec.{ltb}
use Rattle.std.proofs.Common.{rules}
use Rattle.std.specs.Prelude.{Some, None, unwrap_or}
use Rattle.meaning.specs.Blocks.{blocks_in, wrong_block}
use Rattle.check_sums.specs.Wrong.{wrong_if_any}

no_number : (t : Bool) (i : ℕ) → cond t (Some i) None ≡ None → t ≡ false
no_number true i e = absurd (search rules)
no_number false i e = refl

the_number : (t : Bool) (i at : ℕ) → cond t (Some i) None ≡ Some at → (t ≡ true) × (i ≡ at)
the_number true i at e = (refl, ap (λ o. unwrap_or o 0) e)
the_number false i at e = absurd (search rules)

module _ (bytes : List ℕ) where
  pub no_block : wrong_if_any bytes ≡ None → blocks_in bytes ≤ wrong_block bytes
  no_block e = ltb-false (wrong_block bytes) (blocks_in bytes) (no_number (ltb (wrong_block bytes) (blocks_in bytes)) (wrong_block bytes) e)

  pub the_block : (block : ℕ) → wrong_if_any bytes ≡ Some block → (wrong_block bytes < blocks_in bytes) × (wrong_block bytes ≡ block)
  the_block block e =
      let told = the_number (ltb (wrong_block bytes) (blocks_in bytes)) (wrong_block bytes) block e in
      (ltb-true (wrong_block bytes) (blocks_in bytes) told.0, told.1)
