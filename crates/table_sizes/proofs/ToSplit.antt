-- What the tests of the sizes for splitting come to.
use mathlib.Core.Path.{◌≡◌, subst}
use mathlib.Core.Bool.{Bool, true, false, not, ◌||◌}
use Prim.Native.Nat.{ℕ, ◌<◌}
use borrow.Author.Tests.{lt-ltb, le-ltb}
use lib.Dec.{ltb, eqb}
use Rattle.meaning.specs.Bytes.{bytes_for}
use Rattle.meaning.specs.Tests.{wrong_to_split}
use Rattle.theory.proofs.Settled.{or-first, or-second, or_neither, unequal, equal}
use Rattle.table_sizes.specs.ToSplit.{SplitSized, SplitSizes}

module _ (bytes L k : ℕ) where
  abbrev long : Bool
  long = ltb 131071 L

  abbrev other : Bool
  other = not (eqb bytes (bytes_for L))

  abbrev over : Bool
  over = ltb 256 k

  pub wrong_long : 131071 < L → wrong_to_split bytes L k ≡ true
  unfolding wrong_to_split
  wrong_long h = or-first (long || other) over (or-first long other (lt-ltb 131071 L h))

  pub wrong_bytes : (bytes ≡ bytes_for L → ⊥) → wrong_to_split bytes L k ≡ true
  unfolding wrong_to_split
  wrong_bytes h = or-first (long || other) over (or-second long other (unequal bytes (bytes_for L) h))

  pub wrong_trees : 256 < k → wrong_to_split bytes L k ≡ true
  unfolding wrong_to_split
  wrong_trees h = or-second (long || other) over (lt-ltb 256 k h)

  pub none_wrong : SplitSized bytes L k → wrong_to_split bytes L k ≡ false
  unfolding wrong_to_split
  none_wrong z =
      or_neither (long || other) over
      (or_neither long other (le-ltb 131071 L z.short) (equal bytes (bytes_for L) z.exact))
      (le-ltb 256 k z.few)

  pub told_wrong : {r : Bool} → SplitSizes r bytes L k → r ≡ true → wrong_to_split bytes L k ≡ true
  told_wrong t e = subst (λ b. SplitSizes b bytes L k) e t

  pub told_right : {r : Bool} → SplitSizes r bytes L k → r ≡ false → SplitSized bytes L k
  told_right t e = subst (λ b. SplitSizes b bytes L k) e t
