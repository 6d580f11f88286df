-- What the tests of the sizes for joining come to.
use mathlib.Core.Path.{◌≡◌, subst}
use mathlib.Core.Bool.{Bool, true, false, ◌||◌}
use Prim.Native.Nat.{ℕ, ◌+◌, ◌*◌, ◌<◌}
use native.Mathlib.Omega.{arith}
use borrow.Author.Tests.{lt-ltb, le-ltb}
use lib.Dec.{ltb}
use Rattle.meaning.specs.Bytes.{bytes_for}
use Rattle.meaning.specs.Tests.{outside, wrong_to_join}
use Rattle.theory.proofs.Settled.{or-first, or-second, or_neither, below, beyond, between}
use Rattle.table_sizes.specs.ToJoin.{JoinSized, JoinSizes}

module _ (bytes L k nodes : ℕ) where
  -- the five tests
  abbrev a1 : Bool
  a1 = outside 1 65535 nodes

  abbrev a2 : Bool
  a2 = ltb 131071 L

  abbrev a3 : Bool
  a3 = ltb bytes (bytes_for L)

  abbrev a4 : Bool
  a4 = ltb 255 k

  abbrev a5 : Bool
  a5 = ltb 131071 (L + (2 * nodes + 1))

  of_first : a1 ≡ true → wrong_to_join bytes L k nodes ≡ true
  unfolding wrong_to_join
  of_first e = or-first (a1 || a2 || a3 || a4) a5 (or-first (a1 || a2 || a3) a4 (or-first (a1 || a2) a3 (or-first a1 a2 e)))

  pub wrong_few : nodes < 1 → wrong_to_join bytes L k nodes ≡ true
  unfolding wrong_to_join
  wrong_few h = of_first (below 1 65535 nodes h)

  pub wrong_many : 65535 < nodes → wrong_to_join bytes L k nodes ≡ true
  unfolding wrong_to_join
  wrong_many h = of_first (beyond 1 65535 nodes h)

  pub wrong_long : 131071 < L → wrong_to_join bytes L k nodes ≡ true
  unfolding wrong_to_join
  wrong_long h = or-first (a1 || a2 || a3 || a4) a5 (or-first (a1 || a2 || a3) a4 (or-first (a1 || a2) a3 (or-second a1 a2 (lt-ltb 131071 L h))))

  pub wrong_bytes : bytes < bytes_for L → wrong_to_join bytes L k nodes ≡ true
  unfolding wrong_to_join
  wrong_bytes h = or-first (a1 || a2 || a3 || a4) a5 (or-first (a1 || a2 || a3) a4 (or-second (a1 || a2) a3 (lt-ltb bytes (bytes_for L) h)))

  pub wrong_trees : 255 < k → wrong_to_join bytes L k nodes ≡ true
  unfolding wrong_to_join
  wrong_trees h = or-first (a1 || a2 || a3 || a4) a5 (or-second (a1 || a2 || a3) a4 (lt-ltb 255 k h))

  pub wrong_longer : 131071 < L + (2 * nodes + 1) → wrong_to_join bytes L k nodes ≡ true
  unfolding wrong_to_join
  wrong_longer h = or-second (a1 || a2 || a3 || a4) a5 (lt-ltb 131071 (L + (2 * nodes + 1)) h)

  pub none_wrong : JoinSized bytes L k nodes → wrong_to_join bytes L k nodes ≡ false
  unfolding wrong_to_join
  none_wrong s =
      or_neither (a1 || a2 || a3 || a4) a5
      (or_neither (a1 || a2 || a3) a4
      (or_neither (a1 || a2) a3
      (or_neither a1 a2 (between 1 65535 nodes s.some s.most) (le-ltb 131071 L (omega (arith, s.fits))))
      (le-ltb bytes (bytes_for L) s.bytes))
      (le-ltb 255 k s.room))
      (le-ltb 131071 (L + (2 * nodes + 1)) s.fits)

  pub told_wrong : {r : Bool} → JoinSizes r bytes L k nodes → r ≡ true → wrong_to_join bytes L k nodes ≡ true
  told_wrong t e = subst (λ b. JoinSizes b bytes L k nodes) e t

  pub told_right : {r : Bool} → JoinSizes r bytes L k nodes → r ≡ false → JoinSized bytes L k nodes
  told_right t e = subst (λ b. JoinSizes b bytes L k nodes) e t
