-- What the test of an image's size comes to.
use mathlib.Core.Path.{◌≡◌, refl, subst}
use mathlib.Core.Bool.{Bool, true, false, not}
use mathlib.Core.List.{List}
use Prim.Native.Nat.{ℕ, ◌/◌, ◌%◌, ◌<◌}
use lib.Dec.{eqb}
use lib.ListN.{length}
use Rattle.meaning.specs.Tests.{outside, wrong_size}
use Rattle.theory.proofs.Settled.{or-first, or-second, or_neither, below, beyond, between, unequal, equal}
use Rattle.table_sizes.specs.ToCheck.{ImageSized, ImageSize}

module _ (image : List ℕ) where
  abbrev cut : Bool
  cut = not (eqb (length image % 512) 0)

  abbrev other : Bool
  other = outside 5 574 (length image / 512)

  pub wrong_cut : (length image % 512 ≡ 0 → ⊥) → wrong_size image ≡ true
  wrong_cut h = or-first cut other (unequal (length image % 512) 0 h)

  pub wrong_few : length image / 512 < 5 → wrong_size image ≡ true
  wrong_few h = or-second cut other (below 5 574 (length image / 512) h)

  pub wrong_many : 574 < length image / 512 → wrong_size image ≡ true
  wrong_many h = or-second cut other (beyond 5 574 (length image / 512) h)

  pub none_wrong : ImageSized (length image) → wrong_size image ≡ false
  none_wrong z = or_neither cut other (equal (length image % 512) 0 z.whole) (between 5 574 (length image / 512) z.some z.most)

  pub told_wrong : {r : Bool} → ImageSize r (length image) → r ≡ true → wrong_size image ≡ true
  told_wrong t e = subst (λ b. ImageSize b (length image)) e t image refl

pub told_right : (bytes : ℕ) {r : Bool} → ImageSize r bytes → r ≡ false → ImageSized bytes
told_right bytes t e = subst (λ b. ImageSize b bytes) e t
