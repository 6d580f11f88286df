-- An argument of any width that is passed on is read from its bits: that is the argument itself.
use mathlib.Core.Path.{◌≡◌, ap}
use Prim.Native.Nat.{ℕ}
use lib.IntN.{ℤ}
use mir.Syntax.{Width}
use mir.Val.{SFits, to_z, of_z}
use mir.Facts.{to_z-of_z}
use Rattle.ask_argument.specs.Values.{moved}

pub moved_passed : {w : Width} (x : ℕ) (z : ℤ) → SFits w z → moved x (to_z w (of_z w z)) ≡ moved x z
moved_passed x z f = ap (moved x) (to_z-of_z f)
