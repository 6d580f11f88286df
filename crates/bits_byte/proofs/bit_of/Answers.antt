use mathlib.Core.Path.{◌≡◌, ap₂, ◌∙◌}
use mathlib.Core.List.{[], ◌∷◌}
use Prim.Native.Nat.{◌-◌, ◌/◌, ◌%◌, ◌^◌}
use native.Mathlib.Omega.{arith}
use lib.Bits.{bit_and}
use lib.ListN.{get_or}
use Rattle.bits_byte.proofs.Values.{digit_value}
use Rattle.bits_byte.proofs.bit_of.Goals as goal

pub returns : goal.returns
returns c =
    let x = c.args.x in
    let j = c.args.j in
    ap₂ (λ q r. bit_and (get_or (x ∷ []) q 0 / 2 ^ (7 - r)) 1) (let e : 0 ≡ j / 8 = omega arith in e) (let e : j ≡ j % 8 = omega arith in e)
    ∙ digit_value (x ∷ []) j
