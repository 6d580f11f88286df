-- What a place as an option tells of its number, and the other way round.
use mathlib.Core.Path.{◌≡◌, refl, sym, ap, ◌∙◌}
use Prim.Native.Nat.{ℕ, zero, suc, ◌<◌}
use native.Mathlib.Omega.{arith}
use Rattle.std.proofs.Common.{rules}
use Rattle.std.specs.Prelude.{Some, None, unwrap_or}
use Rattle.theory.specs.Places.{place_of}

pub place_of-none : (p : ℕ) → p ≡ 0 → place_of p ≡ None
place_of-none zero e = refl
place_of-none (suc p) e = absurd (omega arith)

pub place_of-some : (p : ℕ) → 0 < p → place_of p ≡ Some p
place_of-some zero lt = absurd (omega arith)
place_of-some (suc p) lt = refl

-- no place: the number is 0
pub no_place : (p : ℕ) → place_of p ≡ None → p ≡ 0
no_place zero e = refl
no_place (suc p) e = absurd (search rules)

-- a place: it is the number, which is not 0
pub the_place : (p at : ℕ) → place_of p ≡ Some at → (p ≡ at) × (0 < at)
the_place zero at e = absurd (search rules)
the_place (suc p) at e = let q : suc p ≡ at = ap (λ o. unwrap_or o 0) e in (q, omega arith)

-- what answers with an option says
pub none_is : {p : ℕ} → p ≡ 0 → None ≡ place_of p
none_is {p} e = sym (place_of-none p e)

pub some_is : {p at : ℕ} → p ≡ at → 0 < at → Some at ≡ place_of p
some_is {p} {at} e lt = sym (ap place_of e ∙ place_of-some at lt)
