use native.Mathlib.Omega.{arith}
use Rattle.image_string.proofs.Saying.{decides_is}
use Rattle.check_header.proofs.runs_fit.Goals as goal

pub returns-then-n-ge2 : goal.returns-then-n-ge2
returns-then-n-ge2 c = λ f. omega (arith, f.two (omega arith))

pub returns : goal.returns
returns c =
    let a = c.args in
    decides_is a.m 1 _ (λ e. record { some = omega arith; most = omega arith; two = λ two. absurd (omega arith) }) (λ f. omega (arith, f.some))
