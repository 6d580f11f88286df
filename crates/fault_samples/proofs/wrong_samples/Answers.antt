use native.Mathlib.Omega.{arith}
use Rattle.std.proofs.Common.{ℕ, List, get_or, Fits, w8}
use Rattle.theory.specs.Layout.{AreBytes}
use Rattle.fault_samples.proofs.Wrong.{named_S1, named_S0}
use Rattle.fault_samples.proofs.wrong_samples.Goals as goal

are : (bytes : List ℕ) → ((i : ℕ) → Fits w8 (get_or bytes i 0)) → AreBytes bytes
are bytes fits i h = omega (arith, fits i)

pub returns-in-Some : goal.returns-in-Some
returns-in-Some c =
    let s1 = c.wrong_in_samples in
    named_S1 c.args.b.now c.args.layout (are c.args.b.now c.type_inv.b) c.requires.laid_out c.requires.layout_value c.requires.all_but_samples
    s1.result s1.ensures c.in-Some.of_r1 c.in-Some.is

pub returns : goal.returns
returns c =
    let s1 = c.wrong_in_samples in
    let s0 = c.wrong_in_samples-2 in
    named_S0 c.args.b.now c.args.layout (are c.args.b.now c.type_inv.b) c.requires.laid_out c.requires.layout_value c.requires.all_but_samples
    s1.result s1.ensures c.in_default.is s0.result s0.ensures
