use mathlib.Core.Path.{ap, subst, ◌∙◌}
use native.Mathlib.Omega.{arith}
use Rattle.std.proofs.Common.{ℕ, List, get_or, Fits, w8}
use Rattle.theory.specs.Layout.{AreBytes}
use Rattle.fault_strings.specs.Given.{StringsGiven}
use Rattle.fault_strings.specs.Found.{Finds}
use Rattle.fault_of_image.proofs.Naming.{all_but_samples, fault_strings_lem, fault_counts_lem, fault_samples_lem}
use Rattle.image_found.specs.declared.Fault.TheVariants.{Samples}
use Rattle.fault_of_image.proofs.what_is_wrong.Goals as goal

are : (bytes : List ℕ) → ((i : ℕ) → Fits w8 (get_or bytes i 0)) → AreBytes bytes
are bytes fits i h = omega (arith, fits i)

pub returns-in_default : goal.returns-in_default
returns-in_default c =
    let a = c.args in
    fault_strings_lem a.b.now a.layout (are a.b.now c.type_inv.b) c.requires.layout_value c.requires.header
    (subst (λ r. Finds r (StringsGiven a.b.now a.layout) a.b.now a.layout.r0_block a.layout.nodes) c.in_default.is c.find_strings.ensures)

pub returns-in-Some-wrong_counts : goal.returns-in-Some-wrong_counts
returns-in-Some-wrong_counts c =
    fault_counts_lem c.args.b.now c.args.layout (are c.args.b.now c.type_inv.b) c.requires.layout_value c.requires.header c.in-Some.ensures.0
    c.in-Some-wrong_counts.block (cc)

pub wrong_samples-requires-clause-all_but_samples : goal.wrong_samples-requires-clause-all_but_samples
wrong_samples-requires-clause-all_but_samples c =
    all_but_samples c.args.b.now c.args.layout (are c.args.b.now c.type_inv.b) c.requires.layout_value c.requires.header c.in-Some.ensures.0
    (cc)

pub returns : goal.returns
returns c =
    ap Samples c.unwrap_or.ensures
    ∙ fault_samples_lem c.args.b.now c.args.layout (are c.args.b.now c.type_inv.b) c.requires.layout_value c.requires.header c.in-Some.ensures.0
    (cc) c.wrong_samples.result c.wrong_samples.ensures
