use Rattle.std.specs.Prelude.{Some, Ok, Err}
use mathlib.Core.Path.{sym, ap, ◌∙◌, subst}
use Prim.Native.Nat.{◌≤◌}
use native.Mathlib.Omega.{arith}
use borrow.Author.Tests.{lt-ltb}
use lib.ListN.{length}
use Rattle.meaning.specs.Blocks.{blocks_in, wrong_block}
use Rattle.theory.specs.Layout.{AreBytes}
use Rattle.theory.specs.Stages.{version_in, Known}
use Rattle.image_string.specs.Decides.{Decides}
use Rattle.image_string.proofs.Saying.{decides_held, decides_missed}
use Rattle.image_found.specs.Checked.{numbered}
use Rattle.image_found.proofs.Finding.{found-size, found-block}
use Rattle.check_header.specs.Told.{HeaderIs}
use Rattle.check_stages.specs.Passes.{StagesPass}
use Rattle.check_stages.proofs.Passing.{together, apart}
use Rattle.check_sums.proofs.Wrong.{no_block, the_block}
use Rattle.table_sizes.specs.ToCheck.{ImageSized}
use Rattle.table_sizes.proofs.ToCheck.{none_wrong, told_wrong, told_right}
use Rattle.check_image.proofs.Stating.{other-version, wrong_header, all_right, some_wrong}
use Rattle.check_image.proofs.check.Goals as goal
use Rattle.check_image.proofs.check.Goals.{Else-image_size_wrong, Else-not-version_known, In_default, In-Some-header}

-- the size is right
sized : (c : goal.Else-image_size_wrong) → ImageSized (length c.args.b.now)
sized c = told_right _ c.image_size_wrong.ensures c.if-image_size_wrong.false

-- no block is wrong
summed : (c : goal.In_default) → let bytes = c.args.b.now in blocks_in bytes ≤ wrong_block bytes
summed c = no_block c.args.b.now (sym c.wrong_block.ensures ∙ c.in_default.is)

are : (c : goal.In_default) → AreBytes c.args.b.now
are c k h = omega (arith, c.type_inv.b k)

-- the version is known
known : (c : goal.Else-not-version_known) → Known (version_in c.args.b.now)
known c = decides_held c.version_known.result _ c.version_known.ensures c.if-not-version_known.false

-- what the header says
right : (c : goal.In-Some-header) → HeaderIs (Some c.in-Some-header.layout) c.args.b.now
right c =
    subst (λ h. HeaderIs h c.args.b.now) c.in-Some-header.is
    c.read_header-header.ensures

pub returns-then-image_size_wrong : goal.returns-then-image_size_wrong
returns-then-image_size_wrong c =
    let bytes = c.args.b.now in
    found-size bytes (told_wrong bytes c.image_size_wrong.ensures c.if-image_size_wrong.true)

pub returns-in-Some : goal.returns-in-Some
returns-in-Some c =
    let bytes = c.args.b.now in
    let wrong = the_block bytes c.in-Some.block (sym c.wrong_block.ensures ∙ c.in-Some.is) in
    ap (λ p. Err (record { code = 6; place = p })) (sym wrong.1) ∙ found-block bytes
    (none_wrong bytes (sized (goal.at.returns-in-Some c).Else-image_size_wrong)) (lt-ltb (wrong_block bytes) (blocks_in bytes) wrong.0)

pub returns-then-not-version_known : goal.returns-then-not-version_known
returns-then-not-version_known c =
    let bytes = c.args.b.now in
    ap Err c.from.ensures
    ∙ other-version bytes (are (goal.at.returns-then-not-version_known c).In_default) (sized (goal.at.returns-then-not-version_known c).Else-image_size_wrong)
    (summed (goal.at.returns-then-not-version_known c).In_default) (decides_missed c.version_known.result _ c.version_known.ensures c.if-not-version_known.true)

pub returns-in_default-header : goal.returns-in_default-header
returns-in_default-header c =
    let bytes = c.args.b.now in
    let wrong = subst (λ h. HeaderIs h bytes) c.in_default-header.is c.read_header-header.ensures in
    ap Err c.from-in_default-header.ensures ∙ wrong_header bytes (are (goal.at.returns-in_default-header c).In_default) (sized (goal.at.returns-in_default-header c).Else-image_size_wrong)
    (summed (goal.at.returns-in_default-header c).In_default) (known (goal.at.returns-in_default-header c).Else-not-version_known) wrong

pub returns-then-stages_pass : goal.returns-then-stages_pass
returns-then-stages_pass c =
    let h = right (goal.at.returns-then-stages_pass c).In-Some-header in
    let bytes = c.args.b.now in
    let layout = c.in-Some-header.layout in
    let passed = subst (λ t. Decides t (StagesPass bytes layout)) c.if-stages_pass.true c.stages_pass.ensures in
    ap Ok h.1 ∙ all_right bytes (are (goal.at.returns-then-stages_pass c).In_default) (sized (goal.at.returns-then-stages_pass c).Else-image_size_wrong)
    (summed (goal.at.returns-then-stages_pass c).In_default) (known (goal.at.returns-then-stages_pass c).Else-not-version_known) h.0
    (together bytes _ h.1 (known (goal.at.returns-then-stages_pass c).Else-not-version_known) h.0 passed)

pub returns : goal.returns
returns c =
    let h = right (goal.at.returns c).In-Some-header in
    let bytes = c.args.b.now in
    let layout = c.in-Some-header.layout in
    let missed = subst (λ t. Decides t (StagesPass bytes layout)) c.if-stages_pass.false c.stages_pass.ensures in
    ap Err c.from-2.ensures
    ∙ ap (λ f. Err (numbered f)) c.what_is_wrong.ensures
    ∙ some_wrong bytes (are (goal.at.returns c).In_default) (sized (goal.at.returns c).Else-image_size_wrong) (summed (goal.at.returns c).In_default)
    (known (goal.at.returns c).Else-not-version_known) h.0 (λ stages. missed (apart bytes _ h.1 stages))
