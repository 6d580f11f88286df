use Rattle.std.specs.Prelude.{Ok, Err}
use Rattle.std.proofs.Common.{rules}
use mathlib.Core.Path.{◌≡◌, sym, ap₂, ap, ◌∙◌}
use native.Mathlib.Omega.{arith}
use lib.ListN.{length}
use Rattle.meaning.specs.Image.{version_of}
use Rattle.meaning.specs.Answers.{answer_of, first_holding}
use Rattle.meaning.specs.Tests.{parent_rows}
use Rattle.theory.proofs.Settled.{answered}
use Rattle.parents_check.proofs.Refusing.{writable}
use Rattle.image_layout.specs.declared.Layout.{Layout}
use Rattle.image_layout.specs.Layout.{layout_of}
use Rattle.seal_r1_bits.specs.Listed.{runs_in}
use Rattle.seal_image.specs.Given.{given}
use Rattle.seal_image.proofs.Preparing.{few-runs}
use Rattle.seal_parents.proofs.Answers.{seal_refused, seal_room, seal_made}
use Rattle.seal_parents.proofs.seal_parents.Goals as goal
use Rattle.seal_parents.proofs.seal_parents.Goals.{After-layout_of-layout, In_ok-parents_refusal}

-- the list may be written
passed : (t : goal.In_ok-parents_refusal) → (Ok tt) ≡ first_holding (parent_rows t.args.parents.now)
passed t = sym t.in_ok-parents_refusal.was ∙ t.parents_refusal.ensures

-- the layout is that of the two lists
laid : (c : goal.After-layout_of-layout)
    → let a = c.args in
    c.layout_of-layout.result ≡ layout_of (version_of (given a.metres.now)) (length a.parents.now) (runs_in a.parents.now)
laid c =
    let a = c.args in
    c.layout_of-layout.ensures ∙ ap₂ (λ v m. layout_of v (length a.parents.now) m) c.version_by.ensures c.count_runs.ensures

pub count_runs-requires : goal.count_runs-requires
count_runs-requires c = let w = writable _ (passed (goal.at.count_runs-requires c).In_ok-parents_refusal) in record { in_bounds = w.some; ps_len_bound = w.most; ps_value = w.good }

pub layout_of-layout-requires : goal.layout_of-layout-requires
layout_of-layout-requires c =
    let w = writable _ (passed (goal.at.layout_of-layout-requires c).In_ok-parents_refusal) in
    record { n_bound = w.most; m_bound = omega (arith, c.count_runs.ensures, few-runs _ w.parents, w.most) }

pub returns-then-image-layout : goal.returns-then-image-layout
returns-then-image-layout c =
    let blocks = ap (λ (i : Layout). i.blocks) (laid (goal.at.returns-then-image-layout c).After-layout_of-layout) in
    answered (ap answer_of c.refuse.ensures)
    (seal_room c.args.metres.now c.args.parents.now c.args.image.now c.requires (passed (goal.at.returns-then-image-layout c).In_ok-parents_refusal) (omega (arith, blocks, c.if-image-layout.true)))

pub write_image-requires : goal.write_image-requires
write_image-requires c =
    let w = writable _ (passed (goal.at.write_image-requires c).In_ok-parents_refusal) in
    let blocks = ap (λ (i : Layout). i.blocks) (laid (goal.at.write_image-requires c).After-layout_of-layout) in
    record {
      in_bounds = w.some;
      ps_len_bound = w.most;
      ps_value = w.good;
      metres_len = c.requires;
      layout_value = laid (goal.at.write_image-requires c).After-layout_of-layout;
      ps_in_bounds = omega (arith, blocks, c.if-image-layout.false);
    }

pub returns-in_err-parents_refusal : goal.returns-in_err-parents_refusal
returns-in_err-parents_refusal c =
    let e : c.from_residual.result ≡ Err c.in_err-parents_refusal.field-0.0 = search rules in
    answered (ap answer_of e) (seal_refused c.args.metres.now c.args.parents.now c.args.image.now c.requires (sym c.in_err-parents_refusal.was ∙ c.parents_refusal.ensures))

pub returns : goal.returns
returns c =
    let blocks = ap (λ (i : Layout). i.blocks) (laid (goal.at.returns c).After-layout_of-layout) in
    seal_made c.args.metres.now c.args.parents.now c.args.image.now c.requires (passed (goal.at.returns c).In_ok-parents_refusal)
    (laid (goal.at.returns c).After-layout_of-layout) (omega (arith, blocks, c.if-image-layout.false))
    c.done.ensures c.write_image.ensures
