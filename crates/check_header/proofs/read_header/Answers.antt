use mathlib.Core.Path.{sym, ap, ap₂, ◌∙◌}
use native.Mathlib.Omega.{arith}
use Rattle.check_header.specs.Told.{RunsFit}
use Rattle.check_header.proofs.Reserved.{words-zero, header-all, header-runs, header_needs}
use Rattle.image_layout.specs.declared.Layout.{Layout}
use Rattle.image_layout.specs.Layout.{layout_of}
use Rattle.theory.specs.Stages.{version_in, blocks_needed}
use Rattle.image_string.proofs.Saying.{decides_held, decides_missed}
use Rattle.check_header.proofs.read_header.Goals as goal
use Rattle.check_header.proofs.read_header.Goals.{Else-not-runs_fit}

-- the runs that passed
runs : (c : goal.Else-not-runs_fit) → RunsFit c.word-n.result c.word-m.result
runs c = decides_held c.runs_fit.result _ c.runs_fit.ensures c.if-not-runs_fit.false

pub returns-then-not-runs_fit : goal.returns-then-not-runs_fit
returns-then-not-runs_fit c =
    let a = c.args in
    λ h. decides_missed c.runs_fit.result _ c.runs_fit.ensures c.if-not-runs_fit.true
    (header-runs a.b.now a.blocks c.word-n.result c.word-m.result c.requires.b_len c.word-n.ensures c.word-m.ensures h)

pub layout_of-layout-requires : goal.layout_of-layout-requires
layout_of-layout-requires c = let r = runs (goal.at.layout_of-layout-requires c).Else-not-runs_fit in record { n_bound = omega arith; m_bound = omega (arith, r.most) }

pub returns-then-layout-blocks : goal.returns-then-layout-blocks
returns-then-layout-blocks c =
    let a = c.args in
    λ h. c.if-layout-blocks.true
    (ap (λ (i : Layout). i.blocks) c.layout_of-layout.ensures
    ∙ ap (λ v. blocks_needed v c.word-n.result c.word-m.result) c.word-2.ensures
    ∙ header_needs a.b.now a.blocks c.word-n.result c.word-m.result c.requires.b_len c.word-n.ensures c.word-m.ensures h)

pub returns-then-not-all_zero : goal.returns-then-not-all_zero
returns-then-not-all_zero c =
    λ h. decides_missed c.all_zero.result _ c.all_zero.ensures c.if-not-all_zero.true (words-zero c.args.b.now h.reserved)

pub returns : goal.returns
returns c =
    let version = c.word-2.ensures in
    let a = c.args in
    let counted = sym c.word.ensures ∙ c.if-word-blocks.false in
    let needed = ap (λ v. blocks_needed v c.word-n.result c.word-m.result) (sym version) ∙ sym (ap (λ (i : Layout). i.blocks) c.layout_of-layout.ensures) ∙ c.if-layout-blocks.false in
    let zero = decides_held c.all_zero.result _ c.all_zero.ensures c.if-not-all_zero.false in (
      header-all a.b.now a.blocks c.word-n.result c.word-m.result c.requires.b_len c.word-n.ensures c.word-m.ensures
          c.if-n-lt1.false c.if-n-gt-MOST_NODES.false (runs (goal.at.returns c).Else-not-runs_fit) counted needed zero,
      c.layout_of-layout.ensures ∙ ap (λ v. layout_of v c.word-n.result c.word-m.result) version ∙ ap₂ (layout_of (version_in a.b.now)) c.word-n.ensures c.word-m.ensures,
    )
