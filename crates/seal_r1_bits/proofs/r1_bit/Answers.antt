use Rattle.seal_r1_bits.proofs.Entries.{unlike-bool, end_inner, end-last, end_after}
use native.Mathlib.Omega.{arith}
use borrow.Author.Rules.{rules}
use mathlib.Core.Path.{sym, ◌∙◌}
use Rattle.parents_check.proofs.Rising.{good_parents}
use Rattle.seal_r1_bits.proofs.r1_bit.Goals as goal

pub returns-then-i-ps : goal.returns-then-i-ps
returns-then-i-ps c =
    let at = end_inner c.args.ps.now (good_parents _ c.requires.in_bounds c.requires.ps_value) c.args.i (omega arith) in
    let same = c.from.ensures ∙ unlike-bool _ _ ∙ sym at in
    (same, search rules)

pub returns-then-i-ps-2 : goal.returns-then-i-ps-2
returns-then-i-ps-2 c =
    (sym (end-last c.args.ps.now (good_parents _ c.requires.in_bounds c.requires.ps_value) c.args.i (omega arith)), omega arith)

pub returns : goal.returns
returns c =
    (sym (end_after c.args.ps.now (good_parents _ c.requires.in_bounds c.requires.ps_value) c.args.i (omega arith)), omega arith)
