use mathlib.Core.Path.{◌≡◌, sym, ap, ◌∙◌}
use mathlib.Core.Bool.{not}
use native.Mathlib.Omega.{arith}
use Prim.Native.Nat.{◌+◌}
use borrow.Author.Rules.{rules}
use mir.Val.{bool_byte}
use lib.Dec.{eqb}
use lib.ListN.{drop, get_or}
use lib.Seq.{get_or-drop}
use Rattle.meaning.specs.Bytes.{value}
use Rattle.meaning.specs.Strings.{O, R1, string_of}
use Rattle.parents_check.proofs.Rising.{good_parents}
use Rattle.seal_r1_bits.proofs.Entries.{unlike-bool, end_inner}
use Rattle.seal_r1_bits.proofs.r1_byte.Goals as goal

pub returns-then-i-ps : goal.returns-then-i-ps
returns-then-i-ps c =
    let ps = c.args.ps.now in
    let i = c.args.i in
    let r1 = R1 (string_of ps) in
    c.byte_of.ensures (drop i r1) (λ j r h e.
    let told : r ≡ bool_byte (not (eqb (get_or ps (i + j) 0) (get_or ps (i + j + 1) 0))) = search rules in
    told ∙ unlike-bool _ _ ∙ sym (end_inner ps (good_parents ps (omega arith) c.requires.ps_value) (i + j) (omega arith))
    ∙ sym (ap value (get_or-drop i r1 j O)))
