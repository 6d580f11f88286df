use mathlib.Core.Path.{◌≡◌, sym, ap, ◌∙◌}
use mathlib.Core.List.{◌++◌}
use native.Mathlib.Omega.{arith}
use lib.ListN.{length}
use Rattle.meaning.specs.Image.{metres_in}
use Rattle.nav_metres.proofs.Measures.{presence}
use Rattle.outline_text.specs.Text.{ascii, decimal}
use Rattle.outline_text.proofs.Putting.{nothing_written, written_as}
use Rattle.outline_heading.specs.Lines.{metres_field}
use Rattle.outline_heading.proofs.Sizes.{metres_pieces, no_metres}
use Rattle.outline_nodes.proofs.put_metres.Goals as goal
use Rattle.outline_nodes.proofs.put_metres.Goals.{After-metres_of}

-- what is put: a space and the metres of the node
pieces : (c : goal.After-metres_of)
    → let a = c.args in ascii " " ++ decimal c.metres_of.result ≡ metres_field (metres_in a.b.now) a.x
pieces c =
    let a = c.args in
    ap (λ m. ascii " " ++ decimal m) c.metres_of.ensures ∙ metres_pieces (metres_in a.b.now) a.x
    (sym (c.has_metres.ensures ∙ presence c.args.b.now c.args.image c.requires.node.sound) ∙ c.if-has_metres.true)

pub put_field-requires : goal.put_field-requires
put_field-requires c = omega (arith, ap length (pieces (goal.at.put_field-requires c).After-metres_of), c.requires.room)

pub returns-then-has_metres : goal.returns-then-has_metres
returns-then-has_metres c = written_as (pieces (goal.at.returns-then-has_metres c).After-metres_of) c.put_field.ensures

pub returns-else-has_metres : goal.returns-else-has_metres
returns-else-has_metres c =
    let a = c.args in
    written_as (no_metres (metres_in a.b.now) a.x (sym (c.has_metres.ensures ∙ presence a.b.now a.image c.requires.node.sound) ∙ c.if-has_metres.false))
    (nothing_written a.page.now (omega (arith, c.requires.room)))
