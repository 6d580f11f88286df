use mathlib.Core.Path.{ap, ◌∙◌}
use Prim.Native.Nat.{◌+◌, ◌≤◌}
use native.Mathlib.Omega.{arith}
use lib.ListN.{length}
use Rattle.meaning.specs.Image.{metres_in}
use Rattle.outline_text.specs.Text.{decimal}
use Rattle.outline_text.proofs.Putting.{both_written, written_as, room_left}
use Rattle.outline_heading.specs.Lines.{metres_field, node_line}
use Rattle.outline_heading.proofs.Sizes.{node_pieces, node_size}
use Rattle.outline_nodes.proofs.put_node.Goals as goal
use Rattle.outline_nodes.proofs.put_node.Goals.{After-degree_of-degree}

-- there is room for every piece
room : (c : goal.After-degree_of-degree)
    → let a = c.args in
    let p = a.page.now in
    p.at + (3 + length (decimal a.x) + length (decimal a.depth) + length (decimal c.degree_of-degree.result) + length (metres_field (metres_in a.b.now) a.x)) ≤ length p.text.now
room c =
    let a = c.args in
    let ms = metres_in a.b.now in
    omega (arith, c.requires.room, node_size ms a.x a.depth c.degree_of-degree.result, ap (λ d. length (node_line ms a.x a.depth d)) c.degree_of-degree.ensures)

pub put_decimal-requires : goal.put_decimal-requires
put_decimal-requires c = omega (arith, room (goal.at.put_decimal-requires c).After-degree_of-degree)

pub put_field-requires : goal.put_field-requires
put_field-requires c = omega (arith, room (goal.at.put_field-requires c).After-degree_of-degree, room_left c.put_decimal.ensures)

pub put_field-requires-2 : goal.put_field-requires-2
put_field-requires-2 c =
    omega (arith, room (goal.at.put_field-requires-2 c).After-degree_of-degree, room_left c.put_decimal.ensures, room_left c.put_field.ensures)

pub put_metres-requires : goal.put_metres-requires
put_metres-requires c = record {
  node = c.requires.node;
  room = omega (
    arith,
    room (goal.at.put_metres-requires c).After-degree_of-degree,
    room_left c.put_decimal.ensures,
    room_left c.put_field.ensures,
    room_left c.put_field-2.ensures,
  );
}

pub put-requires : goal.put-requires
put-requires c =
    omega (
      arith,
      room (goal.at.put-requires c).After-degree_of-degree,
      room_left c.put_decimal.ensures,
      room_left c.put_field.ensures,
      room_left c.put_field-2.ensures,
      room_left c.put_metres.ensures,
    )

pub returns : goal.returns
returns c =
    let a = c.args in
    let ms = metres_in a.b.now in
    written_as (node_pieces ms a.x a.depth c.degree_of-degree.result ∙ ap (node_line ms a.x a.depth) c.degree_of-degree.ensures)
    (both_written c.put_decimal.ensures (both_written c.put_field.ensures (both_written c.put_field-2.ensures (both_written c.put_metres.ensures c.put.ensures))))
