use native.Mathlib.Omega.{arith}
use Rattle.meaning.specs.Image.{parents_in, metres_in}
use Rattle.outline_nodes.proofs.Nodes.{none_put, all_put, here, line-room, line_put}
use Rattle.outline_nodes.proofs.put_nodes.Goals as goal

pub loop-k-init : goal.loop-k-init
loop-k-init c =
    let a = c.args in
    none_put (parents_in a.b.now) (metres_in a.b.now) a.pairs.now a.image.nodes a.page.now c.requires.pairs (omega (arith, c.requires.room))

pub put_node-requires : goal.put_node-requires
put_node-requires c =
    let a = c.args in
    let b = a.b.now in
    let l = c.loop-k in
    let p = here (parents_in b) (metres_in b) a.pairs.now a.image.nodes a.page.now l.k l.page l.invariant (omega arith) in record {
      node = record { sound = c.requires.b_value; some = p.some; most = p.most };
      room = line-room (parents_in b) (metres_in b) a.pairs.now a.image.nodes a.page.now l.k l.page l.invariant (omega arith) c.requires.room;
    }

pub loop-k-preserved : goal.loop-k-preserved
loop-k-preserved c =
    let a = c.args in
    let b = a.b.now in
    let l = c.loop-k in
    line_put (parents_in b) (metres_in b) a.pairs.now a.image.nodes a.page.now l.k l.page l.invariant (omega arith) _ c.put_node.ensures

pub returns : goal.returns
returns c =
    let a = c.args in
    let b = a.b.now in
    let l = c.loop-k in
    all_put (parents_in b) (metres_in b) a.pairs.now a.image.nodes a.page.now l.k l.page l.invariant (omega arith)
