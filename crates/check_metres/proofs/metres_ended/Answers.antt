use Rattle.std.specs.Prelude.{Some}
use mathlib.Core.Path.{sym, subst}
use native.Mathlib.Omega.{arith}
use Rattle.image_layout.specs.Fits.{MetresFit}
use Rattle.image_string.specs.Decides.{Decides}
use Rattle.image_string.proofs.Saying.{decides_same}
use Rattle.check_sample.specs.Words.{ListEnds}
use Rattle.check_sample.proofs.Ending.{ends-kept, kept-ends}
use Rattle.check_metres.specs.Ends.{MetresEnded}
use Rattle.check_metres.proofs.metres_ended.Goals as goal

pub returns-in_default : goal.returns-in_default
returns-in_default c =
    let a = c.args in
    subst (λ m. MetresEnded a.b.now m a.layout.nodes) (sym c.in_default.is) tt

pub list_ended-requires : goal.list_ended-requires
list_ended-requires c =
    let laid = c.requires in
    let room = subst (λ m. MetresFit c.args.b.now m c.args.layout.nodes) c.in-Some.is laid.metres_room in
    record { count_bound = omega (arith, laid.most); block_le_most_block = omega (arith, laid.small); count_in_bounds = room }

pub returns : goal.returns
returns c =
    let a = c.args in
    let b = a.b.now in
    let n = a.layout.nodes in
    let block = c.in-Some.block in
    subst (λ m. Decides c.list_ended.result (MetresEnded b m n)) (sym c.in-Some.is)
    (decides_same c.list_ended.result (ListEnds b block n) (MetresEnded b (Some block) n) (ends-kept b block n) (kept-ends b block n) c.list_ended.ensures)
