use Rattle.std.proofs.Common.{◌+◌, ◌-◌, arith, drop, length-take, length-drop}
use Rattle.std.proofs.lemmas.List.Edits.{get_or-between}
use Rattle.image_string.proofs.Zeros.{seen_none, seen_more}
use Rattle.image_string.proofs.Saying.{decides_is}
use Rattle.image_string.specs.Parts.{ZeroBytes}
use Rattle.image_string.proofs.all_zero.Goals as goal

pub loop-x-init : goal.loop-x-init
loop-x-init c = seen_none c.args.b.now c.args.from (c.args.from + 0) (omega arith)

pub loop-x-preserved : goal.loop-x-preserved
loop-x-preserved c =
    let a = c.args in
    let b = a.b.now in
    let l = c.loop-x in
    let i = l.x-index in
    let n = a.to - a.from in
    let count = length-take n (drop a.from b) in
    let is = get_or-between b a.from a.to i 0 (omega arith) in
    seen_more b a.from (a.from + i) _ l.seen _ (omega arith) (omega arith) is l.invariant

pub returns : goal.returns
returns c =
    let a = c.args in
    let b = a.b.now in
    let l = c.loop-x in
    let count = length-take (a.to - a.from) (drop a.from b) in
    let rest = length-drop a.from b in
    decides_is l.seen 0 (ZeroBytes b a.from a.to) (λ e k h g. l.invariant.0 e k h (omega arith)) (λ z. l.invariant.1 (λ k h g. z k h (omega arith)))
