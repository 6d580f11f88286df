use Rattle.fault_strings.specs.Given.{StepCounted, StringsGiven}
use Rattle.fault_strings.proofs.Giving.{last_of_r1, last_of_r0, given, counted}
use Rattle.fault_strings.proofs.Finding.{finds_same}
use Rattle.fault_strings.proofs.find_strings.Goals as goal

pub returns-then-string_bit-ne1 : goal.returns-then-string_bit-ne1
returns-then-string_bit-ne1 c =
    let bit1 = c.string_bit in
    λ g. c.if-string_bit-ne1.true (last_of_r1 c.args.b.now c.args.layout c.requires.some bit1.result bit1.ensures g)

pub returns-then-string_bit-ne1-2 : goal.returns-then-string_bit-ne1-2
returns-then-string_bit-ne1-2 c =
    let bit1 = c.string_bit in
    let bit0 = c.string_bit-2 in
    λ g. c.if-string_bit-ne1-2.true (last_of_r0 c.args.b.now c.args.layout c.requires.some bit1.result bit1.ensures bit0.result bit0.ensures g)

pub returns : goal.returns
returns c =
    let b = c.args.b.now in
    let layout = c.args.layout in
    let bit1 = c.string_bit in
    let bit0 = c.string_bit-2 in
    finds_same c.step_counted.result (StringsGiven b layout) (StepCounted b layout.r0_block layout.nodes layout.runs) b layout.r0_block layout.nodes
    (given b layout c.requires.some bit1.result bit1.ensures bit0.result bit0.ensures c.if-string_bit-ne1.false c.if-string_bit-ne1-2.false)
    (counted b layout c.requires.some bit1.result bit1.ensures bit0.result bit0.ensures c.if-string_bit-ne1.false c.if-string_bit-ne1-2.false) c.step_counted.ensures
