use mathlib.Core.Path.{subst}
use native.Mathlib.Omega.{arith}
use Rattle.std.proofs.Common.{ℕ, List, get_or, Fits, w8}
use Rattle.theory.specs.Layout.{AreBytes}
use Rattle.theory.specs.Stages.{samples_of, word_blocks, blocks_of_samples}
use Rattle.theory.specs.Faults.{RestKept}
use Rattle.fault_strings.specs.Lowest.{LowestBlock}
use Rattle.fault_counts.proofs.Kept.{named-R1, named-R0, named_S1, named_S0, named-metres}
use Rattle.fault_counts.proofs.wrong_counts.Goals as goal
use Rattle.fault_counts.proofs.wrong_counts.Goals.{After-wrong_after_list, After-wrong_after_list-2}

are : (bytes : List ℕ) → ((i : ℕ) → Fits w8 (get_or bytes i 0)) → AreBytes bytes
are bytes fits i h = omega (arith, fits i)

-- what was found after the samples of each string
after-r1 : (c : goal.After-wrong_after_list)
    → let a = c.args in
    LowestBlock (RestKept a.b.now a.layout.r1_samples (samples_of a.layout.runs)) a.layout.r1_samples (blocks_of_samples a.layout.runs) c.wrong_after_list.result
after-r1 c =
    let a = c.args in
    subst (λ k. LowestBlock (RestKept a.b.now a.layout.r1_samples k) a.layout.r1_samples (word_blocks k) c.wrong_after_list.result)
    c.samples_of-samples.ensures c.wrong_after_list.ensures

after-r0 : (c : goal.After-wrong_after_list-2)
    → let a = c.args in
    LowestBlock (RestKept a.b.now a.layout.r0_samples (samples_of a.layout.runs)) a.layout.r0_samples (blocks_of_samples a.layout.runs) c.wrong_after_list-2.result
after-r0 c =
    let a = c.args in
    subst (λ k. LowestBlock (RestKept a.b.now a.layout.r0_samples k) a.layout.r0_samples (word_blocks k) c.wrong_after_list-2.result)
    c.samples_of-samples.ensures c.wrong_after_list-2.ensures

pub returns-in-Some : goal.returns-in-Some
returns-in-Some c =
    let r1 = c.wrong_in_string in
    named-R1 c.args.b.now c.args.layout (are c.args.b.now c.type_inv.b) c.requires.laid_out c.requires.layout_value
    c.requires.ended c.requires.ended_2 r1.result r1.ensures c.in-Some.in_r1 c.in-Some.is

pub returns-in-Some-wrong_in_string : goal.returns-in-Some-wrong_in_string
returns-in-Some-wrong_in_string c =
    let r1 = c.wrong_in_string in
    let r0 = c.wrong_in_string-2 in
    named-R0 c.args.b.now c.args.layout (are c.args.b.now c.type_inv.b) c.requires.laid_out c.requires.layout_value
    c.requires.ended c.requires.ended_2 r1.result r1.ensures c.in_default.is r0.result r0.ensures c.in-Some-wrong_in_string.in_r0 c.in-Some-wrong_in_string.is

pub returns-in-Some-wrong_after_list : goal.returns-in-Some-wrong_after_list
returns-in-Some-wrong_after_list c =
    let r1 = c.wrong_in_string in
    let r0 = c.wrong_in_string-2 in
    named_S1 c.args.b.now c.args.layout (are c.args.b.now c.type_inv.b) c.requires.laid_out c.requires.layout_value
    c.requires.ended c.requires.ended_2 r1.result r1.ensures c.in_default.is r0.result r0.ensures c.in_default-wrong_in_string.is
    c.wrong_after_list.result (after-r1 (goal.at.returns-in-Some-wrong_after_list c).After-wrong_after_list) c.in-Some-wrong_after_list.after_r1 c.in-Some-wrong_after_list.is

pub returns-in-Some-wrong_after_list-2 : goal.returns-in-Some-wrong_after_list-2
returns-in-Some-wrong_after_list-2 c =
    let r1 = c.wrong_in_string in
    let r0 = c.wrong_in_string-2 in
    named_S0 c.args.b.now c.args.layout (are c.args.b.now c.type_inv.b) c.requires.laid_out c.requires.layout_value
    c.requires.ended c.requires.ended_2 r1.result r1.ensures c.in_default.is r0.result r0.ensures c.in_default-wrong_in_string.is
    c.wrong_after_list.result (after-r1 (goal.at.returns-in-Some-wrong_after_list-2 c).After-wrong_after_list) c.in_default-wrong_after_list.is
    c.wrong_after_list-2.result (after-r0 (goal.at.returns-in-Some-wrong_after_list-2 c).After-wrong_after_list-2) c.in-Some-wrong_after_list-2.after_r0 c.in-Some-wrong_after_list-2.is

pub returns : goal.returns
returns c =
    let r1 = c.wrong_in_string in
    let r0 = c.wrong_in_string-2 in
    named-metres c.args.b.now c.args.layout (are c.args.b.now c.type_inv.b) c.requires.laid_out c.requires.layout_value
    c.requires.ended c.requires.ended_2 r1.result r1.ensures c.in_default.is r0.result r0.ensures c.in_default-wrong_in_string.is
    c.wrong_after_list.result (after-r1 (goal.at.returns c).After-wrong_after_list) c.in_default-wrong_after_list.is
    c.wrong_after_list-2.result (after-r0 (goal.at.returns c).After-wrong_after_list-2) c.in_default-wrong_after_list-2.is c.wrong_after_metres.result c.wrong_after_metres.ensures
