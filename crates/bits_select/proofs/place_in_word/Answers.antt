use mathlib.Core.Path.{◌≡◌, ap, ◌∙◌}
use Prim.Native.Nat.{◌*◌}
use native.Mathlib.Omega.{arith}
use Rattle.meaning.specs.Strings.{ones}
use Rattle.meaning.specs.Bytes.{bits_from}
use Rattle.theory.specs.Layout.{AreBytes}
use Rattle.theory.specs.Rank.{position}
use Rattle.bits_lanes.specs.Lanes.{word_bits}
use Rattle.bits_lanes.proofs.Stored.{stored-bits}
use Rattle.bits_select.proofs.place_in_word.Goals as goal
use Rattle.bits_select.proofs.place_in_word.Goals.{After-stored_word}

its_bits : (c : goal.After-stored_word) → word_bits c.stored_word.result 8 ≡ bits_from c.args.b.now (8 * c.args.at) 64
its_bits c =
    let a = c.args in
    let are : AreBytes a.b.now = λ i l. omega (arith, c.type_inv.b i) in
    ap (λ w. word_bits w 8) c.stored_word.ensures ∙ stored-bits a.b.now are 8 8 a.at (omega arith)

pub place_in_bytes-requires : goal.place_in_bytes-requires
place_in_bytes-requires c = record { le_k = c.requires.le_k; k_bound = omega (arith, c.requires.k_bound, ap (λ l. ones l) (its_bits (goal.at.place_in_bytes-requires c).After-stored_word)) }

pub returns : goal.returns
returns c = c.place_in_bytes.ensures ∙ ap (λ l. position l c.args.k) (its_bits (goal.at.returns c).After-stored_word)
