use Rattle.std.proofs.Common.{◌≡◌, true, false, rules, tests}
use Rattle.std.proofs.lemmas.Iterator.{first_from_Range}
use Rattle.seal_sums.specs.Sealed.{right_at}
use Rattle.check_sums.proofs.Checking.{found}
use Rattle.check_sums.proofs.wrong_block.Goals as goal

pub returns : goal.returns
returns c =
    let b = c.args.b.now in
    found b c.args.blocks c.requires.b_len _
    (first_from_Range _ _ _ _ (λ i. right_at b i ≡ false) (λ i. right_at b i ≡ true) c.find.ensures.ran (λ x q k. search (rules, tests)) (λ x q k. search (rules, tests)))
