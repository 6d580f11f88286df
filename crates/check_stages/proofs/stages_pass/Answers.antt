use Rattle.image_string.proofs.Saying.{decides_held, decides_missed, decides_same}
use Rattle.check_stages.proofs.stages_pass.Goals as goal

pub returns-then-not-ended : goal.returns-then-not-ended
returns-then-not-ended c = λ s. decides_missed c.metres_ended-ended.result _ c.metres_ended-ended.ensures c.if-not-ended.true s.metres

pub returns : goal.returns
returns c =
    let m = decides_held c.metres_ended-ended.result _ c.metres_ended-ended.ensures c.if-not-ended.false in
    decides_same c.strings_pass.result _ _ (λ s. record { strings = s; metres = m }) (λ s. s.strings) c.strings_pass.ensures
