use Rattle.std.proofs.Common.{refl, sym, ap, ◌+◌, ◌-◌, ◌∙◌, ◌++◌, length, take, drop, arith}
use lib.Seq.{length-sets}
use Rattle.std.proofs.lemmas.List.{take_all}
use Rattle.std.proofs.lemmas.List.Edits.{sets-eq}
use Rattle.std.proofs.lemmas.Slice.{put_mid-paste}
use Rattle.outline_text.proofs.Page.put.Goals as goal

pub returns : goal.returns
returns c =
    let p = c.args.self.now in
    let xs = c.args.bytes.now in
    let t = p.text.now in
    let n = length xs in
    let text = put_mid-paste p.at (p.at + n - p.at) t c.copy_from_slice.new.self xs n c.copy_from_slice.ensures.after (omega arith) (omega arith)
    ∙ ap (λ l. take p.at t ++ l ++ drop (p.at + n) t) (take_all n xs (omega arith))
    ∙ sym (sets-eq xs t p.at (omega arith)) in
    record { same_text = refl; text = text; place = omega arith; fits = omega (arith, ap length text, length-sets t p.at xs) }
