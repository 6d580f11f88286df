use Rattle.std.proofs.Common.{◌≡◌, ap, ap₂, ◌∙◌, ◌+◌, ◌-◌, ◌++◌, suc, take, drop, arith}
use Rattle.meaning.specs.Blocks.{le32}
use lib.Seq.{drop-drop}
use Rattle.image_words.specs.Words.{with_word}
use Rattle.image_words.proofs.put_word.Goals as goal

pub returns : goal.returns
unfolding with_word
returns c =
    let b = c.args.b.now in
    let at = c.args.at in
    let four : c.copy_from_slice.new.self ≡ le32 c.args.x = c.copy_from_slice.ensures.after ∙ c.to_le_bytes.ensures in
    ap₂ (λ new rest. take at b ++ (new ++ rest)) four
    (drop-drop (at + 4 - at) at b ∙ ap (λ i. drop i b) (let e : at + (at + 4 - at) ≡ suc (suc (suc (suc at))) = omega arith in e))
