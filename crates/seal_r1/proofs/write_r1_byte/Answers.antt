use Prim.Native.Nat.{◌+◌, ◌-◌, ◌*◌, ◌/◌, ◌%◌}
use lib.ListN.{set, length-set}
use mathlib.Core.Path.{◌≡◌, ◌∙◌, sym, ap}
use native.Mathlib.Omega.{arith}
use Rattle.theory.specs.Layout.{sample_place}
use Rattle.image_words.specs.Words.{with_word}
use Rattle.seal_r1.specs.Passes.{byte_place, byte_marked}
use Rattle.seal_r1.proofs.Ending.{place-few, byte_plain, byte_sample}
use Rattle.seal_r1.proofs.write_r1_byte.Goals as goal
use Rattle.seal_r1.proofs.write_r1_byte.Goals.{After-put_word}

pub returns-then-k-ones : goal.returns-then-k-ones
returns-then-k-ones c =
    let a = c.args in
    let ones = c.ones_in_byte-ones.ensures in (
      ap (λ n. a.k + n) ones,
      ap (λ p. set a.image.now (p + a.b % 500) a.x) c.bits_at.ensures ∙ sym (byte_plain a.image.now a.samples a.b a.x a.k (omega (arith, ones))),
    )

pub overflow_add-b-2 : goal.overflow_add-b-2
overflow_add-b-2 c =
    let a = c.args in
    omega (arith, c.select_in_byte-place.ensures, place-few a.x (64 * ((a.k + 63) / 64) + 1 - a.k))

pub put_word-requires : goal.put_word-requires
put_word-requires c =
    let a = c.args in
    let ones = c.ones_in_byte-ones.ensures in
    omega (arith, ones, length-set a.image.now (c.bits_at.result + a.b % 500) a.x)

-- the image once the byte and its sample are in it
marked : (c : goal.After-put_word)
    → let sampled = c.before in
    let found = sampled.before.before in
    let placed = found.before.before.before.before in
    let a = c.args in
    with_word (set a.image.now (c.bits_at.result + a.b % 500) a.x) c.sample_at.result (8 * a.b + c.select_in_byte-place.result)
    ≡ byte_marked a.image.now a.samples a.b a.x a.k
marked c =
    let sampled = c.before in
    let found = sampled.before.before in
    let counted = found.before.before in
    let placed = counted.before.before in
    let a = c.args in
    let image = a.image.now in
    let ones = c.ones_in_byte-ones.ensures in
    ap (λ p. with_word (set image (p + a.b % 500) a.x) c.sample_at.result (8 * a.b + c.select_in_byte-place.result)) c.bits_at.ensures
    ∙ ap (λ q. with_word (set image (byte_place 1 a.b) a.x) q (8 * a.b + c.select_in_byte-place.result)) c.sample_at.ensures
    ∙ ap (λ v. with_word (set image (byte_place 1 a.b) a.x) (sample_place a.samples ((a.k + 63) / 64)) (8 * a.b + v)) c.select_in_byte-place.ensures
    ∙ sym (byte_sample image a.samples a.b a.x a.k (omega (arith, ones)))

pub returns : goal.returns
returns c =
    let a = c.args in
    let ones = c.ones_in_byte-ones.ensures in
    (ap (λ n. a.k + n) ones, c.put_word.ensures ∙ marked (goal.at.returns c).After-put_word)
