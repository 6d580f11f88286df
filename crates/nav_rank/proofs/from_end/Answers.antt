use mathlib.Core.Path.{◌≡◌, refl, ◌∙◌, ap}
use Prim.Native.Nat.{ℕ, ◌+◌, ◌-◌, ◌*◌, ◌/◌, ◌%◌}
use native.Mathlib.Omega.{arith}
use Rattle.meaning.specs.Strings.{ones}
use Rattle.meaning.specs.Bytes.{bits_from}
use Rattle.image_string.specs.Parts.{ones_to}
use Rattle.nav_rank.proofs.Counts.{end_is}
use Rattle.nav_rank.proofs.from_end.Goals as goal
use Rattle.nav_rank.proofs.from_end.Goals.{After-ones_in_words}

-- what is taken off, whatever the half word at the end has
taken : (c : goal.After-ones_in_words) → (last : ℕ) → let bits = c.before.before in
    let a = c.args in
    last ≡ ones (bits_from a.b.now (8 * (c.bits_at-start.result + 496)) 32)
    → a.end + c.ones_before.result ≡ ones_to a.b.now a.bits_block (4000 * a.j + a.p) + (c.ones_in_words.result + last)
taken c last e =
    let bits = c.before.before in
    let a = c.args in
    let p = c.requires in
    let at = c.bits_at-start.ensures in
    let rest = c.ones_before.ensures ∙ ap (λ q. ones (bits_from a.b.now (8 * (q + 8 * (a.p / 64))) (a.p % 64))) at in
    let words = c.ones_in_words.ensures ∙ ap (λ q. ones (bits_from a.b.now (8 * (q + 8 * (a.p / 64))) (64 * (62 - a.p / 64)))) at in
    let half = e ∙ ap (λ q. ones (bits_from a.b.now (8 * (q + 496)) 32)) at in
    end_is a.b.now a.bits_block a.j a.p p.p_bound a.end c.ones_before.result c.ones_in_words.result last p.end_value
    rest words half

pub overflow_sub-result : goal.overflow_sub-result
overflow_sub-result c =
    omega (arith, taken (goal.at.overflow_sub-result c).After-ones_in_words (ones (bits_from c.args.b.now (8 * (c.bits_at-start.result + 496)) 32)) refl)

pub overflow_sub-result-2 : goal.overflow_sub-result-2
overflow_sub-result-2 c = omega (arith, taken (goal.at.overflow_sub-result-2 c).After-ones_in_words c.ones_before-2.result c.ones_before-2.ensures)

pub returns : goal.returns
returns c = omega (arith, taken (goal.at.returns c).After-ones_in_words c.ones_before-2.result c.ones_before-2.ensures)
