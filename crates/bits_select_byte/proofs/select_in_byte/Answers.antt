use mathlib.Core.Path.{◌≡◌, sym, ap, ◌∙◌}
use Prim.Native.Nat.{ℕ, ◌+◌, ◌/◌, ◌≤◌, ◌<◌}
use native.Mathlib.Nat.{add-zero}
use native.Mathlib.Omega.{arith}
use lib.Bits.{and_le_l}
use Rattle.meaning.specs.Strings.{ones}
use Rattle.theory.specs.Rank.{position}
use Rattle.bits_byte.specs.Byte.{byte_bits}
use Rattle.bits_select_byte.proofs.Removing.{half_removed, quarter_removed, front-ones, few_ones, first-place}
use Rattle.bits_select_byte.proofs.select_in_byte.Goals as goal
use Rattle.bits_select_byte.proofs.select_in_byte.Goals.{Joined-four-need, Joined-need-gt1, Joined-two-need, then-four-need, else-four-need, then-two-need, else-two-need, then-need-gt1, else-need-gt1}

-- one number `need` of what is left of the byte is its one number k, `passed` places nearer to the
-- front
record Left (x k rest need passed : ℕ) : Type 0 where
  byte : rest < 256
  some : 1 ≤ need
  enough : need ≤ ones (byte_bits rest)
  few : passed ≤ 4
  same : position (byte_bits rest) need + passed ≡ position (byte_bits x) k

-- it is in the first half
half : (c : goal.Joined-four-need) →
    let a = c.args in
    Left a.x a.k c.if-four-need.rest c.if-four-need.need c.if-four-need.passed × (c.if-four-need.need ≤ ones (byte_bits (c.if-four-need.rest / 16)))
half c =
    let x = c.args.x in
    let k = c.args.k in
    let byte = c.ranges.x.fits in
    let four = c.ones_in_byte-four.ensures in
    let moved = rw (← four) at (half_removed x byte) in
    elim c.if-four-need.branch [
      | then-four-need w ↦ rw (w.rest-is, w.need-is, w.passed-is) (
        record {
          byte = omega arith;
          some = omega (arith, w.if-four-need.true);
          enough = omega (arith, moved.count);
          few = omega arith;
          same = moved.place k w.if-four-need.true c.requires.k_bound;
        },
        omega (arith, moved.count, front-ones x byte),
      )
      | else-four-need w ↦ rw (w.rest-is, w.need-is, w.passed-is) (
        record { byte = byte; some = c.requires.le_k; enough = c.requires.k_bound; few = omega arith; same = omega arith },
        omega (arith, w.if-four-need.false, four),
      )
    ]

-- it is the first or the second
near : (c : goal.Joined-two-need) →
    let a = c.args in
    Left a.x a.k c.if-two-need.rest c.if-two-need.need c.if-four-need.passed × (c.if-two-need.need ≤ 2)
near c =
    let h = half c.before.before.before in
    let rest = c.if-four-need.rest in
    let two = c.ones_in_byte-two.ensures in
    let less = rw (← two) at (quarter_removed rest h.0.byte) in
    let few = rw (← two) at (few_ones rest h.0.byte) in
    elim c.if-two-need.branch [
      | then-two-need w ↦ rw (w.rest-is, w.need-is) (
        record {
          byte = omega (arith, h.0.byte, and_le_l rest 63);
          some = omega (arith, w.if-two-need.true);
          enough = omega (arith, less.count, h.0.enough);
          few = h.0.few;
          same = ap (λ n. n + c.if-four-need.passed) (sym (add-zero _) ∙ less.place c.if-four-need.need w.if-two-need.true h.0.enough) ∙ h.0.same;
        },
        omega (arith, few.1, h.1),
      )
      | else-two-need w ↦ rw (w.rest-is, w.need-is) (h.0, omega (arith, few.0, w.if-two-need.false))
    ]

-- it is the first
last : (c : goal.Joined-need-gt1) →
    let a = c.args in
    Left a.x a.k c.if-need-gt1.rest 1 c.if-four-need.passed
last c =
    let n = near c.before.before in
    let first = c.without_first-less.ensures in
    let rest = c.if-two-need.rest in
    let need = c.if-two-need.need in
    let passed = c.if-four-need.passed in
    elim c.if-need-gt1.branch [
      | then-need-gt1 w ↦ rw w.rest-is (record {
        byte = omega arith;
        some = omega arith;
        enough = omega (arith, first.count, n.0.enough, w.if-need-gt1.true);
        few = n.0.few;
        same = ap (λ m. m + passed) (sym (add-zero _) ∙ first.place 2 (omega arith) (omega (arith, n.0.enough, w.if-need-gt1.true)))
            ∙ ap (λ m. position (byte_bits rest) m + passed) (let e : 2 ≡ need = omega (arith, n.1, w.if-need-gt1.true) in e)
            ∙ n.0.same;
      })
      | else-need-gt1 w ↦ rw w.rest-is (record {
        byte = n.0.byte;
        some = omega arith;
        enough = omega (arith, n.0.some, n.0.enough);
        few = n.0.few;
        same = ap (λ m. position (byte_bits rest) m + passed) (let e : 1 ≡ need = omega (arith, n.0.some, w.if-need-gt1.false) in e) ∙ n.0.same;
      })
    ]

pub without_first-less-requires : goal.without_first-less-requires
without_first-less-requires c = let n = near (goal.at.without_first-less-requires c).Joined-two-need in omega (arith, n.0.some, n.0.enough)

pub returns : goal.returns
returns c =
    let l = last (goal.at.returns c).Joined-need-gt1 in
    omega (arith, first-place c.if-need-gt1.rest l.byte l.enough, l.same)
