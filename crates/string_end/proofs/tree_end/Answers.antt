use Prim.Native.Nat.{ℕ, ◌-◌, ◌/◌, ◌%◌, ◌^◌, ◌≤◌, ◌<◌}
use mathlib.Core.Path.{◌≡◌, refl, sym, ap, ◌∙◌}
use borrow.Author.Rules.{rules}
use native.Mathlib.Omega.{arith}
use lib.Bits.{bit_and}
use lib.ListN.{get_or}
use Rattle.meaning.specs.Bytes.{value, bit_at}
use Rattle.string_end.specs.Ends.{end_of}
use Rattle.string_end_laws.proofs.Steps.{Open, open_first, open_none, open_few, open_skip, open_wrong, open_over, open_full, open_on, byte_bit, value-le}
use Rattle.string_skip.proofs.Whole.{all_at_once}
use Rattle.string_end.proofs.tree_end.Goals as goal
use Rattle.string_end.proofs.tree_end.Goals.{In-loop-p, Joined-p-eq0, then-p-eq0+then-at-p+else-p-n, then-p-eq0+else-at-p, else-p-eq0}

pub tree-init : goal.tree-init
tree-init c = (omega arith, refl, open_first _ _ _ _ _ _ refl refl refl)

pub skip_bytes-skipped-requires : goal.skip_bytes-skipped-requires
skip_bytes-skipped-requires c =
    record { stands = record { within = omega arith; few = open_few _ _ _ _ _ _ c.tree.invariant.2 c.if-at-p.true }; n_bound = omega arith; n_bound_2 = omega arith }

-- where the bits of a byte are read from, whether or not bytes before it were passed over
joined : (c : goal.Joined-p-eq0) →
    let j = c.if-p-eq0 in
    let a = c.args in
    (c.tree.p ≤ j.p) × (j.p < a.n) × Open a.b.now a.n a.at j.p j.pending j.room
joined c =
    let o = c.tree.invariant.2 in
    elim c.if-p-eq0.branch [
      | then-p-eq0+then-at-p+else-p-n w ↦
          let s = w.skip_bytes-skipped.ensures in
          rw (w.pending-is, w.room-is, w.p-is) (
            omega arith,
            omega arith,
            open_skip _ _ _ _ _ _ o _ _ _ w.if-at-p.true (omega arith) s.stands.few (all_at_once _ _ _ _ _ w.if-p-eq0.true s),
          )
      | then-p-eq0+else-at-p w ↦ rw (w.pending-is, w.room-is, w.p-is) (omega arith, omega arith, o)
      | else-p-eq0 w ↦ rw (w.pending-is, w.room-is, w.p-is) (omega arith, omega arith, o)
    ]

pub bounds-b-p : goal.bounds-b-p
bounds-b-p c = omega (arith, joined (goal.at.bounds-b-p c).Joined-p-eq0)

pub end_of_byte-stop-requires : goal.end_of_byte-stop-requires
end_of_byte-stop-requires c = let j = joined (goal.at.end_of_byte-stop-requires c).Joined-p-eq0 in search rules

pub loop-p-init : goal.loop-p-init
loop-p-init c = let j = joined (goal.at.loop-p-init c).Joined-p-eq0 in search rules

pub tree-smaller : goal.tree-smaller
tree-smaller c = omega (arith, joined (goal.at.tree-smaller c).Joined-p-eq0)

pub tree-preserved : goal.tree-preserved
tree-preserved c = let i = c.loop-p.invariant in (omega arith, i.6, i.7)

-- the bit that is read of the byte at which the reading is, as a number
abbrev bit_in : goal.In-loop-p → ℕ
bit_in c = bit_and (get_or c.args.b.now (c.if-p-eq0.p / 8) 0 / 2 ^ (7 - c.loop-p.p % 8)) 1

bit_read : (c : goal.In-loop-p) →
    (bit_in c ≡ value (bit_at c.args.b.now c.loop-p.p)) × (bit_in c ≤ 1)
bit_read c =
    let b = c.args.b.now in
    let v = byte_bit b (c.if-p-eq0.p / 8) c.loop-p.p (omega arith) (omega arith) in
    (v, omega (arith, value-le (bit_at b c.loop-p.p)))

pub overflow_cast-opened-in-loop-p : goal.overflow_cast-opened-in-loop-p
overflow_cast-opened-in-loop-p c = omega (arith, bit_read (goal.at.overflow_cast-opened-in-loop-p c).In-loop-p)

pub overflow_add-at-in-loop-p : goal.overflow_add-at-in-loop-p
overflow_add-at-in-loop-p c = omega (arith, bit_read (goal.at.overflow_add-at-in-loop-p c).In-loop-p)

pub overflow_add-pending : goal.overflow_add-pending
overflow_add-pending c = let o = c.loop-p.invariant.7.few in omega (arith, bit_read (goal.at.overflow_add-pending c).In-loop-p)

pub loop-p-preserved : goal.loop-p-preserved
loop-p-preserved c =
    let r = bit_read (goal.at.loop-p-preserved c).In-loop-p in
    let i = c.loop-p.invariant in (
      omega arith,
      omega arith,
      omega arith,
      omega arith,
      omega arith,
      refl,
      i.6,
      open_on _ _ _ _ _ _ i.7 _ (omega arith) r.0 c.if-p-at.false c.if-pending-opened-eq0.false (omega arith),
    )

pub returns-after-tree : goal.returns-after-tree
returns-after-tree c = let i = c.tree.invariant in ap end_of i.1 ∙ sym (open_none _ _ _ _ _ _ i.2 (omega arith))

pub returns-then-p-n : goal.returns-then-p-n
returns-then-p-n c = ap end_of c.tree.invariant.1 ∙ sym (open_none _ _ _ _ _ _ (open_skip _ _ _ _ _ _ c.tree.invariant.2 _ _ _ c.if-at-p.true (omega arith) c.skip_bytes-skipped.ensures.stands.few
    (all_at_once _ _ _ _ _ c.if-p-eq0.true c.skip_bytes-skipped.ensures)) c.if-p-n.true)

pub returns-then-p-at : goal.returns-then-p-at
returns-then-p-at c = sym (open_wrong _ _ _ _ _ _ c.loop-p.invariant.7 _ (omega arith) (bit_read (goal.at.returns-then-p-at c).In-loop-p).0 c.if-p-at.true)

pub returns-then-pending-opened-eq0 : goal.returns-then-pending-opened-eq0
returns-then-pending-opened-eq0 c =
    sym (open_over _ _ _ _ _ _ c.loop-p.invariant.7 _ (omega arith) (bit_read (goal.at.returns-then-pending-opened-eq0 c).In-loop-p).0 c.if-p-at.false c.if-pending-opened-eq0.true)

pub returns-then-room-opened : goal.returns-then-room-opened
returns-then-room-opened c =
    sym (open_full _ _ _ _ _ _ c.loop-p.invariant.7 _ (omega arith) (bit_read (goal.at.returns-then-room-opened c).In-loop-p).0 c.if-p-at.false c.if-room-opened.true)
