use Rattle.std.proofs.Common.{◌≡◌, refl, sym, ap, ◌∙◌, subst, List, [], ◌∷◌, ℕ, suc, ◌+◌, ◌-◌, ◌≤◌, ◌<◌, arith, length, get_or, set, take, drop, length-set, length-take, length-drop}
use Rattle.theory.specs.Stages.{nodes_of}
use Rattle.image_found.specs.Checked.{layout_in}
use Rattle.bits_byte.proofs.Values.{value-le}
use Rattle.list_measure.specs.Levels.{ones_before_in, below}
use Rattle.list_measure.specs.Cursors.{CursorsReady}
use Rattle.list_measure.proofs.Numbers.{ones_before_in_most, most_nodes, child_mark, last_mark}
use Rattle.nav_strings.specs.Nodes.{IsNode}
use Rattle.list_write.specs.Writing.{pairs_of, ToList}
use Rattle.list_write.proofs.Cursors.{next_child}
use Rattle.list_write.proofs.Writing.{listing_step, pair_put, pair_first, Going, going_all, going_room, going_more}
use Rattle.list_write.proofs.+list_node.Goals as goal
use Rattle.list_write.proofs.+list_node.Goals.{In-loop-more}

-- the list once the node's own pair is written
abbrev fronted : ℕ → ℕ → List ℕ → List ℕ
fronted x left out = set (set out 0 x) 1 (64 - left)

-- its own pair comes first, and there is room for it and for all the others
own : {b : List ℕ} {r0 x left : ℕ} {cursors out : List ℕ} → ToList b r0 x left cursors out
    → (2 ≤ length out) × (length (fronted x left out) ≡ length out) × (length (pairs_of b left x) ≤ length (fronted x left out))
own {b} {r0} {x} {left} {cursors} {out} p =
    let e = ap length (listing_step b (layout_in b) p.node.sound left x p.some p.most) in
    let room = p.room in
    let same : length (fronted x left out) ≡ length out = simp length-set in
    (omega arith, same, omega arith)

pub bounds-out-0 : goal.bounds-out-0
bounds-out-0 t c = let r = own c.requires in omega (arith, length-set {A = ℕ})

pub bounds-out-1 : goal.bounds-out-1
bounds-out-1 t c = let r = own c.requires in omega (arith, length-set {A = ℕ})

pub loop-more-init : goal.loop-more-init
loop-more-init t c =
    let a = c.args in
    let b = a.b.now in
    let p = c.requires in
    let r = child_mark b (layout_in b) p.node.sound a.x c.bit_r0-more.result p.node.some p.node.most c.bit_r0-more.ensures in
    let bit = value-le _ _ c.bit_r0-more.ensures in (
      ones_before_in b a.x,
      record {
        w = a.x ∷ (64 - a.left) ∷ [];
        front = pair_put a.x (64 - a.left) a.out.now (own p).0;
        whole = sym (listing_step b (layout_in b) p.node.sound a.left a.x p.some p.most);
        many = refl;
        from = omega arith;
        count = p.count;
        above = refl;
        along = λ y h q. q;
      },
      λ one. r.1 (λ z. omega arith),
      λ none. sym (r.0 (omega arith)),
    )

-- the next child: its cursor is at the one before it
record Next (b : List ℕ) (x left : ℕ) (cs₀ out₀ cs out : List ℕ) (filled : ℕ) : Type 0 where
  going : Going b x left cs₀ out₀ cs out filled (get_or cs (65 - left) 0)
  more : get_or cs (65 - left) 0 < ones_before_in b (x + 1)
  level : 65 - left < 64
  node : IsNode b (layout_in b) (get_or cs (65 - left) 0 + 1)
  most : nodes_of b ≤ 65535
  ready : CursorsReady (below b) (drop (suc (65 - left)) (set cs (65 - left) (get_or cs (65 - left) 0 + 1)))
      (ones_before_in b (get_or cs (65 - left) 0 + 1)) (ones_before_in b (get_or cs (65 - left) 0 + 1 + 1))
  some : 2 ≤ length (pairs_of b (left - 1) (get_or cs (65 - left) 0 + 1))
  room : (length out ≡ length out₀) × (filled + length (pairs_of b (left - 1) (get_or cs (65 - left) 0 + 1)) ≤ length out₀)

child : (t : ℕ) (c : goal.In-loop-more t)
    → let a = c.args in
    let l = c.loop-more in
    Next a.b.now a.x a.left a.cursors.now (fronted a.x a.left a.out.now) l.cursors l.out l.filled
child t c =
    let a = c.args in
    let b = a.b.now in
    let p = c.requires in
    let f = p.node.sound in
    let l = c.loop-more in
    let i = l.invariant in
    let e = 65 - a.left in
    let out = fronted a.x a.left a.out.now in
    let at = i.2 c.loop-more-test.true in
    let r = next_child b (layout_in b) f a.x e a.cursors.now l.cursors i.0 at i.1.along p.ready in
    let here = r.1 in
    let count = i.1.count in
    let going = subst (λ k. Going b a.x a.left a.cursors.now out l.cursors l.out l.filled k) (sym here) i.1 in
    let more : get_or l.cursors e 0 < ones_before_in b (a.x + 1) = omega arith in
    let pair = ap length (listing_step b (layout_in b) f (a.left - 1) (get_or l.cursors e 0 + 1) (omega arith) (omega arith)) in
    record {
      going = going;
      more = more;
      level = omega arith;
      node = record { sound = f; some = omega arith; most = omega (arith, ones_before_in_most b (layout_in b) f (a.x + 1)) };
      most = most_nodes b (layout_in b) f;
      ready = subst (λ k. CursorsReady (below b) (drop (suc e) (set l.cursors e (k + 1))) (ones_before_in b (k + 1)) (ones_before_in b (k + 1 + 1))) (sym here) r.2;
      some = omega arith;
      room = going_room b a.x a.left a.cursors.now out l.cursors l.out l.filled (get_or l.cursors e 0) going more (own p).2;
    }

pub bounds-cursors-level : goal.bounds-cursors-level
bounds-cursors-level t c = let r = (child t (goal.at.bounds-cursors-level t c).In-loop-more).level in omega arith

pub overflow_add-child : goal.overflow_add-child
overflow_add-child t c = let r = child t (goal.at.overflow_add-child t c).In-loop-more in omega (arith, r.node.most, r.most)

pub bounds-cursors-level-in-loop-more : goal.bounds-cursors-level-in-loop-more
bounds-cursors-level-in-loop-more t c = let r = (child t (goal.at.bounds-cursors-level-in-loop-more t c).In-loop-more).level in omega arith

pub list_node-filled-requires : goal.list_node-filled-requires
list_node-filled-requires t c =
    let a = c.args in
    let l = c.loop-more in
    let p = c.requires in
    let r = child t (goal.at.list_node-filled-requires t c).In-loop-more in
    let level = r.level in
    let room = r.room in
    let part : length (take (length l.out - l.filled) (drop l.filled l.out)) ≡ length l.out - l.filled = simp (length-take, length-drop) (omega arith) in
    let count : length (set l.cursors (65 - a.left) (get_or l.cursors (65 - a.left) 0 + 1)) ≡ 64 = length-set l.cursors (65 - a.left) _ ∙ r.going.count in
    let below' : 65 - (a.left - 1) ≡ suc (65 - a.left) = omega arith in (
      omega arith,
      record {
        node = r.node;
        begins = p.begins;
        some = omega arith;
        most = omega arith;
        count = count;
        ready = rw below' r.ready;
        room = omega arith;
      },
    )

pub bit_r1-more-requires : goal.bit_r1-more-requires
bit_r1-more-requires t c = (child t (goal.at.bit_r1-more-requires t c).In-loop-more).node

pub overflow_sub-more : goal.overflow_sub-more
overflow_sub-more t c = value-le _ _ c.bit_r1-more.ensures

pub loop-more-preserved : goal.loop-more-preserved
loop-more-preserved t c =
    let a = c.args in
    let b = a.b.now in
    let f = c.requires.node.sound in
    let l = c.loop-more in
    let out = fronted a.x a.left a.out.now in
    let y = get_or l.cursors (65 - a.left) 0 in
    let r = child t (goal.at.loop-more-preserved t c).In-loop-more in
    let level = r.level in
    let more = r.more in
    let from = r.going.from in
    let bit = value-le _ _ c.bit_r1-more.ensures in
    let last = last_mark b (layout_in b) f a.x (y + 1) c.bit_r1-more.result (omega arith) (omega arith) c.bit_r1-more.ensures in (
      y + 1,
      going_more b a.x a.left a.cursors.now out l.cursors l.out l.filled y r.going r.more (own c.requires).2 (layout_in b) f (omega arith) (omega arith) _ _ _ _ refl
          c.list_node-filled.ensures,
      λ one. last.0 (omega arith),
      λ none. last.1 (λ z. none (omega arith)),
    )

pub loop-more-smaller : goal.loop-more-smaller
loop-more-smaller t c =
    let r = child t (goal.at.loop-more-smaller t c).In-loop-more in
    let some = r.some in
    let room = r.room in
    let n = c.list_node-filled.ensures.many in
    omega arith

pub returns : goal.returns
returns t c =
    let a = c.args in
    let b = a.b.now in
    let p = c.requires in
    let l = c.loop-more in
    let i = l.invariant in
    let none = i.3 c.loop-more-test.false in
    let all = going_all b a.x a.left a.cursors.now (fronted a.x a.left a.out.now) l.cursors l.out l.filled i.0 i.1 (omega arith) in
    let pairs = listing_step b (layout_in b) p.node.sound a.left a.x p.some p.most in
    record {
      pairs = all.0 ∙ pair_first a.x (64 - a.left) (pairs_of b a.left a.x) _ a.out.now pairs (own p).0;
      many = all.1;
      count = i.1.count;
      above = i.1.above;
      moved = λ y h r. subst (λ k. CursorsReady (below b) (drop (65 - a.left) l.cursors) k (ones_before_in b y)) none (i.1.along y h r);
    }
