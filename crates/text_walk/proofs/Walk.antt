-- Opening, closing and the end of a walk.
use mathlib.Core.Path.{◌≡◌, refl, sym, ap, ap₂, ◌∙◌, subst, subst₂}
use mathlib.Core.List.{List, [], ◌∷◌, ◌++◌, append-nil, append_assoc, nil≢cons, head-eq_of_cons-eq, tail-eq_of_cons-eq}
use Prim.Native.Nat.{ℕ, zero, suc, ◌+◌, ◌-◌, ◌≤◌, ◌<◌}
use native.Mathlib.Decide.{dec_lt}
use native.Mathlib.Omega.{arith}
use lib.ListN.{length, set, length-set}
use lib.Seq.{get_or-set_same, get_or-set_other}
use Rattle.meaning.specs.Trees.{Tree, nodes, degrees}
use Rattle.meaning.specs.Strings.{Bit, O, I, unary, lbs}
use Rattle.meaning.specs.Parents.{parents, entry}
use Rattle.meaning.specs.Listing.{for_each}
use Rattle.meaning.specs.Brackets.{brackets}
use Rattle.theory.specs.Rank.{ones_before}
use Rattle.theory.specs.Walks.{node_at}
use Rattle.theory.proofs.Bits.{I≢O}
use Rattle.theory.proofs.Scan.{nodes-ones}
use Rattle.theory.proofs.Navigate.{counted, children_are, ones_before-zero, ones_before_upto, ones_before-all, is_placed}
use Rattle.theory.proofs.Forms.{length-parents}
use Rattle.theory.proofs.Addresses.{first_node}
use Rattle.text_laws.proofs.Nodes.{brackets_node}
use Rattle.text_walk.specs.Walk.{low, cursor, after, closings, to_come, Walking, start, Started}

pub nodes_of_lem : (t : Tree) {ps : List ℕ} → parents t ≡ ps → nodes t ≡ length ps
nodes_of_lem t e = sym (length-parents t) ∙ ap length e

-- ---- the ones before a zero

module _ (t : Tree) where
  pub low_upto : (y z : ℕ) → y ≤ z → low t y ≤ low t z
  unfolding low
  low_upto y z h = ones_before_upto (lbs t) y z h

  pub low_most : (z : ℕ) → low t z ≤ nodes t
  unfolding low
  low_most z = omega (arith, ones_before-all (lbs t) z, nodes-ones t)

  -- node y + 1 is after number `low p`, up to `low (p + 1)`, where p is its parent
  pub placed : (y : ℕ) → y < nodes t → (low t (entry (parents t) (suc y)) ≤ y) × (y < low t (suc (entry (parents t) (suc y))))
  unfolding low
  placed y h = let r = is_placed t y (omega (arith, nodes-ones t)) in (omega (arith, r.above), omega (arith, r.upto))

module _ (t : Tree) where
  abbrev at : ℕ → List Bit
  at c = brackets (node_at t c).below

  -- ---- the children of node x after number y

  none_after : (x y : ℕ) → low t (suc x) ≤ y → after t x y ≡ []
  unfolding after
  none_after x y h = ap (for_each at) (counted (suc y) (suc y) (low t (suc x) - y) 0 refl (omega arith))

  -- node y + 1 is opened, its children follow, it is closed, and its siblings follow
  one-after : (x y : ℕ) → y < low t (suc x) → after t x y ≡ I ∷ (after t (suc y) (low t (suc y)) ++ O ∷ after t x (suc y))
  unfolding after low
  one-after x y h =
      let m = low t (suc x) - suc y in
      let kids = after t (suc y) (low t (suc y)) in
      let rest = after t x (suc y) in
      let node : at (suc y) ≡ I ∷ (kids ++ O ∷ []) =
      brackets_node t (suc y) (omega arith) (omega (arith, low_most t (suc x)))
      ∙ ap (λ cs. I ∷ (for_each at cs ++ O ∷ [])) (children_are t (suc y)
      ∙ counted (1 + ones_before (lbs t) (suc y)) (suc (low t (suc y))) (ones_before (lbs t) (suc (suc y)) - ones_before (lbs t) (suc y)) (low t (suc (suc y)) - low t (suc y)) (omega arith) refl) in
      ap (for_each at) (counted (suc y) (suc y) (low t (suc x) - y) (suc m) refl (omega arith))
      ∙ ap (λ b. b ++ rest) node
      ∙ ap (λ b. I ∷ b) (append_assoc kids (O ∷ []) rest)

  -- ---- what comes first

  module _ (cs : List ℕ) (o : ℕ) where
    abbrev x : ℕ
    x = cursor cs o

    abbrev y : ℕ
    y = cursor cs (suc o)

    -- where a child is left, an opening bracket
    come_open : y < low t (suc x) → to_come t cs o ≡ I ∷ (after t (suc y) (low t (suc y)) ++ O ∷ (after t x (suc y) ++ closings t cs o))
    come_open h =
        ap (λ b. b ++ closings t cs o) (one-after x y h)
        ∙ ap (λ b. I ∷ b) (append_assoc (after t (suc y) (low t (suc y))) (O ∷ after t x (suc y)) (closings t cs o))

    come_none : low t (suc x) ≤ y → to_come t cs o ≡ closings t cs o
    come_none h = ap (λ b. b ++ closings t cs o) (none_after x y h)

  no_opening : {X : Type 0} (cs : List ℕ) (o : ℕ) (rest : List Bit) → closings t cs o ≡ I ∷ rest → X
  unfolding closings
  no_opening cs zero rest e = absurd (nil≢cons e)
  no_opening cs (suc o) rest e = I≢O (sym (head-eq_of_cons-eq e))

  closing : (cs : List ℕ) (o : ℕ) (rest : List Bit) → closings t cs o ≡ O ∷ rest → (1 ≤ o) × (to_come t cs (o - 1) ≡ rest)
  unfolding closings
  closing cs zero rest e = absurd (nil≢cons e)
  closing cs (suc o) rest e = (omega arith, ap (to_come t cs) (let f : suc o - 1 ≡ o = omega arith in f) ∙ tail-eq_of_cons-eq e)

  none_open : (cs : List ℕ) (o : ℕ) → closings t cs o ≡ [] → o ≡ 0
  unfolding closings
  none_open cs zero e = refl
  none_open cs (suc o) e = absurd (nil≢cons (sym e))

  -- the cursors above are as they were
  closings-kept : (cs : List ℕ) (i v o : ℕ) → o < i → closings t (set cs i v) o ≡ closings t cs o
  unfolding closings
  closings-kept cs i v zero h = refl
  closings-kept cs i v (suc o) h =
      ap₂ (λ a b. O ∷ (after t a b ++ closings t (set cs i v) o)) (get_or-set_other cs i o v 0 (λ e. absurd (omega arith))) (get_or-set_other cs i (suc o) v 0 (λ e. absurd (omega arith)))
      ∙ ap (λ r. O ∷ (after t (cursor cs o) (cursor cs (suc o)) ++ r)) (closings-kept cs i v o (omega arith))

  -- ---- steps

  -- the node that is opened next is the next child of the innermost open node
  pub record Opens (cs : List ℕ) (o : ℕ) (rest : List Bit) : Type 0 where
    pub room : o < 64
    pub node : cursor cs (suc o) < nodes t
    pub parent : entry (parents t) (suc (cursor cs (suc o))) ≡ cursor cs o
    pub on : Walking t (set cs (suc o) (cursor cs (suc o) + 1)) (suc o) rest

  -- a node at or after the first child of x, and before the end of its children, has parent x
  parent_is : (x y : ℕ) → low t x ≤ y → y < low t (suc x) → entry (parents t) (suc y) ≡ x
  parent_is x y g h =
      let p = entry (parents t) (suc y) in
      let r = placed t y (omega (arith, low_most t (suc x))) in
      elim (dec_lt p x) [
        | yes l ↦ absurd (omega (arith, low_upto t (suc p) x (omega arith)))
        | no l ↦ elim (dec_lt x p) [
          | yes m ↦ absurd (omega (arith, low_upto t (suc x) p (omega arith)))
          | no m ↦ omega arith
        ]
      ]

  module _ (cs : List ℕ) (o : ℕ) (rest : List Bit) (w : Walking t cs o (I ∷ rest)) where
    abbrev new : List ℕ
    new = set cs (suc o) (y cs o + 1)

    left : y cs o < low t (suc (x cs o))
    left = elim (dec_lt (y cs o) (low t (suc (x cs o)))) [
      | yes h ↦ h
      | no h ↦ no_opening cs o rest (sym (come_none cs o (omega arith)) ∙ w.come)
    ]

    room : o < 64
    room = elim (dec_lt o 64) [
      | yes l ↦ l
      | no l ↦ absurd (omega (arith, w.few, left, w.last, low_most t (suc (x cs o)), ap (λ k. cursor cs (suc k)) (let e : o ≡ 64 = omega (arith, w.few) in e)))
    ]

    here : cursor new (suc o) ≡ suc (y cs o)
    here = get_or-set_same cs (suc o) (y cs o + 1) 0 (omega (arith, w.count, room)) ∙ omega arith

    other : (e : ℕ) → (e ≡ suc o → ⊥) → cursor new e ≡ cursor cs e
    other e d = get_or-set_other cs (suc o) e (y cs o + 1) 0 d

    under : cursor new (suc (suc o)) ≡ low t (suc (y cs o))
    under = other (suc (suc o)) (λ d. absurd (omega arith)) ∙ w.below (suc o) (omega arith) (omega (arith, room))

    among_new : (e : ℕ) → e ≤ suc o → (low t (cursor new e) ≤ cursor new (suc e)) × (cursor new (suc e) ≤ low t (suc (cursor new e)))
    among_new e l = elim (dec_lt e o) [
      | yes a ↦ subst₂ (λ p q. (low t p ≤ q) × (q ≤ low t (suc p))) (sym (other e (λ d. absurd (omega arith)))) (sym (other (suc e) (λ d. absurd (omega arith)))) (w.among e (omega arith))
      | no a ↦ elim (dec_lt o e) [
        | yes b ↦ subst (λ k. (low t (cursor new k) ≤ cursor new (suc k)) × (cursor new (suc k) ≤ low t (suc (cursor new k)))) (let f : suc o ≡ e = omega arith in f)
            (subst₂ (λ p q. (low t p ≤ q) × (q ≤ low t (suc p))) (sym here) (sym under) (omega arith, low_upto t (suc (y cs o)) (suc (suc (y cs o))) (omega arith)))
        | no b ↦ subst (λ k. (low t (cursor new k) ≤ cursor new (suc k)) × (cursor new (suc k) ≤ low t (suc (cursor new k)))) (let f : o ≡ e = omega arith in f)
            (subst₂ (λ p q. (low t p ≤ q) × (q ≤ low t (suc p))) (sym (other o (λ d. absurd (omega arith)))) (sym here) (omega (arith, (w.among o (omega arith)).0), left))
      ]
    ]

    comes : to_come t new (suc o) ≡ rest
    unfolding closings
    comes =
        ap₂ (λ p q. after t p q ++ closings t new (suc o)) here under
        ∙ ap₂ (λ p q. after t (suc (y cs o)) (low t (suc (y cs o))) ++ O ∷ (after t p q ++ closings t new o)) (other o (λ d. absurd (omega arith))) here
        ∙ ap (λ r. after t (suc (y cs o)) (low t (suc (y cs o))) ++ O ∷ (after t (x cs o) (suc (y cs o)) ++ r)) (closings-kept cs (suc o) (y cs o + 1) o (omega arith))
        ∙ tail-eq_of_cons-eq (sym (come_open cs o left) ∙ w.come)

    pub walk_open : Opens cs o rest
    walk_open = record {
      room = room;
      node = omega (arith, left, low_most t (suc (x cs o)));
      parent = parent_is (x cs o) (y cs o) (w.among o (omega arith)).0 left;
      on = record {
        count = length-set cs (suc o) (y cs o + 1) ∙ w.count;
        base = other 0 (λ d. absurd (omega arith)) ∙ w.base;
        few = omega (arith, room);
        among = among_new;
        below = λ e l m. other (suc e) (λ d. absurd (omega arith)) ∙ w.below e (omega arith) m ∙ ap (λ p. low t (suc p)) (sym (other e (λ d. absurd (omega arith))));
        last = omega (arith, w.last, other 65 (λ d. absurd (omega (arith, room))));
        come = comes;
      };
    }

  -- a bracket that comes is an opening one if the next node of the level below is a child of the
  -- innermost open node
  pub is_opening : (cs : List ℕ) (o : ℕ) (b : Bit) (rest : List Bit) → Walking t cs o (b ∷ rest) → cursor cs (suc o) < nodes t
      → entry (parents t) (suc (cursor cs (suc o))) ≡ cursor cs o → b ≡ I
  is_opening cs o b rest w h e =
      let l = subst (λ p. cursor cs (suc o) < low t (suc p)) e (placed t (cursor cs (suc o)) h).1 in
      sym (head-eq_of_cons-eq (sym (come_open cs o l) ∙ w.come))

  -- ---- closing

  module _ (cs : List ℕ) (o : ℕ) where
    -- no child is left
    no_child : low t (suc (x cs o)) ≤ y cs o → (rest : List Bit) → Walking t cs o rest → y cs o ≡ low t (suc (x cs o))
    no_child h rest w = omega (arith, (w.among o (omega arith)).1)

    pub walk_close : (rest : List Bit) → Walking t cs o (O ∷ rest) → (1 ≤ o) × Walking t cs (o - 1) rest
    walk_close rest w =
        let h : low t (suc (x cs o)) ≤ y cs o = elim (dec_lt (y cs o) (low t (suc (x cs o)))) [
          | yes l ↦ I≢O (sym (head-eq_of_cons-eq (sym w.come ∙ come_open cs o l)))
          | no l ↦ omega arith
        ] in
        let c = closing cs o rest (sym (come_none cs o h) ∙ w.come) in (
          c.0,
          record {
            count = w.count;
            base = w.base;
            few = omega (arith, w.few);
            among = λ e l. w.among e (omega arith);
            below = λ e l m. elim (dec_lt o e) [
              | yes g ↦ w.below e g m
              | no g ↦ subst (λ k. cursor cs (suc k) ≡ low t (suc (cursor cs k))) (let f : o ≡ e = omega (arith, c.0) in f) (no_child h (O ∷ rest) w)
            ];
            last = w.last;
            come = c.1;
          },
        )

    -- at the end each cursor is where the next level began
    pub walk_end : Walking t cs o [] → (e : ℕ) → e ≤ 64 → cursor cs (suc e) ≡ start t (suc e)
    unfolding start
    walk_end w e l =
        let h : low t (suc (x cs o)) ≤ y cs o = elim (dec_lt (y cs o) (low t (suc (x cs o)))) [
          | yes g ↦ absurd (nil≢cons (sym w.come ∙ come_open cs o g))
          | no g ↦ omega arith
        ] in
        let z = none_open cs o (sym (come_none cs o h) ∙ w.come) in
        let first : cursor cs 1 ≡ low t 1 = subst (λ k. cursor cs (suc k) ≡ low t (suc (cursor cs k))) z (no_child h [] w) ∙ ap (λ k. low t (suc k)) w.base in
        go w first z e l
      where
        go : Walking t cs o [] → cursor cs 1 ≡ low t 1 → o ≡ 0 → (e : ℕ) → e ≤ 64 → cursor cs (suc e) ≡ start t (suc e)
        go w first z zero l = first
        go w first z (suc e) l = w.below (suc e) (omega arith) l ∙ ap (λ k. low t (suc k)) (go w first z e (omega arith))

  -- ---- the start

  pub low-one : low t 1 ≡ 1
  unfolding low lbs
  low-one = ap suc (ones_before-zero (unary (degrees t)))

  pub walk_start : (cs : List ℕ) → Started t cs → Walking t cs 0 (brackets t)
  unfolding low start after closings
  walk_start cs s = record {
    count = s.count;
    base = s.base;
    few = omega arith;
    among = λ e l. subst (λ k. (low t (cursor cs k) ≤ cursor cs (suc k)) × (cursor cs (suc k) ≤ low t (suc (cursor cs k)))) (let f : 0 ≡ e = omega arith in f) (base_among);
    below = λ e l m. below_at e l m;
    last = omega (arith, s.each 64 (omega arith), s.last);
    come = first;
  }
    where
      zero-low : low t 0 ≡ 0
      zero-low = ones_before-zero (lbs t)

      base_among : (low t (cursor cs 0) ≤ cursor cs 1) × (cursor cs 1 ≤ low t (suc (cursor cs 0)))
      base_among = subst₂ (λ p q. (low t p ≤ q) × (q ≤ low t (suc p))) (sym s.base) (sym (s.each 0 (omega arith))) (omega (arith, zero-low), omega arith)

      below_at : (e : ℕ) → 0 < e → e ≤ 64 → cursor cs (suc e) ≡ low t (suc (cursor cs e))
      below_at zero l m = absurd (omega arith)
      below_at (suc e) l m = s.each (suc e) m ∙ ap (λ k. low t (suc k)) (sym (s.each e (omega arith)))

      first : to_come t cs 0 ≡ brackets t
      first =
          append-nil (after t (cursor cs 0) (cursor cs 1))
          ∙ ap₂ (after t) s.base (s.each 0 (omega arith))
          ∙ ap (for_each at) (counted 1 1 (low t 1 - 0) 1 refl (omega (arith, low-one)))
          ∙ append-nil (at 1)
          ∙ ap (λ v. brackets v.below) (first_node t)
