-- The parents that are written on a walk.
use mathlib.Core.Path.{◌≡◌, refl, sym, ap, ◌∙◌}
use mathlib.Core.List.{List, ◌∷◌, ◌++◌}
use Prim.Native.Nat.{ℕ, zero, suc, ◌+◌, ◌-◌, ◌≤◌, ◌<◌}
use native.Mathlib.Decide.{dec_lt, ℕ_discrete}
use native.Mathlib.Numerals.{add-one}
use native.Mathlib.Omega.{arith}
use lib.ListN.{length, get_or, set, drop, length-append, length-drop, length-set}
use lib.Seq.{ext_get_or, get_or-set_same, get_or-set_other, get_or-append-add, get_or-drop, get_or-take, take_at}
use Rattle.meaning.specs.Trees.{Tree, nodes}
use Rattle.meaning.specs.Strings.{Bit, I}
use Rattle.meaning.specs.Parents.{parents}
use Rattle.meaning.specs.Answers.{written}
use Rattle.theory.proofs.Forms.{length-parents}
use Rattle.text_walk.specs.Walk.{cursor, Walking, start, Started}
use Rattle.text_walk.proofs.Walk.{Opens, walk_open}
use Rattle.text_number.specs.Numbering.{Numbered}

module _ (t : Tree) where
  pub numbered-start : (cs before : List ℕ) → Started t cs → Numbered t cs before before
  numbered-start cs before s = record {
    size = refl;
    up = λ e j l g h. absurd (omega (arith, s.each e l));
    kept = λ j h. refl;
  }

  module _ (cs out before : List ℕ) (o : ℕ) (rest : List Bit) (n : Numbered t cs out before) (room : nodes t ≤ length before) (w : Opens t cs o rest) (size : length cs ≡ 66) where
    abbrev y : ℕ
    y = cursor cs (suc o)

    written-there : (j : ℕ) → j ≡ y → get_or (set out y (cursor cs o)) j 0 ≡ get_or (parents t) j 0
    written-there j e =
        ap (λ k. get_or (set out y (cursor cs o)) k 0) e ∙ get_or-set_same out y (cursor cs o) 0 (omega (arith, n.size, w.node))
        ∙ sym w.parent ∙ ap (λ k. get_or (parents t) k 0) (sym e)

    earlier : (e j : ℕ) → (j ≡ y → ⊥) → j < cursor (set cs (suc o) (y + 1)) (suc e) → j < cursor cs (suc e)
    earlier e j d h = elim (ℕ_discrete e o) [
      | yes same ↦ omega (arith, get_or-set_same cs (suc o) (y + 1) 0 (omega (arith, w.room)), ap (λ k. cursor (set cs (suc o) (y + 1)) (suc k)) same, ap (λ k. cursor cs (suc k)) same, d)
      | no other ↦ omega (arith, get_or-set_other cs (suc o) (suc e) (y + 1) 0 (λ q. other (omega arith)))
    ]

    numbered_more : Numbered t (set cs (suc o) (y + 1)) (set out y (cursor cs o)) before
    numbered_more = record {
      size = length-set out y (cursor cs o) ∙ n.size;
      up = λ e j l g h. elim (ℕ_discrete j y) [
        | yes same ↦ written-there j same
        | no other ↦ get_or-set_other out y j (cursor cs o) 0 other ∙ n.up e j l g (earlier e j other h)
      ];
      kept = λ j h. get_or-set_other out y j (cursor cs o) 0 (λ e. absurd (omega (arith, w.node))) ∙ n.kept j h;
    }

  -- a node is opened: its number is a node's, and the cursor and its parent are written
  module _ (cs out before : List ℕ) (o : ℕ) (rest : List Bit) (w : Walking t cs o (I ∷ rest)) where
    pub opens_node : (o < 64) × (cursor cs (o + 1) < nodes t)
    opens_node = let r = walk_open t cs o rest w in (r.room, rw (add-one o) r.node)

    pub opened : Numbered t cs out before → nodes t ≤ length before
        → let y = cursor cs (o + 1) in Walking t (set cs (o + 1) (y + 1)) (o + 1) rest × Numbered t (set cs (o + 1) (y + 1)) (set out y (cursor cs o)) before
    opened n room = let r = walk_open t cs o rest w in rw (add-one o) (r.on, numbered_more cs out before o rest n room r w.count)

  -- the level of a node
  level_of : (j k : ℕ) → j < start t k → (e : ℕ) × (e < k) × (start t e ≤ j) × (j < start t (suc e))
  unfolding start
  level_of j zero h = absurd (omega arith)
  level_of j (suc k) h = elim (dec_lt j (start t k)) [
    | yes l ↦ let r = level_of j k l in (r.0, omega (arith, r.1), r.2, r.3)
    | no l ↦ (k, omega arith, omega arith, h)
  ]

  module _ (cs out before : List ℕ) (n : Numbered t cs out before) (room : nodes t ≤ length before) (last : nodes t ≤ start t 64)
      (ends : (e : ℕ) → e ≤ 64 → cursor cs (suc e) ≡ start t (suc e)) where
    own : (j : ℕ) → j < nodes t → get_or out j 0 ≡ get_or (written (parents t) before) j 0
    own j h =
        let r = level_of j 64 (omega (arith, last)) in
        let rest = drop (length (parents t)) before in
        n.up r.0 j (omega (arith, r.1)) r.2 (omega (arith, r.3, ends r.0 (omega (arith, r.1))))
        ∙ sym (ap (λ l. get_or l j 0) (take_at (parents t) rest (nodes t) (length-parents t)))
        ∙ get_or-take (nodes t) (parents t ++ rest) j 0 h

    others : (j : ℕ) → nodes t ≤ j → get_or out j 0 ≡ get_or (written (parents t) before) j 0
    others j h =
        let size = length (parents t) in
        let e : j ≡ size + (j - size) = omega (arith, length-parents t) in
        n.kept j h ∙ ap (λ k. get_or before k 0) e ∙ sym (get_or-drop size before (j - size) 0)
        ∙ sym (ap (λ k. get_or (written (parents t) before) k 0) e ∙ get_or-append-add (parents t) (drop size before) (j - size) 0)

    pub numbered-end : out ≡ written (parents t) before
    numbered-end =
        ext_get_or 0 out (written (parents t) before)
        (omega (arith, n.size, length-append (parents t) (drop (length (parents t)) before), length-drop (length (parents t)) before, length-parents t))
        (λ j h. elim (dec_lt j (nodes t)) [
          | yes l ↦ own j l
          | no l ↦ others j (omega arith)
        ])
