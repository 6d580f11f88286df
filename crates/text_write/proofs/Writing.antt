-- The brackets that are written on a walk.
use mathlib.Core.Path.{◌≡◌, refl, sym, ap, ap₂, ◌∙◌, subst}
use mathlib.Core.Bool.{Bool, true, false, ◌&&◌}
use mathlib.Core.List.{List, [], ◌∷◌, ◌++◌, append-nil, append_assoc}
use Prim.Native.Nat.{ℕ, suc, ◌+◌, ◌-◌, ◌*◌, ◌≤◌, ◌<◌}
use native.Mathlib.Numerals.{add-one}
use native.Mathlib.Omega.{arith}
use borrow.Author.Tests.{lt-ltb, ltb-true, eq-eqb, eqb-true}
use lib.Dec.{ltb, eqb}
use lib.ListN.{length, get_or, set, drop, length-append}
use lib.Seq.{drop-cons, set_at}
use Rattle.meaning.specs.Trees.{Tree, nodes}
use Rattle.meaning.specs.Strings.{Bit, O, I}
use Rattle.meaning.specs.Parents.{parents}
use Rattle.meaning.specs.Brackets.{brackets, bracketing}
use Rattle.meaning.specs.Text.{text_of}
use Rattle.meaning.specs.Answers.{written}
use Rattle.text_laws.proofs.Nodes.{nested-brackets, length-brackets}
use Rattle.text_laws.proofs.Back.{length-text}
use Rattle.text_walk.specs.Walk.{cursor, Walking, Started}
use Rattle.text_walk.proofs.Walk.{walk_start, walk_open, walk_close, is_opening}
use Rattle.text_write.specs.Writing.{is_child}

-- ---- the test

pub true_not_false : true ≡ false → ⊥
true_not_false e = let z : ◌≡◌ {A = ℕ} 0 1 = cc in omega arith

pub child_told : (ps : List ℕ) (before x : ℕ) → is_child ps before x ≡ true → (before < length ps) × (get_or ps before 0 ≡ x)
child_told ps before x e = let r = both (ltb before (length ps)) (eqb (get_or ps before 0) x) e in (ltb-true before (length ps) r.0, eqb-true (get_or ps before 0) x r.1)
  where
    both : (s t : Bool) → (s && t) ≡ true → (s ≡ true) × (t ≡ true)
    both true true e = (refl, refl)
    both true false e = absurd (true_not_false (sym e))
    both false t e = absurd (true_not_false (sym e))

pub child_is : (ps : List ℕ) (before x : ℕ) → before < length ps → get_or ps before 0 ≡ x → is_child ps before x ≡ true
child_is ps before x h e = ap₂ (λ s t. s && t) (lt-ltb before (length ps) h) (eq-eqb (get_or ps before 0) x e)

-- ---- bits of which the first are written, up to byte number `at`
pub record Writing (t : Tree) (cs : List ℕ) (o : ℕ) (out before : List ℕ) (at : ℕ) : Type 0 where
  pub done : List Bit
  pub rest : List Bit
  pub all : done ++ rest ≡ brackets t
  pub count : length done ≡ at
  pub walking : Walking t cs o rest
  pub here : out ≡ written (text_of done) before

text-append : (as' bs : List Bit) → text_of (as' ++ bs) ≡ text_of as' ++ text_of bs
unfolding text_of
text-append [] bs = refl
text-append (I ∷ as') bs = ap (λ r. 40 ∷ r) (text-append as' bs)
text-append (O ∷ as') bs = ap (λ r. 41 ∷ r) (text-append as' bs)

-- one more
put : (done : List Bit) (b : Bit) (c : ℕ) (before : List ℕ) (at : ℕ) → text_of (b ∷ []) ≡ c ∷ [] → length done ≡ at → at < length before
    → set (written (text_of done) before) at c ≡ written (text_of (done ++ b ∷ [])) before
put done b c before at e l h =
    let size = length-text done in
    let next : length (text_of (done ++ b ∷ [])) ≡ suc at = length-text (done ++ b ∷ []) ∙ omega (arith, length-append done (b ∷ [])) in
    ap (λ r. set (text_of done ++ r) at c) (ap (λ k. drop k before) (size ∙ l) ∙ drop-cons before at 0 h)
    ∙ set_at (text_of done) (get_or before at 0) (drop (suc at) before) c at (size ∙ l)
    ∙ sym (ap₂ (λ p k. p ++ drop k before) (text-append done (b ∷ []) ∙ ap (λ r. text_of done ++ r) e) next ∙ append_assoc (text_of done) (c ∷ []) (drop (suc at) before))

module _ (t : Tree) where
  pub writing_start : (cs out : List ℕ) → Started t cs → Writing t cs 0 out out 0
  unfolding text_of
  writing_start cs out s = record { done = []; rest = brackets t; all = refl; count = refl; walking = walk_start t cs s; here = refl }

  -- brackets are left before byte number 2 n
  some-rest : (done rest : List Bit) → done ++ rest ≡ brackets t → length done < 2 * nodes t → (b : Bit) × (bs : List Bit) × (rest ≡ b ∷ bs)
  some-rest done [] e h = absurd (omega (arith, ap length (sym (append-nil done) ∙ e), length-brackets t))
  some-rest done (b ∷ bs) e h = (b, bs, refl)

  module _ (cs : List ℕ) (o : ℕ) (out before : List ℕ) (at : ℕ) (w : Writing t cs o out before at) (left : at < 2 * nodes t) (room : 2 * nodes t ≤ length before) where
    next_bit : (b : Bit) × (bs : List Bit) × (w.rest ≡ b ∷ bs)
    next_bit = some-rest w.done w.rest w.all (omega (arith, w.count))

    moved : (b : Bit) (bs : List Bit) (c : ℕ) (cs' : List ℕ) (o' : ℕ) → w.rest ≡ b ∷ bs → text_of (b ∷ []) ≡ c ∷ [] → Walking t cs' o' bs → Writing t cs' o' (set out at c) before (at + 1)
    moved b bs c cs' o' e f g = record {
      done = w.done ++ b ∷ [];
      rest = bs;
      all = append_assoc w.done (b ∷ []) bs ∙ ap (λ r. w.done ++ r) (sym e) ∙ w.all;
      count = omega (arith, length-append w.done (b ∷ []), w.count);
      walking = g;
      here = ap (λ l. set l at c) w.here ∙ put w.done b c before at f w.count (omega arith);
    }

    -- the next node is a child
    module _ (node : cursor cs (o + 1) < nodes t) (child : get_or (parents t) (cursor cs (o + 1)) 0 ≡ cursor cs o) where
      opening : (b : Bit) (bs : List Bit) → w.rest ≡ b ∷ bs → Walking t cs o (I ∷ bs)
      opening b bs e =
          let v = subst (Walking t cs o) e w.walking in
          subst (λ x. Walking t cs o (x ∷ bs)) (is_opening t cs o b bs v (rw (add-one o) at node) (rw (add-one o) at child)) v

      pub writes_open : (o < 64) × Writing t (set cs (o + 1) (cursor cs (o + 1) + 1)) (o + 1) (set out at 40) before (at + 1)
      unfolding text_of
      writes_open = go next_bit.0 next_bit.1 next_bit.2
        where
          go : (b : Bit) (bs : List Bit) → w.rest ≡ b ∷ bs → (o < 64) × Writing t (set cs (o + 1) (cursor cs (o + 1) + 1)) (o + 1) (set out at 40) before (at + 1)
          go b bs e =
              let v = opening b bs e in
              let r = walk_open t cs o bs v in
              let f : w.rest ≡ I ∷ bs = e ∙ ap (λ x. x ∷ bs) (is_opening t cs o b bs (subst (Walking t cs o) e w.walking) (rw (add-one o) at node) (rw (add-one o) at child)) in
              (r.room, moved I bs 40 (set cs (o + 1) (cursor cs (o + 1) + 1)) (o + 1) f refl (rw (add-one o) r.on))

    -- it is not
    pub writes_close : ((cursor cs (o + 1) < nodes t) × (get_or (parents t) (cursor cs (o + 1)) 0 ≡ cursor cs o) → ⊥)
        → (1 ≤ o) × Writing t cs (o - 1) (set out at 41) before (at + 1)
    unfolding text_of
    writes_close other = go next_bit.0 next_bit.1 next_bit.2
      where
        go : (b : Bit) (bs : List Bit) → w.rest ≡ b ∷ bs → (1 ≤ o) × Writing t cs (o - 1) (set out at 41) before (at + 1)
        go I bs e = let r = walk_open t cs o bs (subst (Walking t cs o) e w.walking) in absurd (other (rw (add-one o) r.node, rw (add-one o) r.parent))
        go O bs e = let r = walk_close t cs o bs (subst (Walking t cs o) e w.walking) in (r.0, moved O bs 41 cs (o - 1) e refl r.1)

  -- all of it
  pub writing_end : (cs : List ℕ) (o : ℕ) (out before : List ℕ) (at : ℕ) → Writing t cs o out before at → 2 * nodes t ≤ at → out ≡ written (text_of (bracketing (parents t))) before
  writing_end cs o out before at w h =
      w.here ∙ ap (λ bs. written (text_of bs) before) (none_left w.rest w.all ∙ sym (nested-brackets t))
    where
      none_left : (rest : List Bit) → w.done ++ rest ≡ brackets t → w.done ≡ brackets t
      none_left [] e = sym (append-nil w.done) ∙ e
      none_left (b ∷ bs) e = absurd (omega (arith, w.count, ap length e, length-append w.done (b ∷ bs), length-brackets t))
