-- The listing as it is written: a list whose front is written and whose rest is as it was, and the
-- children that are still to come.
use Rattle.std.specs.Prelude.{Ok}
use mathlib.Core.Path.{◌≡◌, refl, sym, ap, ap₂, ◌∙◌, subst}
use mathlib.Core.List.{List, [], ◌∷◌, ◌++◌, append_assoc, append-nil}
use Prim.Native.Nat.{ℕ, suc, ◌+◌, ◌-◌, ◌≤◌, ◌<◌}
use native.Mathlib.Numerals.{add-one}
use native.Mathlib.Omega.{arith}
use lib.ListN.{length, set, take, drop, length-append, length-drop, drop_of_length-le}
use lib.Seq.{take_all, take_at, drop_at, drop-drop}
use Rattle.meaning.specs.Answers.{written}
use Rattle.meaning.specs.Image.{parents_in}
use Rattle.meaning.specs.Listing.{for_each, listing}
use Rattle.theory.specs.Rank.{counting}
use Rattle.image_layout.specs.declared.Layout.{Layout}
use Rattle.image_found.specs.Checked.{checked}
use Rattle.image_found.proofs.Finding.{sound_known}
use Rattle.nav_strings.specs.Nodes.{IsNode}
use Rattle.list_measure.specs.Levels.{ones_before_in, below}
use Rattle.list_measure.specs.Cursors.{CursorsReady}
use Rattle.list_write.specs.Writing.{MovedOn, pairs_of, ToList, Listed}
use Rattle.list_measure.proofs.Levels.{listing_node}
use Rattle.list_measure.proofs.Numbers.{ones_before_in_mono, ones_before_in_kids}
use Rattle.list_write.proofs.Cursors.{Along, along_more, above_stay, ready-below}

-- ---- listings, one after the other

-- of the nodes after a, up to z, all at depth d
unfoldable pub listings : List ℕ → ℕ → ℕ → ℕ → ℕ → List ℕ
listings ps f d a z = for_each (λ c. listing f ps c d) (counting (suc a) (z - a))

pub listings-none : (ps : List ℕ) (f d a z : ℕ) → z ≤ a → listings ps f d a z ≡ []
unfolding listings
listings-none ps f d a z h = ap (λ m. for_each (λ c. listing f ps c d) (counting (suc a) m)) (let e : z - a ≡ 0 = omega arith in e)

pub listings-step : (ps : List ℕ) (f d a z : ℕ) → a < z → listings ps f d a z ≡ listing f ps (a + 1) d ++ listings ps f d (a + 1) z
unfolding listings
listings-step ps f d a z h =
    ap (λ m. for_each (λ c. listing f ps c d) (counting (suc a) m)) (let e : z - a ≡ suc (z - (a + 1)) = omega arith in e)
    ∙ ap (λ k. listing f ps k d ++ for_each (λ c. listing f ps c d) (counting (suc k) (z - (a + 1)))) (sym (add-one a))

-- a node, and then its children, where f of the 64 levels are left
pub listing_step : (bytes : List ℕ) (i : Layout) → checked bytes ≡ Ok i → (f x : ℕ) → 1 ≤ f → f ≤ 64
    → pairs_of bytes f x ≡ x ∷ (64 - f) ∷ listings (parents_in bytes) (f - 1) (64 - (f - 1)) (ones_before_in bytes x) (ones_before_in bytes (x + 1))
unfolding listings
listing_step bytes i found f x some most =
    let ps = parents_in bytes in
    ap (λ k. listing k ps x (64 - f)) (let q : f ≡ suc (f - 1) = omega arith in q)
    ∙ listing_node ps (ones_before_in bytes) (ones_before_in_mono bytes i found) (ones_before_in_kids bytes i found) (f - 1) x (64 - f)
    ∙ ap₂ (λ k z. x ∷ (64 - f) ∷ for_each (λ c. listing (f - 1) ps c k) (counting (suc (ones_before_in bytes x)) (z - ones_before_in bytes x)))
    (let q : suc (64 - f) ≡ 64 - (f - 1) = omega arith in q) (ap (ones_before_in bytes) (sym (add-one x)))

-- ---- the node that is listed first, with all 64 levels left and none of its siblings

pub to_list : {bytes : List ℕ} {i : Layout} {x : ℕ} → IsNode bytes i x → (cs out : List ℕ) → length cs ≡ 64 → CursorsReady (below bytes) cs (x - 1) x
    → length (pairs_of bytes 64 x) ≤ length out → ToList bytes i.r0_block x 64 cs out
to_list {bytes} {i} {x} node cs out count ready room =
    let read = (sound_known bytes i node.sound).read in
    record {
      node = subst (λ j. IsNode bytes j x) read node;
      begins = ap (λ j. j.r0_block) read;
      some = omega arith;
      most = omega arith;
      count = count;
      ready = ready-below bytes x cs node.some ready;
      room = room;
    }

-- ---- a list whose front is written

-- a pair put there, and then more after it
pub pair_put : (x d : ℕ) (o : List ℕ) → 2 ≤ length o → set (set o 0 x) 1 d ≡ written (x ∷ d ∷ []) (set (set o 0 x) 1 d)
pair_put x d [] h = absurd (omega arith)
pair_put x d (a ∷ []) h = absurd (omega arith)
pair_put x d (a ∷ b ∷ o) h = refl

pub pair_first : (x d : ℕ) (v w o : List ℕ) → v ≡ x ∷ d ∷ w → 2 ≤ length o → written v (set (set o 0 x) 1 d) ≡ written v o
pair_first x d v w [] e h = absurd (omega arith)
pair_first x d v w (a ∷ []) e h = absurd (omega arith)
pair_first x d v w (a ∷ b ∷ o) e h = rw e refl

pub front_length : (w o : List ℕ) → length w ≤ length o → length (written w o) ≡ length o
front_length w o h = simp (length-append, length-drop) (omega arith)

-- the part from n on, the front of which a callee wrote, has come back
pub back : (w o : List ℕ) → length w ≤ length o → (out p ys : List ℕ) (n : ℕ) → out ≡ written w o → n ≡ length w
    → ys ≡ written p (take (length out - n) (drop n out))
    → take n out ++ (ys ++ drop (length out - n) (drop n out)) ≡ written (w ++ p) o
back w o fits out p ys n e en ey =
    let t : take n out ≡ w = ap (λ (l : List ℕ). take n l) e ∙ take_at w (drop (length w) o) n (sym en) in
    let d : drop n out ≡ drop (length w) o = ap (λ (l : List ℕ). drop n l) e ∙ drop_at w (drop (length w) o) n (sym en) in
    let z : drop (length out - n) (drop n out) ≡ [] = drop_of_length-le (drop n out) {i = length out - n} (simp length-drop (omega arith)) in
    let y : take (length out - n) (drop n out) ≡ drop n out = take_all (length out - n) (drop n out) (simp length-drop (omega arith)) in
    rw (ey, t, z, y, d, drop-drop, length-append) (simp (append_assoc, append-nil))

-- ---- while the children of node x are listed, where `left` levels are left: at first the cursors
-- are cs₀ and the list out₀

-- those up to a are listed
pub record Going (bytes : List ℕ) (x left : ℕ) (cs₀ out₀ cs out : List ℕ) (filled a : ℕ) : Type 0 where
  pub w : List ℕ
  pub front : out ≡ written w out₀
  pub whole : w ++ listings (parents_in bytes) (left - 1) (64 - (left - 1)) a (ones_before_in bytes (x + 1)) ≡ pairs_of bytes left x
  pub many : filled ≡ length w
  pub from : ones_before_in bytes x ≤ a
  pub count : length cs ≡ 64
  pub above : take (65 - left) cs ≡ take (65 - left) cs₀
  pub along : Along bytes x (65 - left) cs₀ cs a

module _ (bytes : List ℕ) (x left : ℕ) (cs₀ out₀ cs out : List ℕ) (filled a : ℕ) (g : Going bytes x left cs₀ out₀ cs out filled a) where
  -- all are
  pub going_all : ones_before_in bytes (x + 1) ≤ a → (out ≡ written (pairs_of bytes left x) out₀) × (filled ≡ length (pairs_of bytes left x))
  going_all h =
      let none = listings-none (parents_in bytes) (left - 1) (64 - (left - 1)) a (ones_before_in bytes (x + 1)) h in
      let e : g.w ≡ pairs_of bytes left x = sym (append-nil g.w) ∙ ap (λ (l : List ℕ). g.w ++ l) (sym none) ∙ g.whole in
      (g.front ∙ ap (λ w. written w out₀) e, g.many ∙ ap length e)

  module _ (more : a < ones_before_in bytes (x + 1)) (room : length (pairs_of bytes left x) ≤ length out₀) where
    next : g.w ++ (pairs_of bytes (left - 1) (a + 1) ++ listings (parents_in bytes) (left - 1) (64 - (left - 1)) (a + 1) (ones_before_in bytes (x + 1))) ≡ pairs_of bytes left x
    next = ap (λ (l : List ℕ). g.w ++ l) (sym (listings-step (parents_in bytes) (left - 1) (64 - (left - 1)) a (ones_before_in bytes (x + 1)) more)) ∙ g.whole

    -- there is room for the next one
    pub going_room : (length out ≡ length out₀) × (filled + length (pairs_of bytes (left - 1) (a + 1)) ≤ length out₀)
    going_room =
        let long = simp length-append at (ap length next) in
        let many = g.many in
        (ap length g.front ∙ front_length g.w out₀ (omega arith), omega arith)

    -- and it is listed
    pub going_more : (i : Layout) → checked bytes ≡ Ok i → 2 ≤ left → left ≤ 64 → (cs' part part' : List ℕ) (n : ℕ)
        → part ≡ take (length out - filled) (drop filled out)
        → Listed bytes (a + 1) (left - 1) (set cs (65 - left) (a + 1)) cs' part part' n
        → Going bytes x left cs₀ out₀ cs' (take filled out ++ (part' ++ drop (length out - filled) (drop filled out))) (filled + n) (a + 1)
    going_more i found some most cs' part part' n lent new =
        let e = 65 - left in
        let long = simp length-append at (ap length next) in
        let many = g.many in
        let many' = new.many in
        let from = g.from in
        let level : 65 - (left - 1) ≡ suc e = omega arith in
        let stay : take (suc e) cs' ≡ take (suc e) (set cs e (a + 1)) = rw level at new.above in
        let moved : MovedOn bytes (a + 1) (drop (suc e) (set cs e (a + 1))) (drop (suc e) cs') = rw level at new.moved in
        let count = g.count in
        let count' = new.count in
        record {
          w = g.w ++ pairs_of bytes (left - 1) (a + 1);
          front = back g.w out₀ (omega arith) out (pairs_of bytes (left - 1) (a + 1)) part' filled g.front g.many (new.pairs ∙ ap (written (pairs_of bytes (left - 1) (a + 1))) lent);
          whole = append_assoc g.w (pairs_of bytes (left - 1) (a + 1)) (listings (parents_in bytes) (left - 1) (64 - (left - 1)) (a + 1) (ones_before_in bytes (x + 1))) ∙ next;
          many = simp length-append (omega arith);
          from = omega arith;
          count = new.count;
          above = above_stay cs cs' e (a + 1) stay ∙ g.above;
          along = along_more bytes i found x e cs₀ cs a more g.along cs' (omega arith) (omega arith) stay moved;
        }
