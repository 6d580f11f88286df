-- The listing level by level: the children of the nodes after a, up to z, are the nodes after `low
-- (suc a)`, up to `low (suc z)`.
use Rattle.std.specs.Prelude.{Ok, Err}
use mathlib.Core.Path.{◌≡◌, refl, sym, ap, ap₂, ◌∙◌, subst}
use mathlib.Core.Bool.{Bool, true, false, cond}
use mathlib.Core.List.{List, [], ◌∷◌, ◌++◌, append-nil, append_assoc}
use Prim.Native.Nat.{ℕ, zero, suc, ◌+◌, ◌-◌, ◌*◌, ◌/◌, ◌≤◌, ◌<◌}
use native.Mathlib.Decide.{dec_lt}
use native.Mathlib.Omega.{arith}
use borrow.Author.Tests.{ne_eqb, lt-ltb, le-ltb}
use lib.Dec.{eqb}
use lib.ListN.{length, length-append}
use Rattle.meaning.specs.Questions.{children_of}
use Rattle.meaning.specs.Listing.{for_each, listing, deep}
use Rattle.theory.specs.Rank.{counting}
use Rattle.theory.proofs.Navigate.{counted}
use Rattle.list_measure.specs.Levels.{sized, size_of, levels_from}

-- ---- numbers in a row

counting-cut : (i m k : ℕ) → counting i (m + k) ≡ counting i m ++ counting (i + m) k
counting-cut i zero k = counted i (i + 0) (0 + k) k (omega arith) (omega arith)
counting-cut i (suc m) k =
    counted i i (suc m + k) (suc (m + k)) refl (omega arith)
    ∙ ap (λ r. i ∷ r) (counting-cut (suc i) m k ∙ ap (λ r. counting (suc i) m ++ r) (counted (suc i + m) (i + suc m) k k (omega arith) refl))

each_append : (g : ℕ → List ℕ) (xs ys : List ℕ) → for_each g (xs ++ ys) ≡ for_each g xs ++ for_each g ys
each_append g [] ys = refl
each_append g (x ∷ xs) ys = ap (λ r. g x ++ r) (each_append g xs ys) ∙ sym (append_assoc (g x) (for_each g xs) (for_each g ys))

-- ---- pairs of a node and a depth

abbrev Pairs : List ℕ → Type 0
Pairs [] = Unit
Pairs (x ∷ []) = ⊥
Pairs (x ∷ d ∷ rest) = (1 ≤ x) × Pairs rest

pairs-append : (xs ys : List ℕ) → Pairs xs → Pairs ys → Pairs (xs ++ ys)
pairs-append [] ys p q = q
pairs-append (x ∷ []) ys p q = absurd p
pairs-append (x ∷ d ∷ xs) ys p q = (p.0, pairs-append xs ys p.1 q)

pairs_even : (xs : List ℕ) → Pairs xs → length xs ≡ 2 * (length xs / 2)
pairs_even [] p = refl
pairs_even (x ∷ []) p = absurd p
pairs_even (x ∷ d ∷ xs) p = omega (arith, pairs_even xs p.1)

all-pairs : (g : ℕ → List ℕ) → ((x : ℕ) → 1 ≤ x → Pairs (g x)) → (a m : ℕ) → Pairs (for_each g (counting (suc a) m))
all-pairs g h a zero = tt
all-pairs g h a (suc m) = pairs-append (g (suc a)) (for_each g (counting (suc (suc a)) m)) (h (suc a) (omega arith)) (all-pairs g h (suc a) m)

deep-same : (xs ys zs : List ℕ) → Pairs xs → deep ys ≡ deep zs → deep (xs ++ ys) ≡ deep (xs ++ zs)
unfolding deep
deep-same [] ys zs p e = e
deep-same (x ∷ []) ys zs p e = absurd p
deep-same (x ∷ d ∷ xs) ys zs p e = ap (λ r. cond (eqb d 64) x r) (deep-same xs ys zs p.1 e)

deep-next : (x d : ℕ) (xs : List ℕ) → (d ≡ 64 → ⊥) → deep (x ∷ d ∷ xs) ≡ deep xs
unfolding deep
deep-next x d xs h = ap (λ t. cond t x (deep xs)) (ne_eqb d 64 h)

-- none in both, none in each
deep-both : (xs ys : List ℕ) → Pairs xs → deep (xs ++ ys) ≡ 0 → (deep xs ≡ 0) × (deep ys ≡ 0)
unfolding deep
deep-both [] ys p e = (refl, e)
deep-both (x ∷ []) ys p e = absurd p
deep-both (x ∷ d ∷ xs) ys p e = go (eqb d 64) refl (λ f. deep-both xs ys p.1 f)
  where
    go : (t : Bool) → eqb d 64 ≡ t → (deep (xs ++ ys) ≡ 0 → (deep xs ≡ 0) × (deep ys ≡ 0)) → (cond (eqb d 64) x (deep xs) ≡ 0) × (deep ys ≡ 0)
    go true f ih = absurd (omega (arith, p.0, ap (λ b. cond b x (deep (xs ++ ys))) (sym f) ∙ e))
    go false f ih =
        let r = ih (ap (λ b. cond b x (deep (xs ++ ys))) (sym f) ∙ e) in
        (ap (λ b. cond b x (deep xs)) f ∙ r.0, r.1)

-- ---- a level, and those below it

pub levels-end : (next : ℕ → ℕ) (l a z n : ℕ) → z ≤ a → levels_from next l a z n ≡ Ok n
unfolding levels_from
levels-end next zero a z n h = ap (λ t. cond t (Err (suc a)) (Ok n)) (le-ltb a z h)
levels-end next (suc l) a z n h = ap (λ t. cond t (levels_from next l (next a) (next z) (n + (z - a))) (Ok n)) (le-ltb a z h)

pub levels-deep : (next : ℕ → ℕ) (l a z n : ℕ) → l ≡ 0 → a < z → levels_from next l a z n ≡ Err (suc a)
unfolding levels_from
levels-deep next l a z n e h = ap (λ k. levels_from next k a z n) e ∙ ap (λ t. cond t (Err (suc a)) (Ok n)) (lt-ltb a z h)

pub levels_more : (next : ℕ → ℕ) (l a z n : ℕ) → 0 < l → a < z → levels_from next l a z n ≡ levels_from next (l - 1) (next a) (next z) (n + (z - a))
unfolding levels_from
levels_more next zero a z n g h = absurd (omega arith)
levels_more next (suc l) a z n g h =
    ap (λ t. cond t (levels_from next l (next a) (next z) (n + (z - a))) (Ok n)) (lt-ltb a z h)
    ∙ ap (λ k. levels_from next k (next a) (next z) (n + (z - a))) (let e : l ≡ suc l - 1 = omega arith in e)

module _ (ps : List ℕ) (low : ℕ → ℕ) (mono : (z : ℕ) → low z ≤ low (suc z)) (kids : (x : ℕ) → children_of ps x ≡ counting (suc (low x)) (low (suc x) - low x)) where
  -- the listings of the m nodes after a, one after the other
  abbrev pub each : ℕ → ℕ → ℕ → ℕ → List ℕ
  each f d a m = for_each (λ c. listing f ps c d) (counting (suc a) m)

  -- the nodes after a: their children come after these
  abbrev pub next : ℕ → ℕ
  next a = low (suc a)

  next_mono : (a m : ℕ) → next a ≤ next (a + m)
  next_mono a zero = omega (arith, ap next (let e : a ≡ a + 0 = omega arith in e))
  next_mono a (suc m) = omega (arith, next_mono a m, mono (suc (a + m)), ap next (let e : suc (a + m) ≡ a + suc m = omega arith in e))

  each-cut : (f d a m k : ℕ) → each f d a (m + k) ≡ each f d a m ++ each f d (a + m) k
  each-cut f d a m k =
      ap (for_each (λ c. listing f ps c d)) (counting-cut (suc a) m k ∙ ap (λ r. counting (suc a) m ++ r) (counted (suc a + m) (suc (a + m)) k k (omega arith) refl))
      ∙ each_append (λ c. listing f ps c d) (counting (suc a) m) (counting (suc (a + m)) k)

  -- a node, and then the listings of its children
  pub listing_node : (f x d : ℕ) → listing (suc f) ps x d ≡ x ∷ d ∷ each f (suc d) (low x) (low (suc x) - low x)
  unfolding listing
  listing_node f x d = ap (λ cs. x ∷ d ∷ for_each (λ c. listing f ps c (suc d)) cs) (kids x)

  listing-pairs : (f x d : ℕ) → 1 ≤ x → Pairs (listing f ps x d)
  unfolding listing
  listing-pairs zero x d h = tt
  listing-pairs (suc f) x d h =
      subst Pairs (sym (listing_node f x d)) (h, all-pairs (λ c. listing f ps c (suc d)) (λ c g. listing-pairs f c (suc d) g) (low x) (low (suc x) - low x))

  pub listing_even : (f x d : ℕ) → 1 ≤ x → length (listing f ps x d) ≡ 2 * (length (listing f ps x d) / 2)
  listing_even f x d h = pairs_even (listing f ps x d) (listing-pairs f x d h)

  each-pairs : (f d a m : ℕ) → Pairs (each f d a m)
  each-pairs f d a m = all-pairs (λ c. listing f ps c d) (λ c g. listing-pairs f c d g) a m

  -- the children of the node after a, and those of the m nodes after it
  next-cut : (f d a m : ℕ) → each f d (next a) (next (suc a) - next a) ++ each f d (next (suc a)) (next (suc a + m) - next (suc a)) ≡ each f d (next a) (next (a + suc m) - next a)
  next-cut f d a m =
      let g = mono (suc a) in
      let h = next_mono (suc a) m in
      let w = next (suc a) - next a in
      let k = next (suc a + m) - next (suc a) in
      let e : next a + w ≡ next (suc a) = omega arith in
      let l : w + k ≡ next (a + suc m) - next a = omega (arith, ap next (let i : suc a + m ≡ a + suc m = omega arith in i)) in
      ap (λ p. each f d (next a) w ++ each f d p k) (sym e) ∙ sym (each-cut f d (next a) w k) ∙ ap (each f d (next a)) l

  -- the first of them, and the next level of all
  each_node : (f d a m : ℕ) → each (suc f) d a (suc m) ≡ suc a ∷ d ∷ each f (suc d) (next a) (next (suc a) - next a) ++ each (suc f) d (suc a) m
  each_node f d a m = ap (λ r. r ++ each (suc f) d (suc a) m) (listing_node f (suc a) d)

  none_below : (f d a : ℕ) → each f d (next a) (next (a + 0) - next a) ≡ []
  none_below f d a = ap (each f d (next a)) (let e : next (a + 0) - next a ≡ 0 = omega (arith, ap next (let i : a + 0 ≡ a = omega arith in i)) in e)

  level_length : (f d a m : ℕ) → length (each (suc f) d a m) ≡ 2 * m + length (each f (suc d) (next a) (next (a + m) - next a))
  level_length f d a zero = omega (arith, ap length (none_below f (suc d) a))
  level_length f d a (suc m) =
      let xs = each f (suc d) (next a) (next (suc a) - next a) in
      let ys = each f (suc d) (next (suc a)) (next (suc a + m) - next (suc a)) in
      omega (
        arith,
        ap length (each_node f d a m),
        length-append xs (each (suc f) d (suc a) m),
        level_length f d (suc a) m,
        length-append xs ys,
        ap length (next-cut f (suc d) a m),
      )

  level_deep : (f d a m : ℕ) → (d ≡ 64 → ⊥) → deep (each (suc f) d a m) ≡ deep (each f (suc d) (next a) (next (a + m) - next a))
  level_deep f d a zero h = ap deep (sym (none_below f (suc d) a))
  level_deep f d a (suc m) h =
      let xs = each f (suc d) (next a) (next (suc a) - next a) in
      let ys = each f (suc d) (next (suc a)) (next (suc a + m) - next (suc a)) in
      ap deep (each_node f d a m)
      ∙ deep-next (suc a) d (xs ++ each (suc f) d (suc a) m) h
      ∙ deep-same xs (each (suc f) d (suc a) m) ys (each-pairs f (suc d) (next a) (next (suc a) - next a)) (level_deep f d (suc a) m h)
      ∙ ap deep (next-cut f (suc d) a m)

  -- at depth 64 the first is the one
  last-deep : (f a m : ℕ) → deep (each (suc f) 64 a (suc m)) ≡ suc a
  unfolding deep
  last-deep f a m = ap deep (each_node f 64 a m)

  -- ---- by levels, what the listings take

  no_more : (l d a z : ℕ) → z ≤ a → each l d a (z - a) ≡ []
  no_more l d a z h = ap (each l d a) (let e : z - a ≡ 0 = omega arith in e)

  levels-none : (l d a z n : ℕ) → z ≤ a → levels_from next l a z n ≡ sized (deep (each (suc l) d a (z - a))) (n + length (each (suc l) d a (z - a)) / 2)
  unfolding deep
  levels-none l d a z n h =
      levels-end next l a z n h
      ∙ ap₂ sized (sym (ap deep (no_more (suc l) d a z h))) (let e : n ≡ n + length (each (suc l) d a (z - a)) / 2 = omega (arith, ap length (no_more (suc l) d a z h)) in e)

  levels_are : (l d a z n : ℕ) → d + l ≡ 64 → levels_from next l a z n ≡ sized (deep (each (suc l) d a (z - a))) (n + length (each (suc l) d a (z - a)) / 2)
  levels_are zero d a z n q = elim (dec_lt a z) [
    | yes h ↦ levels-deep next 0 a z n refl h
        ∙ ap (λ w. sized w (n + length (each 1 d a (z - a)) / 2)) (sym (
        ap₂ (λ e m. deep (each 1 e a m)) (let e : d ≡ 64 = omega arith in e) (let e : z - a ≡ suc (z - a - 1) = omega arith in e)
        ∙ last-deep 0 a (z - a - 1)))
    | no h ↦ levels-none zero d a z n (omega arith)
  ]
  levels_are (suc l) d a z n q = elim (dec_lt a z) [
    | yes h ↦
        let k = z - a in
        let f : next (a + k) ≡ next z = ap next (let e : a + k ≡ z = omega arith in e) in
        let below = each (suc l) (suc d) (next a) (next z - next a) in
        let same : each (suc l) (suc d) (next a) (next (a + k) - next a) ≡ below = ap (λ m. each (suc l) (suc d) (next a) (m - next a)) f in
        levels_more next (suc l) a z n (omega arith) h
        ∙ ap (λ j. levels_from next j (next a) (next z) (n + k)) (let e : suc l - 1 ≡ l = omega arith in e)
        ∙ levels_are l (suc d) (next a) (next z) (n + k) (omega arith)
        ∙ ap₂ sized (sym (level_deep (suc l) d a k (omega arith) ∙ ap deep same))
        (let e : n + k + length below / 2 ≡ n + length (each (suc (suc l)) d a k) / 2 = omega (arith, level_length (suc l) d a k, ap length same) in e)
    | no h ↦ levels-none (suc l) d a z n (omega arith)
  ]

  one_node : (f d x : ℕ) → 1 ≤ x → each f d (x - 1) (x - (x - 1)) ≡ listing f ps x d
  one_node f d x h =
      ap₂ (each f d) (let e : x - 1 ≡ x - 1 = refl in e) (let e : x - (x - 1) ≡ 1 = omega arith in e)
      ∙ append-nil (listing f ps (suc (x - 1)) d)
      ∙ ap (λ y. listing f ps y d) (let e : suc (x - 1) ≡ x = omega arith in e)

  -- what the listing of node x takes
  pub levels-size : (x : ℕ) → 1 ≤ x → levels_from next 64 (x - 1) x 0 ≡ size_of (listing 65 ps x 0)
  unfolding size_of
  levels-size x h =
      levels_are 64 0 (x - 1) x 0 (omega arith)
      ∙ ap (λ r. sized (deep r) (0 + length r / 2)) (one_node 65 0 x h)
      ∙ ap (sized (deep (listing 65 ps x 0))) (let e : 0 + length (listing 65 ps x 0) / 2 ≡ length (listing 65 ps x 0) / 2 = omega arith in e)

  -- ---- where none is at depth 64, one level less lists the same

  less_here : (l d a m : ℕ) → (d ≡ 64 → ⊥) → ((b k : ℕ) → deep (each (suc l) (suc d) b k) ≡ 0 → each (suc l) (suc d) b k ≡ each l (suc d) b k)
      → deep (each (suc (suc l)) d a m) ≡ 0 → each (suc (suc l)) d a m ≡ each (suc l) d a m
  less_here l d a zero q ih z = refl
  less_here l d a (suc m) q ih z =
      let w = next (suc a) - next a in
      let xs = each (suc l) (suc d) (next a) w in
      let ys = each (suc (suc l)) d (suc a) m in
      let r = deep-both xs ys (each-pairs (suc l) (suc d) (next a) w) (sym (deep-next (suc a) d (xs ++ ys) q) ∙ sym (ap deep (each_node (suc l) d a m)) ∙ z) in
      each_node (suc l) d a m
      ∙ ap₂ (λ s t. suc a ∷ d ∷ s ++ t) (ih (next a) w r.0) (less_here l d (suc a) m q ih r.1)
      ∙ sym (each_node l d a m)

  less : (l d a m : ℕ) → d + l ≡ 64 → deep (each (suc l) d a m) ≡ 0 → each (suc l) d a m ≡ each l d a m
  less zero d a zero q z = refl
  less zero d a (suc m) q z = absurd (omega (arith, last-deep 0 a m, ap (λ e. deep (each 1 e a (suc m))) (let e : d ≡ 64 = omega arith in e)))
  less (suc l) d a m q z = less_here l d a m (omega arith) (λ b k y. less l (suc d) b k (omega arith) y) z

  pub listing_less : (x : ℕ) → 1 ≤ x → deep (listing 65 ps x 0) ≡ 0 → listing 65 ps x 0 ≡ listing 64 ps x 0
  listing_less x h z =
      sym (one_node 65 0 x h) ∙ less 64 0 (x - 1) (x - (x - 1)) (omega arith) (ap deep (one_node 65 0 x h) ∙ z) ∙ one_node 64 0 x h
