-- The listing of a node is its depth-first order down to some depth; and what its first entry of
-- depth 64 says of the tree.
use mathlib.Core.Path.{◌≡◌, refl, sym, ap, ap₂, ◌∙◌, subst}
use mathlib.Core.Bool.{Bool, true, false, cond}
use mathlib.Core.List.{List, [], ◌∷◌, ◌++◌, map}
use mathlib.Core.Logic.{inl, inr}
use Prim.Native.Nat.{ℕ, zero, suc, ◌+◌, ◌-◌, ◌≤◌, ◌<◌}
use native.Mathlib.Omega.{arith}
use native.Mathlib.Decide.{dec_lt}
use lib.Dec.{ltb, eqb}
use lib.ListN.{length}
use borrow.Author.Tests.{ne_eqb, lt-ltb, le-ltb, eqb-true, eqb-false}
use Rattle.meaning.specs.Trees.{Tree, Trees, node, none, ◌then◌, Node, depth, sibling_nodes, nodes_under, child_nodes, nodes}
use Rattle.meaning.specs.Parents.{parents}
use Rattle.meaning.specs.Questions.{children_of}
use Rattle.meaning.specs.Listing.{for_each, listing, deep}
use Rattle.theory.specs.Walks.{node_at, depth_first, depth_first_of, everything, shallow, Lists, AllBelow, FirstAt}
use Rattle.theory.specs.Rank.{counting}
use Rattle.theory.proofs.Navigate.{children_are}
use Rattle.theory.proofs.Answers.{lo}
use Rattle.theory.proofs.Addresses.{lo-step, children-nodes, number_of}
use Rattle.theory.proofs.OwnAnswers.{child_number}

-- ---- depth-first order: a node, then what is below each of its children

first_of : (f : Trees) (a : List ℕ) (i : ℕ) → depth_first_of f a i ≡ for_each everything (sibling_nodes f a i)
unfolding depth_first
first_of none a i = refl
first_of (t then f) a i = ap (λ r. depth_first t (i ∷ a) ++ r) (first_of f a (suc i))

first_law : (v : Node) → everything v ≡ v ∷ for_each everything (child_nodes v)
unfolding depth_first
first_law v = go v.below v.address
  where
    go : (t : Tree) (a : List ℕ) → depth_first t a ≡ record { address = a; below = t } ∷ for_each everything (nodes_under t a)
    go (node f) a = ap (λ r. record { address = a; below = node f } ∷ r) (first_of f a 1)

-- ---- those at a depth below k

shallow_in : (k : ℕ) (v : Node) (vs : List Node) → depth v < k → shallow k (v ∷ vs) ≡ v ∷ shallow k vs
shallow_in k v vs h = ap (λ b. cond b (v ∷ shallow k vs) (shallow k vs)) (lt-ltb (depth v) k h)

shallow_out : (k : ℕ) (v : Node) (vs : List Node) → k ≤ depth v → shallow k (v ∷ vs) ≡ shallow k vs
shallow_out k v vs h = ap (λ b. cond b (v ∷ shallow k vs) (shallow k vs)) (le-ltb (depth v) k h)

shallow-append : (k : ℕ) (vs ws : List Node) → shallow k (vs ++ ws) ≡ shallow k vs ++ shallow k ws
shallow-append k [] ws = refl
shallow-append k (v ∷ vs) ws = ap (λ r. cond (ltb (depth v) k) (v ∷ r) r) (shallow-append k vs ws) ∙ go (ltb (depth v) k)
  where
    go : (b : Bool) → cond b (v ∷ shallow k vs ++ shallow k ws) (shallow k vs ++ shallow k ws) ≡ cond b (v ∷ shallow k vs) (shallow k vs) ++ shallow k ws
    go true = refl
    go false = refl

-- nothing below a node is less deep than it
mutual
  unfolding depth_first

  shallow-none : (t : Tree) (a : List ℕ) (k : ℕ) → k ≤ length a → shallow k (depth_first t a) ≡ []
  shallow-none (node f) a k h = shallow_out k (record { address = a; below = node f }) (depth_first_of f a 1) h ∙ shallow_nones f a 1 k h

  shallow_nones : (f : Trees) (a : List ℕ) (i k : ℕ) → k ≤ length a → shallow k (depth_first_of f a i) ≡ []
  shallow_nones none a i k h = refl
  shallow_nones (t then f) a i k h =
      shallow-append k (depth_first t (i ∷ a)) (depth_first_of f a (suc i))
      ∙ ap₂ ◌++◌ (shallow-none t (i ∷ a) k (omega arith)) (shallow_nones f a (suc i) k h)

shallow-all : (k l : ℕ) (vs : List Node) → k ≤ l → AllBelow k vs → shallow l vs ≡ vs
shallow-all k l [] h b = refl
shallow-all k l (v ∷ vs) h b = shallow_in l v vs (omega (arith, b.0)) ∙ ap (λ r. v ∷ r) (shallow-all k l vs h b.1)

shallow-below : (k : ℕ) (vs : List Node) → AllBelow k (shallow k vs)
shallow-below k [] = tt
shallow-below k (v ∷ vs) = elim (dec_lt (depth v) k) [
  | yes l ↦ subst (AllBelow k) (sym (shallow_in k v vs l)) (l, shallow-below k vs)
  | no n ↦ subst (AllBelow k) (sym (shallow_out k v vs (omega arith))) (shallow-below k vs)
]

-- ---- where no node is at depth k, none is deeper: what is deeper has an ancestor there

pub all_split : (k : ℕ) (vs ws : List Node) → AllBelow k (vs ++ ws) → AllBelow k vs × AllBelow k ws
all_split k [] ws b = (tt, b)
all_split k (v ∷ vs) ws b = let r = all_split k vs ws b.1 in ((b.0, r.0), r.1)

pub all_join : (k : ℕ) (vs ws : List Node) → AllBelow k vs → AllBelow k ws → AllBelow k (vs ++ ws)
all_join k [] ws b c = c
all_join k (v ∷ vs) ws b c = (b.0, all_join k vs ws b.1 c)

mutual
  unfolding depth_first

  all-shallow : (t : Tree) (a : List ℕ) (k : ℕ) → length a ≤ k → AllBelow k (shallow (suc k) (depth_first t a)) → AllBelow k (depth_first t a)
  all-shallow (node f) a k h b =
      let c = subst (AllBelow k) (shallow_in (suc k) (record { address = a; below = node f }) (depth_first_of f a 1) (omega arith)) b in
      (c.0, all_shallows f a 1 k c.0 c.1)

  all_shallows : (f : Trees) (a : List ℕ) (i k : ℕ) → length a < k → AllBelow k (shallow (suc k) (depth_first_of f a i)) → AllBelow k (depth_first_of f a i)
  all_shallows none a i k h b = tt
  all_shallows (t then f) a i k h b =
      let xs = depth_first t (i ∷ a) in
      let ys = depth_first_of f a (suc i) in
      let c = all_split k (shallow (suc k) xs) (shallow (suc k) ys) (subst (AllBelow k) (shallow-append (suc k) xs ys) b) in
      all_join k xs ys (all-shallow t (i ∷ a) k h c.0) (all_shallows f a (suc i) k h c.1)

-- ---- the children of node x, one depth further down

abbrev Each : (ℕ → Type 0) → List ℕ → Type 0
Each P [] = Unit
Each P (c ∷ cs) = P c × Each P cs

each-counting : (P : ℕ → Type 0) (i n : ℕ) → ((j : ℕ) → j < n → P (i + j)) → Each P (counting i n)
each-counting P i zero h = tt
each-counting P i (suc n) h = (
  subst P (let e : i + 0 ≡ i = omega arith in e) (h 0 (omega arith)),
  each-counting P (suc i) n (λ j l. subst P (let e : i + suc j ≡ suc i + j = omega arith in e) (h (suc j) (omega arith))),
)

each_map : (P Q : ℕ → Type 0) (cs : List ℕ) → ((c : ℕ) → P c → Q c) → Each P cs → Each Q cs
each_map P Q [] h p = tt
each_map P Q (c ∷ cs) h p = (h c p.0, each_map P Q cs h p.1)

record Deeper (t : Tree) (d c : ℕ) : Type 0 where
  from : 1 ≤ c
  to : c ≤ nodes t
  deeper : depth (node_at t c) ≡ suc d

-- ---- the listing

module _ (t : Tree) where
  children_deeper : (x : ℕ) → 1 ≤ x → x ≤ nodes t → Each (Deeper t (depth (node_at t x))) (children_of (parents t) x)
  children_deeper x g h =
      let P = Deeper t (depth (node_at t x)) in
      subst (Each P) (sym (children_are t x)) (each-counting P (1 + lo t x) (lo t (suc x) - lo t x) (λ j l. go j l))
    where
      go : (j : ℕ) → j < lo t (suc x) - lo t x → Deeper t (depth (node_at t x)) (1 + lo t x + j)
      go j l =
          let m = child_number t x (suc j) g h (omega arith) (omega (arith, lo-step t x g h)) in
          let e : lo t x + suc j ≡ 1 + lo t x + j = omega arith in
          subst (Deeper t (depth (node_at t x))) e (record { from = m.from; to = m.to; deeper = ap length m.here })

  lists-append : (d : ℕ) (vs ws : List Node) (ns ms : List ℕ) → Lists t d vs ns → Lists t d ws ms → Lists t d (vs ++ ws) (ns ++ ms)
  lists-append d [] ws [] ms p q = q
  lists-append d [] ws (n ∷ ns) ms p q = absurd p
  lists-append d (v ∷ vs) ws [] ms p q = absurd p
  lists-append d (v ∷ vs) ws (x ∷ []) ms p q = absurd p
  lists-append d (v ∷ vs) ws (x ∷ e ∷ ns) ms p q = (p.0, p.1, lists-append d vs ws ns ms p.2 q)

  lists-each : (F : ℕ → List ℕ) (k d : ℕ) (cs : List ℕ) → Each (λ c. Lists t d (shallow k (everything (node_at t c))) (F c)) cs
      → Lists t d (shallow k (for_each everything (map (node_at t) cs))) (for_each F cs)
  lists-each F k d [] p = tt
  lists-each F k d (c ∷ cs) p =
      let v = everything (node_at t c) in
      let vs = for_each everything (map (node_at t) cs) in
      subst (λ l. Lists t d l (F c ++ for_each F cs)) (sym (shallow-append k v vs))
      (lists-append d (shallow k v) (shallow k vs) (F c) (for_each F cs) p.0 (lists-each F k d cs p.1))

  -- listed from depth e on, where e + d is the node's own depth
  listing-from : (f x e d : ℕ) → 1 ≤ x → x ≤ nodes t → e + d ≡ depth (node_at t x)
      → Lists t d (shallow (f + depth (node_at t x)) (everything (node_at t x))) (listing f (parents t) x e)
  unfolding listing
  listing-from zero x e d g h p =
      let v = node_at t x in
      subst (λ l. Lists t d l []) (sym (shallow-none v.below v.address (0 + depth v) (omega arith))) tt
  listing-from (suc f) x e d g h p =
      let v = node_at t x in
      let k : ℕ = suc f + depth v in
      let cs = children_of (parents t) x in
      let F : ℕ → List ℕ = λ c. listing f (parents t) c (suc e) in
      let below = for_each everything (map (node_at t) cs) in
      let law : shallow k (everything v) ≡ v ∷ shallow k below =
      ap (shallow k) (first_law v ∙ ap (λ l. v ∷ for_each everything l) (sym (children-nodes t x g h))) ∙ shallow_in k v below (omega arith) in
      subst (λ l. Lists t d l (x ∷ e ∷ for_each F cs)) (sym law) (
        number_of t x g h,
        p,
        lists-each F k d cs (each_map (Deeper t (depth v)) (λ c. Lists t d (shallow k (everything (node_at t c))) (F c)) cs
            (λ c q. subst (λ m. Lists t d (shallow m (everything (node_at t c))) (F c)) (let r : f + depth (node_at t c) ≡ suc f + depth v = omega (arith, q.deeper) in r)
            (listing-from f c (suc e) d q.from q.to (omega (arith, q.deeper))))
            (children_deeper x g h)),
      )

  -- ---- the first of depth 64 in a list: none, or a node

  ne_lt : (a k : ℕ) → a < suc k → (a ≡ k → ⊥) → a < k
  ne_lt a k h n = elim (dec_lt a k) [ yes l ↦ l | no m ↦ absurd (n (omega arith)) ]

  deep-below : (d : ℕ) (vs : List Node) (ns : List ℕ) → Lists t d vs ns → AllBelow (suc (64 + d)) vs → deep ns ≡ 0 → AllBelow (64 + d) vs
  unfolding deep
  deep-below d [] [] p b z = tt
  deep-below d [] (n ∷ ns) p b z = absurd p
  deep-below d (v ∷ vs) [] p b z = absurd p
  deep-below d (v ∷ vs) (x ∷ []) p b z = absurd p
  deep-below d (v ∷ vs) (x ∷ e ∷ ns) p b z = go (eqb e 64) refl (λ y. deep-below d vs ns p.2 b.1 y)
    where
      go : (c : Bool) → eqb e 64 ≡ c → (deep ns ≡ 0 → AllBelow (64 + d) vs) → AllBelow (64 + d) (v ∷ vs)
      go true q ih = absurd (omega (arith, p.0.from, ap (λ c. cond c x (deep ns)) (sym q) ∙ z))
      go false q ih = (ne_lt (depth v) (64 + d) b.0 (λ r. eqb-false e 64 q (omega (arith, p.1))), ih (ap (λ c. cond c x (deep ns)) (sym q) ∙ z))

  below-deep : (d : ℕ) (vs : List Node) (ns : List ℕ) → Lists t d vs ns → AllBelow (64 + d) vs → deep ns ≡ 0
  unfolding deep
  below-deep d [] [] p b = refl
  below-deep d [] (n ∷ ns) p b = absurd p
  below-deep d (v ∷ vs) [] p b = absurd p
  below-deep d (v ∷ vs) (x ∷ []) p b = absurd p
  below-deep d (v ∷ vs) (x ∷ e ∷ ns) p b =
      ap (λ c. cond c x (deep ns)) (ne_eqb e 64 (λ q. omega (arith, p.1, b.0))) ∙ below-deep d vs ns p.2 b.1

  deep-first : (d : ℕ) (vs : List Node) (ns : List ℕ) → Lists t d vs ns → (deep ns ≡ 0 → ⊥) → FirstAt t (64 + d) vs (deep ns)
  unfolding deep
  deep-first d [] [] p n = n refl
  deep-first d [] (m ∷ ns) p n = absurd p
  deep-first d (v ∷ vs) [] p n = absurd p
  deep-first d (v ∷ vs) (x ∷ []) p n = absurd p
  deep-first d (v ∷ vs) (x ∷ e ∷ ns) p n = go (eqb e 64) refl (λ m. deep-first d vs ns p.2 m)
    where
      go : (c : Bool) → eqb e 64 ≡ c → ((deep ns ≡ 0 → ⊥) → FirstAt t (64 + d) vs (deep ns)) → FirstAt t (64 + d) (v ∷ vs) (cond (eqb e 64) x (deep ns))
      go true q ih = subst (λ c. FirstAt t (64 + d) (v ∷ vs) (cond c x (deep ns))) (sym q) (inl (omega (arith, p.1, eqb-true e 64 q), p.0))
      go false q ih =
          subst (λ c. FirstAt t (64 + d) (v ∷ vs) (cond c x (deep ns))) (sym q)
          (inr (λ r. eqb-false e 64 q (omega (arith, p.1)), ih (λ z. n (ap (λ c. cond c x (deep ns)) q ∙ z))))

  -- what is left out by depth is not at depth k
  first-whole : (k r : ℕ) (vs : List Node) → FirstAt t k (shallow (suc k) vs) r → FirstAt t k vs r
  first-whole k r [] p = p
  first-whole k r (v ∷ vs) p = elim (dec_lt (depth v) (suc k)) [
    | yes l ↦ go (subst (λ ws. FirstAt t k ws r) (shallow_in (suc k) v vs l) p) (λ q. first-whole k r vs q)
    | no n ↦ inr (λ e. n (omega arith), first-whole k r vs (subst (λ ws. FirstAt t k ws r) (shallow_out (suc k) v vs (omega arith)) p))
  ]
    where
      go : FirstAt t k (v ∷ shallow (suc k) vs) r → (FirstAt t k (shallow (suc k) vs) r → FirstAt t k vs r) → FirstAt t k (v ∷ vs) r
      go (inl q) ih = inl q
      go (inr q) ih = inr (q.0, ih q.1)

  -- ---- the listing of node x, and whether it reaches depth 64

  module _ (x : ℕ) (g : 1 ≤ x) (h : x ≤ nodes t) where
    pub listing_is : (f : ℕ) → Lists t (depth (node_at t x)) (shallow (f + depth (node_at t x)) (everything (node_at t x))) (listing f (parents t) x 0)
    listing_is f = listing-from f x 0 (depth (node_at t x)) g h (omega arith)

    -- of 65 levels, in the form that the lemmas above take
    listed_65 : Lists t (depth (node_at t x)) (shallow (suc (64 + depth (node_at t x))) (everything (node_at t x))) (listing 65 (parents t) x 0)
    listed_65 =
        let v = node_at t x in
        subst (λ k. Lists t (depth v) (shallow k (everything v)) (listing 65 (parents t) x 0)) (let e : 65 + depth v ≡ suc (64 + depth v) = omega arith in e) (listing_is 65)

    pub not-deep : deep (listing 65 (parents t) x 0) ≡ 0 → AllBelow (64 + depth (node_at t x)) (everything (node_at t x))
    not-deep z =
        let v = node_at t x in
        let k : ℕ = 64 + depth v in
        all-shallow v.below v.address k (omega arith)
        (deep-below (depth v) (shallow (suc k) (everything v)) (listing 65 (parents t) x 0) listed_65 (shallow-below (suc k) (everything v)) z)

    whole : AllBelow (64 + depth (node_at t x)) (everything (node_at t x)) → Lists t (depth (node_at t x)) (everything (node_at t x)) (listing 65 (parents t) x 0)
    whole b =
        let v = node_at t x in
        let k : ℕ = 64 + depth v in
        subst (λ vs. Lists t (depth v) vs (listing 65 (parents t) x 0)) (shallow-all k (suc k) (everything v) (omega arith) b) listed_65

    pub listing-whole : deep (listing 65 (parents t) x 0) ≡ 0 → Lists t (depth (node_at t x)) (everything (node_at t x)) (listing 65 (parents t) x 0)
    listing-whole z = whole (not-deep z)

    pub deep_none : AllBelow (64 + depth (node_at t x)) (everything (node_at t x)) → deep (listing 65 (parents t) x 0) ≡ 0
    deep_none b = below-deep (depth (node_at t x)) (everything (node_at t x)) (listing 65 (parents t) x 0) (whole b) b

    pub first-deep : (deep (listing 65 (parents t) x 0) ≡ 0 → ⊥) → FirstAt t (64 + depth (node_at t x)) (everything (node_at t x)) (deep (listing 65 (parents t) x 0))
    first-deep n =
        let v = node_at t x in
        let k : ℕ = 64 + depth v in
        first-whole k (deep (listing 65 (parents t) x 0)) (everything v)
        (deep-first (depth v) (shallow (suc k) (everything v)) (listing 65 (parents t) x 0) listed_65 n)
