-- Numbers and addresses: the children that the parent list gives to number x are those of the node
-- with that number.
use mathlib.Core.Path.{◌≡◌, refl, sym, ap, ap₂, ◌∙◌}
use mathlib.Core.List.{List, [], ◌∷◌, ◌++◌, map, nil≢cons, head-eq_of_cons-eq, tail-eq_of_cons-eq}
use Prim.Native.Nat.{ℕ, zero, suc, ◌+◌, ◌-◌, ◌≤◌, ◌<◌}
use native.Mathlib.Nat.{zero-add, add-zero}
use native.Mathlib.Omega.{arith}
use lib.ListN.{length, get_or, replicate, get_or-append}
use lib.Seq.{get_or-append-add}
use Rattle.meaning.specs.Trees.{Tree, Trees, node, none, ◌then◌, listed, Node, degree_of, sibling_nodes, nodes_under, child_nodes, end_to_end, level_order, nodes, degrees}
use Rattle.meaning.specs.Strings.{Bit, O, I, unary, lbs}
use Rattle.meaning.specs.Parents.{parents, entry}
use Rattle.meaning.specs.Questions.{children_of, place_of}
use Rattle.theory.specs.Rank.{ones_before, counting}
use Rattle.theory.specs.Walks.{root, node_at, Number}
use Rattle.theory.proofs.Levels.{level_law}
use Rattle.theory.proofs.Navigate.{children_are, is_placed, Placed, ones_before-zero}
use Rattle.theory.proofs.Answers.{lo, degree_is}
use Rattle.theory.proofs.Parents.{parents_are}
use Rattle.theory.proofs.Forms.{length-parents}
use Rattle.theory.proofs.Scan.{nodes-ones}

-- ---- children of one node

siblings_length : (f : Trees) (a : List ℕ) (i : ℕ) → length (sibling_nodes f a i) ≡ length (listed f)
siblings_length none a i = refl
siblings_length (t then f) a i = ap suc (siblings_length f a (suc i))

pub degree-children : (v : Node) → length (child_nodes v) ≡ degree_of v
degree-children v = go v.below v.address
  where
    go : (t : Tree) (a : List ℕ) → length (nodes_under t a) ≡ degree_of (record { address = a; below = t })
    go (node f) a = siblings_length f a 1

siblings_address : (f : Trees) (a : List ℕ) (i j : ℕ) (d : Node) → j < length (listed f) → (get_or (sibling_nodes f a i) j d).address ≡ (i + j) ∷ a
siblings_address none a i j d h = absurd (omega arith)
siblings_address (t then f) a i zero d h = ap (λ n. n ∷ a) (sym (add-zero i))
siblings_address (t then f) a i (suc j) d h =
    siblings_address f a (suc i) j d (omega arith) ∙ ap (λ n. n ∷ a) (let e : suc i + j ≡ i + suc j = omega arith in e)

pub child_address : (v : Node) (j : ℕ) (d : Node) → j < degree_of v → (get_or (child_nodes v) j d).address ≡ suc j ∷ v.address
child_address v j d h = go v.below v.address h
  where
    go : (t : Tree) (a : List ℕ) → j < degree_of (record { address = a; below = t }) → (get_or (nodes_under t a) j d).address ≡ suc j ∷ a
    go (node f) a l = siblings_address f a 1 j d l ∙ ap (λ n. n ∷ a) (let e : 1 + j ≡ suc j = omega arith in e)

-- ---- children of a list of nodes, one after another

-- how many children the first w nodes have
abbrev under : List Node → ℕ → ℕ
under [] w = 0
under (v ∷ vs) zero = 0
under (v ∷ vs) (suc w) = degree_of v + under vs w

before-run : (d : ℕ) (bs : List Bit) (w : ℕ) → ones_before (replicate d I ++ O ∷ bs) (suc w) ≡ d + ones_before bs w
before-run zero bs w = sym (zero-add _)
before-run (suc d) bs w = omega (arith, before-run d bs w)

under_ones : (vs : List Node) (w : ℕ) → ones_before (unary (map degree_of vs)) w ≡ under vs w
under_ones [] w = refl
under_ones (v ∷ vs) zero = ones_before-zero (unary (map degree_of (v ∷ vs)))
under_ones (v ∷ vs) (suc w) = before-run (degree_of v) (unary (map degree_of vs)) w ∙ ap (λ k. degree_of v + k) (under_ones vs w)

under-step : (vs : List Node) (w : ℕ) (d : Node) → w < length vs → under vs (suc w) ≡ under vs w + degree_of (get_or vs w d)
under-step [] w d h = absurd (omega arith)
under-step (v ∷ []) zero d h = omega arith
under-step (v ∷ u ∷ vs) zero d h = omega arith
under-step (v ∷ vs) (suc w) d h = omega (arith, under-step vs w d (omega arith))

-- child number j + 1 of node w is after the children of the first w
flat_at : (vs : List Node) (w j : ℕ) (d : Node) → w < length vs → j < degree_of (get_or vs w d)
    → get_or (end_to_end (map child_nodes vs)) (under vs w + j) d ≡ get_or (child_nodes (get_or vs w d)) j d
flat_at [] w j d h l = absurd (omega arith)
flat_at (v ∷ vs) zero j d h l =
    ap (λ k. get_or (end_to_end (map child_nodes (v ∷ vs))) k d) (zero-add j)
    ∙ get_or-append (child_nodes v) (end_to_end (map child_nodes vs)) d j (omega (arith, degree-children v))
flat_at (v ∷ vs) (suc w) j d h l =
    ap (λ k. get_or (child_nodes v ++ end_to_end (map child_nodes vs)) k d)
    (let e : degree_of v + under vs w + j ≡ length (child_nodes v) + (under vs w + j) = omega (arith, degree-children v) in e)
    ∙ get_or-append-add (child_nodes v) (end_to_end (map child_nodes vs)) (under vs w + j) d
    ∙ flat_at vs w j d (omega arith) l

-- ---- numbers: what f gives to the numbers from i on, if they are the elements of a list in order

map-counting : {A : Type 0} (f : ℕ → A) (d : A) (l : List A) (i n : ℕ) → length l ≡ n → ((j : ℕ) → j < n → f (i + j) ≡ get_or l j d) → map f (counting i n) ≡ l
map-counting f d [] i zero e h = refl
map-counting f d [] i (suc n) e h = absurd (omega arith)
map-counting f d (x ∷ l) i zero e h = absurd (omega arith)
map-counting f d (x ∷ l) i (suc n) e h =
    ap₂ ◌∷◌ (ap f (sym (add-zero i)) ∙ h 0 (omega arith))
    (map-counting f d l (suc i) n (omega arith) (λ j k. ap f (let g : suc i + j ≡ i + suc j = omega arith in g) ∙ h (suc j) (omega arith)))

-- number x is that of a child of node p: what the parent list says of x, and what the tree says
pub record IsChild (t : Tree) (x p : ℕ) : Type 0 where
  pub from : 1 ≤ p
  pub before : p < x
  pub some : 1 ≤ place_of (parents t) x
  pub room : place_of (parents t) x ≤ degree_of (node_at t p)
  pub place : lo t p + place_of (parents t) x ≡ x
  pub address : (node_at t x).address ≡ place_of (parents t) x ∷ (node_at t p).address

module _ (t : Tree) where
  pub first_node : node_at t 1 ≡ root t
  first_node = ap (λ l. get_or l 0 (root t)) (level_law t)

  lo-under : (w : ℕ) → lo t (suc w) ≡ suc (under (level_order t) w)
  unfolding lbs degrees
  lo-under w = ap suc (under_ones (level_order t) w)

  pub lo-step : (x : ℕ) → 1 ≤ x → x ≤ nodes t → lo t (suc x) ≡ lo t x + degree_of (node_at t x)
  unfolding nodes
  lo-step zero g h = absurd (omega arith)
  lo-step (suc w) g h = omega (arith, lo-under w, lo-under (suc w), under-step (level_order t) w (root t) h)

  pub degree-at : (x : ℕ) → 1 ≤ x → x ≤ nodes t → degree_of (node_at t x) ≡ length (children_of (parents t) x)
  degree-at x g h = omega (arith, degree_is t x, lo-step x g h)

  pub child_node : (x j : ℕ) → 1 ≤ x → x ≤ nodes t → j < degree_of (node_at t x) → node_at t (suc (lo t x) + j) ≡ get_or (child_nodes (node_at t x)) j (root t)
  unfolding nodes
  child_node zero j g h l = absurd (omega arith)
  child_node (suc w) j g h l =
      ap (node_at t) (let e : suc (lo t (suc w)) + j ≡ suc (suc (under (level_order t) w + j)) = omega (arith, lo-under w) in e)
      ∙ ap (λ vs. get_or vs (suc (under (level_order t) w + j)) (root t)) (level_law t)
      ∙ flat_at (level_order t) w j (root t) h l

  -- the numbers that the parent list gives as children of x are, in order, those of the children of
  -- node x
  pub children-nodes : (x : ℕ) → 1 ≤ x → x ≤ nodes t → map (node_at t) (children_of (parents t) x) ≡ child_nodes (node_at t x)
  children-nodes x g h =
      let d = degree_of (node_at t x) in
      let e : lo t (suc x) - lo t x ≡ d = omega (arith, lo-step x g h) in
      ap (map (node_at t)) (children_are t x ∙ ap₂ counting (let i : 1 + lo t x ≡ suc (lo t x) = omega arith in i) e)
      ∙ map-counting (node_at t) (root t) (child_nodes (node_at t x)) (suc (lo t x)) d (degree-children (node_at t x)) (λ j l. child_node x j g h l)

  pub is_child_lem : (x : ℕ) → 2 ≤ x → x ≤ nodes t → IsChild t x (entry (parents t) x)
  is_child_lem zero g h = absurd (omega arith)
  is_child_lem (suc zero) g h = absurd (omega arith)
  is_child_lem (suc (suc k)) g h =
      let x : ℕ = suc (suc k) in
      let p : ℕ = entry (parents t) x in
      let r = (parents_are t).rule x (omega arith) (omega (arith, length-parents t)) in
      let q : Placed t x p = is_placed t (suc k) (omega (arith, nodes-ones t)) in
      let s = lo-step p r.0 (omega (arith, r.1)) in
      let n : ℕ = x - lo t p - 1 in
      let b : n < degree_of (node_at t p) = omega (arith, s, q.above, q.upto) in
      let e : suc n ≡ place_of (parents t) x = omega (arith, q.place, q.above) in
      record {
        from = r.0;
        before = omega (arith, r.1);
        some = omega arith;
        room = omega arith;
        place = omega (arith, q.above);
        address = ap (λ y. (node_at t y).address) (let f : x ≡ suc (lo t p) + n = omega (arith, q.above) in f)
            ∙ ap (λ v. v.address) (child_node p n r.0 (omega (arith, r.1)) b)
            ∙ child_address (node_at t p) n (root t) b
            ∙ ap (λ m. m ∷ (node_at t p).address) e;
      }

  pub address_step : (x : ℕ) → 2 ≤ x → x ≤ nodes t → (node_at t x).address ≡ place_of (parents t) x ∷ (node_at t (entry (parents t) x)).address
  address_step x g h = (is_child_lem x g h).address

  -- ---- a node's address is its own

  same_address : (n x y : ℕ) → x ≤ n → 1 ≤ x → x ≤ nodes t → 1 ≤ y → y ≤ nodes t → (node_at t x).address ≡ (node_at t y).address → x ≡ y
  same_address zero x y b g h g' h' e = absurd (omega arith)
  same_address (suc n) zero y b g h g' h' e = absurd (omega arith)
  same_address (suc n) (suc zero) zero b g h g' h' e = absurd (omega arith)
  same_address (suc n) (suc zero) (suc zero) b g h g' h' e = refl
  same_address (suc n) (suc zero) (suc (suc j)) b g h g' h' e =
      absurd (nil≢cons (sym (ap (λ v. v.address) first_node) ∙ e ∙ address_step (suc (suc j)) (omega arith) h'))
  same_address (suc n) (suc (suc i)) zero b g h g' h' e = absurd (omega arith)
  same_address (suc n) (suc (suc i)) (suc zero) b g h g' h' e =
      absurd (nil≢cons (sym (ap (λ v. v.address) first_node) ∙ sym e ∙ address_step (suc (suc i)) (omega arith) h))
  same_address (suc n) (suc (suc i)) (suc (suc j)) b g h g' h' e =
      let u = is_child_lem (suc (suc i)) (omega arith) h in
      let v = is_child_lem (suc (suc j)) (omega arith) h' in
      let c = sym u.address ∙ e ∙ v.address in
      let p = entry (parents t) (suc (suc i)) in
      let p' = entry (parents t) (suc (suc j)) in
      let q = same_address n p p' (omega (arith, u.before)) u.from (omega (arith, u.before)) v.from (omega (arith, v.before)) (tail-eq_of_cons-eq c) in
      omega (arith, u.place, v.place, head-eq_of_cons-eq c, ap (lo t) q)

  pub number_unique : {a : List ℕ} {x y : ℕ} → Number t a x → Number t a y → x ≡ y
  number_unique {x} {y} m n = same_address x x y (omega arith) m.from m.to n.from n.to (m.here ∙ sym n.here)

  pub number_of : (x : ℕ) → 1 ≤ x → x ≤ nodes t → Number t (node_at t x).address x
  number_of x g h = record { from = g; to = h; here = refl }

  pub parent_number : (x : ℕ) → 2 ≤ x → x ≤ nodes t → (i : ℕ) (p : List ℕ) → (node_at t x).address ≡ i ∷ p → Number t p (entry (parents t) x)
  parent_number x g h i p e =
      let c = is_child_lem x g h in
      record { from = c.from; to = omega (arith, c.before); here = tail-eq_of_cons-eq (sym c.address ∙ e) }
