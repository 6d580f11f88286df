-- Level order, of anything whose levels are itself and then the levels of its children: a queue,
-- and the children of each in turn.
use mathlib.Core.Path.{◌≡◌, refl, sym, ap, ap₂, ◌∙◌}
use mathlib.Core.List.{List, [], ◌∷◌, ◌++◌, map, append-nil, append_assoc}
use Prim.Native.Nat.{ℕ, zero, suc, ◌+◌, ◌≤◌}
use native.Mathlib.Nat.{le_refl}
use native.Mathlib.Omega.{arith}
use lib.ListN.{length}
use Rattle.meaning.specs.Trees.{beside, end_to_end}

pub beside-nil : {A : Type 0} (xs : List (List A)) → beside xs [] ≡ xs
beside-nil [] = refl
beside-nil (x ∷ xs) = refl

pub beside_assoc : {A : Type 0} (xs ys zs : List (List A)) → beside (beside xs ys) zs ≡ beside xs (beside ys zs)
beside_assoc [] ys zs = refl
beside_assoc (x ∷ xs) [] zs = refl
beside_assoc (x ∷ xs) (y ∷ ys) [] = refl
beside_assoc (x ∷ xs) (y ∷ ys) (z ∷ zs) = ap₂ ◌∷◌ (append_assoc x y z) (beside_assoc xs ys zs)

-- the levels of a list, and the children of a list
abbrev pub levels_all : {X : Type 0} → (X → List (List X)) → List X → List (List X)
levels_all levels_of [] = []
levels_all levels_of (x ∷ xs) = beside (levels_of x) (levels_all levels_of xs)

abbrev pub kids_all : {X : Type 0} → (X → List X) → List X → List X
kids_all kids [] = []
kids_all kids (x ∷ xs) = kids x ++ kids_all kids xs

kids_map : {X : Type 0} (kids : X → List X) (xs : List X) → kids_all kids xs ≡ end_to_end (map kids xs)
kids_map kids [] = refl
kids_map kids (x ∷ xs) = ap (λ r. kids x ++ r) (kids_map kids xs)

kids_append : {X : Type 0} (kids : X → List X) (xs ys : List X) → kids_all kids (xs ++ ys) ≡ kids_all kids xs ++ kids_all kids ys
kids_append kids [] ys = refl
kids_append kids (x ∷ xs) ys =
    ap (λ r. kids x ++ r) (kids_append kids xs ys) ∙ sym (append_assoc (kids x) (kids_all kids xs) (kids_all kids ys))

pub levels-append : {X : Type 0} (levels_of : X → List (List X)) (xs ys : List X) → levels_all levels_of (xs ++ ys) ≡ beside (levels_all levels_of xs) (levels_all levels_of ys)
levels-append levels_of [] ys = refl
levels-append levels_of (x ∷ xs) ys =
    ap (beside (levels_of x)) (levels-append levels_of xs ys) ∙ sym (beside_assoc (levels_of x) (levels_all levels_of xs) (levels_all levels_of ys))

abbrev pub order : {X : Type 0} → (X → List (List X)) → List X → List X
order levels_of xs = end_to_end (levels_all levels_of xs)

height : {X : Type 0} → (X → List (List X)) → List X → ℕ
height levels_of xs = length (levels_all levels_of xs)

module _ {X : Type 0} (kids : X → List X) (levels_of : X → List (List X)) (law : (x : X) → levels_of x ≡ (x ∷ []) ∷ levels_all levels_of (kids x)) where
  levels-step : (x : X) (xs : List X) → levels_all levels_of (x ∷ xs) ≡ (x ∷ xs) ∷ levels_all levels_of (kids_all kids (x ∷ xs))
  levels-step x [] = beside-nil (levels_of x) ∙ law x ∙ ap (λ r. (x ∷ []) ∷ levels_all levels_of r) (sym (append-nil (kids x)))
  levels-step x (y ∷ ys) =
      ap₂ beside (law x) (levels-step y ys) ∙ ap (λ r. (x ∷ y ∷ ys) ∷ r) (sym (levels-append levels_of (kids x) (kids_all kids (y ∷ ys))))

  order-step : (xs : List X) → order levels_of xs ≡ xs ++ order levels_of (kids_all kids xs)
  order-step [] = refl
  order-step (x ∷ xs) = ap end_to_end (levels-step x xs)

  height_kids : (x : X) (xs : List X) → height levels_of (x ∷ xs) ≡ suc (height levels_of (kids_all kids (x ∷ xs)))
  unfolding height
  height_kids x xs = ap length (levels-step x xs)

  -- what is in front comes first, and its children wait after the others
  queue : (n : ℕ) (us vs : List X) → height levels_of us + height levels_of vs ≤ n → order levels_of (us ++ vs) ≡ us ++ order levels_of (vs ++ kids_all kids us)
  queue zero [] vs h = ap (order levels_of) (sym (append-nil vs))
  queue zero (u ∷ us) vs h = absurd (omega (arith, height_kids u us))
  queue (suc n) [] vs h = ap (order levels_of) (sym (append-nil vs))
  queue (suc n) (u ∷ us) vs h =
      order-step ((u ∷ us) ++ vs)
      ∙ ap (λ r. (u ∷ us) ++ vs ++ order levels_of r) (kids_append kids (u ∷ us) vs)
      ∙ append_assoc (u ∷ us) vs _
      ∙ ap (λ r. (u ∷ us) ++ r) (sym (queue n vs (kids_all kids (u ∷ us)) (omega (arith, height_kids u us))))

  pub order_queue : (x : X) (q : List X) → order levels_of (x ∷ q) ≡ x ∷ order levels_of (q ++ kids x)
  order_queue x q =
      queue (height levels_of (x ∷ []) + height levels_of q) (x ∷ []) q (le_refl _)
      ∙ ap (λ r. x ∷ order levels_of (q ++ r)) (append-nil (kids x))

  order_kids : (n : ℕ) (xs : List X) → height levels_of xs ≤ n → order levels_of xs ≡ xs ++ kids_all kids (order levels_of xs)
  order_kids zero [] h = refl
  order_kids zero (x ∷ xs) h = absurd (omega (arith, height_kids x xs))
  order_kids (suc n) [] h = refl
  order_kids (suc n) (x ∷ xs) h =
      let s = x ∷ xs in
      order-step s
      ∙ ap (λ r. s ++ r)
      (order_kids n (kids_all kids s) (omega (arith, height_kids x xs))
      ∙ sym (kids_append kids s (order levels_of (kids_all kids s)))
      ∙ ap (kids_all kids) (sym (order-step s)))

  -- first x, then the children of the first, of the second, and so on
  pub order_law : (x : X) → order levels_of (x ∷ []) ≡ x ∷ end_to_end (map kids (order levels_of (x ∷ [])))
  order_law x = order_kids (height levels_of (x ∷ [])) (x ∷ []) (le_refl _) ∙ ap (λ r. x ∷ r) (kids_map kids (order levels_of (x ∷ [])))
