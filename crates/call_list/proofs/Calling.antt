-- What the listing of a node comes to, from what the check and the measuring found.
use Rattle.std.specs.Prelude.{Result, Ok, Err}
use mathlib.Core.Path.{◌≡◌, refl, sym, ap, ap₂, ◌∙◌, subst}
use mathlib.Core.Bool.{Bool, true, false, not, ◌&&◌}
use mathlib.Core.List.{List, [], ◌∷◌}
use Prim.Native.Nat.{ℕ, zero, suc, ◌*◌, ◌/◌, ◌≤◌, ◌<◌}
use native.Mathlib.Omega.{arith}
use borrow.Author.Tests.{lt-ltb, le-ltb, le-leb, lt-leb}
use lib.Dec.{ltb, leb}
use lib.ListN.{length}
use Rattle.meaning.specs.declared.Answer.{Answer}
use Rattle.meaning.specs.declared.Refusal.{Refusal}
use Rattle.meaning.specs.Answers.{Row, ◌at◌when◌, refused_with, counts, came_to, settle, written, too_short}
use Rattle.meaning.specs.Image.{parents_in}
use Rattle.meaning.specs.Questions.{is_node}
use Rattle.meaning.specs.Listing.{listing, deep}
use Rattle.calls.specs.Calls.{list_image}
use Rattle.theory.proofs.Settled.{settle-here, settle_on, settle-none}
use Rattle.image_layout.specs.declared.Layout.{Layout}
use Rattle.image_found.specs.Checked.{Checked, checked}
use Rattle.image_found.proofs.Finding.{comes_to, rows_checked}
use Rattle.list_measure.specs.Levels.{ones_before_in, sized, size_of, WhereFits}
use Rattle.list_measure.proofs.Levels.{listing_even, listing_less}
use Rattle.list_measure.proofs.Numbers.{ones_before_in_mono, ones_before_in_kids, parents-count}

-- ---- what is measured tells

fits-or-deep : {X : Type 0} (n w : ℕ) → Ok n ≡ Err w → X
fits-or-deep n w e = let z : ◌≡◌ {A = ℕ} 0 1 = cc in absurd (omega arith)

deep_tells : (d n w : ℕ) → sized d n ≡ Err w → (d ≡ w) × (0 < d)
deep_tells zero n w e = fits-or-deep n w e
deep_tells (suc d) n w e = (cc, omega arith)

fits_tells : (d n k : ℕ) → sized d n ≡ Ok k → (d ≡ 0) × (n ≡ k)
fits_tells zero n k e = (refl, cc)
fits_tells (suc d) n k e = fits-or-deep k (suc d) (sym e)

pub where_fits : {P : Type 0} (m : Result ℕ ℕ) (n : ℕ) → m ≡ Ok n → WhereFits m P → P
where_fits {P} m n e w = subst (λ k. WhereFits k P) e w

-- ---- nodes

below-first : (n x : ℕ) → x ≡ 0 → not (is_node n x) ≡ true
below-first n x e = ap (λ y. not (is_node n y)) e

beyond_last : (n x : ℕ) → n < x → not (is_node n x) ≡ true
beyond_last n x h = ap (λ t. not (leb 1 x && t)) (lt-leb x n h) ∙ neither (leb 1 x)
  where
    neither : (b : Bool) → not (b && false) ≡ true
    neither true = refl
    neither false = refl

among : (n x : ℕ) → 1 ≤ x → x ≤ n → not (is_node n x) ≡ false
among n x g h = ap₂ (λ s t. not (s && t)) (le-leb 1 x g) (le-leb x n h)

-- ---- the call

module _ (bytes : List ℕ) (x : ℕ) (out : List ℕ) where
  abbrev pairs : List ℕ
  pairs = listing 65 (parents_in bytes) x 0

  abbrev counted : Answer
  counted = counts (length pairs / 2) 0

  abbrev after : List ℕ
  after = written pairs out

  abbrev third : Row
  third = 1 at 0 when too_short pairs out

  abbrev second : Row
  second = 9 at deep pairs when ltb 0 (deep pairs)

  abbrev first : Row
  first = 8 at 1 when not (is_node (length (parents_in bytes)) x)

  by_check : (c : Checked) → checked bytes ≡ c → list_image bytes x out ≡ comes_to out (first ∷ second ∷ third ∷ []) counted after c
  unfolding list_image
  by_check c e =
      rows_checked out (first ∷ second ∷ third ∷ []) counted after bytes false refl ∙ ap (comes_to out (first ∷ second ∷ third ∷ []) counted after) e

  pub list_refused : (r : Refusal) → checked bytes ≡ Err r → came_to (refused_with r.code r.place) out ≡ list_image bytes x out
  list_refused r e = sym (by_check (Err r) e)

  module _ (i : Layout) (e : checked bytes ≡ Ok i) where
    no_node : not (is_node (length (parents_in bytes)) x) ≡ true → came_to (refused_with 8 1) out ≡ list_image bytes x out
    no_node h = sym (by_check (Ok i) e ∙ settle-here out counted after first (second ∷ third ∷ []) h)

    pub list_zero : x ≡ 0 → came_to (refused_with 8 1) out ≡ list_image bytes x out
    list_zero h = no_node (below-first (length (parents_in bytes)) x h)

    pub list_beyond : i.nodes < x → came_to (refused_with 8 1) out ≡ list_image bytes x out
    list_beyond h = no_node (beyond_last (length (parents_in bytes)) x (omega (arith, parents-count bytes i e)))

    module _ (some : 1 ≤ x) (most : x ≤ i.nodes) where
      of_node : list_image bytes x out ≡ settle out (second ∷ third ∷ []) counted after
      of_node = by_check (Ok i) e
          ∙ settle_on out counted after first (second ∷ third ∷ []) (among (length (parents_in bytes)) x some (omega (arith, parents-count bytes i e)))

      pub list_deep : (w : ℕ) → Err w ≡ size_of pairs → came_to (refused_with 9 w) out ≡ list_image bytes x out
      unfolding size_of
      list_deep w m =
          let r = deep_tells (deep pairs) (length pairs / 2) w (sym m) in
          ap (λ p. came_to (refused_with 9 p) out) (sym r.0)
          ∙ sym (of_node ∙ settle-here out counted after second (third ∷ []) (lt-ltb 0 (deep pairs) r.1))

      module _ (n : ℕ) (m : Ok n ≡ size_of pairs) where
        none_deep : deep pairs ≡ 0
        unfolding size_of
        none_deep = (fits_tells (deep pairs) (length pairs / 2) n (sym m)).0

        size : length pairs / 2 ≡ n
        unfolding size_of
        size = (fits_tells (deep pairs) (length pairs / 2) n (sym m)).1

        whole : length pairs ≡ 2 * n
        whole = omega (arith, size, listing_even (parents_in bytes) (ones_before_in bytes) (ones_before_in_mono bytes i e) (ones_before_in_kids bytes i e) 65 x 0 some)

        less : pairs ≡ listing 64 (parents_in bytes) x 0
        less = listing_less (parents_in bytes) (ones_before_in bytes) (ones_before_in_mono bytes i e) (ones_before_in_kids bytes i e) x some none_deep

        of_fits : list_image bytes x out ≡ settle out (third ∷ []) counted after
        of_fits = of_node ∙ settle_on out counted after second (third ∷ []) (ap (ltb 0) none_deep)

        pub list_short : length out < 2 * n → came_to (refused_with 1 0) out ≡ list_image bytes x out
        list_short h = sym (of_fits ∙ settle-here out counted after third [] (lt-ltb (length out) (length pairs) (omega (arith, whole))))

        -- 64 levels are all of it
        pub list_room : 2 * n ≤ length out → length (listing 64 (parents_in bytes) x 0) ≤ length out
        list_room h = omega (arith, whole, ap length less)

        pub list_given : 2 * n ≤ length out → (r : Answer) (o : List ℕ) → r ≡ counts n 0 → o ≡ written (listing 64 (parents_in bytes) x 0) out → came_to r o ≡ list_image bytes x out
        list_given h r o f g =
            ap₂ came_to f g
            ∙ ap₂ (λ k p. came_to (counts k 0) (written p out)) (sym size) (sym less)
            ∙ sym (of_fits ∙ settle_on out counted after third [] (le-ltb (length out) (length pairs) (omega (arith, whole))) ∙ settle-none out counted after)
