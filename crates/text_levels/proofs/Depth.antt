-- How deep a tree is, by where its levels begin: it has at most 64 levels exactly if the 65th
-- begins after its last node.
use Rattle.std.specs.Prelude.{Ok, Err}
use mathlib.Core.Path.{◌≡◌, refl, sym, ap, ◌∙◌}
use mathlib.Core.List.{List}
use Prim.Native.Nat.{ℕ, zero, suc, ◌+◌, ◌-◌, ◌/◌, ◌≤◌, ◌<◌}
use native.Mathlib.Decide.{dec_lt}
use native.Mathlib.Omega.{arith}
use lib.ListN.{length}
use Rattle.meaning.specs.Trees.{Tree, nodes}
use Rattle.meaning.specs.Parents.{parents, entry}
use Rattle.meaning.specs.Strings.{lbs}
use Rattle.meaning.specs.Questions.{children_of}
use Rattle.meaning.specs.Listing.{listing, deep}
use Rattle.theory.specs.Rank.{ones_before, counting}
use Rattle.theory.proofs.Parents.{parents_are}
use Rattle.theory.proofs.Forms.{length-parents}
use Rattle.theory.proofs.Navigate.{counted, children_are}
use Rattle.list_measure.specs.Levels.{sized, size_of, levels_from}
use Rattle.list_measure.proofs.Levels.{levels-end, levels-deep, levels_more, levels-size}
use Rattle.text_walk.specs.Walk.{low, start}
use Rattle.text_walk.proofs.Walk.{low_upto, low_most, low-one, placed}

module _ (t : Tree) where
  -- ---- a level that has a node is followed by a later start

  parent_below : (y : ℕ) → y < nodes t → entry (parents t) (suc y) ≤ y
  parent_below zero h = omega (arith, (parents_are t).rule 1 (omega arith) (omega (arith, length-parents t)))
  parent_below (suc y) h = ((parents_are t).rule (suc (suc y)) (omega arith) (omega (arith, length-parents t))).1

  pub above : (y : ℕ) → y < nodes t → y < low t (suc y)
  above y h = omega (arith, (placed t y h).1, low_upto t (suc (entry (parents t) (suc y))) (suc y) (omega (arith, parent_below y h)))

  pub start_most : (e : ℕ) → start t e ≤ nodes t
  unfolding start
  start_most zero = omega arith
  start_most (suc e) = low_most t (suc (start t e))

  pub start-later : (e : ℕ) → start t e < nodes t → start t e < start t (suc e)
  unfolding start
  start-later e h = above (start t e) h

  -- after the last node no level begins later
  full : (a n : ℕ) → n ≡ nodes t → n ≤ a → n ≤ low t (suc a)
  full a zero q h = omega arith
  full a (suc n) q h = omega (arith, above n (omega arith), low_upto t (suc n) (suc a) (omega arith))

  start_up : (e : ℕ) → start t e ≤ start t (suc e)
  unfolding start
  start_up e = elim (dec_lt (start t e) (nodes t)) [
    | yes h ↦ omega (arith, above (start t e) h)
    | no h ↦ omega (arith, start_most e, full (start t e) (nodes t) refl (omega arith))
  ]

  pub start_upto : (e m : ℕ) → start t e ≤ start t (e + m)
  start_upto e zero = omega (arith, ap (start t) (let q : e + 0 ≡ e = omega arith in q))
  start_upto e (suc m) = omega (arith, start_upto e m, start_up (e + m), ap (start t) (let q : e + suc m ≡ suc (e + m) = omega arith in q))

  -- ---- level by level

  abbrev next : ℕ → ℕ
  next a = low t (suc a)

  some-deep : (l e n : ℕ) → start t (e + l) < nodes t → levels_from next l (start t e) (start t (suc e)) n ≡ Err (suc (start t (e + l)))
  unfolding start
  some-deep zero e n h =
      let q : e + 0 ≡ e = omega arith in
      levels-deep next 0 (start t e) (start t (suc e)) n refl (start-later e (omega (arith, ap (start t) q)))
      ∙ ap (λ k. Err (suc (start t k))) (sym q)
  some-deep (suc l) e n h =
      let q : e + suc l ≡ suc e + l = omega arith in
      levels_more next (suc l) (start t e) (start t (suc e)) n (omega arith) (start-later e (omega (arith, start_upto e (suc l))))
      ∙ ap (λ k. levels_from next k (start t (suc e)) (start t (suc (suc e))) (n + (start t (suc e) - start t e))) (let s : suc l - 1 ≡ l = omega arith in s)
      ∙ some-deep l (suc e) (n + (start t (suc e) - start t e)) (omega (arith, ap (start t) q))
      ∙ ap (λ k. Err (suc (start t k))) (sym q)

  none_deep : (l e n : ℕ) → nodes t ≤ start t (e + l) → (k : ℕ) × (levels_from next l (start t e) (start t (suc e)) n ≡ Ok k)
  unfolding start
  none_deep zero e n h =
      (n, levels-end next 0 (start t e) (start t (suc e)) n (omega (arith, start_most (suc e), ap (start t) (let q : e + 0 ≡ e = omega arith in q))))
  none_deep (suc l) e n h = elim (dec_lt (start t e) (start t (suc e))) [
    | yes g ↦
        let q : e + suc l ≡ suc e + l = omega arith in
        let r = none_deep l (suc e) (n + (start t (suc e) - start t e)) (omega (arith, ap (start t) q)) in (
          r.0,
          levels_more next (suc l) (start t e) (start t (suc e)) n (omega arith) g
              ∙ ap (λ k. levels_from next k (start t (suc e)) (start t (suc (suc e))) (n + (start t (suc e) - start t e))) (let s : suc l - 1 ≡ l = omega arith in s) ∙ r.1,
        )
    | no g ↦ (n, levels-end next (suc l) (start t e) (start t (suc e)) n (omega arith))
  ]

  -- ---- what the listing of the root says

  abbrev pairs : List ℕ
  pairs = listing 65 (parents t) 1 0

  kids : (x : ℕ) → children_of (parents t) x ≡ counting (suc (low t x)) (low t (suc x) - low t x)
  unfolding low
  kids x = children_are t x
      ∙ counted (1 + ones_before (lbs t) x) (suc (low t x)) (ones_before (lbs t) (suc x) - ones_before (lbs t) x) (low t (suc x) - low t x) (omega arith) refl

  by_levels : levels_from next 64 (start t 0) (start t 1) 0 ≡ size_of pairs
  unfolding start
  by_levels =
      ap (λ z. levels_from next 64 0 z 0) (low-one t)
      ∙ levels-size (parents t) (low t) (λ z. low_upto t z (suc z) (omega arith)) kids 1 (omega arith)

  deep_tells : (d n w : ℕ) → sized d n ≡ Err w → d ≡ w
  deep_tells zero n w e = let z : ◌≡◌ {A = ℕ} 0 1 = cc in absurd (omega arith)
  deep_tells (suc d) n w e = cc

  fits_tells : (d n k : ℕ) → sized d n ≡ Ok k → d ≡ 0
  fits_tells zero n k e = refl
  fits_tells (suc d) n k e = let z : ◌≡◌ {A = ℕ} 0 1 = cc in absurd (omega arith)

  -- a 65th level begins with the first node at depth 64
  pub too_deep_lem : start t 64 < nodes t → suc (start t 64) ≡ deep pairs
  unfolding size_of
  too_deep_lem h = sym (deep_tells (deep pairs) (length pairs / 2) (suc (start t 64)) (sym by_levels ∙ some-deep 64 0 0 h))

  pub not-deep : nodes t ≤ start t 64 → 0 ≡ deep pairs
  unfolding size_of
  not-deep h = let r = none_deep 64 0 0 h in sym (fits_tells (deep pairs) (length pairs / 2) r.0 (sym by_levels ∙ r.1))

  pub few-levels : deep pairs ≡ 0 → nodes t ≤ start t 64
  few-levels e = elim (dec_lt (start t 64) (nodes t)) [
    | yes h ↦ absurd (omega (arith, too_deep_lem h))
    | no h ↦ omega arith
  ]
