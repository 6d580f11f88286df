-- The cursors while the children of a node are listed.
use Rattle.std.specs.Prelude.{Ok}
use mathlib.Core.Path.{◌≡◌, sym, ap, ◌∙◌, subst}
use mathlib.Core.List.{List}
use Prim.Native.Nat.{ℕ, suc, ◌+◌, ◌-◌, ◌≤◌, ◌<◌}
use native.Mathlib.Omega.{arith}
use lib.ListN.{length, get_or, set, take, drop}
use lib.Seq.{get_or-take, get_or-set_same, drop-set-lt, take-set-le, take-take}
use Rattle.image_layout.specs.declared.Layout.{Layout}
use Rattle.image_found.specs.Checked.{checked}
use Rattle.list_measure.specs.Levels.{ones_before_in, below}
use Rattle.list_measure.specs.Cursors.{CursorsReady}
use Rattle.list_measure.proofs.Numbers.{ones_before_in_upto}
use Rattle.list_measure.proofs.Cursors.{ready-some, ready-from, ready_fewer}
use Rattle.list_write.specs.Writing.{MovedOn}

-- at first cs, and ds where the children of x up to a are listed: what was ready from level e on,
-- for x and nodes after it, is ready for the children after a
abbrev pub Along : List ℕ → ℕ → ℕ → List ℕ → List ℕ → ℕ → Type 0
Along bytes x e cs ds a = (y : ℕ) → x < y → CursorsReady (below bytes) (drop e cs) (ones_before_in bytes x) (ones_before_in bytes y) → CursorsReady (below bytes) (drop e ds) a (ones_before_in bytes y)

module _ (bytes : List ℕ) (i : Layout) (found : checked bytes ≡ Ok i) (x e : ℕ) (cs ds : List ℕ) (a : ℕ) (more : a < ones_before_in bytes (x + 1)) (along : Along bytes x e cs ds a) where
  -- level e has a cursor, at the child before the next one, and the levels below it are ready for
  -- that one
  pub next_child : CursorsReady (below bytes) (drop e cs) (ones_before_in bytes x) (ones_before_in bytes (x + 1))
      → (e < length ds) × (get_or ds e 0 ≡ a) × CursorsReady (below bytes) (drop (suc e) (set ds e (a + 1))) (ones_before_in bytes (a + 1)) (ones_before_in bytes (a + 1 + 1))
  next_child ready =
      let r = ready-some (below bytes) ds e a (ones_before_in bytes (x + 1)) more (along (x + 1) (omega arith) ready) in
      let fewer =
      ready_fewer (below bytes) (λ p q g. ones_before_in_upto bytes i found (p + 1) (q + 1) (omega arith)) (drop (suc e) ds) (below bytes a) (below bytes (a + 1))
      (below bytes (ones_before_in bytes (x + 1))) (ones_before_in_upto bytes i found (a + 1 + 1) (ones_before_in bytes (x + 1) + 1) (omega arith)) r.2 in
      (r.0, r.1, subst (λ l. CursorsReady (below bytes) l (ones_before_in bytes (a + 1)) (ones_before_in bytes (a + 1 + 1))) (sym (drop-set-lt (suc e) ds e (a + 1) (omega arith))) fewer)

  -- once that one is listed too
  pub along_more : (ds' : List ℕ) → e < length ds → e < length ds' → take (suc e) ds' ≡ take (suc e) (set ds e (a + 1))
      → MovedOn bytes (a + 1) (drop (suc e) (set ds e (a + 1))) (drop (suc e) ds') → Along bytes x e cs ds' (a + 1)
  along_more ds' h h' above moved y g r =
      let s = ready-some (below bytes) ds e a (ones_before_in bytes y) (omega (arith, ones_before_in_upto bytes i found (x + 1) y (omega arith))) (along y g r) in
      let here : get_or ds' e 0 ≡ a + 1 =
      sym (get_or-take (suc e) ds' e 0 (omega arith)) ∙ ap (λ l. get_or l e 0) above ∙ get_or-take (suc e) (set ds e (a + 1)) e 0 (omega arith) ∙ get_or-set_same ds e (a + 1) 0 h in
      ready-from (below bytes) ds' e (a + 1) (ones_before_in bytes y) h' here
      (moved (ones_before_in bytes y + 1) (omega (arith, ones_before_in_upto bytes i found (x + 1) y (omega arith)))
      (subst (λ l. CursorsReady (below bytes) l (below bytes a) (below bytes (ones_before_in bytes y))) (sym (drop-set-lt (suc e) ds e (a + 1) (omega arith))) s.2))

-- the cursors above level e stay
pub above_stay : (ds ds' : List ℕ) (e v : ℕ) → take (suc e) ds' ≡ take (suc e) (set ds e v) → take e ds' ≡ take e ds
above_stay ds ds' e v q =
    sym (take-take e (suc e) ds' (omega arith)) ∙ ap (take e) q ∙ take-take e (suc e) (set ds e v) (omega arith) ∙ take-set-le e ds e v (omega arith)

-- node x is listed first, and the others of its level are none
pub ready-below : (bytes : List ℕ) (x : ℕ) (cs : List ℕ) → 1 ≤ x → CursorsReady (below bytes) cs (x - 1) x
    → CursorsReady (below bytes) (drop 1 cs) (ones_before_in bytes x) (ones_before_in bytes (x + 1))
ready-below bytes x cs h r =
    subst (λ k. CursorsReady (below bytes) (drop 1 cs) (ones_before_in bytes k) (ones_before_in bytes (x + 1))) (let e : x - 1 + 1 ≡ x = omega arith in e)
    (ready-some (below bytes) cs 0 (x - 1) x (omega arith) r).2
