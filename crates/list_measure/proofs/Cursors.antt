-- Cursors that are ready: at a level with a node the cursor is the number before its first one, and
-- those of the levels below are ready for its nodes' children.
use mathlib.Core.Path.{◌≡◌, refl, sym, ap, ◌∙◌, subst, subst₂}
use mathlib.Core.List.{List, [], ◌∷◌, ◌++◌, append_assoc}
use Prim.Native.Nat.{ℕ, zero, suc, ◌+◌, ◌≤◌, ◌<◌}
use native.Mathlib.Numerals.{add-one}
use native.Mathlib.Omega.{arith}
use lib.ListN.{length, get_or, set, take, drop, take-append-drop}
use lib.Seq.{take-suc-set}
use Rattle.list_measure.specs.Cursors.{CursorsReady}

module _ (next : ℕ → ℕ) where
  -- where no node is left, any are
  ready-none : (cs : List ℕ) (a z : ℕ) → z ≤ a → CursorsReady next cs a z
  unfolding CursorsReady
  ready-none [] a z h = h
  ready-none (c ∷ cs) a z h = λ g. absurd (omega arith)

  -- ---- the cursors from level e on

  pub ready-some : (cs : List ℕ) (e a z : ℕ) → a < z → CursorsReady next (drop e cs) a z
      → (e < length cs) × (get_or cs e 0 ≡ a) × CursorsReady next (drop (suc e) cs) (next a) (next z)
  unfolding CursorsReady
  ready-some [] zero a z h r = absurd (omega arith)
  ready-some [] (suc e) a z h r = absurd (omega arith)
  ready-some (c ∷ cs) zero a z h r = (omega arith, (r h).0, (r h).1)
  ready-some (c ∷ cs) (suc e) a z h r = let s = ready-some cs e a z h r in (omega arith, s.1, s.2)

  pub ready-from : (cs : List ℕ) (e a z : ℕ) → e < length cs → get_or cs e 0 ≡ a → CursorsReady next (drop (suc e) cs) (next a) (next z) → CursorsReady next (drop e cs) a z
  unfolding CursorsReady
  ready-from [] e a z h q r = absurd (omega arith)
  ready-from (c ∷ cs) zero a z h q r = λ g. (q, r)
  ready-from (c ∷ cs) (suc e) a z h q r = ready-from cs e a z (omega arith) q r

  -- fewer nodes
  pub ready_fewer : ((a z : ℕ) → a ≤ z → next a ≤ next z) → (cs : List ℕ) (a y z : ℕ) → y ≤ z → CursorsReady next cs a z → CursorsReady next cs a y
  unfolding CursorsReady
  ready_fewer mono [] a y z h r = omega arith
  ready_fewer mono (c ∷ cs) a y z h r = λ g. let s = r (omega arith) in (s.0, ready_fewer mono cs (next a) (next y) (next z) (mono y z h) s.1)

  -- ---- found level by level, the first d of them

  abbrev pub Found : List ℕ → ℕ → ℕ → ℕ → ℕ → ℕ → Type 0
  Found cs d a z first last = (rest : List ℕ) → CursorsReady next rest a z → CursorsReady next (take d cs ++ rest) first last

  pub found_more : (cs : List ℕ) (d a z below-a below-z first last : ℕ) → d < length cs → below-a ≡ next a → below-z ≡ next z
      → Found cs d a z first last → Found (set cs d a) (d + 1) below-a below-z first last
  unfolding CursorsReady
  found_more cs d a z below-a below-z first last h e g f rest r =
      let front : take (d + 1) (set cs d a) ++ rest ≡ take d cs ++ (a ∷ rest) =
      ap (λ k. take k (set cs d a) ++ rest) (add-one d) ∙ ap (λ l. l ++ rest) (take-suc-set cs d a h) ∙ append_assoc (take d cs) (a ∷ []) rest in
      subst (λ l. CursorsReady next l first last) (sym front) (f (a ∷ rest) (λ some. (refl, subst₂ (CursorsReady next rest) e g r)))

  pub found_all : (cs : List ℕ) (d a z first last : ℕ) → z ≤ a → Found cs d a z first last → CursorsReady next cs first last
  found_all cs d a z first last h f = subst (λ l. CursorsReady next l first last) (take-append-drop d cs) (f (drop d cs) (ready-none (drop d cs) a z h))
