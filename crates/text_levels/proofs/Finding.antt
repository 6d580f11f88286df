-- The cursors that are found on the way along a parent list.
use mathlib.Core.Path.{◌≡◌, sym, ap, ◌∙◌, subst}
use mathlib.Core.List.{List}
use Prim.Native.Nat.{ℕ, suc, ◌+◌, ◌-◌, ◌≤◌, ◌<◌}
use native.Mathlib.Decide.{dec_lt, ℕ_discrete}
use native.Mathlib.Omega.{arith}
use lib.ListN.{length, get_or, set, length-set}
use lib.Seq.{get_or-set_same, get_or-set_other}
use Rattle.meaning.specs.Trees.{Tree, nodes}
use Rattle.meaning.specs.Parents.{parents, entry}
use Rattle.meaning.specs.Listing.{listing, deep}
use Rattle.std.specs.Prelude.{Some, None}
use Rattle.theory.specs.Places.{place_of}
use Rattle.theory.proofs.Places.{place_of-none, place_of-some}
use Rattle.text_walk.specs.Walk.{low, start, Started}
use Rattle.text_walk.proofs.Walk.{low_upto, placed}
use Rattle.text_levels.proofs.Depth.{above, start_most, start_upto, too_deep_lem, not-deep}

-- node i is at this level, whose first node comes after number `before`; the levels so far have
-- their cursors, and the others n
pub record Finding (t : Tree) (levels : List ℕ) (level before i : ℕ) : Type 0 where
  pub count : length levels ≡ 66
  pub base : get_or levels 0 0 ≡ 0
  pub here : (e : ℕ) → suc e ≡ level → before ≡ start t e
  pub upto : i ≤ low t (suc before)
  pub each : (e : ℕ) → e < level → get_or levels (suc e) 0 ≡ start t e
  pub none : (e : ℕ) → level < e → e < 66 → get_or levels e 0 ≡ nodes t

module _ (t : Tree) where
  pub finding_start : (levels : List ℕ) → length levels ≡ 66 → ((e : ℕ) → e < 66 → get_or levels e 0 ≡ nodes t) → Finding t (set (set levels 0 0) 1 0) 1 0 0
  unfolding start
  finding_start levels size all = record {
    count = simp length-set size;
    base = get_or-set_other (set levels 0 0) 1 0 0 0 (λ e. absurd (omega arith)) ∙ get_or-set_same levels 0 0 0 (omega arith);
    here = λ e h. sym (ap (start t) (let q : e ≡ 0 = omega arith in q));
    upto = omega arith;
    each = λ e h. subst (λ k. get_or (set (set levels 0 0) 1 0) (suc k) 0 ≡ start t k) (let q : 0 ≡ e = omega arith in q)
        (get_or-set_same (set levels 0 0) 1 0 0 (omega (arith, length-set levels 0 0)));
    none = λ e g h. get_or-set_other (set levels 0 0) 1 e 0 0 (λ q. absurd (omega arith)) ∙ get_or-set_other levels 0 e 0 0 (λ q. absurd (omega arith)) ∙ all e h;
  }

  module _ (levels : List ℕ) (level before i : ℕ) (f : Finding t levels level before i) (some : 1 ≤ level) where
    next_start : low t (suc before) ≡ start t level
    unfolding start
    next_start =
        ap (λ b. low t (suc b)) (f.here (level - 1) (omega arith)) ∙ ap (start t) (let q : suc (level - 1) ≡ level = omega arith in q)

    -- the same level
    pub finding_on : i < nodes t → entry (parents t) (suc i) ≤ before → Finding t levels level before (i + 1)
    finding_on h l = record {
      count = f.count;
      base = f.base;
      here = f.here;
      upto = omega (arith, (placed t i h).1, low_upto t (suc (entry (parents t) (suc i))) (suc before) (omega arith));
      each = f.each;
      none = f.none;
    }

    module _ (h : i < nodes t) (new : before < entry (parents t) (suc i)) where
      begins : i ≡ start t level
      begins = omega (arith, f.upto, next_start, (placed t i h).0, low_upto t (suc before) (entry (parents t) (suc i)) (omega arith))

      -- a 65th one
      pub finding_deep : level ≡ 64 → Some (i + 1) ≡ place_of (deep (listing 65 (parents t) 1 0))
      finding_deep e =
          let q = begins ∙ ap (start t) e in
          let d : i + 1 ≡ deep (listing 65 (parents t) 1 0) = omega (arith, q, too_deep_lem t (omega (arith, q))) in
          ap (λ p. Some p) d ∙ sym (place_of-some _ (omega arith))

      -- the next one
      pub finding_next : level < 65 → Finding t (set levels (level + 1) i) (level + 1) i (i + 1)
      finding_next l = record {
        count = simp length-set f.count;
        base = get_or-set_other levels (level + 1) 0 i 0 (λ q. absurd (omega arith)) ∙ f.base;
        here = λ e q. begins ∙ ap (start t) (let r : level ≡ e = omega arith in r);
        upto = omega (arith, above t i h);
        each = λ e g. elim (ℕ_discrete e level) [
          | yes same ↦
              ap (λ k. get_or (set levels (level + 1) i) k 0) (let r : suc e ≡ level + 1 = omega arith in r)
              ∙ get_or-set_same levels (level + 1) i 0 (omega (arith, f.count)) ∙ begins ∙ ap (start t) (sym same)
          | no other ↦ get_or-set_other levels (level + 1) (suc e) i 0 (λ q. other (omega arith)) ∙ f.each e (lower e other g)
        ];
        none = λ e g k. get_or-set_other levels (level + 1) e i 0 (λ q. absurd (omega arith)) ∙ f.none e (omega arith) k;
      }
        where
          lower : (e : ℕ) → (e ≡ level → ⊥) → e < level + 1 → e < level
          lower e d g = elim (dec_lt e level) [
            | yes l ↦ l
            | no l ↦ absurd (d (omega arith))
          ]

    -- the end of the list
    module _ (all : nodes t ≤ i) (few : level ≤ 64) where
      over : (e : ℕ) → level ≤ e → nodes t ≤ start t e
      over e l = omega (arith, f.upto, next_start, start_upto t level (e - level), ap (start t) (let q : level + (e - level) ≡ e = omega arith in q))

      pub finding_end : Started t levels
      finding_end = record {
        count = f.count;
        base = f.base;
        each = λ e l. elim (dec_lt e level) [
          | yes g ↦ f.each e g
          | no g ↦ omega (arith, f.none (suc e) (omega arith) (omega arith), over e (omega arith), start_most t e)
        ];
        last = over 64 few;
      }

      pub finding_fits : None ≡ place_of (deep (listing 65 (parents t) 1 0))
      finding_fits = sym (place_of-none _ (sym (not-deep t (over 64 few))))
