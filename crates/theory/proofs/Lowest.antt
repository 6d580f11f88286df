-- `bad_entry` is 0 exactly for a parent list, and else the lowest entry that breaks the rule.
use mathlib.Core.Path.{◌≡◌, refl, sym, ap, ap₂, ◌∙◌, subst}
use mathlib.Core.Logic.{◌⊎◌, inl, inr}
use mathlib.Core.Bool.{Bool, true, false, cond, ◌&&◌}
use mathlib.Core.List.{List, [], ◌∷◌}
use lib.ListN.{drop_of_length-le}
use Prim.Native.Nat.{ℕ, zero, suc, ◌+◌, ◌≤◌, ◌<◌}
use native.Mathlib.Omega.{arith}
use lib.Dec.{leb, eqb}
use lib.ListN.{length, get_or, drop}
use lib.Seq.{drop-cons}
use native.Mathlib.Numerals.{add-one}
use borrow.Author.Tests.{leb-true, eqb-true, eqb-false, le-leb, lt-leb, eq-eqb, ne_eqb}
use Rattle.meaning.specs.Parents.{IsParents, Rule, Lowest, bad_from, bad_entry}
use Rattle.theory.proofs.Parents.{Later, Said, later_rule, before-first}

-- the test of an entry, and what it says
abbrev fits : ℕ → ℕ → ℕ → Bool
fits i lo p = leb lo p && leb p i

both : (a b : Bool) → a && b ≡ true → (a ≡ true) × (b ≡ true)
both true true e = (refl, refl)
both true false e = absurd (let z : ◌≡◌ {A = ℕ} 0 1 = cc in omega arith)
both false b e = absurd (let z : ◌≡◌ {A = ℕ} 0 1 = cc in omega arith)

fits_yes : (i lo p : ℕ) → fits i lo p ≡ true → (lo ≤ p) × (p ≤ i)
fits_yes i lo p e = let r = both (leb lo p) (leb p i) e in (leb-true lo p r.0, leb-true p i r.1)

yes_fits : (i lo p : ℕ) → lo ≤ p → p ≤ i → fits i lo p ≡ true
yes_fits i lo p h l = ap₂ ◌&&◌ (le-leb lo p h) (le-leb p i l)

record Stops (i lo : ℕ) (ps : List ℕ) (r : ℕ) : Type 0 where
  passed : ℕ
  is : r ≡ suc (i + passed)
  within : passed < length ps
  before : (k : ℕ) → k < passed → Said i lo ps k
  here : Said i lo ps passed → ⊥

abbrev Verdict : ℕ → ℕ → List ℕ → ℕ → Type 0
Verdict i lo ps r = ((r ≡ 0) × Later i lo ps) ⊎ Stops i lo ps r

go_on : (i lo p r : ℕ) (ps : List ℕ) → lo ≤ p → p ≤ i → Verdict (suc i) p ps r → Verdict i lo (p ∷ ps) r
go_on i lo p r ps h l (inl v) = inl (v.0, (h, l, v.1))
go_on i lo p r ps h l (inr v) = inr (record {
  passed = suc v.passed;
  is = omega (arith, v.is);
  within = omega (arith, v.within);
  before = prior;
  here = λ s. v.here (s.0, omega (arith, s.1));
})
  where
    prior : (k : ℕ) → k < suc v.passed → Said i lo (p ∷ ps) k
    prior zero g = (h, omega arith)
    prior (suc k) g = let s = v.before k (omega arith) in (s.0, omega (arith, s.1))

verdict : (ps : List ℕ) (i lo : ℕ) → Verdict i lo ps (bad_from ps i lo)
unfolding bad_from
verdict [] i lo = inl (refl, tt)
verdict (p ∷ ps) i lo = go (fits i lo p) refl (verdict ps (suc i) p)
  where
    go : (b : Bool) → fits i lo p ≡ b → Verdict (suc i) p ps (bad_from ps (suc i) p) → Verdict i lo (p ∷ ps) (cond (fits i lo p) (bad_from ps (suc i) p) (suc i))
    go true e v =
        let y = fits_yes i lo p e in
        subst (λ c. Verdict i lo (p ∷ ps) (cond c (bad_from ps (suc i) p) (suc i))) (sym e) (go_on i lo p _ ps y.0 y.1 v)
    go false e v =
        subst (λ c. Verdict i lo (p ∷ ps) (cond c (bad_from ps (suc i) p) (suc i))) (sym e) (inr (record {
          passed = 0;
          is = omega arith;
          within = omega arith;
          before = λ k g. absurd (omega arith);
          here = λ s. absurd (let y : true ≡ false = sym (yes_fits i lo p s.0 (omega (arith, s.1))) ∙ e in let z : ◌≡◌ {A = ℕ} 0 1 = cc in omega arith);
        }))

-- ---- from the entries after the first to the whole list

said_pos : (qs : List ℕ) (k : ℕ) → ((m : ℕ) → m ≤ k → Said 1 1 qs m) → 1 ≤ get_or qs k 0
said_pos qs zero h = (h 0 (omega arith)).0
said_pos qs (suc k) h = omega (arith, (h (suc k) (omega arith)).0, said_pos qs k (λ m l. h m (omega arith)))

said_rule : (qs : List ℕ) (k : ℕ) → ((m : ℕ) → m ≤ k → Said 1 1 qs m) → Rule (0 ∷ qs) (suc (suc k))
said_rule qs k h =
    let s = h k (omega arith) in
    (said_pos qs k h, omega (arith, s.1), omega (arith, s.0, before-first 0 1 k qs (omega arith)))

rule_said : (qs : List ℕ) (k : ℕ) → Rule (0 ∷ qs) (suc (suc k)) → Said 1 1 qs k
rule_said qs zero r = (r.0, omega (arith, r.1))
rule_said qs (suc k) r = (r.2, omega (arith, r.1))

stops_lowest : (qs : List ℕ) (r : ℕ) → Stops 1 1 qs r → Lowest (0 ∷ qs) r
stops_lowest qs r s =
    let e : r ≡ suc (suc s.passed) = omega (arith, s.is) in
    record {
      from = omega arith;
      to = omega (arith, s.within);
      before = prior;
      here = λ h. s.here (rule_said qs s.passed (subst (Rule (0 ∷ qs)) e h));
    }
  where
    prior : (i : ℕ) → 1 ≤ i → i < r → Rule (0 ∷ qs) i
    prior zero g l = tt
    prior (suc zero) g l = refl
    prior (suc (suc k)) g l = said_rule qs k (λ m f. s.before m (omega (arith, s.is)))

-- what `bad_entry` says of a list that is not empty
abbrev Decides : List ℕ → ℕ → Type 0
Decides ps r = ((r ≡ 0) × IsParents ps) ⊎ Lowest ps r

decides_zero : (qs : List ℕ) (r : ℕ) → Verdict 1 1 qs r → Decides (0 ∷ qs) r
decides_zero qs r (inl v) = inl (v.0, record { some = omega arith; rule = later_rule qs v.1 })
decides_zero qs r (inr v) = inr (stops_lowest qs r v)

says : (p : ℕ) (qs : List ℕ) → Decides (p ∷ qs) (bad_entry (p ∷ qs))
unfolding bad_entry
says p qs = go (eqb p 0) refl
  where
    go : (b : Bool) → eqb p 0 ≡ b → Decides (p ∷ qs) (cond (eqb p 0) (bad_from qs 1 1) 1)
    go true e =
        subst (λ c. Decides (p ∷ qs) (cond c (bad_from qs 1 1) 1)) (sym e)
        (subst (λ q. Decides (q ∷ qs) (bad_from qs 1 1)) (sym (eqb-true p 0 e)) (decides_zero qs (bad_from qs 1 1) (verdict qs 1 1)))
    go false e =
        subst (λ c. Decides (p ∷ qs) (cond c (bad_from qs 1 1) 1)) (sym e)
        (inr (record { from = omega arith; to = omega arith; before = λ i g l. absurd (omega arith); here = eqb-false p 0 e }))

lowest-not : (ps : List ℕ) (r : ℕ) → Lowest ps r → IsParents ps → ⊥
lowest-not ps r l h = l.here (h.rule r l.from l.to)

pub bad_entry_is : (ps : List ℕ) → 1 ≤ length ps → ((bad_entry ps ≡ 0) × IsParents ps) ⊎ Lowest ps (bad_entry ps)
bad_entry_is [] h = absurd (omega arith)
bad_entry_is (p ∷ qs) h = says p qs

pub no_bad : (ps : List ℕ) → 1 ≤ length ps → bad_entry ps ≡ 0 → IsParents ps
no_bad ps h e = go (bad_entry_is ps h)
  where
    go : Decides ps (bad_entry ps) → IsParents ps
    go (inl v) = v.1
    go (inr v) = absurd (omega (arith, v.from))

pub parents-bad_entry : (ps : List ℕ) → IsParents ps → bad_entry ps ≡ 0
parents-bad_entry ps h = go (bad_entry_is ps h.some)
  where
    go : Decides ps (bad_entry ps) → bad_entry ps ≡ 0
    go (inl v) = v.0
    go (inr v) = absurd (lowest-not ps _ v h)

pub bad-within : (ps : List ℕ) → 1 ≤ length ps → bad_entry ps ≤ length ps
bad-within ps h = go (bad_entry_is ps h)
  where
    go : Decides ps (bad_entry ps) → bad_entry ps ≤ length ps
    go (inl v) = omega (arith, v.0)
    go (inr v) = v.to

-- ---- what a loop over the entries needs: the rest of the list at each index

and_false : (a b : Bool) → b ≡ false → a && b ≡ false
and_false true b e = e
and_false false b e = refl

module _ (ps : List ℕ) (i lo : ℕ) (l : i < length ps) where
  one_more : bad_from (drop i ps) i lo ≡ cond (fits i lo (get_or ps i 0)) (bad_from (drop (suc i) ps) (suc i) (get_or ps i 0)) (suc i)
  unfolding bad_from
  one_more = ap (λ r. bad_from r i lo) (drop-cons ps i 0 l)

  pub bad-low : get_or ps i 0 < lo → bad_from (drop i ps) i lo ≡ i + 1
  bad-low h = one_more ∙ ap (λ b. cond (b && leb (get_or ps i 0) i) (bad_from (drop (suc i) ps) (suc i) (get_or ps i 0)) (suc i)) (lt-leb lo (get_or ps i 0) h) ∙ omega arith

  pub bad_high : i < get_or ps i 0 → bad_from (drop i ps) i lo ≡ i + 1
  bad_high h =
      one_more ∙ ap (λ b. cond b (bad_from (drop (suc i) ps) (suc i) (get_or ps i 0)) (suc i)) (and_false (leb lo (get_or ps i 0)) _ (lt-leb (get_or ps i 0) i h)) ∙ omega arith

  pub bad-next : lo ≤ get_or ps i 0 → get_or ps i 0 ≤ i → bad_from (drop i ps) i lo ≡ bad_from (drop (i + 1) ps) (i + 1) (get_or ps i 0)
  bad-next h g =
      one_more ∙ ap (λ b. cond b (bad_from (drop (suc i) ps) (suc i) (get_or ps i 0)) (suc i)) (yes_fits i lo (get_or ps i 0) h g)
      ∙ ap (λ n. bad_from (drop n ps) n (get_or ps i 0)) (sym (add-one i))

pub bad-end : (ps : List ℕ) (i lo : ℕ) → length ps ≤ i → bad_from (drop i ps) i lo ≡ 0
unfolding bad_from
bad-end ps i lo h = ap (λ r. bad_from r i lo) (drop_of_length-le ps h)

pub bad-first : (ps : List ℕ) → 1 ≤ length ps → (get_or ps 0 0 ≡ 0 → ⊥) → bad_entry ps ≡ 1
unfolding bad_entry
bad-first [] h n = absurd (omega arith)
bad-first (p ∷ qs) h n = ap (λ b. cond b (bad_from qs 1 1) 1) (ne_eqb p 0 n)

pub bad-start : (ps : List ℕ) → 1 ≤ length ps → get_or ps 0 0 ≡ 0 → bad_entry ps ≡ bad_from (drop 1 ps) 1 1
unfolding bad_entry
bad-start [] h e = absurd (omega arith)
bad-start (p ∷ qs) h e = ap (λ b. cond b (bad_from qs 1 1) 1) (eq-eqb p 0 e)
