-- What the code of an answer tells of the rows that it was settled by: which did not hold, and
-- which did.
use Rattle.std.specs.Prelude.{Err}
use mathlib.Core.Path.{◌≡◌, refl, sym, ap, ◌∙◌}
use mathlib.Core.Bool.{Bool, true, false, true≢false, not, ◌||◌}
use mathlib.Core.List.{List, [], ◌∷◌, ◌++◌}
use Prim.Native.Nat.{ℕ, ◌≤◌}
use native.Mathlib.Omega.{arith}
use borrow.Author.Tests.{not-false, eqb-true, ltb-false}
use lib.Dec.{ltb, eqb}
use lib.ListN.{length}
use Rattle.meaning.specs.Trees.{Tree, nodes}
use Rattle.meaning.specs.Parents.{parents, bad_entry}
use Rattle.meaning.specs.declared.Answer.{Answer}
use Rattle.meaning.specs.declared.Refusal.{Refusal}
use Rattle.meaning.specs.Answers.{Row, refused_with, came_to, first_holding, settle}
use Rattle.meaning.specs.Tests.{outside, wrong_count, check_rows}
use Rattle.theory.specs.Rows.{NoneHolds}
use Rattle.theory.proofs.Settled.{refusal_of, clash, first-none, first-here, first_on, settle-here, settle_on, settle-none}
use Rattle.theory.proofs.Parents.{are_parents}
use Rattle.theory.proofs.Lowest.{no_bad}
use Rattle.theory.proofs.Forms.{length-parents}

-- ---- tests, read back

pub neither : (s t : Bool) → (s || t) ≡ false → (s ≡ false) × (t ≡ false)
neither true t e = absurd (true≢false e)
neither false t e = (refl, e)

pub not_unequal : (x y : ℕ) → not (eqb x y) ≡ false → x ≡ y
not_unequal x y e = eqb-true x y (not-false (eqb x y) e)

pub not-outside : (low high x : ℕ) → outside low high x ≡ false → (low ≤ x) × (x ≤ high)
not-outside low high x e = let n = neither (ltb x low) (ltb high x) e in (ltb-false x low n.0, ltb-false high x n.1)

-- a list that neither its count nor an entry refuses is some tree's
pub listed-tree : (ps : List ℕ) → wrong_count ps ≡ false → ltb 0 (bad_entry ps) ≡ false → (t : Tree) × (nodes t ≤ 65535) × (parents t ≡ ps)
listed-tree ps c b =
    let size = not-outside 1 65535 (length ps) c in
    let w = are_parents ps (no_bad ps size.0 (let l = ltb-false 0 (bad_entry ps) b in omega arith)) in
    (w.0, omega (arith, size.1, length-parents w.0, ap length w.1), w.1)

-- ---- rows

-- every row has another code than c
abbrev pub Others : ℕ → List Row → Type 0
Others c [] = Unit
Others c (r ∷ rs) = (r.code ≡ c → ⊥) × Others c rs

-- no row of the check has code 0
pub check_refuses : (bytes : List ℕ) (w : Bool) (rest : List Row) → Others 0 rest → Others 0 (check_rows bytes w ++ rest)
unfolding check_rows
check_refuses bytes w rest o = (omega arith, (omega arith, (omega arith, (omega arith, (omega arith, (omega arith, (omega arith, o)))))))

-- a code that no row has is no refusal's
pub first-other : (c : ℕ) (rows : List Row) → Others c rows → {x : Refusal} → first_holding rows ≡ Err x → x.code ≡ c → ⊥
first-other c [] o e z = clash (sym e ∙ first-none)
first-other c (r ∷ rs) o {x} e z = go r.holds refl (λ f. first-other c rs o.1 (sym (first_on r rs f) ∙ e) z)
  where
    go : (b : Bool) → r.holds ≡ b → (r.holds ≡ false → ⊥) → ⊥
    go true f later =
        let q : Err x ≡ Err (refusal_of r) = sym e ∙ first-here r rs f in
        let same : x ≡ refusal_of r = cc in
        o.0 (sym (ap (λ y. y.code) same) ∙ z)
    go false f later = later f

module _ {A : Type 0} (before : A) (a : Answer) (after : A) (c : ℕ) where
  -- a row of another code did not hold, and those below it gave the code
  passed : (r : Row) (rs : List Row) → (r.code ≡ c → ⊥) → (settle before (r ∷ rs) a after).answer.code ≡ c
      → (r.holds ≡ false) × ((settle before rs a after).answer.code ≡ c)
  passed r rs d e = go r.holds refl
    where
      go : (b : Bool) → r.holds ≡ b → (r.holds ≡ false) × ((settle before rs a after).answer.code ≡ c)
      go true f = absurd (d (ap (λ o. o.answer.code) (sym (settle-here before a after r rs f)) ∙ e))
      go false f = (f, ap (λ o. o.answer.code) (sym (settle_on before a after r rs f)) ∙ e)

  -- a code that no row has is given where none holds
  pub none-held : (rows : List Row) → Others c rows → (settle before rows a after).answer.code ≡ c → NoneHolds rows × (a.code ≡ c)
  none-held [] o e = (tt, ap (λ r. r.answer.code) (sym (settle-none before a after)) ∙ e)
  none-held (r ∷ rs) o e =
      let p = passed r rs o.0 e in
      let q = none-held rs o.1 p.1 in
      ((p.0, q.0), q.1)

  -- rows above the one that gave the code do not hold
  pub upper-none : (upper rest : List Row) → Others c upper → (settle before (upper ++ rest) a after).answer.code ≡ c → NoneHolds upper
  upper-none [] rest o e = tt
  upper-none (r ∷ rs) rest o e = let p = passed r (rs ++ rest) o.0 e in (p.0, upper-none rs rest o.1 p.1)

  -- a code that one row has, and the result has not, is given with that row's place, where that row
  -- holds
  pub row_held : (upper : List Row) (row : Row) (lower : List Row) → Others c upper → Others c lower → (a.code ≡ c → ⊥)
      → (settle before (upper ++ row ∷ lower) a after).answer.code ≡ c
      → (row.holds ≡ true) × ((settle before (upper ++ row ∷ lower) a after).answer.place ≡ row.place)
  row_held [] row lower o l n e = go row.holds refl
    where
      go : (b : Bool) → row.holds ≡ b → (row.holds ≡ true) × ((settle before (row ∷ lower) a after).answer.place ≡ row.place)
      go true f = (f, ap (λ r. r.answer.place) (settle-here before a after row lower f))
      go false f = absurd (n (none-held lower l (ap (λ r. r.answer.code) (sym (settle_on before a after row lower f)) ∙ e)).1)
  row_held (r ∷ rs) row lower o l n e =
      let p = passed r (rs ++ row ∷ lower) o.0 e in
      let q = row_held rs row lower o.1 l n p.1 in
      (q.0, ap (λ r. r.answer.place) (settle_on before a after r (rs ++ row ∷ lower) p.0) ∙ q.1)

-- the first row that holds
pub settle-first : {A : Type 0} (before : A) (a : Answer) (after : A) (upper : List Row) (row : Row) (lower : List Row) → NoneHolds upper → row.holds ≡ true
    → settle before (upper ++ row ∷ lower) a after ≡ came_to (refused_with row.code row.place) before
settle-first before a after [] row lower n h = settle-here before a after row lower h
settle-first before a after (r ∷ rs) row lower n h = settle_on before a after r (rs ++ row ∷ lower) n.0 ∙ settle-first before a after rs row lower n.1 h
