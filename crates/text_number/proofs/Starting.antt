-- The running sums of the nodes of each level are where the levels begin.
use mathlib.Core.Path.{◌≡◌, refl, sym, ap, ◌∙◌, subst}
use mathlib.Core.List.{List, [], ◌∷◌}
use Prim.Native.Nat.{ℕ, zero, suc, ◌+◌, ◌-◌, ◌≤◌, ◌<◌}
use native.Mathlib.Decide.{dec_lt, ℕ_discrete}
use native.Mathlib.Omega.{arith}
use lib.ListN.{length, get_or, set, replicate, length-set, length-replicate}
use lib.Seq.{get_or-set_same, get_or-set_other, set_out}
use Rattle.meaning.specs.Trees.{Tree, nodes}
use Rattle.meaning.specs.Strings.{Bit, O, I}
use Rattle.meaning.specs.Brackets.{brackets}
use Rattle.meaning.specs.Parents.{parents}
use Rattle.meaning.specs.Listing.{listing, deep}
use Rattle.theory.specs.Tables.{sum_to}
use Rattle.text_nesting.specs.Nesting.{tally}
use Rattle.text_walk.specs.Walk.{cursor, Walking, start, Started}
use Rattle.text_walk.proofs.Walk.{walk_start, walk_open, walk_close, walk_end}
use Rattle.text_levels.proofs.Depth.{start_most, start_upto, few-levels}

-- ---- the cursors of a walk move as the nodes of each level are counted

walked : (t : Tree) (bs : List Bit) (cs : List ℕ) (o : ℕ) → Walking t cs o bs → (o' : ℕ) × Walking t (tally bs o cs) o' []
unfolding tally
walked t [] cs o w = (o, w)
walked t (I ∷ bs) cs o w = walked t bs _ (suc o) (walk_open t cs o bs w).on
walked t (O ∷ bs) cs o w = walked t bs cs (o - 1) (walk_close t cs o bs w).1

-- ---- and as far whatever they were before

raised : (as' bs : List ℕ) (i e : ℕ) → length as' ≡ length bs
    → get_or (set as' i (get_or as' i 0 + 1)) e 0 + get_or bs e 0 ≡ get_or (set bs i (get_or bs i 0 + 1)) e 0 + get_or as' e 0
raised as' bs i e l = elim (ℕ_discrete e i) [
  | yes same ↦ subst (λ k. get_or (set as' i (get_or as' i 0 + 1)) k 0 + get_or bs k 0 ≡ get_or (set bs i (get_or bs i 0 + 1)) k 0 + get_or as' k 0) (sym same) (elim (dec_lt i (length as')) [
    | yes h ↦ omega (arith, get_or-set_same as' i (get_or as' i 0 + 1) 0 h, get_or-set_same bs i (get_or bs i 0 + 1) 0 (omega arith))
    | no h ↦ omega (arith, ap (λ xs. get_or xs i 0) (set_out as' i (get_or as' i 0 + 1) (omega arith)), ap (λ xs. get_or xs i 0) (set_out bs i (get_or bs i 0 + 1) (omega arith)))
  ])
  | no other ↦ omega (arith, get_or-set_other as' i e (get_or as' i 0 + 1) 0 other, get_or-set_other bs i e (get_or bs i 0 + 1) 0 other)
]

as_far : (ks : List Bit) (o : ℕ) (as' bs : List ℕ) (e : ℕ) → length as' ≡ length bs → get_or (tally ks o as') e 0 + get_or bs e 0 ≡ get_or (tally ks o bs) e 0 + get_or as' e 0
unfolding tally
as_far [] o as' bs e l = omega arith
as_far (O ∷ ks) o as' bs e l = as_far ks (o - 1) as' bs e l
as_far (I ∷ ks) o as' bs e l =
    let a = set as' (suc o) (get_or as' (suc o) 0 + 1) in
    let b = set bs (suc o) (get_or bs (suc o) 0 + 1) in
    omega (arith, as_far ks (suc o) a b e (length-set as' (suc o) _ ∙ l ∙ sym (length-set bs (suc o) _)), raised as' bs (suc o) e l)

-- ---- cursors at the start of each level

-- the numbers f i, f (i + 1) and so on, k of them
numbers : (ℕ → ℕ) → ℕ → ℕ → List ℕ
numbers f i zero = []
numbers f i (suc k) = f i ∷ numbers f (suc i) k

numbers-length : (f : ℕ → ℕ) (i k : ℕ) → length (numbers f i k) ≡ k
unfolding numbers
numbers-length f i zero = refl
numbers-length f i (suc k) = ap suc (numbers-length f (suc i) k)

numbers-at : (f : ℕ → ℕ) (i k j : ℕ) → j < k → get_or (numbers f i k) j 0 ≡ f (i + j)
unfolding numbers
numbers-at f i zero j h = absurd (omega arith)
numbers-at f i (suc k) zero h = ap f (let e : i ≡ i + 0 = omega arith in e)
numbers-at f i (suc k) (suc j) h = numbers-at f (suc i) k j (omega arith) ∙ ap f (let e : suc i + j ≡ i + suc j = omega arith in e)

pub zeros-at : (k e : ℕ) → ◌≡◌ {A = ℕ} (get_or (replicate k 0) e 0) 0
zeros-at zero e = refl
zeros-at (suc k) zero = refl
zeros-at (suc k) (suc e) = zeros-at k e

module _ (t : Tree) (shallow : deep (listing 65 (parents t) 1 0) ≡ 0) where
  abbrev starts : List ℕ
  starts = 0 ∷ numbers (start t) 0 65

  begin : Started t starts
  begin = record {
    count = ap suc (numbers-length (start t) 0 65);
    base = refl;
    each = λ e h. numbers-at (start t) 0 65 e (omega arith) ∙ ap (start t) (let q : 0 + e ≡ e = omega arith in q);
    last = few-levels t shallow;
  }

  abbrev counts : List ℕ
  counts = tally (brackets t) 0 (replicate 66 0)

  ended : (o : ℕ) × Walking t (tally (brackets t) 0 starts) o []
  ended = walked t (brackets t) starts 0 (walk_start t starts begin)

  moved : (e : ℕ) → cursor (tally (brackets t) 0 starts) e ≡ get_or counts e 0 + get_or starts e 0
  moved e = omega (arith, as_far (brackets t) 0 starts (replicate 66 0) e (begin.count ∙ sym (length-replicate {A = ℕ} 66 0)), zeros-at 66 e)

  -- level e + 1 has the nodes from where it begins to where the next one begins
  counted : (e : ℕ) → e ≤ 64 → start t (suc e) ≡ get_or counts (suc e) 0 + start t e
  counted e h = omega (arith, walk_end t (tally (brackets t) 0 starts) ended.0 ended.1 e h, moved (suc e), begin.each e h)

  summed : (e : ℕ) → e ≤ 65 → sum_to counts (suc e) ≡ start t e
  unfolding sum_to start
  summed zero h = omega (arith, moved 0, ended.1.base)
  summed (suc e) h = omega (arith, summed e (omega arith), counted e (omega arith))

  -- the running sums are the cursors at the start, and all of them the nodes
  pub started : (levels : List ℕ) → length levels ≡ 66 → ((e : ℕ) → e < 66 → get_or levels e 0 ≡ sum_to counts e) → Started t levels
  unfolding sum_to
  started levels size at = record {
    count = size;
    base = at 0 (omega arith);
    each = λ e h. at (suc e) (omega arith) ∙ summed e (omega arith);
    last = few-levels t shallow;
  }

  pub all-nodes : sum_to counts 66 ≡ nodes t
  all-nodes = omega (arith, summed 65 (omega arith), few-levels t shallow, start_upto t 64 1, start_most t 65)
