-- T4 with the limit, T6: the reading accepts exactly the strings of trees, and names the first
-- place that begins none.
use mathlib.Core.Path.{◌≡◌, refl, sym, ap, ◌∙◌, subst}
use mathlib.Core.Logic.{◌⊎◌, inl, inr}
use mathlib.Core.Option.{Option, none, some}
use mathlib.Core.List.{List, [], ◌∷◌, ◌++◌}
use Prim.Native.Nat.{ℕ, zero, suc, ◌+◌, ◌≤◌, ◌<◌}
use native.Mathlib.Nat.{add-zero, add-suc, suc-add}
use native.Mathlib.Omega.{arith}
use lib.ListN.{length, take, drop, replicate, length-map, take-append-drop}
use lib.Seq.{take-take}
use Rattle.meaning.specs.Trees.{Tree, degree_of, degrees, level_order, nodes}
use Rattle.meaning.specs.Strings.{Bit, O, I, unary, lbs, strings, ones}
use Rattle.meaning.specs.Scan.{Kind, one, many, Small, AsMany, Good, Begins, FirstNone, Place, State, closed, begun, inside, begin, step, at_end, refusal, place}
use Rattle.theory.proofs.Build.{Done, degrees-done}
use Rattle.theory.proofs.Bits.{Over, string_of_tree, tree_of_string}

-- ---- counts

sum : List ℕ → ℕ
sum [] = 0
sum (d ∷ ds) = d + sum ds

ones-run : (d : ℕ) (bs : List Bit) → ones (replicate d I ++ O ∷ bs) ≡ d + ones bs
ones-run zero bs = omega arith
ones-run (suc d) bs = omega (arith, ones-run d bs)

ones-unary : (ds : List ℕ) → ones (unary ds) ≡ sum ds
unfolding sum
ones-unary [] = refl
ones-unary (d ∷ ds) = ones-run d (unary ds) ∙ ap (λ r. d + r) (ones-unary ds)

done-length : (c : ℕ) (ds : List ℕ) → Done c ds → length ds ≡ c + sum ds
unfolding sum
done-length zero [] h = refl
done-length zero (d ∷ ds) h = absurd h
done-length (suc c) [] h = absurd h
done-length (suc c) (d ∷ ds) h = omega (arith, done-length (c + d) ds h)

-- a tree's string has as many ones as the tree has nodes
pub nodes-ones : (t : Tree) → nodes t ≡ ones (lbs t)
unfolding nodes lbs degrees
nodes-ones t =
    omega (arith, length-map (level_order t) degree_of, done-length 1 (degrees t) (degrees-done t), ones-unary (degrees t))

-- ---- the reading as a whole

abbrev run : Kind → List Bit → Option State → Option State
run kind [] o = o
run kind (b ∷ bs) none = none
run kind (b ∷ bs) (some s) = run kind bs (step kind s b)

-- may the bits end in this state?
abbrev Ends : Kind → State → Type 0
Ends many (closed k) = Unit
Ends one (closed zero) = ⊥
Ends one (closed (suc k)) = Unit
Ends kind (begun k) = ⊥
Ends kind (inside k p m) = ⊥

abbrev Ended : Kind → Option State → Type 0
Ended kind none = ⊥
Ended kind (some s) = Ends kind s

run_none : (kind : Kind) (bs : List Bit) → run kind bs none ≡ none
run_none kind [] = refl
run_none kind (b ∷ bs) = refl

run-append : (kind : Kind) (xs ys : List Bit) (o : Option State) → run kind (xs ++ ys) o ≡ run kind ys (run kind xs o)
run-append kind [] ys o = refl
run-append kind (x ∷ xs) ys none = sym (run_none kind ys)
run-append kind (x ∷ xs) ys (some s) = run-append kind xs ys (step kind s x)

-- ---- every state that is reached can end well

zeros-run : (kind : Kind) (k p m : ℕ) → run kind (replicate (suc p) O) (some (inside k p m)) ≡ some (closed (suc k))
zeros-run kind k zero m = refl
zeros-run kind k (suc p) m = zeros-run kind k p m

ends-suc : (kind : Kind) (k : ℕ) → Ends kind (closed (suc k))
ends-suc one k = tt
ends-suc many k = tt

can_end : (kind : Kind) (s : State) → (rest : List Bit) × Ended kind (run kind rest (some s))
can_end many (closed k) = ([], tt)
can_end one (closed zero) = (I ∷ O ∷ O ∷ [], tt)
can_end one (closed (suc k)) = ([], tt)
can_end kind (begun k) = (O ∷ O ∷ [], ends-suc kind k)
can_end kind (inside k p m) =
    (replicate (suc p) O, subst (Ended kind) (sym (zeros-run kind k p m)) (ends-suc kind k))

-- ---- what is accepted from each state

-- ts, with k trees before them, are as many as asked
abbrev More : Kind → ℕ → List Tree → Type 0
More many k ts = Unit
More one zero ts = length ts ≡ 1
More one (suc k) ts = length ts ≡ 0

record Closed (kind : Kind) (k : ℕ) (bs : List Bit) : Type 0 where
  trees : List Tree
  small : Small trees
  more : More kind k trees
  same : strings trees ≡ bs

record Begun (kind : Kind) (k : ℕ) (bs : List Bit) : Type 0 where
  tree : Tree
  trees : List Tree
  small : Small (tree ∷ trees)
  more : More kind (suc k) trees
  same : strings (tree ∷ trees) ≡ I ∷ bs

record Inside (kind : Kind) (k p m : ℕ) (bs : List Bit) : Type 0 where
  left : List Bit
  over : Over (suc p) left
  room : ones left ≤ m
  trees : List Tree
  small : Small trees
  more : More kind (suc k) trees
  same : left ++ strings trees ≡ bs

abbrev Means : Kind → State → List Bit → Type 0
Means kind (closed k) bs = Closed kind k bs
Means kind (begun k) bs = Begun kind k bs
Means kind (inside k p m) bs = Inside kind k p m bs

begun-one : (bs : List Bit) → Begun one 0 bs → Closed one 0 (I ∷ bs)
begun-one bs r = record { trees = r.tree ∷ r.trees; small = r.small; more = omega (arith, r.more); same = r.same }

begun_many : (k : ℕ) (bs : List Bit) → Begun many k bs → Closed many k (I ∷ bs)
begun_many k bs r = record { trees = r.tree ∷ r.trees; small = r.small; more = tt; same = r.same }

inside_begun : (kind : Kind) (k : ℕ) (bs : List Bit) → Inside kind k 0 65534 bs → Begun kind k (O ∷ bs)
inside_begun kind k bs r =
    let t = tree_of_string (I ∷ O ∷ r.left) r.over in
    record {
      tree = t.0;
      trees = r.trees;
      small = (omega (arith, nodes-ones t.0, ap ones t.1, r.room), r.small);
      more = r.more;
      same = ap (λ x. x ++ strings r.trees) t.1 ∙ ap (λ x. I ∷ O ∷ x) r.same;
    }

ended_no : (kind : Kind) (bs : List Bit) → Ended kind (run kind bs none) → ⊥
ended_no kind [] h = h
ended_no kind (b ∷ bs) h = h

sound : (kind : Kind) (bs : List Bit) (s : State) → Ended kind (run kind bs (some s)) → Means kind s bs
sound many [] (closed k) h = record { trees = []; small = tt; more = tt; same = refl }
sound one [] (closed zero) h = absurd h
sound one [] (closed (suc k)) h = record { trees = []; small = tt; more = refl; same = refl }
sound kind [] (begun k) h = absurd h
sound kind [] (inside k p m) h = absurd h
sound kind (O ∷ bs) (closed k) h = absurd (ended_no kind bs h)
sound many (I ∷ bs) (closed k) h = begun_many k bs (sound many bs (begun k) h)
sound one (I ∷ bs) (closed zero) h = begun-one bs (sound one bs (begun 0) h)
sound one (I ∷ bs) (closed (suc k)) h = absurd (ended_no one bs h)
sound kind (I ∷ bs) (begun k) h = absurd (ended_no kind bs h)
sound kind (O ∷ bs) (begun k) h = inside_begun kind k bs (sound kind bs (inside k 0 65534) h)
sound kind (I ∷ bs) (inside k p zero) h = absurd (ended_no kind bs h)
sound kind (I ∷ bs) (inside k p (suc m)) h =
    let r = sound kind bs (inside k (suc p) m) h in
    record { left = I ∷ r.left; over = r.over; room = omega (arith, r.room); trees = r.trees; small = r.small; more = r.more; same = ap (λ x. I ∷ x) r.same }
sound kind (O ∷ bs) (inside k zero m) h =
    let r = sound kind bs (closed (suc k)) h in
    record { left = O ∷ []; over = tt; room = omega arith; trees = r.trees; small = r.small; more = r.more; same = ap (λ x. O ∷ x) r.same }
sound kind (O ∷ bs) (inside k (suc p) m) h =
    let r = sound kind bs (inside k p m) h in
    record { left = O ∷ r.left; over = r.over; room = r.room; trees = r.trees; small = r.small; more = r.more; same = ap (λ x. O ∷ x) r.same }

pub accepted_good : (kind : Kind) (bs : List Bit) → Ended kind (run kind bs (some (closed 0))) → Good kind bs
accepted_good one bs h = let r = sound one bs (closed 0) h in record { trees = r.trees; small = r.small; as_many = r.more; same = r.same }
accepted_good many bs h = let r = sound many bs (closed 0) h in record { trees = r.trees; small = r.small; as_many = tt; same = r.same }

-- ---- and every list of trees is accepted

run-over : (kind : Kind) (xs ys : List Bit) (k p m : ℕ) → Over (suc p) xs → ones xs ≤ m
    → run kind (xs ++ ys) (some (inside k p m)) ≡ run kind ys (some (closed (suc k)))
run-over kind [] ys k p m h l = absurd h
run-over kind (I ∷ xs) ys k p zero h l = absurd (omega arith)
run-over kind (I ∷ xs) ys k p (suc m) h l = run-over kind xs ys k (suc p) m h (omega arith)
run-over kind (O ∷ []) ys k zero m h l = refl
run-over kind (O ∷ x ∷ xs) ys k zero m h l = absurd h
run-over kind (O ∷ xs) ys k (suc p) m h l = run-over kind xs ys k p m h l

run-tree : (kind : Kind) (t : Tree) (ys : List Bit) (k : ℕ) → nodes t ≤ 65535 → begin kind k ≡ some (begun k)
    → run kind (lbs t ++ ys) (some (closed k)) ≡ run kind ys (some (closed (suc k)))
unfolding lbs
run-tree kind t ys k l e =
    ap (run kind (O ∷ unary (degrees t) ++ ys)) e
    ∙ run-over kind (unary (degrees t)) ys k 0 65534 (string_of_tree t) (omega (arith, nodes-ones t))

run_many : (ts : List Tree) (k : ℕ) → Small ts → run many (strings ts) (some (closed k)) ≡ some (closed (k + length ts))
run_many [] k l = ap (λ n. some (closed n)) (sym (add-zero k))
run_many (t ∷ ts) k l =
    run-tree many t (strings ts) k l.0 refl ∙ run_many ts (suc k) l.1 ∙ ap (λ n. some (closed n)) (suc-add k (length ts) ∙ sym (add-suc k (length ts)))

run-one : (t : Tree) → nodes t ≤ 65535 → run one (lbs t ++ []) (some (closed 0)) ≡ some (closed 1)
run-one t l = run-tree one t [] 0 l refl

accept_trees : (kind : Kind) (ts : List Tree) → Small ts → AsMany kind ts → Ended kind (run kind (strings ts) (some (closed 0)))
accept_trees many ts l c = subst (Ended many) (sym (run_many ts 0 l)) tt
accept_trees one [] l c = absurd (omega arith)
accept_trees one (t ∷ []) l c = subst (Ended one) (sym (run-one t l.0)) tt
accept_trees one (t ∷ u ∷ ts) l c = absurd (omega arith)

pub good_accepted : (kind : Kind) (bs : List Bit) → Good kind bs → Ended kind (run kind bs (some (closed 0)))
good_accepted kind bs g = subst (λ x. Ended kind (run kind x (some (closed 0)))) g.same (accept_trees kind g.trees g.small g.as_many)

-- ---- bits that begin a good string are those that are read without a refusal

begins : (kind : Kind) (bs : List Bit) (s : State) → run kind bs (some (closed 0)) ≡ some s → Begins kind bs
begins kind bs s e =
    let c = can_end kind s in
    (c.0, accepted_good kind (bs ++ c.0) (subst (Ended kind) (sym (run-append kind bs c.0 (some (closed 0)) ∙ ap (run kind c.0) e)) c.1))

begins_not : (kind : Kind) (bs : List Bit) → run kind bs (some (closed 0)) ≡ none → Begins kind bs → ⊥
begins_not kind bs e b =
    ended_no kind b.0
    (subst (Ended kind) (run-append kind bs b.0 (some (closed 0)) ∙ ap (run kind b.0) e) (good_accepted kind (bs ++ b.0) b.1))

-- ---- the place

-- reading bs from s, j bits are taken and the next is refused, or there is none
record Refused (kind : Kind) (bs : List Bit) (s : State) (i r : ℕ) : Type 0 where
  taken : ℕ
  is : r ≡ suc (i + taken)
  within : taken ≤ length bs
  before : (q : ℕ) → q ≤ taken → (s' : State) × (run kind (take q bs) (some s) ≡ some s')
  here : taken < length bs → run kind (take (suc taken) bs) (some s) ≡ none
  ended : Ended kind (run kind bs (some s)) → ⊥

abbrev Verdict : Kind → List Bit → State → ℕ → ℕ → Type 0
Verdict kind bs s i r = ((r ≡ 0) × Ended kind (run kind bs (some s))) ⊎ Refused kind bs s i r

stop : (kind : Kind) (s : State) (i : ℕ) → (Ends kind s → ⊥) → Refused kind [] s i (suc i)
stop kind s i n = record {
  taken = 0;
  is = omega arith;
  within = omega arith;
  before = λ q l. (s, ap (λ m. run kind (take m []) (some s)) (let e : q ≡ 0 = omega arith in e));
  here = λ l. absurd (omega arith);
  ended = n;
}

stop_at : (kind : Kind) (b : Bit) (bs : List Bit) (s : State) (i : ℕ) → step kind s b ≡ none → Refused kind (b ∷ bs) s i (suc i)
stop_at kind b bs s i e = record {
  taken = 0;
  is = omega arith;
  within = omega arith;
  before = λ q l. (s, ap (λ m. run kind (take m (b ∷ bs)) (some s)) (let z : q ≡ 0 = omega arith in z));
  here = λ l. e;
  ended = λ h. ended_no kind bs (subst (λ o. Ended kind (run kind bs o)) e h);
}

go_on : (kind : Kind) (b : Bit) (bs : List Bit) (s s' : State) (i r : ℕ) → step kind s b ≡ some s' → Verdict kind bs s' (suc i) r → Verdict kind (b ∷ bs) s i r
go_on kind b bs s s' i r e (inl v) = inl (v.0, subst (λ o. Ended kind (run kind bs o)) (sym e) v.1)
go_on kind b bs s s' i r e (inr v) = inr (record {
  taken = suc v.taken;
  is = omega (arith, v.is);
  within = omega (arith, v.within);
  before = prior;
  here = λ l. ap (run kind (take (suc v.taken) bs)) e ∙ v.here (omega arith);
  ended = λ h. v.ended (subst (λ o. Ended kind (run kind bs o)) e h);
})
  where
    prior : (q : ℕ) → q ≤ suc v.taken → (s'' : State) × (run kind (take q (b ∷ bs)) (some s) ≡ some s'')
    prior zero l = (s, refl)
    prior (suc q) l = let w = v.before q (omega arith) in (w.0, ap (run kind (take q bs)) e ∙ w.1)

at-end : (kind : Kind) (s : State) (i : ℕ) → Verdict kind [] s i (at_end kind i s)
at-end many (closed k) i = inl (refl, tt)
at-end one (closed zero) i = inr (stop one (closed zero) i (λ h. h))
at-end one (closed (suc k)) i = inl (refl, tt)
at-end kind (begun k) i = inr (stop kind (begun k) i (λ h. h))
at-end kind (inside k p m) i = inr (stop kind (inside k p m) i (λ h. h))

pub refusal-none : (kind : Kind) (bs : List Bit) (i : ℕ) → refusal kind bs i none ≡ i
unfolding refusal
refusal-none kind [] i = refl
refusal-none kind (b ∷ bs) i = refl

verdict : (kind : Kind) (bs : List Bit) (s : State) (i : ℕ) → Verdict kind bs s i (refusal kind bs i (some s))
unfolding refusal
verdict kind [] s i = at-end kind s i
verdict kind (b ∷ bs) s i = go (λ s'. verdict kind bs s' (suc i)) (step kind s b) refl
  where
    go : ((s' : State) → Verdict kind bs s' (suc i) (refusal kind bs (suc i) (some s'))) → (o : Option State) → step kind s b ≡ o
        → Verdict kind (b ∷ bs) s i (refusal kind bs (suc i) (step kind s b))
    go ih none e = inr (subst (Refused kind (b ∷ bs) s i) (sym (ap (refusal kind bs (suc i)) e ∙ refusal-none kind bs (suc i))) (stop_at kind b bs s i e))
    go ih (some s') e = go_on kind b bs s s' i _ e (subst (Verdict kind bs s' (suc i)) (sym (ap (refusal kind bs (suc i)) e)) (ih s'))

-- ---- T4: 0 exactly for what is asked, and else the place

pub place_good : (kind : Kind) (bs : List Bit) → place kind bs ≡ 0 → Good kind bs
unfolding place
place_good kind bs e = go (verdict kind bs (closed 0) 0)
  where
    go : Verdict kind bs (closed 0) 0 (place kind bs) → Good kind bs
    go (inl v) = accepted_good kind bs v.1
    go (inr v) = absurd (omega (arith, v.is))

pub good_place : (kind : Kind) (bs : List Bit) → Good kind bs → place kind bs ≡ 0
unfolding place
good_place kind bs g = go (verdict kind bs (closed 0) 0)
  where
    go : Verdict kind bs (closed 0) 0 (place kind bs) → place kind bs ≡ 0
    go (inl v) = v.0
    go (inr v) = absurd (v.ended (good_accepted kind bs g))

pub place_is : (kind : Kind) (bs : List Bit) → (place kind bs ≡ 0 → ⊥) → Place kind bs (place kind bs)
unfolding place
place_is kind bs n = go (verdict kind bs (closed 0) 0)
  where
    go : Verdict kind bs (closed 0) 0 (place kind bs) → Place kind bs (place kind bs)
    go (inl v) = absurd (n v.0)
    go (inr v) =
        let e : place kind bs ≡ suc v.taken = omega (arith, v.is) in
        record {
          inside = omega (arith, v.within);
          before = λ q l. let w = v.before q (omega arith) in begins kind (take q bs) w.0 w.1;
          here = λ l. begins_not kind (take (place kind bs) bs) (subst (λ m. run kind (take m bs) (some (closed 0)) ≡ none) (sym e) (v.here (omega arith)));
        }

-- one place only
module _ {A : Type 0} (Begins : List A → Type 0) (xs : List A) where
  not-below : (p q : ℕ) → FirstNone Begins xs p → FirstNone Begins xs q → p < q → ⊥
  not-below p q a b l = a.here (omega (arith, b.inside)) (b.before p l)

  pub first_unique : (p q : ℕ) → FirstNone Begins xs p → FirstNone Begins xs q → p ≡ q
  first_unique p q a b =
      let l : p < q → ⊥ = not-below p q a b in
      let g : q < p → ⊥ = not-below q p b a in
      omega arith

pub place_unique : (kind : Kind) (bs : List Bit) (p q : ℕ) → Place kind bs p → Place kind bs q → p ≡ q
place_unique kind bs p q a b = first_unique (Begins kind) bs p q a b

-- ---- T6: bits that agree with a good string in the first j are not refused before the next

pub not-before : (kind : Kind) (as' bs : List Bit) (j p : ℕ) → Good kind as' → take j as' ≡ take j bs → j ≤ length bs → Place kind bs p → j < p
not-before kind as' bs j p g e l r =
    let n : p ≤ j → ⊥ = λ h. r.here (omega arith) (drop p as', subst (Good kind) (sym (ap (λ x. x ++ drop p as') (cut h) ∙ take-append-drop p as')) g) in
    omega arith
  where
    cut : p ≤ j → take p bs ≡ take p as'
    cut h = sym (take-take p j bs h) ∙ ap (take p) (sym e) ∙ take-take p j as' h
