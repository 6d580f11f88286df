-- Where a text is refused: at the first byte with which it begins the text of no tree within the
-- limit; a broken one begins the text of no tree at all there, and one that is too deep of a deeper
-- tree.
use mathlib.Core.Path.{◌≡◌, refl, sym, ap, ◌∙◌, subst}
use mathlib.Core.List.{List, [], ◌∷◌, ◌++◌}
use mathlib.Core.Logic.{◌⊎◌, inl, inr}
use Prim.Native.Nat.{ℕ, zero, suc, ◌+◌, ◌≤◌, ◌<◌}
use native.Mathlib.Nat.{add-zero, add-suc}
use native.Mathlib.Omega.{arith}
use lib.ListN.{length, take, replicate}
use Rattle.meaning.specs.Scan.{FirstNone}
use Rattle.meaning.specs.Text.{Reading, inside, over, wrong, too_deep, step, Read, whole, broken, deeper, read_from, read_within}
use Rattle.text_laws.specs.Texts.{BeginsText, BeginsSome}
use Rattle.text_laws.proofs.Reading.{by_byte, step_blank, step_other, run, run_wrong, run-deep, run-append, wrong≢over, deep≢over, run-text, text-run}
use Rattle.text_laws.proofs.Limits.{within_more, some-within}

-- ---- every state that is reached can end well

-- a tree can still begin, or is begun, or is over
abbrev Can : Reading → Type 0
Can (inside zero m) = 1 ≤ m
Can (inside (suc k) m) = Unit
Can over = Unit
Can wrong = ⊥
Can too_deep = ⊥

closes_run : (k m : ℕ) → run (replicate (suc k) 41) (inside (suc k) m) ≡ over
closes_run zero m = refl
closes_run (suc k) m = closes_run k (suc m)

can_end : (s : Reading) → Can s → (rest : List ℕ) × (run rest s ≡ over)
can_end (inside zero zero) h = absurd (omega arith)
can_end (inside zero (suc m)) h = (40 ∷ 41 ∷ [], refl)
can_end (inside (suc k) m) h = (replicate (suc k) 41, closes_run k m)
can_end over h = ([], refl)
can_end wrong h = absurd h
can_end too_deep h = absurd h

begins : (m : ℕ) (text : List ℕ) → Can (run text (inside 0 m)) → BeginsText m text
begins m text h =
    let c = can_end (run text (inside 0 m)) h in
    (c.0, run-text m (text ++ c.0) (run-append text c.0 (inside 0 m) ∙ c.1))

begins_not : (m : ℕ) (text : List ℕ) (s : Reading) → ((rest : List ℕ) → run rest s ≡ over → ⊥) → run text (inside 0 m) ≡ s → BeginsText m text → ⊥
begins_not m text s n e b =
    n b.0 (sym (run-append text b.0 (inside 0 m) ∙ ap (run b.0) e) ∙ text-run m (text ++ b.0) b.1)

never_wrong : (rest : List ℕ) → run rest wrong ≡ over → ⊥
never_wrong rest e = wrong≢over (sym (run_wrong rest) ∙ e)

never_deep : (rest : List ℕ) → run rest too_deep ≡ over → ⊥
never_deep rest e = deep≢over (sym (run-deep rest) ∙ e)

some-text : (m : ℕ) (text : List ℕ) → BeginsText m text → BeginsSome text
some-text m text b = (b.0, (b.1.0, b.1.2))

-- ---- one level more

abbrev up : Reading → Reading
up (inside k m) = inside k (suc m)
up over = over
up wrong = wrong
up too_deep = too_deep

-- a byte that is not too deep does the same with one level more
step-up : (s : Reading) (c : ℕ) → (step s c ≡ too_deep → ⊥) → step (up s) c ≡ up (step s c)
step-up s c = by_byte (λ d. (step s d ≡ too_deep → ⊥) → step (up s) d ≡ up (step s d))
    (λ d e n. step_blank (up s) d e ∙ ap up (sym (step_blank s d e)))
    (opens s)
    (closes s)
    (λ d o n. step_other (up s) d o ∙ ap up (sym (step_other s d o)))
    c
  where
    opens : (r : Reading) → (step r 40 ≡ too_deep → ⊥) → step (up r) 40 ≡ up (step r 40)
    opens (inside k zero) n = absurd (n refl)
    opens (inside k (suc m)) n = refl
    opens over n = refl
    opens wrong n = refl
    opens too_deep n = refl

    closes : (r : Reading) → (step r 41 ≡ too_deep → ⊥) → step (up r) 41 ≡ up (step r 41)
    closes (inside zero m) n = refl
    closes (inside (suc zero) m) n = refl
    closes (inside (suc (suc k)) m) n = refl
    closes over n = refl
    closes wrong n = refl
    closes too_deep n = refl

run_up : (text : List ℕ) (s : Reading) → (run text s ≡ too_deep → ⊥) → run text (up s) ≡ up (run text s)
run_up [] s n = refl
run_up (c ∷ cs) (inside k m) n =
    let s = inside k m in
    ap (run cs) (step-up s c (λ e. n (ap (run cs) e ∙ run-deep cs))) ∙ run_up cs (step s c) n
run_up (c ∷ cs) over n = ap (run cs) (step-up over c (λ e. n (ap (run cs) e ∙ run-deep cs))) ∙ run_up cs (step over c) n
run_up (c ∷ cs) wrong n = refl
run_up (c ∷ cs) too_deep n = refl

wrong≢deep : wrong ≡ too_deep → ⊥
wrong≢deep e = let z : ◌≡◌ {A = ℕ} 0 1 = cc in omega arith

-- what is wrong is wrong within any higher limit
wrong_more : (n m : ℕ) (text : List ℕ) → run text (inside 0 m) ≡ wrong → run text (inside 0 (m + n)) ≡ wrong
wrong_more zero m text e = ap (λ k. run text (inside 0 k)) (add-zero m) ∙ e
wrong_more (suc n) m text e =
    let r = wrong_more n m text e in
    ap (λ k. run text (inside 0 k)) (add-suc m n) ∙ run_up text (inside 0 (m + n)) (λ d. wrong≢deep (sym r ∙ d)) ∙ ap up r

-- and begins no text of a tree
wrong_none : (m : ℕ) (text : List ℕ) → run text (inside 0 m) ≡ wrong → BeginsSome text → ⊥
wrong_none m text e b =
    let w = some-within b.1.0 in
    begins_not (m + w.0) text wrong never_wrong (wrong_more w.0 m text e)
    (b.0, (b.1.0, within_more w.0 (m + w.0) b.1.0 (omega arith) w.1, b.1.1))

-- ---- the place

-- reading a text from s, with i bytes before it, stops at byte p of all: the bytes before it can go
-- on
record Stops (text : List ℕ) (s : Reading) (i p : ℕ) : Type 0 where
  taken : ℕ
  is : p ≡ suc (i + taken)
  within : taken ≤ length text
  before : (q : ℕ) → q ≤ taken → Can (run (take q text) s)

-- the byte is wrong, or there is none
record Broken (text : List ℕ) (s : Reading) (i p : ℕ) : Type 0 where
  stops : Stops text s i p
  here : stops.taken < length text → run (take (suc stops.taken) text) s ≡ wrong

-- the byte is too deep, but not with one level more
record Deeper (text : List ℕ) (s : Reading) (i p : ℕ) : Type 0 where
  stops : Stops text s i p
  there : stops.taken < length text
  here : run (take (suc stops.taken) text) s ≡ too_deep
  more : Can (run (take (suc stops.taken) text) (up s))

abbrev Verdict : List ℕ → Reading → ℕ → Read → Type 0
Verdict text s i whole = Unit
Verdict text s i (broken p) = Broken text s i p
Verdict text s i (deeper p) = Deeper text s i p

-- ---- one byte

can_up : (s : Reading) → Can s → Can (up s)
can_up (inside zero m) h = omega arith
can_up (inside (suc k) m) h = tt
can_up over h = tt
can_up wrong h = h
can_up too_deep h = h

run_step : (s : Reading) (c : ℕ) (cs : List ℕ) → Can s → run (c ∷ cs) s ≡ run cs (step s c)
run_step (inside k m) c cs h = refl
run_step over c cs h = refl
run_step wrong c cs h = absurd h
run_step too_deep c cs h = absurd h

read_step : (s : Reading) (c : ℕ) (cs : List ℕ) (i : ℕ) → Can s → read_from (c ∷ cs) i s ≡ read_from cs (suc i) (step s c)
unfolding read_from
read_step (inside k m) c cs i h = refl
read_step over c cs i h = refl
read_step wrong c cs i h = absurd h
read_step too_deep c cs i h = absurd h

read_wrong : (cs : List ℕ) (i : ℕ) → read_from cs i wrong ≡ broken i
unfolding read_from
read_wrong [] i = refl
read_wrong (c ∷ cs) i = refl

read_deep : (cs : List ℕ) (i : ℕ) → read_from cs i too_deep ≡ deeper i
unfolding read_from
read_deep [] i = refl
read_deep (c ∷ cs) i = refl

-- the reading goes on, or the byte is wrong, or it is too deep but not with one level more
abbrev Outcome : Reading → ℕ → Type 0
Outcome s c = Can (step s c) ⊎ ((step s c ≡ wrong) ⊎ ((step s c ≡ too_deep) × Can (step (up s) c)))

outcome : (s : Reading) (c : ℕ) → Can s → Outcome s c
outcome s c h = by_byte (Outcome s)
    (λ d e. inl (subst Can (sym (step_blank s d e)) h))
    (opens s h)
    (closes s h)
    (λ d o. inr (inl (step_other s d o)))
    c
  where
    opens : (r : Reading) → Can r → Outcome r 40
    opens (inside k zero) g = inr (inr (refl, tt))
    opens (inside k (suc m)) g = inl tt
    opens over g = inr (inl refl)
    opens wrong g = absurd g
    opens too_deep g = absurd g

    closes : (r : Reading) → Can r → Outcome r 41
    closes (inside zero m) g = inr (inl refl)
    closes (inside (suc zero) m) g = inl tt
    closes (inside (suc (suc k)) m) g = inl tt
    closes over g = inr (inl refl)
    closes wrong g = absurd g
    closes too_deep g = absurd g

-- ---- all of them

stop : (text : List ℕ) (s : Reading) (i : ℕ) → Can s → Stops text s i (suc i)
stop text s i h = record {
  taken = 0;
  is = omega arith;
  within = omega arith;
  before = λ q l. subst (λ n. Can (run (take n text) s)) (let e : 0 ≡ q = omega arith in e) h;
}

module _ (c : ℕ) (cs : List ℕ) (s : Reading) (i : ℕ) (h : Can s) where
  stop_wrong : step s c ≡ wrong → Broken (c ∷ cs) s i (suc i)
  unfolding stop
  stop_wrong e = record { stops = stop (c ∷ cs) s i h; here = λ l. run_step s c [] h ∙ e }

  stop_deep : step s c ≡ too_deep → Can (step (up s) c) → Deeper (c ∷ cs) s i (suc i)
  unfolding stop
  stop_deep e u = record {
    stops = stop (c ∷ cs) s i h;
    there = omega arith;
    here = run_step s c [] h ∙ e;
    more = subst Can (sym (run_step (up s) c [] (can_up s h))) u;
  }

  next : (p : ℕ) → Stops cs (step s c) (suc i) p → Stops (c ∷ cs) s i p
  next p v = record {
    taken = suc v.taken;
    is = omega (arith, v.is);
    within = omega (arith, v.within);
    before = prior;
  }
    where
      prior : (q : ℕ) → q ≤ suc v.taken → Can (run (take q (c ∷ cs)) s)
      prior zero l = h
      prior (suc q) l = subst Can (sym (run_step s c (take q cs) h)) (v.before q (omega arith))

  go_on : Can (step s c) → (r : Read) → Verdict cs (step s c) (suc i) r → Verdict (c ∷ cs) s i r
  unfolding next
  go_on g whole v = tt
  go_on g (broken p) v = record {
    stops = next p v.stops;
    here = λ l. run_step s c (take (suc v.stops.taken) cs) h ∙ v.here (omega arith);
  }
  go_on g (deeper p) v =
      let first = take (suc v.stops.taken) cs in
      record {
        stops = next p v.stops;
        there = omega (arith, v.there);
        here = run_step s c first h ∙ v.here;
        more = subst Can (sym (run_step (up s) c first (can_up s h) ∙ ap (run first) (step-up s c (λ e. subst Can e g)))) v.more;
      }

verdict : (text : List ℕ) (s : Reading) (i : ℕ) → Can s → Verdict text s i (read_from text i s)
unfolding read_from
verdict [] (inside k m) i h = record { stops = stop [] (inside k m) i h; here = λ l. absurd (omega arith) }
verdict [] over i h = tt
verdict [] wrong i h = absurd h
verdict [] too_deep i h = absurd h
verdict (c ∷ cs) s i h =
    subst (Verdict (c ∷ cs) s i) (sym (read_step s c cs i h)) (go (outcome s c h) (λ g. verdict cs (step s c) (suc i) g))
  where
    go : Outcome s c → (Can (step s c) → Verdict cs (step s c) (suc i) (read_from cs (suc i) (step s c)))
        → Verdict (c ∷ cs) s i (read_from cs (suc i) (step s c))
    go (inl g) ih = go_on c cs s i h g (read_from cs (suc i) (step s c)) (ih g)
    go (inr (inl e)) ih = subst (Verdict (c ∷ cs) s i) (sym (ap (read_from cs (suc i)) e ∙ read_wrong cs (suc i))) (stop_wrong c cs s i h e)
    go (inr (inr e)) ih = subst (Verdict (c ∷ cs) s i) (sym (ap (read_from cs (suc i)) e.0 ∙ read_deep cs (suc i))) (stop_deep c cs s i h e.0 e.1)

-- ---- the places of a whole text

first-at : (Begins : List ℕ → Type 0) (text : List ℕ) (s : Reading) (p : ℕ) (v : Stops text s 0 p)
    → ((some : List ℕ) → Can (run some s) → Begins some)
    → (v.taken < length text → Begins (take (suc v.taken) text) → ⊥)
    → FirstNone Begins text p
first-at Begins text s p v can cannot = record {
  inside = omega (arith, v.is, v.within);
  before = λ q l. can (take q text) (v.before q (omega (arith, v.is)));
  here = λ l b. cannot (omega (arith, v.is)) (subst (λ n. Begins (take n text)) (let e : p ≡ suc v.taken = omega (arith, v.is) in e) b);
}

module _ (m : ℕ) (text : List ℕ) (p : ℕ) (l : 1 ≤ m) where
  came_broken : read_within m text ≡ broken p → Broken text (inside 0 m) 0 p
  unfolding read_within
  came_broken e = subst (Verdict text (inside 0 m) 0) e (verdict text (inside 0 m) 0 l)

  came_deeper : read_within m text ≡ deeper p → Deeper text (inside 0 m) 0 p
  unfolding read_within
  came_deeper e = subst (Verdict text (inside 0 m) 0) e (verdict text (inside 0 m) 0 l)

-- a text is broken at the first byte with which it begins no text within the limit
pub broken_first : (m : ℕ) (text : List ℕ) (p : ℕ) → 1 ≤ m → read_within m text ≡ broken p → FirstNone (BeginsText m) text p
broken_first m text p l e =
    let v = came_broken m text p l e in
    first-at (BeginsText m) text (inside 0 m) p v.stops (λ some h. begins m some h)
    (λ h. begins_not m (take (suc v.stops.taken) text) wrong never_wrong (v.here h))

-- and no text of a tree of any depth
pub broken_first_of_all : (m : ℕ) (text : List ℕ) (p : ℕ) → 1 ≤ m → read_within m text ≡ broken p → FirstNone BeginsSome text p
broken_first_of_all m text p l e =
    let v = came_broken m text p l e in
    first-at BeginsSome text (inside 0 m) p v.stops (λ some h. some-text m some (begins m some h))
    (λ h. wrong_none m (take (suc v.stops.taken) text) (v.here h))

-- it is too deep at the first such byte, which is there, but with it begins the text of a deeper
-- tree
pub deeper_first : (m : ℕ) (text : List ℕ) (p : ℕ) → 1 ≤ m → read_within m text ≡ deeper p
    → FirstNone (BeginsText m) text p × (p ≤ length text) × BeginsSome (take p text)
deeper_first m text p l e =
    let v = came_deeper m text p l e in
    let last = take (suc v.stops.taken) text in
    let same : p ≡ suc v.stops.taken = omega (arith, v.stops.is) in (
      first-at (BeginsText m) text (inside 0 m) p v.stops (λ some h. begins m some h) (λ h. begins_not m last too_deep never_deep v.here),
      omega (arith, v.there),
      subst (λ n. BeginsSome (take n text)) (sym same) (some-text (suc m) last (begins (suc m) last v.more)),
    )
