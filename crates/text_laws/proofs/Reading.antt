-- The reading accepts exactly the texts of trees within its limit.
use mathlib.Core.Path.{◌≡◌, refl, sym, ap, ◌∙◌, subst}
use mathlib.Core.Bool.{Bool, true, false, cond}
use mathlib.Core.List.{List, [], ◌∷◌, ◌++◌, append_assoc}
use Prim.Native.Nat.{ℕ, zero, suc}
use native.Mathlib.Omega.{arith}
use lib.Dec.{eqb}
use borrow.Author.Tests.{eqb-true}
use Rattle.meaning.specs.Trees.{Tree, Trees, node, none, ◌then◌}
use Rattle.meaning.specs.Strings.{Bit, O, I}
use Rattle.meaning.specs.Brackets.{brackets, brackets_of}
use Rattle.meaning.specs.Text.{is_blank, without_blanks, text_of, brackets_in, Reading, inside, over, wrong, too_deep, opening, closing, step, whole, read_from, read_within}
use Rattle.text_laws.specs.Texts.{Within, AllWithin, IsText}
use Rattle.text_laws.proofs.Back.{brackets_in_text, without_blank, with_other, without_blanks_in}

-- ---- bytes: a blank, a bracket, or another

pub record Other (c : ℕ) : Type 0 where
  pub blank : is_blank c ≡ false
  pub opens : eqb c 40 ≡ false
  pub closes : eqb c 41 ≡ false

pub by_byte : (P : ℕ → Type 0) → ((c : ℕ) → is_blank c ≡ true → P c) → P 40 → P 41 → ((c : ℕ) → Other c → P c) → (c : ℕ) → P c
by_byte P blank opens closes other c = go (is_blank c) refl (eqb c 40) refl (eqb c 41) refl
  where
    go : (x : Bool) → is_blank c ≡ x → (y : Bool) → eqb c 40 ≡ y → (z : Bool) → eqb c 41 ≡ z → P c
    go true e y f z g = blank c e
    go false e true f z g = subst P (sym (eqb-true c 40 f)) opens
    go false e false f true g = subst P (sym (eqb-true c 41 g)) closes
    go false e false f false g = other c (record { blank = e; opens = f; closes = g })

pub step_blank : (s : Reading) (c : ℕ) → is_blank c ≡ true → step s c ≡ s
step_blank s c e = ap (λ b. cond b s (cond (eqb c 40) (opening s) (cond (eqb c 41) (closing s) wrong))) e

pub step_other : (s : Reading) (c : ℕ) → Other c → step s c ≡ wrong
step_other s c o =
    ap (λ b. cond b s (cond (eqb c 40) (opening s) (cond (eqb c 41) (closing s) wrong))) o.blank
    ∙ ap (λ b. cond b (opening s) (cond (eqb c 41) (closing s) wrong)) o.opens
    ∙ ap (λ b. cond b (closing s) wrong) o.closes

-- ---- the state after a text

abbrev pub run : List ℕ → Reading → Reading
run [] s = s
run (c ∷ cs) (inside k m) = run cs (step (inside k m) c)
run (c ∷ cs) over = run cs (step over c)
run (c ∷ cs) wrong = wrong
run (c ∷ cs) too_deep = too_deep

pub run_wrong : (cs : List ℕ) → run cs wrong ≡ wrong
run_wrong [] = refl
run_wrong (c ∷ cs) = refl

pub run-deep : (cs : List ℕ) → run cs too_deep ≡ too_deep
run-deep [] = refl
run-deep (c ∷ cs) = refl

pub run-append : (xs ys : List ℕ) (s : Reading) → run (xs ++ ys) s ≡ run ys (run xs s)
run-append [] ys s = refl
run-append (x ∷ xs) ys (inside k m) = run-append xs ys (step (inside k m) x)
run-append (x ∷ xs) ys over = run-append xs ys (step over x)
run-append (x ∷ xs) ys wrong = sym (run_wrong ys)
run-append (x ∷ xs) ys too_deep = sym (run-deep ys)

pub wrong≢over : wrong ≡ over → ⊥
wrong≢over e = let z : ◌≡◌ {A = ℕ} 0 1 = cc in omega arith

pub deep≢over : too_deep ≡ over → ⊥
deep≢over e = let z : ◌≡◌ {A = ℕ} 0 1 = cc in omega arith

-- a text is read whole exactly if the tree is over after it
read_over : (text : List ℕ) (i : ℕ) (s : Reading) → read_from text i s ≡ whole → run text s ≡ over
unfolding read_from
read_over [] i (inside k m) e = let z : ◌≡◌ {A = ℕ} 0 1 = cc in absurd (omega arith)
read_over [] i over e = refl
read_over [] i wrong e = let z : ◌≡◌ {A = ℕ} 0 1 = cc in absurd (omega arith)
read_over [] i too_deep e = let z : ◌≡◌ {A = ℕ} 0 1 = cc in absurd (omega arith)
read_over (c ∷ cs) i (inside k m) e = read_over cs (suc i) (step (inside k m) c) e
read_over (c ∷ cs) i over e = read_over cs (suc i) (step over c) e
read_over (c ∷ cs) i wrong e = let z : ◌≡◌ {A = ℕ} 0 1 = cc in absurd (omega arith)
read_over (c ∷ cs) i too_deep e = let z : ◌≡◌ {A = ℕ} 0 1 = cc in absurd (omega arith)

over_read : (text : List ℕ) (i : ℕ) (s : Reading) → run text s ≡ over → read_from text i s ≡ whole
unfolding read_from
over_read [] i (inside k m) e = let z : ◌≡◌ {A = ℕ} 0 1 = cc in absurd (omega arith)
over_read [] i over e = refl
over_read [] i wrong e = absurd (wrong≢over e)
over_read [] i too_deep e = absurd (deep≢over e)
over_read (c ∷ cs) i (inside k m) e = over_read cs (suc i) (step (inside k m) c) e
over_read (c ∷ cs) i over e = over_read cs (suc i) (step over c) e
over_read (c ∷ cs) i wrong e = absurd (wrong≢over e)
over_read (c ∷ cs) i too_deep e = absurd (deep≢over e)

-- ---- what is accepted from each state

-- k nodes are closed one after another: the innermost, which gets further children within m levels,
-- then the one around it, within one level more
abbrev Closes : ℕ → ℕ → List Bit → Type 0
Closes zero m bs = bs ≡ []
Closes (suc k) m bs = (f : Trees) × (rest : List Bit) × AllWithin m f × Closes k (suc m) rest × (bs ≡ brackets_of f ++ O ∷ rest)

abbrev Means : Reading → List ℕ → Type 0
Means (inside zero m) text = IsText m text
Means (inside (suc k) m) text = (bs : List Bit) × Closes (suc k) m bs × (without_blanks text ≡ text_of bs)
Means over text = without_blanks text ≡ []
Means wrong text = ⊥
Means too_deep text = ⊥

means_blank : (s : Reading) (c : ℕ) (cs : List ℕ) → is_blank c ≡ true → Means s cs → Means s (c ∷ cs)
means_blank (inside zero m) c cs e h = (h.0, h.1, without_blank c cs e ∙ h.2)
means_blank (inside (suc k) m) c cs e h = (h.0, h.1, without_blank c cs e ∙ h.2)
means_blank over c cs e h = without_blank c cs e ∙ h
means_blank wrong c cs e h = h
means_blank too_deep c cs e h = h

-- a node around the trees f, in front of g
around : (f g : Trees) (rest : List Bit) → I ∷ (brackets_of f ++ O ∷ (brackets_of g ++ rest)) ≡ brackets_of (node f then g) ++ rest
unfolding brackets
around f g rest =
    ap (λ r. I ∷ r) (sym (append_assoc (brackets_of f) (O ∷ []) (brackets_of g ++ rest)))
    ∙ sym (append_assoc (brackets (node f)) (brackets_of g) rest)

open_text : (cs : List ℕ) (bs : List Bit) → without_blanks cs ≡ text_of bs → without_blanks (40 ∷ cs) ≡ text_of (I ∷ bs)
unfolding text_of
open_text cs bs e = with_other 40 cs refl ∙ ap (λ r. 40 ∷ r) e

close_text : (cs : List ℕ) (bs : List Bit) → without_blanks cs ≡ text_of bs → without_blanks (41 ∷ cs) ≡ text_of (O ∷ bs)
unfolding text_of
close_text cs bs e = with_other 41 cs refl ∙ ap (λ r. 41 ∷ r) e

means_open : (s : Reading) (cs : List ℕ) → Means (opening s) cs → Means s (40 ∷ cs)
unfolding Within brackets
means_open (inside zero zero) cs h = absurd h
means_open (inside (suc k) zero) cs h = absurd h
means_open (inside zero (suc m)) cs h =
    let c = h.1 in
    (node c.0, c.2, open_text cs h.0 h.2 ∙ ap (λ r. text_of (I ∷ r)) (c.4 ∙ ap (λ r. brackets_of c.0 ++ O ∷ r) c.3))
means_open (inside (suc k) (suc m)) cs h =
    let c = h.1 in
    let d = c.3 in
    let same = c.4 ∙ ap (λ r. brackets_of c.0 ++ O ∷ r) d.4 in
    (I ∷ h.0, (node c.0 then d.0, d.1, (c.2, d.2), d.3, ap (λ r. I ∷ r) same ∙ around c.0 d.0 (O ∷ d.1)), open_text cs h.0 h.2)
means_open over cs h = absurd h
means_open wrong cs h = absurd h
means_open too_deep cs h = absurd h

means_close : (s : Reading) (cs : List ℕ) → Means (closing s) cs → Means s (41 ∷ cs)
unfolding Within brackets text_of
means_close (inside zero m) cs h = absurd h
means_close (inside (suc zero) m) cs h = (O ∷ [], (none, [], tt, refl, refl), close_text cs [] h)
means_close (inside (suc (suc k)) m) cs h = (O ∷ h.0, (none, h.0, tt, h.1, refl), close_text cs h.0 h.2)
means_close over cs h = absurd h
means_close wrong cs h = absurd h
means_close too_deep cs h = absurd h

means_step : (s : Reading) (c : ℕ) (cs : List ℕ) → Means (step s c) cs → Means s (c ∷ cs)
means_step s c cs = by_byte (λ d. Means (step s d) cs → Means s (d ∷ cs))
    (λ d e h. means_blank s d cs e (subst (λ r. Means r cs) (step_blank s d e) h))
    (means_open s cs)
    (means_close s cs)
    (λ d o h. absurd (subst (λ r. Means r cs) (step_other s d o) h))
    c

sound : (text : List ℕ) (s : Reading) → run text s ≡ over → Means s text
unfolding without_blanks
sound [] (inside k m) e = let z : ◌≡◌ {A = ℕ} 0 1 = cc in absurd (omega arith)
sound [] over e = refl
sound [] wrong e = wrong≢over e
sound [] too_deep e = deep≢over e
sound (c ∷ cs) (inside k m) e = means_step (inside k m) c cs (sound cs (step (inside k m) c) e)
sound (c ∷ cs) over e = means_step over c cs (sound cs (step over c) e)
sound (c ∷ cs) wrong e = wrong≢over e
sound (c ∷ cs) too_deep e = deep≢over e

pub run-text : (m : ℕ) (text : List ℕ) → run text (inside 0 m) ≡ over → IsText m text
run-text m text e = sound text (inside 0 m) e

-- ---- and every text of a tree is accepted

run-blanks : (text : List ℕ) (s : Reading) → run text s ≡ run (without_blanks text) s
unfolding without_blanks
run-blanks [] s = refl
run-blanks (c ∷ cs) s = go s (is_blank c) refl (λ r. run-blanks cs r)
  where
    go : (r : Reading) (b : Bool) → is_blank c ≡ b → ((q : Reading) → run cs q ≡ run (without_blanks cs) q) → run (c ∷ cs) r ≡ run (without_blanks (c ∷ cs)) r
    go (inside k m) true e ih = ap (run cs) (step_blank (inside k m) c e) ∙ ih (inside k m) ∙ sym (ap (λ x. run x (inside k m)) (without_blank c cs e))
    go over true e ih = ap (run cs) (step_blank over c e) ∙ ih over ∙ sym (ap (λ x. run x over) (without_blank c cs e))
    go (inside k m) false e ih = ih (step (inside k m) c) ∙ sym (ap (λ x. run x (inside k m)) (with_other c cs e))
    go over false e ih = ih (step over c) ∙ sym (ap (λ x. run x over) (with_other c cs e))
    go wrong b e ih = sym (run_wrong (without_blanks (c ∷ cs)))
    go too_deep b e ih = sym (run-deep (without_blanks (c ∷ cs)))

-- the brackets of trees within the limit lead back to the state before them
mutual
  unfolding Within brackets text_of

  run-tree : (t : Tree) (bs : List Bit) (k m : ℕ) → Within m t → run (text_of (brackets t ++ bs)) (inside (suc k) m) ≡ run (text_of bs) (inside (suc k) m)
  run-tree (node f) bs k zero w = absurd w
  run-tree (node f) bs k (suc m) w =
      ap (λ r. run (text_of r) (inside (suc (suc k)) m)) (append_assoc (brackets_of f) (O ∷ []) bs)
      ∙ run_trees f (O ∷ bs) (suc k) m w

  run_trees : (f : Trees) (bs : List Bit) (k m : ℕ) → AllWithin m f → run (text_of (brackets_of f ++ bs)) (inside (suc k) m) ≡ run (text_of bs) (inside (suc k) m)
  run_trees none bs k m w = refl
  run_trees (t then f) bs k m w =
      ap (λ r. run (text_of r) (inside (suc k) m)) (append_assoc (brackets t) (brackets_of f) bs)
      ∙ run-tree t (brackets_of f ++ bs) k m w.0
      ∙ run_trees f bs k m w.1

run-whole : (t : Tree) (m : ℕ) → Within m t → run (text_of (brackets t)) (inside 0 m) ≡ over
unfolding Within brackets text_of
run-whole (node f) zero w = absurd w
run-whole (node f) (suc m) w = run_trees f (O ∷ []) 0 m w

pub text-run : (m : ℕ) (text : List ℕ) → IsText m text → run text (inside 0 m) ≡ over
text-run m text w = run-blanks text (inside 0 m) ∙ ap (λ r. run r (inside 0 m)) w.2 ∙ run-whole w.0 m w.1

-- ---- the whole reading

pub read_whole : (m : ℕ) (text : List ℕ) → read_within m text ≡ whole → IsText m text
unfolding read_within
read_whole m text e = run-text m text (read_over text 0 (inside 0 m) e)

pub read_tree : (m : ℕ) (text : List ℕ) → IsText m text → read_within m text ≡ whole
unfolding read_within
read_tree m text w = over_read text 0 (inside 0 m) (text-run m text w)

-- the tree that was read, its brackets and its text
pub whole-brackets : (m : ℕ) (text : List ℕ) → read_within m text ≡ whole
    → (t : Tree) × Within m t × (brackets_in text ≡ brackets t) × (without_blanks text ≡ text_of (brackets t))
whole-brackets m text e =
    let w = read_whole m text e in
    (w.0, w.1, sym (without_blanks_in text) ∙ ap brackets_in w.2 ∙ brackets_in_text (brackets w.0), w.2)
