-- Laws of a reading: what one byte does to it, and how readings follow one another.
use mathlib.Core.Path.{◌≡◌, refl, sym, ap, ◌∙◌}
use mathlib.Core.Bool.{Bool, true, false, cond}
use mathlib.Core.List.{List, [], ◌∷◌}
use Prim.Native.Nat.{ℕ, zero, suc, ◌+◌, ◌-◌, ◌≤◌, ◌<◌}
use native.Mathlib.Omega.{arith}
use native.Mathlib.Numerals.{add-one}
use borrow.Author.Tests.{ne_eqb}
use native.Mathlib.Decide.{ℕ_discrete}
use lib.Dec.{eqb}
use lib.ListN.{length, get_or, set, drop, length-set, drop_of_length-le}
use lib.Seq.{drop-cons, get_or-set_same, get_or-set_other}
use Rattle.meaning.specs.Strings.{Bit}
use Rattle.meaning.specs.Text.{is_blank, brackets_in, Reading, inside, over, wrong, too_deep, closed, step, broken, deeper, read_from, read_within, read_text}
use Rattle.text_laws.proofs.Bytes.{brackets-at}
use Rattle.std.specs.Prelude.{Ok, Err}
use Rattle.text_nesting.specs.declared.TextFault.{TextFault}
use Rattle.text_nesting.specs.declared.TextFault.TheVariants.{Broken, Deeper}
use Rattle.text_nesting.specs.declared.Found.{Found}
use Rattle.text_nesting.specs.declared.Found.TheVariants as found
use Rattle.text_nesting.specs.Nesting.{tally, open_in, Same, Going, Ready, Stops, NodeRead, ListRead, TextRead, result_of}

-- ---- readings that follow one another
pub then : {text : List ℕ} {a b c : ℕ} {s t u : Reading} {k l m : List ℕ} → Same text a b s t k l → Same text b c t u l m → Same text a c s u k m
then p q = record { up = omega arith; read = p.read ∙ q.read; counted = p.counted ∙ q.counted }

-- ---- one byte
stopped : (cs : List ℕ) (i : ℕ) → (read_from cs i wrong ≡ broken i) × (read_from cs i too_deep ≡ deeper i)
unfolding read_from
stopped [] i = (refl, refl)
stopped (c ∷ cs) i = (refl, refl)

apart : (c b : ℕ) → is_blank c ≡ true → is_blank b ≡ false → eqb c b ≡ false
apart c b e f = ne_eqb c b (λ q. let z : true ≡ false = sym e ∙ ap is_blank q ∙ f in let o : ◌≡◌ {A = ℕ} 0 1 = cc in omega arith)

either : (b : Bool) → cond b wrong wrong ≡ wrong
either true = refl
either false = refl

module _ (text : List ℕ) (at : ℕ) (h : at < length text) where
  reads : (s : Reading) → Going s → read_from (drop at text) at s ≡ read_from (drop (at + 1) text) (at + 1) (step s (get_or text at 0))
  unfolding read_from
  reads (inside k m) g = rw (add-one, drop-cons text at 0)
  reads over g = rw (add-one, drop-cons text at 0)
  reads wrong g = absurd g
  reads too_deep g = absurd g

  pub blank : (s : Reading) (levels : List ℕ) → Going s → is_blank (get_or text at 0) ≡ true → Same text at (at + 1) s s levels levels
  blank s levels g e =
      let c = get_or text at 0 in
      record {
        up = omega arith;
        read = rw e at (reads s g);
        counted = ap (λ (bs : List Bit). tally bs (open_in s) levels) (rw (apart c 40 e refl, apart c 41 e refl) at (brackets-at text at h));
      }

  -- with `left` levels left outside the bracket
  pub opens : (left : ℕ) (levels : List ℕ) → 0 < left → left ≤ 64 → get_or text at 0 ≡ 40
      → Same text at (at + 1) (inside (64 - left) left) (inside (64 - (left - 1)) (left - 1)) levels (set levels (65 - left) (get_or levels (65 - left) 0 + 1))
  unfolding tally
  opens zero levels g w e = absurd (omega arith)
  opens (suc m) levels g w e =
      let k : 64 - (suc m - 1) ≡ suc (64 - suc m) = omega arith in
      let o : 65 - suc m ≡ suc (64 - suc m) = omega arith in
      let p : suc m - 1 ≡ m = omega arith in
      rw (k, o, p) (
      record {
        up = omega arith;
        read = rw e at (reads (inside (64 - suc m) (suc m)) tt);
        counted = ap (λ (bs : List Bit). tally bs (64 - suc m) levels) (rw e at (brackets-at text at h));
      }
      )

  pub closes : (left : ℕ) (levels : List ℕ) → 0 < left → left ≤ 64 → get_or text at 0 ≡ 41
      → Same text at (at + 1) (inside (64 - (left - 1)) (left - 1)) (closed (64 - left) left) levels levels
  unfolding tally
  closes zero levels g w e = absurd (omega arith)
  closes (suc m) levels g w e =
      let k : 64 - (suc m - 1) ≡ suc (64 - suc m) = omega arith in
      let p : suc m - 1 ≡ m = omega arith in
      rw (k, p) (
      record {
        up = omega arith;
        read = rw e at (reads (inside (suc (64 - suc m)) m) tt);
        counted =
            ap (λ (bs : List Bit). tally bs (suc (64 - suc m)) levels) (rw e at (brackets-at text at h))
            ∙ ap (λ (o : ℕ). tally (brackets_in (drop (at + 1) text)) o levels) (one (64 - suc m));
      }
      )
    where
      one : (k : ℕ) → suc k - 1 ≡ open_in (closed k (suc m))
      one zero = refl
      one (suc k) = omega arith

  pub deep : (k : ℕ) → get_or text at 0 ≡ 40 → Stops text at (inside k 0) (Deeper (at + 1))
  deep k e = (omega arith, omega arith, (rw e at (reads (inside k 0) tt)) ∙ (stopped (drop (at + 1) text) (at + 1)).1)

  breaks : (s : Reading) → Going s → step s (get_or text at 0) ≡ wrong → Stops text at s (Broken (at + 1))
  breaks s g e = (omega arith, omega arith, (rw e at (reads s g)) ∙ (stopped (drop (at + 1) text) (at + 1)).0)

  module _ (not-blank : is_blank (get_or text at 0) ≡ false) where
    pub no_bracket : (k m : ℕ) → (get_or text at 0 ≡ 40 → ⊥) → (get_or text at 0 ≡ 41 → ⊥) → Stops text at (inside k m) (Broken (at + 1))
    no_bracket k m o s = breaks (inside k m) tt (rw (not-blank, ne_eqb (get_or text at 0) 40 o, ne_eqb (get_or text at 0) 41 s))

    pub no_opening : (m : ℕ) → (get_or text at 0 ≡ 40 → ⊥) → Stops text at (inside 0 m) (Broken (at + 1))
    no_opening m o = breaks (inside 0 m) tt (rw (not-blank, ne_eqb (get_or text at 0) 40 o) (either (eqb (get_or text at 0) 41)))

    pub no_end : Stops text at over (Broken (at + 1))
    no_end = breaks over tt (rw (not-blank, either (eqb (get_or text at 0) 41)) (either (eqb (get_or text at 0) 40)))

pub ends : (text : List ℕ) (at k m : ℕ) → length text ≤ at → at ≤ length text → Stops text at (inside k m) (Broken (at + 1))
unfolding read_from
ends text at k m h h' = (omega arith, omega arith, rw (drop_of_length-le text h, add-one))

-- ---- the levels
pub ready_on : {text levels : List ℕ} {a b : ℕ} → Ready text a levels → a ≤ b → b ≤ length text → Ready text b levels
ready_on r h w = record { short = r.short; within = w; count = r.count; few = λ e. omega (arith, r.few e) }

pub ready_more : {text levels : List ℕ} {at : ℕ} → Ready text at levels → at < length text → (e : ℕ) → e < 66 → Ready text (at + 1) (set levels e (get_or levels e 0 + 1))
ready_more {levels = l} {at = at} r h e k =
    record { short = r.short; within = omega arith; count = length-set l e _ ∙ r.count; few = λ i. few i (ℕ_discrete i e) }
  where
    few : (i : ℕ) → Dec (i ≡ e) → get_or (set l e (get_or l e 0 + 1)) i 0 ≤ at + 1
    few i (yes q) = rw (q, get_or-set_same l e (get_or l e 0 + 1) 0 (omega arith)) (omega (arith, r.few e))
    few i (no n) = rw (get_or-set_other l e i (get_or l e 0 + 1) 0 n) (omega (arith, r.few i))

pub still_inside : (k m : ℕ) → 0 < k → closed k m ≡ inside k m
still_inside zero m h = absurd (omega arith)
still_inside (suc k) m h = refl

-- ---- where what follows stops, the whole stops
pub stops_before : {text : List ℕ} {a b : ℕ} {s t : Reading} {k l : List ℕ} → Same text a b s t k l → (e : TextFault) → Stops text b t e → Stops text a s e
stops_before p (Broken q) g = (g.0, g.1, p.read ∙ g.2)
stops_before p (Deeper q) g = (g.0, g.1, p.read ∙ g.2)

pub node_stops : (m : List ℕ) {text k l : List ℕ} (at left : ℕ) (r : Found) → ((to : ℕ) → r ≡ found.Over to → ⊥)
    → Same text at (at + 1) (inside (64 - left) left) (inside (64 - (left - 1)) (left - 1)) k l
    → ListRead text (at + 1) (left - 1) l (result_of r) m → NodeRead text at left k (result_of r) m
node_stops m at left (found.Over to) o p g = absurd (o to refl)
node_stops m at left (found.Broken q) o p g = stops_before p (Broken q) g
node_stops m at left (found.Deeper q) o p g = stops_before p (Deeper q) g

pub text_stops : (m : List ℕ) {text k l : List ℕ} {at : ℕ} {s : Reading} → Same text 0 at (inside 0 64) s k l → (e : TextFault) → Stops text at s e → TextRead text k (Err e) m
unfolding read_text read_within
text_stops m p (Broken q) g = (g.0, g.1, p.read ∙ g.2)
text_stops m p (Deeper q) g = (g.0, g.1, p.read ∙ g.2)

pub text-over : {text k l : List ℕ} {at : ℕ} → Same text 0 at (inside 0 64) over k l → length text ≤ at → Ready text at l → TextRead text k (Ok at) l
unfolding read_text read_within read_from brackets_in tally
text-over {text} e h r =
    let d = drop_of_length-le text h in
    (rw d at e.read, sym (rw d at e.counted), r.count, λ i. omega (arith, r.few i, r.short, r.within))
