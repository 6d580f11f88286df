-- Text that is put into a buffer piece by piece, and the decimal digits of a number.
use mathlib.Core.Path.{◌≡◌, refl, sym, ap, ap₂, ◌∙◌, subst}
use mathlib.Core.Bool.{Bool, true, false, cond}
use mathlib.Core.List.{List, [], ◌∷◌, ◌++◌, append-nil}
use Prim.Native.Nat.{ℕ, zero, suc, ◌+◌, ◌/◌, ◌%◌, ◌^◌, ◌≤◌, ◌<◌}
use native.Mathlib.Numerals.{add-one}
use native.Mathlib.Omega.{arith}
use borrow.Author.Tests.{lt-ltb, le-ltb, ltb-true, ltb-false}
use lib.Dec.{ltb}
use lib.ListN.{length, set, drop, length-append, drop_of_length-le}
use lib.Seq.{sets, length-sets, sets-eq}
use Rattle.meaning.specs.Answers.{written}
use Rattle.outline_text.specs.declared.Page.{Page}
use Rattle.outline_text.specs.Text.{unit, digits, decimal, Writes}

-- ---- pieces

sets_append : (xs ys t : List ℕ) (i : ℕ) → sets t i (xs ++ ys) ≡ sets (sets t i xs) (i + length xs) ys
sets_append [] ys t i = ap (λ k. sets t k ys) (let e : i ≡ i + 0 = omega arith in e)
sets_append (x ∷ xs) ys t i = sets_append xs ys (set t i x) (suc i) ∙ ap (λ k. sets (sets (set t i x) (suc i) xs) k ys) (let e : suc i + length xs ≡ i + suc (length xs) = omega arith in e)

-- nothing, and what is written after what was written
pub nothing_written : (p : Page) → p.at ≤ length p.text.now → Writes [] p p
nothing_written p h = record { same_text = refl; text = refl; place = omega arith; fits = h }

pub both_written : {xs ys : List ℕ} {p q r : Page} → Writes xs p q → Writes ys q r → Writes (xs ++ ys) p r
both_written {xs} {ys} {p} {q} {r} v w = record {
  same_text = w.same_text ∙ v.same_text;
  text = w.text ∙ ap₂ (λ t k. sets t k ys) v.text v.place ∙ sym (sets_append xs ys p.text.now p.at);
  place = simp length-append (omega (arith, v.place, w.place));
  fits = w.fits;
}

pub written_as : {xs ys : List ℕ} {p q : Page} → xs ≡ ys → Writes xs p q → Writes ys p q
written_as {xs} {ys} {p} {q} e w = subst (λ zs. Writes zs p q) e w

-- the page has as much less room as was written
same_length : {xs : List ℕ} {p q : Page} → Writes xs p q → length q.text.now ≡ length p.text.now
same_length {xs} {p} {q} w = ap length w.text ∙ length-sets p.text.now p.at xs

pub room_left : {xs : List ℕ} {p q : Page} → Writes xs p q → p.at + length xs + length q.text.now ≡ q.at + length p.text.now
room_left w = omega (arith, w.place, same_length w)

-- from the first place on
pub written_first : {xs : List ℕ} {p q : Page} → p.at ≡ 0 → Writes xs p q → (q.text.now ≡ written xs p.text.now) × (q.at ≡ length xs)
written_first {xs} {p} {q} z w =
    let t = p.text.now in (
      w.text
          ∙ ap (λ k. sets t k xs) z
          ∙ sets-eq xs t 0 (omega (arith, z, w.place, w.fits, same_length w))
          ∙ ap (λ (k : ℕ). xs ++ drop k t) (let e : 0 + length xs ≡ length xs = omega arith in e),
      omega (arith, z, w.place),
    )

-- a list that is written whole, over any other of its length
pub all-written : (xs t : List ℕ) → length t ≤ length xs → written xs t ≡ xs
all-written xs t h = ap (λ l. xs ++ l) (drop_of_length-le t {i = length xs} h) ∙ append-nil xs

-- ---- digits

-- a number has no more digits than it is large
enough : (f g n : ℕ) → n < f → n < g → digits f n ≡ digits g n
unfolding digits
enough zero g n h k = absurd (omega arith)
enough (suc f) zero n h k = absurd (omega arith)
enough (suc f) (suc g) n h k = go (λ l. enough f g (n / 10) (omega arith) (omega arith)) (ltb n 10) refl
  where
    go : (10 ≤ n → digits f (n / 10) ≡ digits g (n / 10)) → (b : Bool) → ltb n 10 ≡ b
        → cond b (unit n) (digits f (n / 10) ++ unit n) ≡ cond b (unit n) (digits g (n / 10) ++ unit n)
    go less true e = refl
    go less false e = ap (λ ds. ds ++ unit n) (less (ltb-false n 10 e))

pub decimal-one : (n : ℕ) → n < 10 → decimal n ≡ (48 + n) ∷ []
unfolding decimal digits
decimal-one n h =
    ap (λ f. digits f n) (add-one n)
    ∙ ap (λ b. cond b (unit n) (digits n (n / 10) ++ unit n)) (lt-ltb n 10 h)
    ∙ ap (λ d. (48 + d) ∷ []) (let e : n % 10 ≡ n = omega arith in e)

pub decimal_more : (n : ℕ) → 10 ≤ n → decimal n ≡ decimal (n / 10) ++ ((48 + n % 10) ∷ [])
unfolding decimal digits
decimal_more n h =
    ap (λ f. digits f n) (add-one n)
    ∙ ap (λ b. cond b (unit n) (digits n (n / 10) ++ unit n)) (le-ltb n 10 h)
    ∙ ap (λ ds. ds ++ unit n) (enough n (n / 10 + 1) (n / 10) (omega arith) (omega arith))

-- one digit more
pub size-one : (n : ℕ) → n < 10 → length (decimal n) ≡ 1
size-one n h = ap length (decimal-one n h)

pub size_more : (n : ℕ) → 10 ≤ n → length (decimal n) ≡ length (decimal (n / 10)) + 1
size_more n h = ap length (decimal_more n h) ∙ simp length-append

pub decimal-length : (k n : ℕ) → n < 10 ^ suc k → length (decimal n) ≤ suc k
decimal-length zero n h = omega (arith, size-one n (omega arith))
decimal-length (suc k) n h = go (decimal-length k (n / 10) (omega arith)) (ltb n 10) refl
  where
    go : length (decimal (n / 10)) ≤ suc k → (b : Bool) → ltb n 10 ≡ b → length (decimal n) ≤ suc (suc k)
    go less true e = omega (arith, size-one n (ltb-true n 10 e))
    go less false e = omega (arith, size_more n (ltb-false n 10 e))
