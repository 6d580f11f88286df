-- R1 of a parent list by its entries, as the code reads them.
use mathlib.Core.Path.{◌≡◌, refl, sym, ap, ◌∙◌}
use mathlib.Core.Bool.{true, false, not, cond}
use mathlib.Core.List.{List, [], ◌∷◌}
use Prim.Native.Nat.{ℕ, zero, suc, ◌+◌, ◌-◌, ◌*◌, ◌≤◌, ◌<◌}
use native.Mathlib.Decide.{ℕ_discrete}
use native.Mathlib.Numerals.{add-one}
use native.Mathlib.Omega.{arith}
use lib.Dec.{eqb}
use borrow.Author.Tests.{eq-eqb, ne_eqb}
use mir.Val.{bool_byte}
use lib.ListN.{length, get_or, take, drop, drop_of_length-le, get_or-eq_default}
use lib.Seq.{drop-cons, take-suc, take_all, length-take-le}
use Rattle.meaning.specs.Parents.{IsParents}
use Rattle.meaning.specs.Strings.{Bit, O, I, ones, R1, R0, lbs, string_of}
use Rattle.meaning.specs.Bytes.{value, number}
use Rattle.theory.proofs.Odd.{ones-append}
use Rattle.theory.proofs.Payloads.{ones-le}
use Rattle.theory.proofs.Parents.{are_parents}
use Rattle.theory.proofs.Forms.{length-parents, length-R1, length-R0, string-parents, marks-same}
use Rattle.parents_check.proofs.Rising.{Rising, parents_rising}
use Rattle.bits_count.proofs.Runs.{ones_of_bit}
use Rattle.seal_r1_bits.specs.Listed.{next_of, unlike, mark_of, ends_of}
use Rattle.seal_r1_bits.proofs.Lists.{next_rising, R1-listed}

-- ---- how long the strings of a parent list are

pub record Sizes (ps : List ℕ) : Type 0 where
  pub long1 : length (R1 (string_of ps)) ≡ length ps
  pub long0 : length (R0 (string_of ps)) ≡ length ps + 1
  pub same : ones (R0 (string_of ps)) ≡ ones (R1 (string_of ps))

pub sizes : (ps : List ℕ) → IsParents ps → Sizes ps
sizes ps h =
    let r = are_parents ps h in
    let t = r.0 in
    let e : string_of ps ≡ lbs t = ap string_of (sym r.1) ∙ string-parents t in
    let n : length ps ≡ _ = ap length (sym r.1) ∙ length-parents t in
    record {
      long1 = ap (λ s. length (R1 s)) e ∙ length-R1 t ∙ sym n;
      long0 = ap (λ s. length (R0 s)) e ∙ length-R0 t ∙ ap suc (sym n) ∙ sym (add-one (length ps));
      same = ap (λ s. ones (R0 s)) e ∙ marks-same t ∙ ap (λ s. ones (R1 s)) (sym e);
    }

-- ---- a one exactly where an entry differs from the next

pub unlike-same : (a b : ℕ) → a ≡ b → unlike a b ≡ 0
unfolding unlike
unlike-same a b e = ap (λ t. cond t 0 1) (eq-eqb a b e)

pub unlike-other : (a b : ℕ) → (a ≡ b → ⊥) → unlike a b ≡ 1
unfolding unlike
unlike-other a b n = ap (λ t. cond t 0 1) (ne_eqb a b n)

-- as the code has it, `u8::from(a != b)`
pub unlike-bool : (a b : ℕ) → bool_byte (not (eqb a b)) ≡ unlike a b
unfolding unlike
unlike-bool a b = elim (eqb a b) as (λ t. bool_byte (not t) ≡ cond t 0 1) [ true ↦ refl | false ↦ refl ]

mark_value : (p q : ℕ) → p ≤ q → value (mark_of (q - p)) ≡ unlike p q
unfolding value
mark_value p q h = elim (ℕ_discrete p q) [
  | yes e ↦ ap (λ d. value (mark_of d)) (let f : q - p ≡ 0 = omega arith in f) ∙ sym (unlike-same p q e)
  | no n ↦ ap (λ d. value (mark_of d)) (later p q h n) ∙ sym (unlike-other p q n)
]
  where
    later : (p q : ℕ) → p ≤ q → (p ≡ q → ⊥) → q - p ≡ suc (q - p - 1)
    later p q h n = elim (ℕ_discrete (q - p) 0) [
      | yes e ↦ absurd (n (omega arith))
      | no d ↦ omega arith
    ]

ends-bit : (n z : ℕ) (ps : List ℕ) → Rising n z ps → (i : ℕ) → i < length ps
    → value (get_or (ends_of ps (n + 1)) i O) ≡ unlike (get_or ps i 0) (next_of (drop (suc i) ps) (n + 1))
unfolding ends_of
ends-bit n z [] h i l = absurd (omega arith)
ends-bit n z (p ∷ ps) h zero l = mark_value p (next_of ps (n + 1)) (next_rising n p ps h.2 h.1).0
ends-bit n z (p ∷ ps) h (suc i) l = ends-bit n p ps h.2 i (omega arith)

rising_le : (n z : ℕ) (ps : List ℕ) → Rising n z ps → (i : ℕ) → i < length ps → get_or ps i 0 ≤ n
rising_le n z [] h i l = absurd (omega arith)
rising_le n z (p ∷ ps) h zero l = h.1
rising_le n z (p ∷ ps) h (suc i) l = rising_le n p ps h.2 i (omega arith)

pub next-there : (ps : List ℕ) (i end : ℕ) → i < length ps → get_or ps i 0 ≡ next_of (drop i ps) end
next-there ps i end h = ap (λ qs. next_of qs end) (sym (drop-cons ps i 0 h))

pub next-end : (ps : List ℕ) (i end : ℕ) → length ps ≤ i → end ≡ next_of (drop i ps) end
next-end ps i end h = ap (λ qs. next_of qs end) (sym (drop_of_length-le ps h))

module _ (ps : List ℕ) (are : IsParents ps) where
  abbrev r : List Bit
  r = R1 (string_of ps)

  pub length-ends : length (R1 (string_of ps)) ≡ length ps
  length-ends = (sizes ps are).long1

  end_is : (i : ℕ) → i < length ps → value (get_or r i O) ≡ unlike (get_or ps i 0) (next_of (drop (suc i) ps) (length ps + 1))
  end_is i h = ap (λ s. value (get_or s i O)) (R1-listed ps are) ∙ ends-bit (length ps) 0 ps (parents_rising ps are) i h

  -- an entry that has one after it
  pub end_inner : (i : ℕ) → i + 1 < length ps → value (get_or (R1 (string_of ps)) i O) ≡ unlike (get_or ps i 0) (get_or ps (i + 1) 0)
  end_inner i h =
      end_is i (omega arith) ∙ ap (λ j. unlike (get_or ps i 0) (next_of (drop j ps) (length ps + 1))) (sym (add-one i))
      ∙ ap (unlike (get_or ps i 0)) (sym (next-there ps (i + 1) (length ps + 1) h))

  pub end-last : (i : ℕ) → i + 1 ≡ length ps → value (get_or (R1 (string_of ps)) i O) ≡ 1
  end-last i h =
      end_is i (omega arith) ∙ ap (unlike (get_or ps i 0)) (sym (next-end ps (suc i) (length ps + 1) (omega arith)))
      ∙ unlike-other (get_or ps i 0) (length ps + 1) (λ e. let l = rising_le (length ps) 0 ps (parents_rising ps are) i (omega arith) in omega arith)

  pub end_after : (i : ℕ) → length ps ≤ i → value (get_or (R1 (string_of ps)) i O) ≡ 0
  unfolding value
  end_after i h = ap value (get_or-eq_default r O (omega (arith, length-ends)))

-- ---- ones counted

pub ones_more : (r : List Bit) (j : ℕ) → j < length r → ones (take (j + 1) r) ≡ ones (take j r) + value (get_or r j O)
ones_more r j h =
    ap (λ k. ones (take k r)) (add-one j) ∙ ap ones (take-suc r j O h) ∙ ones-append (take j r) (get_or r j O ∷ [])
    ∙ ap (λ n. ones (take j r) + n) (ones_of_bit (get_or r j O))

pub ones-few : (r : List Bit) (j : ℕ) → j ≤ length r → ones (take j r) ≤ j
ones-few r j h = omega (arith, ones-le (take j r), length-take-le j r h)

module _ (ps : List ℕ) (are : IsParents ps) (i k : ℕ) (e : k ≡ ones (take (i - 1) (R1 (string_of ps))) + 1) (low : 1 ≤ i) where
  pub counted-few : i ≤ length ps → k ≤ i
  counted-few h = omega (arith, e, ones-few (R1 (string_of ps)) (i - 1) (omega (arith, length-ends ps are)))

  pub counted_more : i < length ps → (x : ℕ) → x ≡ unlike (get_or ps (i - 1) 0) (get_or ps i 0) → k + x ≡ ones (take (i + 1 - 1) (R1 (string_of ps))) + 1
  counted_more h x f =
      let r = R1 (string_of ps) in
      let g : i - 1 + 1 ≡ i = omega arith in
      let m = ones_more r (i - 1) (omega (arith, length-ends ps are)) in
      let v : value (get_or r (i - 1) O) ≡ x = end_inner ps are (i - 1) (omega arith) ∙ ap (λ j. unlike (get_or ps (i - 1) 0) (get_or ps j 0)) g ∙ sym f in
      let t : ones (take (i - 1 + 1) r) ≡ ones (take (i + 1 - 1) r) = ap (λ j. ones (take j r)) (let u : i - 1 + 1 ≡ i + 1 - 1 = omega arith in u) in
      omega (arith, e, m, v, t)

  pub counted-all : i ≡ length ps → k ≡ ones (R1 (string_of ps))
  counted-all h =
      let r = R1 (string_of ps) in
      let m = ones_more r (i - 1) (omega (arith, length-ends ps are)) in
      let v = end-last ps are (i - 1) (omega arith) in
      let t : ones (take (i - 1 + 1) r) ≡ ones r = ap ones (take_all (i - 1 + 1) r (omega (arith, length-ends ps are))) in
      omega (arith, e, m, v, t)

-- ---- bits to a number, one more at a time

number-suc : (j : ℕ) (bs : List Bit) → number (suc j) bs ≡ 2 * number j bs + value (get_or bs j O)
unfolding number value
number-suc zero [] = refl
number-suc (suc j) [] = refl
number-suc zero (O ∷ bs) = refl
number-suc zero (I ∷ bs) = refl
number-suc (suc j) (O ∷ bs) = omega (arith, number-suc j bs)
number-suc (suc j) (I ∷ bs) = omega (arith, number-suc j bs)

pub shifted : (bs : List Bit) (j x v : ℕ) → x ≡ number j bs → v ≡ value (get_or bs j O) → 2 * x + v ≡ number (j + 1) bs
shifted bs j x v e f = omega (arith, e, f, ap (λ k. number k bs) (add-one j) ∙ number-suc j bs)
