-- R1 and R0 of a parent list, entry by entry.
use mathlib.Core.Path.{◌≡◌, refl, sym, ap, ap₂, ◌∙◌}
use mathlib.Core.Logic.{◌↔◌, ◌⊎◌, inl, inr, ⊎_elim}
use mathlib.Core.List.{List, [], ◌∷◌, ◌++◌}
use Prim.Native.Nat.{ℕ, zero, suc, ◌+◌, ◌-◌, ◌≤◌, ◌<◌}
use native.Mathlib.Decide.{dec_lt}
use native.Mathlib.Numerals.{add-one}
use native.Mathlib.Omega.{arith}
use lib.ListN.{length, get_or, drop, replicate, length-append, length-replicate}
use lib.Seq.{get_or-append-add}
use Rattle.meaning.specs.Strings.{Bit, O, I, ones, R1, R0, string_from, string_of}
use Rattle.meaning.specs.Parents.{IsParents}
use Rattle.theory.specs.Rank.{position}
use Rattle.theory.proofs.Forms.{position-front, position_split}
use Rattle.theory.proofs.Navigate.{position-zero}
use Rattle.theory.proofs.Runs.{ends, ends1, ends0, R1-bits, R0-bits}
use Rattle.parents_check.proofs.Rising.{Rising, parents_rising}
use Rattle.seal_r1_bits.specs.Listed.{next_of, mark_of, gap_of, ends_of, gaps_of}

pub never : {X : Type 0} → I ≡ O → X
never b = let z : ◌≡◌ {A = ℕ} 0 1 = cc in absurd (omega arith)

-- ---- the next entry is never lower

pub next_rising : (n z : ℕ) (qs : List ℕ) → Rising n z qs → z ≤ n → (z ≤ next_of qs (n + 1)) × (next_of qs (n + 1) ≤ n + 1)
next_rising n z [] h l = (omega arith, omega arith)
next_rising n z (q ∷ qs) h l = (h.0, omega (arith, h.1))

-- ---- runs of ones

skip : (d : ℕ) (bs : List Bit) → ends1 (replicate d O ++ bs) ≡ ends1 bs
skip zero bs = refl
skip (suc d) bs = skip d bs

skip_all : (d : ℕ) → ends1 (replicate d O) ≡ []
skip_all zero = refl
skip_all (suc d) = skip_all d

run-over : (d : ℕ) (bs : List Bit) → ends I (replicate d O ++ I ∷ bs) ≡ mark_of d
run-over zero bs = refl
run-over (suc d) bs = refl

run-last : (d : ℕ) → 1 ≤ d → ends I (replicate d O) ≡ mark_of d
run-last zero h = absurd (omega arith)
run-last (suc d) h = refl

mark_here : (ps : List ℕ) (p end : ℕ) → p < end → ends I (string_from ps p end) ≡ mark_of (next_of ps end - p)
mark_here [] p end h = run-last (end - p) (omega arith)
mark_here (q ∷ ps) p end h = run-over (q - p) (string_from ps q end)

ends_are : (ps : List ℕ) (z n end : ℕ) → Rising n z ps → n < end → ends1 (string_from ps z end) ≡ ends_of ps end
unfolding ends_of
ends_are [] z n end h l = skip_all (end - z)
ends_are (p ∷ ps) z n end h l =
    skip (p - z) (I ∷ string_from ps p end) ∙ ap₂ ◌∷◌ (mark_here ps p end (omega (arith, h.1))) (ends_are ps p n end h.2 l)

pub R1-listed : (ps : List ℕ) → IsParents ps → R1 (string_of ps) ≡ ends_of ps (length ps + 1)
unfolding string_of
R1-listed ps h = R1-bits (string_of ps) ∙ ends_are ps 0 (length ps) (length ps + 1) (parents_rising ps h) (omega arith)

-- ---- runs of zeros

gap_over : (d : ℕ) (bs : List Bit) → ends0 (replicate d O ++ I ∷ bs) ≡ gap_of d ++ ends0 bs
gap_over zero bs = refl
gap_over (suc zero) bs = refl
gap_over (suc (suc d)) bs = ap (λ r. O ∷ r) (gap_over (suc d) bs)

gap_last : (d : ℕ) → ends0 (replicate d O) ≡ gap_of d ++ []
gap_last zero = refl
gap_last (suc zero) = refl
gap_last (suc (suc d)) = ap (λ r. O ∷ r) (gap_last (suc d))

gaps_are : (ps : List ℕ) (z end : ℕ) → ends0 (string_from ps z end) ≡ gap_of (next_of ps end - z) ++ gaps_of ps end
unfolding gaps_of
gaps_are [] z end = gap_last (end - z)
gaps_are (p ∷ ps) z end = gap_over (p - z) (string_from ps p end) ∙ ap (λ r. gap_of (p - z) ++ r) (gaps_are ps p end)

first-zero : (ps : List ℕ) (end : ℕ) → IsParents ps → next_of ps end - 0 ≡ 0
first-zero [] end h = absurd (omega (arith, h.some))
first-zero (p ∷ ps) end h = omega (arith, h.rule 1 (omega arith) (omega arith))

pub R0-listed : (ps : List ℕ) → IsParents ps → R0 (string_of ps) ≡ gaps_of ps (length ps + 1)
unfolding string_of
R0-listed ps h =
    R0-bits (string_of ps) ∙ gaps_are ps 0 (length ps + 1)
    ∙ ap (λ d. gap_of d ++ gaps_of ps (length ps + 1)) (first-zero ps (length ps + 1) h)

-- ---- R0 bit by bit: position x holds a one exactly if x is an entry or the one after all

-- x is an entry
abbrev pub Entry : ℕ → List ℕ → Type 0
Entry x ps = (i : ℕ) × (i < length ps) × (get_or ps i 0 ≡ x)

-- entries are never below the first
entry-low : (n z : ℕ) (ps : List ℕ) → Rising n z ps → (i : ℕ) → i < length ps → z ≤ get_or ps i 0
entry-low n z [] h i l = absurd (omega arith)
entry-low n z (p ∷ ps) h zero l = h.0
entry-low n z (p ∷ ps) h (suc i) l = omega (arith, entry-low n p ps h.2 i (omega arith), h.0)

gap_end : (d : ℕ) (rest : List Bit) → get_or (gap_of (suc d) ++ rest) d O ≡ I
gap_end zero rest = refl
gap_end (suc d) rest = gap_end d rest

gap_inside : (d i : ℕ) (rest : List Bit) → i < d → get_or (gap_of (suc d) ++ rest) i O ≡ O
gap_inside zero i rest h = absurd (omega arith)
gap_inside (suc d) zero rest h = refl
gap_inside (suc d) (suc i) rest h = gap_inside d i rest (omega arith)

gap_after : (d i : ℕ) (rest : List Bit) → get_or (gap_of d ++ rest) (d + i) O ≡ get_or rest i O
gap_after d i rest = ap (λ k. get_or (gap_of d ++ rest) (k + i) O) (sym (length_gap d)) ∙ get_or-append-add (gap_of d) rest i O
  where
    length_gap : (d : ℕ) → length (gap_of d) ≡ d
    length_gap zero = refl
    length_gap (suc d) = length-append (replicate d O) (I ∷ []) ∙ omega (arith, length-replicate d O)

-- after z zeros
module _ (n : ℕ) where
  abbrev bits : ℕ → List ℕ → List Bit
  bits z ps = gap_of (next_of ps (n + 1) - z) ++ gaps_of ps (n + 1)

  -- up to the next entry
  gap_is : (z q x : ℕ) (rest : List Bit) → z < x → x ≤ q → (get_or (gap_of (q - z) ++ rest) (x - 1 - z) O ≡ I) ↔ (x ≡ q)
  gap_is z q x rest h g =
      let d = q - z - 1 in
      let e : q - z ≡ suc d = omega arith in (
        λ b. elim (dec_lt x q) [
          | yes l ↦ never (sym b ∙ ap (λ k. get_or (gap_of k ++ rest) (x - 1 - z) O) e ∙ gap_inside d (x - 1 - z) rest (omega arith))
          | no l ↦ omega arith
        ],
        λ f. ap₂ (λ k i. get_or (gap_of k ++ rest) i O) e (let i : x - 1 - z ≡ d = omega arith in i) ∙ gap_end d rest,
      )

  one-here : (ps : List ℕ) (z x : ℕ) → Rising n z ps → z ≤ n → z < x → x ≤ n + 1
      → (get_or (bits z ps) (x - 1 - z) O ≡ I) ↔ ((x ≡ n + 1) ⊎ Entry x ps)
  unfolding gaps_of
  one-here [] z x r l h g =
      let s = gap_is z (n + 1) x [] h g in
      (λ b. inl (s.0 b), ⊎_elim s.1 (λ e. absurd (omega (arith, e.1))))
  one-here (q ∷ qs) z x r l h g = elim (dec_lt q x) [
    | yes k ↦ later k (one-here qs q x r.2 r.1 k g)
    | no k ↦ here (omega arith)
  ]
    where
      here : x ≤ q → (get_or (bits z (q ∷ qs)) (x - 1 - z) O ≡ I) ↔ ((x ≡ n + 1) ⊎ Entry x (q ∷ qs))
      here k =
          let s = gap_is z q x (bits q qs) h k in (
            λ b. inr (0, omega arith, sym (s.0 b)),
            ⊎_elim (λ e. absurd (omega (arith, r.1)))
                (λ e. s.1 (let low = entry-low n q (q ∷ qs) (omega arith, r.1, r.2) e.0 e.1 in omega (arith, e.2))),
          )

      later : q < x → (get_or (bits q qs) (x - 1 - q) O ≡ I) ↔ ((x ≡ n + 1) ⊎ Entry x qs)
          → (get_or (bits z (q ∷ qs)) (x - 1 - z) O ≡ I) ↔ ((x ≡ n + 1) ⊎ Entry x (q ∷ qs))
      later k s =
          let e : get_or (bits z (q ∷ qs)) (x - 1 - z) O ≡ get_or (bits q qs) (x - 1 - q) O =
          ap (λ i. get_or (bits z (q ∷ qs)) i O) (let f : x - 1 - z ≡ q - z + (x - 1 - q) = omega (arith, r.0) in f) ∙ gap_after (q - z) (x - 1 - q) (bits q qs) in (
            λ b. ⊎_elim inl (λ m. inr (suc m.0, omega (arith, m.1), m.2)) (s.0 (sym e ∙ b)),
            ⊎_elim (λ f. e ∙ s.1 (inl f)) (λ m. e ∙ s.1 (inr (tail m.0 m.1 m.2))),
          )
        where
          tail : (i : ℕ) → i < suc (length qs) → get_or (q ∷ qs) i 0 ≡ x → Entry x qs
          tail zero a b = absurd (omega arith)
          tail (suc i) a b = (i, omega arith, b)

pub R0-bit : (ps : List ℕ) → IsParents ps → (x : ℕ) → 1 ≤ x → x ≤ length ps + 1
    → (get_or (R0 (string_of ps)) (x - 1) O ≡ I) ↔ ((x ≡ length ps + 1) ⊎ Entry x ps)
unfolding string_of
R0-bit ps h x g k =
    let n = length ps in
    let s = one-here n ps 0 x (parents_rising ps h) (omega arith) (omega arith) k in
    let e : get_or (R0 (string_of ps)) (x - 1) O ≡ get_or (bits n 0 ps) (x - 1 - 0) O =
    ap₂ (λ r i. get_or r i O) (R0-bits (string_of ps) ∙ gaps_are ps 0 (n + 1)) (let f : x - 1 ≡ x - 1 - 0 = omega arith in f) in
    (λ b. s.0 (sym e ∙ b), λ m. e ∙ s.1 m)

-- ---- the runs of zeros and of ones with the same number: the one of zeros ends before the entry
-- after the one of ones

run-one : (d : ℕ) → ones (replicate d O ++ I ∷ []) ≡ 1
run-one zero = refl
run-one (suc d) = run-one d

run-place : (d : ℕ) → position (replicate d O ++ I ∷ []) 1 ≡ suc d
run-place zero = refl
run-place (suc d) = ap suc (run-place d)

module _ (p end : ℕ) (ps : List ℕ) (low : p ≤ next_of ps end)
    (later : (k : ℕ) → k < ones (ends_of ps end) → next_of ps end + position (gaps_of ps end) (suc k) ≡ next_of (drop (position (ends_of ps end) (suc k)) ps) end) where
  after-step : (d : ℕ) → next_of ps end - p ≡ d → (k : ℕ) → k < ones (mark_of d ∷ ends_of ps end)
      → p + position (gap_of d ++ gaps_of ps end) (suc k) ≡ next_of (drop (position (mark_of d ∷ ends_of ps end) (suc k)) (p ∷ ps)) end
  after-step zero e k h = omega (arith, low, later k h)
  after-step (suc d) e zero h =
      let a = replicate d O ++ I ∷ [] in
      omega (arith, low, position-front a (gaps_of ps end) 0 (omega (arith, run-one d)), run-place d)
      ∙ ap (λ j. next_of (drop (suc j) (p ∷ ps)) end) (sym (position-zero (ends_of ps end)))
  after-step (suc d) e (suc k) h =
      let a = replicate d O ++ I ∷ [] in
      let one = run-one d in
      let long : length a ≡ suc d = length-append (replicate d O) (I ∷ []) ∙ ap (λ n. n + 1) (length-replicate d O) ∙ add-one d in
      let s : position (a ++ gaps_of ps end) (suc (suc k)) ≡ length a + position (gaps_of ps end) (suc k) =
      ap (position (a ++ gaps_of ps end)) (let g : suc (suc k) ≡ suc (ones a + k) = omega (arith, one) in g) ∙ position_split a (gaps_of ps end) k in
      omega (arith, low, s, long, later k (omega arith))

after : (n z : ℕ) (ps : List ℕ) → Rising n z ps → (k : ℕ) → k < ones (ends_of ps (n + 1))
    → next_of ps (n + 1) + position (gaps_of ps (n + 1)) (suc k) ≡ next_of (drop (position (ends_of ps (n + 1)) (suc k)) ps) (n + 1)
unfolding ends_of gaps_of
after n z [] h k l = absurd (omega arith)
after n z (p ∷ ps) h k l =
    after-step p (n + 1) ps (next_rising n p ps h.2 h.1).0 (λ j g. after n p ps h.2 j g) (next_of ps (n + 1) - p) refl k l

pub R0-place : (ps : List ℕ) → IsParents ps → (k : ℕ) → k < ones (R1 (string_of ps))
    → position (R0 (string_of ps)) (suc k) ≡ next_of (drop (position (R1 (string_of ps)) (suc k)) ps) (length ps + 1)
R0-place ps h k l =
    let end = length ps + 1 in
    let one = R1-listed ps h in
    ap (λ s. position s (suc k)) (R0-listed ps h)
    ∙ omega (arith, first-zero ps end h, after (length ps) 0 ps (parents_rising ps h) k (omega (arith, ap ones one)))
    ∙ ap (λ s. next_of (drop (position s (suc k)) ps) end) (sym one)
