-- What the loops that write parents keep: what is written and what is to come are all the parents.
use mathlib.Core.Path.{◌≡◌, refl, sym, ap, ap₂, ◌∙◌, subst}
use mathlib.Core.List.{List, [], ◌∷◌, ◌++◌, append-nil}
use Prim.Native.Nat.{ℕ, suc, ◌+◌, ◌-◌, ◌*◌, ◌≤◌, ◌<◌}
use native.Mathlib.Numerals.{add-one}
use native.Mathlib.Omega.{arith}
use lib.ListN.{length, get_or, take, drop, set, take-append-drop, length-set}
use lib.Seq.{take-suc-set, take-set-le, drop-set-lt, append_snoc}
use Rattle.meaning.specs.Strings.{Bit, O, I, ones, zeros_before, parents_of}
use Rattle.meaning.specs.Bytes.{bit_at, bits_from, value}
use Rattle.meaning.specs.Answers.{written}
use Rattle.theory.proofs.Forms.{length_before}
use Rattle.theory.proofs.Packing.{bits-length, bits-cut, bits_of_byte, rest-cons}
use Rattle.theory.proofs.Payloads.{ones-le}
use Rattle.bits_byte.proofs.Values.{value-le}
use Rattle.string_read.specs.Entered.{entered}

ones-cons : (x : Bit) (bs : List Bit) → ones (x ∷ bs) ≡ value x + ones bs
unfolding value
ones-cons O bs = omega arith
ones-cons I bs = omega arith

-- ---- the bits of a byte

module _ (x : ℕ) where
  -- what comes after the first j bits of the byte
  abbrev pub to_come : ℕ → List Bit
  to_come j = bits_from (x ∷ []) j (8 - j)

  -- after j bits: what is to come writes what all of them write
  pub record Entering (p k : ℕ) (old out : List ℕ) (next j : ℕ) : Type 0 where
    pub at : j ≤ 8
    pub few : next ≤ k + j
    pub size : length out ≡ length old
    pub some : next + ones (to_come j) ≡ k + ones (bits_from (x ∷ []) 0 8)
    pub made : entered (to_come j) next (p + j) out ≡ entered (bits_from (x ∷ []) 0 8) k p old

  pub entering_first : (p k : ℕ) (old : List ℕ) → Entering p k old old k 0
  entering_first p k old = record {
    at = omega arith;
    few = omega arith;
    size = refl;
    some = refl;
    made = ap (λ q. entered (bits_from (x ∷ []) 0 8) k q old) (let e : p + 0 ≡ p = omega arith in e);
  }

  pub entering_next : (p k : ℕ) (old out : List ℕ) (next j r : ℕ) → Entering p k old out next j → j < 8 → r ≡ value (bit_at (x ∷ []) j) → r ≤ 1
      → Entering p k old (set out next (p + j - next)) (next + r) (j + 1)
  unfolding entered
  entering_next p k old out next j r h l e small =
      let y = bit_at (x ∷ []) j in
      let cut : to_come j ≡ y ∷ to_come (j + 1) = rest-cons (x ∷ []) j 8 l in
      record {
        at = omega arith;
        few = omega (arith, h.few);
        size = length-set out next (p + j - next) ∙ h.size;
        some = omega (arith, h.some, ap ones cut, ones-cons y (to_come (j + 1)));
        made = ap₂ (λ n q. entered (to_come (j + 1)) n q (set out next (p + j - next))) (ap (λ v. next + v) e) (let f : p + (j + 1) ≡ p + j + 1 = omega arith in f)
            ∙ ap (λ bs. entered bs next (p + j) out) (sym cut)
            ∙ h.made;
      }

  pub entering_last : (p k : ℕ) (old out : List ℕ) (next j : ℕ) → Entering p k old out next j → 8 ≤ j
      → (next ≡ k + ones (bits_from (x ∷ []) 0 8)) × (out ≡ entered (bits_from (x ∷ []) 0 8) k p old)
  unfolding entered bits_from
  entering_last p k old out next j h l =
      let none : to_come j ≡ [] = ap (bits_from (x ∷ []) j) (let e : 8 - j ≡ 0 = omega arith in e) in
      (omega (arith, h.some, ap ones none), ap (λ bs. entered bs next (p + j) out) (sym none) ∙ h.made)

-- ---- all bits

module _ (b : List ℕ) (n : ℕ) where
  -- what comes after the first p bits
  unfoldable pub after : ℕ → List Bit
  after p = bits_from b p (n - p)

  pub record Kept (nodes : ℕ) (old out : List ℕ) (k p : ℕ) : Type 0 where
    pub at : p ≤ n
    pub few : k ≤ p
    pub some : k + ones (after p) ≡ nodes
    pub size : length out ≡ length old
    pub made : take k out ++ zeros_before (after p) (p - k) ≡ parents_of (bits_from b 0 n)
    pub rest : drop nodes out ≡ drop nodes old

  whole : after 0 ≡ bits_from b 0 n
  unfolding after
  whole = ap (bits_from b 0) (let e : n - 0 ≡ n = omega arith in e)

  pub kept-first : (nodes : ℕ) (old : List ℕ) → nodes ≡ ones (bits_from b 0 n) → Kept nodes old old 0 0
  unfolding parents_of
  kept-first nodes old e = record {
    at = omega arith;
    few = omega arith;
    some = omega (arith, ap ones whole);
    size = refl;
    made = ap (λ r. zeros_before r 0) whole;
    rest = refl;
  }

  module _ (nodes : ℕ) (old out : List ℕ) (k p : ℕ) (h : Kept nodes old out k p) (l : k < nodes) where
    -- a one is still to come, so the bits are not over
    pub more : p < n
    unfolding after
    more = omega (arith, h.some, h.at, ones-le (bits_from b p (n - p)), bits-length b p (n - p))

    next : after p ≡ bit_at b p ∷ after (p + 1)
    unfolding after
    next = rest-cons b p n more

    step : (x : Bit) → bit_at b p ≡ x → nodes ≤ length old → Kept nodes old (set out k (p - k)) (k + value x) (p + 1)
    unfolding value
    step O e room = record {
      at = omega (arith, more);
      few = omega (arith, h.few);
      some = omega (arith, h.some, ap ones next, ap (λ y. ones (y ∷ after (p + 1))) e);
      size = length-set out k (p - k) ∙ h.size;
      made = ap₂ (λ q z. take q (set out k (p - k)) ++ zeros_before (after (p + 1)) z) (let s : k + 0 ≡ k = omega arith in s) (let s : p + 1 - (k + 0) ≡ suc (p - k) = omega (arith, h.few) in s)
          ∙ ap (λ r. r ++ zeros_before (after (p + 1)) (suc (p - k))) (take-set-le k out k (p - k) (omega arith))
          ∙ ap (λ r. take k out ++ zeros_before r (p - k)) (sym (next ∙ ap (λ y. y ∷ after (p + 1)) e))
          ∙ h.made;
      rest = drop-set-lt nodes out k (p - k) l ∙ h.rest;
    }
    step I e room = record {
      at = omega (arith, more);
      few = omega (arith, h.few);
      some = omega (arith, h.some, ap ones next, ap (λ y. ones (y ∷ after (p + 1))) e);
      size = length-set out k (p - k) ∙ h.size;
      made = ap₂ (λ q z. take q (set out k (p - k)) ++ zeros_before (after (p + 1)) z) (add-one k) (let s : p + 1 - (k + 1) ≡ p - k = omega (arith, h.few) in s)
          ∙ ap (λ r. r ++ zeros_before (after (p + 1)) (p - k)) (take-suc-set out k (p - k) (omega (arith, h.size)))
          ∙ append_snoc (take k out) (p - k) (zeros_before (after (p + 1)) (p - k))
          ∙ ap (λ r. take k out ++ zeros_before r (p - k)) (sym (next ∙ ap (λ y. y ∷ after (p + 1)) e))
          ∙ h.made;
      rest = drop-set-lt nodes out k (p - k) l ∙ h.rest;
    }

    pub kept_next : (r : ℕ) → r ≡ value (bit_at b p) → nodes ≤ length old → Kept nodes old (set out k (p - k)) (k + r) (p + 1)
    kept_next r e room = subst (λ v. Kept nodes old (set out k (p - k)) (k + v) (p + 1)) (sym e) (step (bit_at b p) refl room)

  -- what is kept after one bit is kept after several
  kept_many : (nodes : ℕ) (old : List ℕ) (bs : List Bit) (out : List ℕ) (k p k' p' : ℕ) → Kept nodes old out k p → nodes ≤ length old
      → after p ≡ bs ++ after p' → k + length bs ≤ nodes → k' ≡ k + ones bs → p' ≡ p + length bs → Kept nodes old (entered bs k p out) k' p'
  unfolding entered
  kept_many nodes old [] out k p k' p' h room e l f g =
      subst (λ q. Kept nodes old out k' q) (let s : p ≡ p' = omega arith in s) (subst (λ q. Kept nodes old out q p) (let s : k ≡ k' = omega arith in s) h)
  kept_many nodes old (x ∷ bs) out k p k' p' h room e l f g =
      let cut = next nodes old out k p h (omega arith) in
      let here : bit_at b p ≡ x = cc in
      let later : after (p + 1) ≡ bs ++ after p' = cc in
      let v = value-le x (value x) refl in
      kept_many nodes old bs (set out k (p - k)) (k + value x) (p + 1) k' p' (step nodes old out k p h (omega arith) x here room) room later
      (omega arith) (omega (arith, ones-cons x bs)) (omega arith)

  -- and of a whole byte, when eight entries are left
  module _ (nodes : ℕ) (old out : List ℕ) (k i : ℕ) (h : Kept nodes old out k (8 * i)) (l : k + 8 ≤ nodes) where
    pub byte_more : 8 * i + 8 ≤ n
    unfolding after
    byte_more = omega (arith, h.some, h.at, ones-le (bits_from b (8 * i) (n - 8 * i)), bits-length b (8 * i) (n - 8 * i))

    pub kept_byte : (new : List ℕ) (r : ℕ) → (r ≡ k + ones (bits_from (get_or b i 0 ∷ []) 0 8)) × (new ≡ entered (bits_from (get_or b i 0 ∷ []) 0 8) k (8 * i) out)
        → nodes ≤ length old → Kept nodes old new r (8 * (i + 1))
    unfolding after
    kept_byte new r e room =
        let bs = bits_from (get_or b i 0 ∷ []) 0 8 in
        let p = 8 * i in
        let size = bits-length (get_or b i 0 ∷ []) 0 8 in
        let same : bits_from b p 8 ≡ bs = ap (λ q. bits_from b q 8) (let s : p ≡ p + 0 = omega arith in s) ∙ bits_of_byte b i 0 8 (omega arith) in
        let cut : after p ≡ bs ++ after (8 * (i + 1)) =
        ap (bits_from b p) (let s : n - p ≡ 8 + (n - 8 * (i + 1)) = omega (arith, byte_more) in s)
        ∙ bits-cut b 8 (n - 8 * (i + 1)) p
        ∙ ap₂ ◌++◌ same (ap (λ q. bits_from b q (n - 8 * (i + 1))) (let s : p + 8 ≡ 8 * (i + 1) = omega arith in s)) in
        subst (λ o. Kept nodes old o r (8 * (i + 1))) (sym e.1)
        (kept_many nodes old bs out k p r (8 * (i + 1)) h room cut (omega arith) e.0 (omega arith))

  -- what the bits after the whole bytes write, they write into what is there by then
  pub kept_again : (nodes : ℕ) (old out : List ℕ) (k p : ℕ) → Kept nodes old out k p → Kept nodes out out k p
  kept_again nodes old out k p h = record { at = h.at; few = h.few; some = h.some; size = refl; made = h.made; rest = refl }

  none_left : (bs : List Bit) (z : ℕ) → ones bs ≡ 0 → zeros_before bs z ≡ []
  none_left [] z e = refl
  none_left (O ∷ bs) z e = none_left bs (suc z) e
  none_left (I ∷ bs) z e = absurd (omega arith)

  pub kept-last : (nodes : ℕ) (first old out : List ℕ) (k p : ℕ) → drop nodes old ≡ drop nodes first → Kept nodes old out k p → nodes ≤ k → nodes ≡ ones (bits_from b 0 n)
      → out ≡ written (parents_of (bits_from b 0 n)) first
  unfolding parents_of
  kept-last nodes first old out k p before h l e =
      let ps = parents_of (bits_from b 0 n) in
      let m : length ps ≡ nodes = length_before (bits_from b 0 n) 0 ∙ sym e in
      let q : k ≡ nodes = omega (arith, h.some) in
      sym (take-append-drop nodes out)
      ∙ ap₂ ◌++◌
      (ap (λ j. take j out) (sym q)
      ∙ sym (append-nil (take k out))
      ∙ ap (λ r. take k out ++ r) (sym (none_left (after p) (p - k) (omega (arith, h.some))))
      ∙ h.made)
      (h.rest ∙ before ∙ ap (λ j. drop j first) (sym m))
