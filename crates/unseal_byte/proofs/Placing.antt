-- The positions of ones, placed from the last bit to the first: what a bit and a piece of the bits
-- add.
use mathlib.Core.Path.{◌≡◌, refl, sym, ap, ap₂, ◌∙◌, subst}
use mathlib.Core.List.{List, [], ◌∷◌, ◌++◌, append_assoc}
use Prim.Native.Nat.{ℕ, suc, ◌+◌, ◌-◌, ◌≤◌, ◌<◌}
use native.Mathlib.Omega.{arith}
use lib.ListN.{length, take, drop, set, length-set, drop_of_length-le}
use lib.Seq.{drop-cons, drop-set-lt, get_or-set_same}
use Rattle.meaning.specs.Strings.{Bit, O, I, ones, positions}
use Rattle.meaning.specs.Bytes.{bit, bit_at, bits_from, value}
use Rattle.theory.proofs.Odd.{ones-append}
use Rattle.unseal_byte.specs.Placed.{Placed}
use Rattle.unseal_byte.proofs.Pieces.{rest_more, piece_length, ones_parts}

pub positions-append : (xs ys : List Bit) (i : ℕ) → positions (xs ++ ys) i ≡ positions xs i ++ positions ys (i + length xs)
unfolding positions
positions-append [] ys i = ap (positions ys) (let e : i ≡ i + 0 = omega arith in e)
positions-append (O ∷ xs) ys i = positions-append xs ys (suc i) ∙ ap (λ k. positions xs (suc i) ++ positions ys k) (let e : suc i + length xs ≡ i + suc (length xs) = omega arith in e)
positions-append (I ∷ xs) ys i =
    ap (λ r. i ∷ r) (positions-append xs ys (suc i) ∙ ap (λ k. positions xs (suc i) ++ positions ys k) (let e : suc i + length xs ≡ i + suc (length xs) = omega arith in e))

pub positions-length : (bs : List Bit) (i : ℕ) → length (positions bs i) ≡ ones bs
unfolding positions
positions-length [] i = refl
positions-length (O ∷ bs) i = positions-length bs (suc i)
positions-length (I ∷ bs) i = ap suc (positions-length bs (suc i))

-- ---- a bit, and eight zeros

-- a zero leaves what was placed as it was
pub placed-bit : (x : Bit) (i k : ℕ) (old : List ℕ) (v : ℕ) → v ≡ value x → 1 ≤ k → k ≤ length old → Placed (x ∷ []) i k old (set old (k - 1) (i + 1)) (k - v)
unfolding value positions
placed-bit O i k old v e some room = record {
  count = omega arith;
  made = ap (λ r. drop r (set old (k - 1) (i + 1))) (let q : k - v ≡ k = omega arith in q) ∙ drop-set-lt k old (k - 1) (i + 1) (omega arith);
}
placed-bit I i k old v e some room =
    let out = set old (k - 1) (i + 1) in
    record {
      count = omega arith;
      made = ap (λ r. drop r out) (let q : k - v ≡ k - 1 = omega arith in q)
          ∙ drop-cons out (k - 1) 0 (omega (arith, length-set old (k - 1) (i + 1)))
          ∙ ap₂ ◌∷◌ (get_or-set_same old (k - 1) (i + 1) 0 (omega arith)) (ap (λ r. drop r out) (let q : suc (k - 1) ≡ k = omega arith in q) ∙ drop-set-lt k old (k - 1) (i + 1) (omega arith));
    }

pub placed-zeros : (x i k : ℕ) (old : List ℕ) → x ≡ 0 → Placed (bits_from (x ∷ []) 0 8) i k old old k
unfolding positions bits_from bit_at bit
placed-zeros x i k old e = subst (λ y. Placed (bits_from (y ∷ []) 0 8) i k old old k) (sym e) none
  where
    none : Placed (bits_from (0 ∷ []) 0 8) i k old old k
    none = record { count = omega arith; made = refl }

-- ---- piece by piece

-- all from bit j on are placed, and there is room for the others
pub record Down (all : List Bit) (i k : ℕ) (old : List ℕ) (j : ℕ) (out : List ℕ) (low : ℕ) : Type 0 where
  pub size : length out ≡ length old
  pub few : ones all < k
  pub room : k ≤ length old
  pub some : 1 ≤ low
  pub most : low ≤ k
  pub placed : Placed (drop j all) (i + j) k old out low

pub down-first : (all : List Bit) (i k : ℕ) (old : List ℕ) (n : ℕ) → length all ≤ n → ones all < k → k ≤ length old → Down all i k old n old k
unfolding positions
down-first all i k old n l few room = record {
  size = refl;
  few = few;
  room = room;
  some = omega arith;
  most = omega arith;
  placed = subst (λ bs. Placed bs (i + n) k old old k) (sym (drop_of_length-le all l)) (record { count = omega arith; made = refl });
}

module _ (all new : List Bit) (i k : ℕ) (old : List ℕ) (j s t : ℕ) (f : t ≡ j + s) (e : take s (drop j all) ≡ new) (g : t ≤ length all)
    (mid : List ℕ) (q : ℕ) (h : Down all i k old t mid q) where
  rest : drop j all ≡ new ++ drop t all
  rest = rest_more all new j s e ∙ ap (λ n. new ++ drop n all) (sym f)

  counted : ones (drop j all) ≡ ones new + ones (drop t all)
  counted = ap (λ l. ones l) rest ∙ ones-append new (drop t all)

  pub down-room : ones new < q
  down-room = omega (arith, h.few, h.placed.count, ones_parts all j, counted)

  pub down-next : (out : List ℕ) (r : ℕ) → length out ≡ length mid → Placed new (i + j) q mid out r → Down all i k old j out r
  down-next out r l p = record {
    size = l ∙ h.size;
    few = h.few;
    room = h.room;
    some = omega (arith, p.count, down-room);
    most = omega (arith, p.count, h.most);
    placed = record {
      count = omega (arith, p.count, h.placed.count, counted);
      made = p.made
          ∙ ap (λ l. positions new (i + j + 1) ++ l) h.placed.made
          ∙ sym (append_assoc (positions new (i + j + 1)) (positions (drop t all) (i + t + 1)) (drop k old))
          ∙ ap (λ l. l ++ drop k old)
          (ap (λ a. positions new (i + j + 1) ++ positions (drop t all) a) (let c : i + t + 1 ≡ i + j + 1 + length new = omega (arith, piece_length all new j s e (omega arith)) in c)
          ∙ sym (positions-append new (drop t all) (i + j + 1))
          ∙ ap (λ l. positions l (i + j + 1)) (sym rest));
    };
  }

pub down-done : (all : List Bit) (i k : ℕ) (old : List ℕ) (j : ℕ) (out : List ℕ) (low : ℕ) → j ≤ 0 → Down all i k old j out low → Placed all i k old out low
down-done all i k old j out low z h =
    subst (λ n. Placed all n k old out low) (let e : i + 0 ≡ i = omega arith in e) (subst (λ n. Placed (drop n all) (i + n) k old out low) (let e : j ≡ 0 = omega arith in e) h.placed)

-- bits of a string from its beginning
pub placed_at : (bits : List Bit) (j k : ℕ) (old out : List ℕ) (r : ℕ) → Placed bits j k old out r → Placed bits (0 + j) k old out r
placed_at bits j k old out r h = subst (λ n. Placed bits n k old out r) (let e : j ≡ 0 + j = omega arith in e) h

-- ---- the last piece, and then those before it as bits of their own

module _ (all new : List Bit) (i k : ℕ) (old : List ℕ) (j s : ℕ) (l : length all ≡ j + s) (e : take s (drop j all) ≡ new) (few : ones all < k) (room : k ≤ length old) where
  last : Down all i k old (j + s) old k
  last = down-first all i k old (j + s) (omega arith) few room

  pub last-room : ones new < k
  last-room = down-room all new i k old j s (j + s) refl e (omega arith) old k last

  pub last-down : (mid : List ℕ) (q : ℕ) → length mid ≡ length old → Placed new (i + j) k old mid q → Down all i k old j mid q
  last-down = down-next all new i k old j s (j + s) refl e (omega arith) old k last

module _ (all front : List Bit) (i k : ℕ) (old : List ℕ) (j : ℕ) (e : take j all ≡ front) (g : j ≤ length all) (mid : List ℕ) (q : ℕ) (h : Down all i k old j mid q) where
  pub down_again : Down front i q mid j mid q
  down_again =
      down-first front i q mid j (omega (arith, piece_length all front 0 j e (omega arith)))
      (down-room all front i k old 0 j j (omega arith) e g mid q h)
      (omega (arith, h.most, h.room, h.size))

  pub down-joined : (out : List ℕ) (r : ℕ) → length out ≡ length mid → Placed front i q mid out r → Placed all i k old out r
  down-joined out r l p =
      down-done all i k old 0 out r (omega arith)
      (down-next all front i k old 0 j j (omega arith) e g mid q h out r l (subst (λ n. Placed front n q mid out r) (let c : i ≡ i + 0 = omega arith in c) p))
