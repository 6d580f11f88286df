-- Whole bytes inside a tree, read at once: their bits neither close it nor pass its limit.
use mathlib.Core.Path.{◌≡◌, refl, sym, ap, ap₂, subst, ◌∙◌}
use mathlib.Core.Logic.{◌⊎◌, ⊎_elim}
use mathlib.Core.List.{List, [], ◌∷◌, ◌++◌}
use Prim.Native.Nat.{ℕ, zero, suc, ◌+◌, ◌-◌, ◌*◌, ◌/◌, ◌%◌, ◌≤◌}
use native.Mathlib.Omega.{arith}
use lib.ListN.{length}
use Rattle.meaning.specs.Strings.{Bit, O, I, ones}
use Rattle.meaning.specs.Bytes.{bits_from}
use Rattle.theory.specs.Layout.{AreBytes}
use Rattle.theory.proofs.Packing.{bits-length, bits-cut}
use Rattle.theory.proofs.Payloads.{ones-le}
use Rattle.bits_word.specs.Little.{little}
use Rattle.bits_lanes.specs.Lanes.{word_bits}
use Rattle.bits_lanes.proofs.Stored.{stored-bits, padded-ones}
use Rattle.string_end_laws.specs.Ends.{inside_end}
use Rattle.string_end_laws.proofs.Steps.{end_from}
use Rattle.string_pass.specs.Falls.{fall}
use Rattle.string_pass.specs.Passes.{Passes}
use Rattle.string_pass.specs.declared.Passed.{Passed}
use Rattle.string_pass.proofs.Falls.{fall-whole, fewer_fall}
use Rattle.string_skip.specs.Strides.{ReadOn, Stands, end_at}
use Rattle.string_skip.specs.declared.ScanState.{ScanState}

-- ---- bits that can neither close the tree nor pass its limit

same_end : (bs : List Bit) {i j p q m l : ℕ} → i ≡ j → p ≡ q → m ≡ l → inside_end bs i p m ≡ inside_end bs j q l
same_end bs {i} {j} {p} {q} {m} {l} e f g = ap (λ v. inside_end bs v p m) e ∙ ap₂ (inside_end bs j) f g

skip : (as' bs : List Bit) (i p m : ℕ) → fall as' ≤ p → ones as' ≤ m
    → inside_end (as' ++ bs) i p m ≡ inside_end bs (i + length as') (p + 2 * ones as' - length as') (m - ones as')
unfolding inside_end fall
skip [] bs i p m h g = same_end bs (omega arith) (omega arith) (omega arith)
skip (O ∷ as') bs i zero m h g = absurd (omega arith)
skip (O ∷ as') bs i (suc p) m h g = skip as' bs (suc i) p m (omega arith) (omega arith) ∙ same_end bs (omega arith) (omega arith) (omega arith)
skip (I ∷ as') bs i p zero h g = absurd (omega arith)
skip (I ∷ as') bs i p (suc m) h g = skip as' bs (suc i) (suc p) m (omega arith) (omega arith) ∙ same_end bs (omega arith) (omega arith) (omega arith)

-- ---- k bytes more, x of their bits ones

module _ (b : List ℕ) (n : ℕ) (f r : ScanState) (h : ReadOn b n f r) (k x : ℕ) (l : r.at + k ≤ n / 8)
    (e : x ≡ ones (bits_from b (8 * r.at) (8 * k))) (g : fall (bits_from b (8 * r.at) (8 * k)) ≤ r.pending) where
  abbrev here : List Bit
  here = bits_from b (8 * r.at) (8 * k)

  size : length here ≡ 8 * k
  size = bits-length b (8 * r.at) (8 * k)

  pub more_left : 8 * k ≤ r.pending + 2 * x
  more_left = omega (arith, fall-whole here, size)

  pub more : x ≤ r.room → ReadOn b n f (record { at = r.at + k; pending = r.pending + 2 * x - 8 * k; room = r.room - x })
  unfolding end_at
  more m =
      let s = h.stands in
      let rest = n - 8 * (r.at + k) in
      let within : 8 * r.at + 8 * k ≤ n = omega arith in
      record {
        stands = record { within = omega arith; few = omega (arith, ones-le here, size, s.few) };
        on = omega (arith, h.on);
        same = h.same
            ∙ ap (λ v. inside_end (bits_from b (8 * r.at) v) (8 * r.at) r.pending r.room) (let q : n - 8 * r.at ≡ 8 * k + rest = omega arith in q)
            ∙ ap (λ v. inside_end v (8 * r.at) r.pending r.room) (bits-cut b (8 * k) rest (8 * r.at))
            ∙ skip here (bits_from b (8 * r.at + 8 * k) rest) (8 * r.at) r.pending r.room g (omega arith)
            ∙ ap (λ v. inside_end (bits_from b v rest) (8 * r.at + length here) (r.pending + 2 * ones here - length here) (r.room - ones here))
            (let q : 8 * r.at + 8 * k ≡ 8 * (r.at + k) = omega arith in q)
            ∙ same_end (bits_from b (8 * (r.at + k)) rest) (omega (arith, size)) (omega (arith, size)) (omega arith);
      }

-- ---- what is told of the first bytes of a word, of the bytes that it was made of

-- k bytes from byte `at` on can be passed over, and x of their bits are ones
pub record Told (b : List ℕ) (at pending k x : ℕ) : Type 0 where
  pub opened : x ≡ ones (bits_from b (8 * at) (8 * k))
  pub falls : fall (bits_from b (8 * at) (8 * k)) ≤ pending

module _ (b : List ℕ) (are : AreBytes b) (at m w pending : ℕ) (made : w ≡ little b at m) (p : Passed) (q : Passes w pending p) where
  -- all that are passed, or those of them that it was made of
  pub told : (k : ℕ) → k ≤ m → k ≤ p.bytes → (k ≡ p.bytes) ⊎ (k ≡ m) → Told b at pending k p.opened
  told k l g which =
      let word = little b at m in
      let same : word_bits w k ≡ bits_from b (8 * at) (8 * k) = ap (λ v. word_bits v k) made ∙ stored-bits b are k m at l in
      let count : ones (word_bits w p.bytes) ≡ ones (word_bits w k) =
      ⊎_elim (λ e. ap (λ j. ones (word_bits w j)) (sym e))
      (λ e.
      subst (λ j. ones (word_bits w p.bytes) ≡ ones (word_bits w j)) (sym e)
      (subst (λ v. ones (word_bits v p.bytes) ≡ ones (word_bits v m)) (sym made) (padded-ones b at m p.bytes (omega arith))))
      which in
      record {
        opened = q.opened ∙ count ∙ ap (λ v. ones v) same;
        falls = subst (λ v. fall v ≤ pending) same (omega (arith, fewer_fall k p.bytes w g, q.falls));
      }

-- ---- whole bytes, from any bit that a byte begins with

pub none_yet : (b : List ℕ) (n : ℕ) (r : ScanState) → Stands n r → ReadOn b n r r
none_yet b n r s = record { stands = s; on = omega arith; same = refl }

pub and_on : (b : List ℕ) (n : ℕ) {q r s : ScanState} → ReadOn b n q r → ReadOn b n r s → ReadOn b n q s
and_on b n h g = record { stands = g.stands; on = omega (arith, h.on, g.on); same = h.same ∙ g.same }

pub all_at_once : (b : List ℕ) (n p w m : ℕ) {r : ScanState} → p % 8 ≡ 0 → ReadOn b n (record { at = p / 8; pending = w; room = m }) r
    → end_from b n p w m ≡ end_from b n (8 * r.at) r.pending r.room
unfolding end_from end_at
all_at_once b n p w m z h = ap (λ q. end_from b n q w m) (let e : p ≡ 8 * (p / 8) = omega arith in e) ∙ h.same
