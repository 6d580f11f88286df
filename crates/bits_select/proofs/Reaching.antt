-- The place of a one, found by passing over bits that do not have it.
use mathlib.Core.Path.{◌≡◌, refl, sym, ap, ◌∙◌}
use mathlib.Core.List.{List, [], ◌∷◌, ◌++◌}
use Prim.Native.Nat.{ℕ, zero, suc, ◌+◌, ◌-◌, ◌*◌, ◌≤◌, ◌<◌}
use native.Mathlib.Decide.{dec_lt}
use native.Mathlib.Omega.{arith}
use lib.ListN.{length, get_or}
use Rattle.meaning.specs.Strings.{Bit, O, I, ones}
use Rattle.meaning.specs.Bytes.{bits_from}
use Rattle.theory.specs.Rank.{position}
use Rattle.theory.proofs.Forms.{position-front, position_split}
use Rattle.theory.proofs.Odd.{ones-append}
use Rattle.theory.proofs.Packing.{bits-length, bits-cut, bits_of_byte}
use Rattle.bits_byte.specs.Byte.{byte_bits}
use Rattle.bits_count.proofs.Runs.{ones_cut}

-- ---- two lists, one after the other

pub front : (a b : List Bit) (k : ℕ) → 1 ≤ k → k ≤ ones a → position (a ++ b) k ≡ position a k
front a b zero h g = absurd (omega arith)
front a b (suc k) h g = position-front a b k (omega arith)

pub later : (a b : List Bit) (k : ℕ) → ones a < k → position (a ++ b) k ≡ length a + position b (k - ones a)
later a b k h =
    let j = k - ones a - 1 in
    ap (position (a ++ b)) (let e : k ≡ suc (ones a + j) = omega arith in e)
    ∙ position_split a b j
    ∙ ap (λ n. length a + position b n) (let e : suc j ≡ k - ones a = omega arith in e)

pub position-le : (bs : List Bit) (k : ℕ) → position bs k ≤ length bs
position-le [] k = omega arith
position-le (b ∷ bs) zero = omega arith
position-le (O ∷ bs) (suc k) = omega (arith, position-le bs (suc k))
position-le (I ∷ bs) (suc k) = omega (arith, position-le bs k)

-- ---- bits read by place and number, as `bits_from` and `string_in` read them

module _ (f : ℕ → ℕ → List Bit) (cut : (k m p : ℕ) → f p (k + m) ≡ f p k ++ f (p + k) m) (size : (p n : ℕ) → length (f p n) ≡ n) where
  ones-both : (p w m : ℕ) → w ≤ m → ones (f p m) ≡ ones (f p w) + ones (f (p + w) (m - w))
  ones-both p w m h =
      ap (λ n. ones (f p n)) (let e : m ≡ w + (m - w) = omega arith in e) ∙ ap (λ l. ones l) (cut w (m - w) p) ∙ ones-append (f p w) (f (p + w) (m - w))

  pub ones_mono : (p w m : ℕ) → w ≤ m → ones (f p w) ≤ ones (f p m)
  ones_mono p w m h = omega (arith, ones-both p w m h)

  pub place-le : (p n k : ℕ) → position (f p n) k ≤ n
  place-le p n k = omega (arith, position-le (f p n) k, size p n)

  longer : (p w m k : ℕ) → w ≤ m → 1 ≤ k → k ≤ ones (f p w) → position (f p m) k ≡ position (f p w) k
  longer p w m k h s g =
      ap (λ n. position (f p n) k) (let e : m ≡ w + (m - w) = omega arith in e) ∙ ap (λ l. position l k) (cut w (m - w) p) ∙ front (f p w) (f (p + w) (m - w)) k s g

  -- how far is read is no matter, if the one is there
  pub same_place : (p w m k : ℕ) → 1 ≤ k → k ≤ ones (f p w) → k ≤ ones (f p m) → position (f p m) k ≡ position (f p w) k
  same_place p w m k s g l = elim (dec_lt w m) [
    | yes h ↦ longer p w m k (omega arith) s g
    | no h ↦ sym (longer p m w k (omega arith) s l)
  ]

  -- w bits that do not have it, and those after them
  module _ (p w m k : ℕ) (short : ones (f p w) < k) (there : k ≤ ones (f p m)) where
    pub past_more : w < m
    past_more = elim (dec_lt w m) [
      | yes h ↦ h
      | no h ↦ absurd (omega (arith, ones-both p m w (omega arith)))
    ]

    pub past-there : k - ones (f p w) ≤ ones (f (p + w) (m - w))
    past-there = let h = past_more in omega (arith, ones-both p w m (omega arith))

    pub past-place : position (f p m) k ≡ w + position (f (p + w) (m - w)) (k - ones (f p w))
    past-place =
        let h = past_more in
        let n = m - w in
        ap (λ j. position (f p j) k) (let e : m ≡ w + n = omega arith in e)
        ∙ ap (λ l. position l k) (cut w n p)
        ∙ later (f p w) (f (p + w) n) k short
        ∙ ap (λ j. j + position (f (p + w) n) (k - ones (f p w))) (size p w)

-- ---- whole bytes

pub byte_here : (bytes : List ℕ) (i : ℕ) → bits_from bytes (8 * i) 8 ≡ byte_bits (get_or bytes i 0)
byte_here bytes i = ap (λ p. bits_from bytes p 8) (let e : 8 * i ≡ 8 * i + 0 = omega arith in e) ∙ bits_of_byte bytes i 0 8 (omega arith)

-- v bytes and as many after them
pub ones_twice : (bytes : List ℕ) (at v : ℕ) → ones (bits_from bytes (8 * at) (8 * v)) + ones (bits_from bytes (8 * (at + v)) (8 * v)) ≡ ones (bits_from bytes (8 * at) (8 * v + 8 * v))
ones_twice bytes at v =
    ap (λ p. ones (bits_from bytes (8 * at) (8 * v)) + ones (bits_from bytes p (8 * v))) (let e : 8 * (at + v) ≡ 8 * at + 8 * v = omega arith in e)
    ∙ sym (ones_cut bytes (8 * at) (8 * v) (8 * v))

-- looking for one number k of the e bytes from `at` on, one is to find number `need` of the v bytes
-- from i on
pub record Reached (bytes : List ℕ) (at e k i v need : ℕ) : Type 0 where
  pub start : at ≤ i
  pub end : i + v ≤ at + e
  pub some : 1 ≤ need
  pub there : need ≤ ones (bits_from bytes (8 * i) (8 * v))
  pub place : 8 * (i - at) + position (bits_from bytes (8 * i) (8 * v)) need ≡ position (bits_from bytes (8 * at) (8 * e)) k

module _ (bytes : List ℕ) (at e k : ℕ) where
  pub reached_first : 1 ≤ k → k ≤ ones (bits_from bytes (8 * at) (8 * e)) → Reached bytes at e k at e k
  reached_first h g = record {
    start = omega arith;
    end = omega arith;
    some = h;
    there = g;
    place = let z : 8 * (at - at) + position (bits_from bytes (8 * at) (8 * e)) k ≡ position (bits_from bytes (8 * at) (8 * e)) k = omega arith in z;
  }

  module _ (i v need w here : ℕ) (is : here ≡ ones (bits_from bytes (8 * i) (8 * w))) (r : Reached bytes at e k i v need) where
    -- the first w bytes do not have it
    pub reached_past : here < need → Reached bytes at e k (i + w) (v - w) (need - here)
    reached_past h =
        let short : ones (bits_from bytes (8 * i) (8 * w)) < need = omega arith in
        let more = past_more (bits_from bytes) (bits-cut bytes) (bits-length bytes) (8 * i) (8 * w) (8 * v) need short r.there in
        let left = past-there (bits_from bytes) (bits-cut bytes) (bits-length bytes) (8 * i) (8 * w) (8 * v) need short r.there in
        let found = past-place (bits_from bytes) (bits-cut bytes) (bits-length bytes) (8 * i) (8 * w) (8 * v) need short r.there in
        let n = need - ones (bits_from bytes (8 * i) (8 * w)) in
        let bits : bits_from bytes (8 * i + 8 * w) (8 * v - 8 * w) ≡ bits_from bytes (8 * (i + w)) (8 * (v - w)) = rest in
        let num : n ≡ need - here = omega arith in
        let at_most = ap (λ l. ones l) bits in
        let as_far : position (bits_from bytes (8 * i + 8 * w) (8 * v - 8 * w)) n ≡ position (bits_from bytes (8 * (i + w)) (8 * (v - w))) (need - here) =
        ap (λ l. position l n) bits ∙ ap (position (bits_from bytes (8 * (i + w)) (8 * (v - w)))) num in
        record {
          start = omega (arith, r.start);
          end = omega (arith, r.end);
          some = omega arith;
          there = omega arith;
          place = omega (arith, r.start, r.place);
        }
      where
        rest : bits_from bytes (8 * i + 8 * w) (8 * v - 8 * w) ≡ bits_from bytes (8 * (i + w)) (8 * (v - w))
        rest =
            ap (λ p. bits_from bytes p (8 * v - 8 * w)) (let f : 8 * i + 8 * w ≡ 8 * (i + w) = omega arith in f)
            ∙ ap (bits_from bytes (8 * (i + w))) (let f : 8 * v - 8 * w ≡ 8 * (v - w) = omega arith in f)

    -- they have it
    pub reached_place : need ≤ here → (x : ℕ) → x ≡ position (bits_from bytes (8 * i) (8 * w)) need → 8 * (i - at) + x ≡ position (bits_from bytes (8 * at) (8 * e)) k
    reached_place h x f =
        let g : need ≤ ones (bits_from bytes (8 * i) (8 * w)) = omega arith in
        ap (λ n. 8 * (i - at) + n) (f ∙ same_place (bits_from bytes) (bits-cut bytes) (bits-length bytes) (8 * i) (8 * v) (8 * w) need r.some r.there g) ∙ r.place

    pub reached_here : w ≤ v → need ≤ here → Reached bytes at e k i w need
    reached_here l h = record {
      start = r.start;
      end = omega (arith, r.end);
      some = r.some;
      there = omega arith;
      place = reached_place h (position (bits_from bytes (8 * i) (8 * w)) need) refl;
    }
