-- What the reading of a tree needs at each bit, over bytes: where the bits end, the closing bit,
-- the bit past the limit, and any other.
use mathlib.Core.Path.{◌≡◌, refl, sym, ap, ap₂, ◌∙◌, subst}
use mathlib.Core.List.{List, ◌∷◌}
use Prim.Native.Nat.{ℕ, zero, suc, ◌+◌, ◌-◌, ◌*◌, ◌/◌, ◌%◌, ◌^◌, ◌≤◌, ◌<◌}
use native.Mathlib.Numerals.{add-one}
use native.Mathlib.Omega.{arith}
use lib.Bits.{bit_and}
use lib.ListN.{get_or}
use Rattle.meaning.specs.Strings.{Bit, O, I}
use Rattle.meaning.specs.Bytes.{value, bit_at, bits_from}
use Rattle.theory.proofs.Packing.{rest-cons, rest-nil}
use Rattle.bits_byte.proofs.Values.{digit_value}
use Rattle.string_end_laws.specs.Ends.{End, over, refused, inside_end, tree_end}

-- ---- bits as numbers

value_O : (x : Bit) → value x ≡ 0 → x ≡ O
unfolding value
value_O O e = refl
value_O I e = absurd (omega arith)

value_I : (x : Bit) → (value x ≡ 0 → ⊥) → x ≡ I
unfolding value
value_I O e = absurd (e refl)
value_I I e = refl

-- bit p, taken out of the byte i that it is in
pub byte_bit : (b : List ℕ) (i p : ℕ) → 8 * i ≤ p → p < 8 * i + 8 → bit_and (get_or b i 0 / 2 ^ (7 - p % 8)) 1 ≡ value (bit_at b p)
byte_bit b i p h g = ap (λ q. bit_and (get_or b q 0 / 2 ^ (7 - p % 8)) 1) (let e : i ≡ p / 8 = omega arith in e) ∙ digit_value b p

pub value-le : (x : Bit) → value x ≤ 1
unfolding value
value-le O = omega arith
value-le I = omega arith

-- ---- a bit more inside a tree

step-over : (y : Bit) (bs : List Bit) (i w m : ℕ) → w + value y ≡ 0 → inside_end (y ∷ bs) i w m ≡ over (suc i) (65535 - m)
unfolding inside_end value
step-over O bs i zero m h = refl
step-over O bs i (suc w) m h = absurd (omega arith)
step-over I bs i w m h = absurd (omega arith)

step_full : (y : Bit) (bs : List Bit) (i w m : ℕ) → m < value y → inside_end (y ∷ bs) i w m ≡ refused (suc i)
unfolding inside_end value
step_full O bs i w m h = absurd (omega arith)
step_full I bs i w zero h = refl
step_full I bs i w (suc m) h = absurd (omega arith)

step_on : (y : Bit) (bs : List Bit) (i w m : ℕ) → (w + value y ≡ 0 → ⊥) → value y ≤ m
    → inside_end (y ∷ bs) i w m ≡ inside_end bs (suc i) (w + 2 * value y - 1) (m - value y)
unfolding inside_end value
step_on O bs i zero m h g = absurd (h refl)
step_on O bs i (suc w) m h g =
    ap₂ (inside_end bs (suc i)) (let e : w ≡ suc w + 2 * 0 - 1 = omega arith in e) (let e : m ≡ m - 0 = omega arith in e)
step_on I bs i w zero h g = absurd (omega arith)
step_on I bs i w (suc m) h g =
    ap₂ (inside_end bs (suc i)) (let e : suc w ≡ w + 2 * 1 - 1 = omega arith in e) (let e : m ≡ suc m - 1 = omega arith in e)

-- after r bits of a tree, the first two of them 10: w nodes are pending besides the one that is
-- read, at first the super-root, and m more are allowed
abbrev pub CountsAt : ℕ → ℕ → ℕ → Type 0
CountsAt zero w m = (w ≡ 0) × (m ≡ 65535)
CountsAt (suc zero) w m = (w ≡ 1) × (m ≡ 65534)
CountsAt (suc (suc r)) w m = w + m ≤ 65534

pub counted_inside : (r w m : ℕ) → 2 ≤ r → (CountsAt r w m → w + m ≤ 65534) × (w + m ≤ 65534 → CountsAt r w m)
counted_inside zero w m h = absurd (omega arith)
counted_inside (suc zero) w m h = absurd (omega arith)
counted_inside (suc (suc r)) w m h = (λ k. k, λ k. k)

module _ (b : List ℕ) (n : ℕ) where
  -- the end of a tree of which p bits are read, w nodes are pending and m more allowed
  unfoldable pub end_from : ℕ → ℕ → ℕ → End
  end_from p w m = inside_end (bits_from b p (n - p)) p w m

  pub end_none : (p w m : ℕ) → p ≡ n → end_from p w m ≡ refused (n + 1)
  unfolding end_from inside_end
  end_none p w m e = ap (λ r. inside_end r p w m) (rest-nil b p n (omega arith)) ∙ ap refused (let z : suc p ≡ n + 1 = omega arith in z)

  -- x is the bit that is read, as a number
  module _ (p w m x : ℕ) (l : p < n) (v : x ≡ value (bit_at b p)) where
    pub end-over : w + x ≡ 0 → end_from p w m ≡ over (p + 1) (65535 - m)
    unfolding end_from
    end-over h =
        ap (λ r. inside_end r p w m) (rest-cons b p n l)
        ∙ step-over (bit_at b p) _ p w m (omega arith)
        ∙ ap (λ q. over q (65535 - m)) (sym (add-one p))

    pub end_full : m < x → end_from p w m ≡ refused (p + 1)
    unfolding end_from
    end_full h =
        ap (λ r. inside_end r p w m) (rest-cons b p n l) ∙ step_full (bit_at b p) _ p w m (omega arith) ∙ ap refused (sym (add-one p))

    pub end_on : (w + x ≡ 0 → ⊥) → x ≤ m → end_from p w m ≡ end_from (p + 1) (w + 2 * x - 1) (m - x)
    unfolding end_from
    end_on h g =
        let bs = bits_from b (p + 1) (n - (p + 1)) in
        ap (λ r. inside_end r p w m) (rest-cons b p n l)
        ∙ step_on (bit_at b p) bs p w m (λ z. h (omega arith)) (omega arith)
        ∙ ap (λ y. inside_end bs (suc p) (w + 2 * y - 1) (m - y)) (sym v)
        ∙ ap (λ q. inside_end bs q (w + 2 * x - 1) (m - x)) (sym (add-one p))

  -- ---- a tree from its first bit on: it begins with 10

  -- the end of a tree that starts after `at` bits and of which r bits are read, up to bit p
  unfoldable pub open_end : ℕ → ℕ → ℕ → ℕ → ℕ → End
  open_end zero at p w m = tree_end (bits_from b p (n - p)) p
  open_end (suc zero) at p w m = tree_end (I ∷ bits_from b p (n - p)) at
  open_end (suc (suc r)) at p w m = end_from p w m

  read_inside : (r at p w m : ℕ) → 2 ≤ r → open_end r at p w m ≡ end_from p w m
  unfolding open_end
  read_inside zero at p w m h = absurd (omega arith)
  read_inside (suc zero) at p w m h = absurd (omega arith)
  read_inside (suc (suc r)) at p w m h = refl

  read_none : (r at p w m : ℕ) → p ≡ at + r → p ≡ n → open_end r at p w m ≡ refused (n + 1)
  unfolding open_end tree_end
  read_none zero at p w m e h = ap (λ l. tree_end l p) (rest-nil b p n (omega arith)) ∙ ap refused (let z : suc p ≡ n + 1 = omega arith in z)
  read_none (suc zero) at p w m e h = ap (λ l. tree_end (I ∷ l) at) (rest-nil b p n (omega arith)) ∙ ap refused (let z : suc (suc at) ≡ n + 1 = omega arith in z)
  read_none (suc (suc r)) at p w m e h = end_none p w m h

  -- the bit that is read, x, is not a first 0 or a second 1, or it is
  module _ (at p w m x : ℕ) (l : p < n) (v : x ≡ value (bit_at b p)) where
    bit-here : (y : Bit) → bit_at b p ≡ y → bits_from b p (n - p) ≡ y ∷ bits_from b (p + 1) (n - (p + 1))
    bit-here y e = rest-cons b p n l ∙ ap (λ z. z ∷ bits_from b (p + 1) (n - (p + 1))) e

    read_wrong : (r : ℕ) → p ≡ at + r → p ≡ at + x → open_end r at p w m ≡ refused (p + 1)
    unfolding open_end tree_end
    read_wrong zero e h = ap (λ s. tree_end s p) (bit-here O (value_O (bit_at b p) (omega arith))) ∙ ap refused (sym (add-one p))
    read_wrong (suc zero) e h =
        ap (λ s. tree_end (I ∷ s) at) (bit-here I (value_I (bit_at b p) (λ z. omega arith))) ∙ ap refused (let q : suc (suc at) ≡ p + 1 = omega arith in q)
    read_wrong (suc (suc r)) e h = absurd (omega (arith, value-le (bit_at b p)))

    module _ (right : p ≡ at + x → ⊥) where
      read_over : (r : ℕ) → p ≡ at + r → CountsAt r w m → w + x ≡ 0 → open_end r at p w m ≡ over (p + 1) (65535 - m)
      unfolding open_end
      read_over zero e k h = absurd (right (omega arith))
      read_over (suc zero) e k h = absurd (omega arith)
      read_over (suc (suc r)) e k h = end-over p w m x l v h

      read_full : (r : ℕ) → p ≡ at + r → CountsAt r w m → m < x → open_end r at p w m ≡ refused (p + 1)
      unfolding open_end
      read_full zero e k h = absurd (omega (arith, value-le (bit_at b p)))
      read_full (suc zero) e k h = absurd (omega (arith, value-le (bit_at b p)))
      read_full (suc (suc r)) e k h = end_full p w m x l v h

      read_on : (r : ℕ) → p ≡ at + r → CountsAt r w m → (w + x ≡ 0 → ⊥) → x ≤ m
          → (open_end r at p w m ≡ open_end (suc r) at (p + 1) (w + 2 * x - 1) (m - x)) × CountsAt (suc r) (w + 2 * x - 1) (m - x)
      unfolding open_end tree_end end_from
      read_on zero e k h g =
          let one : x ≡ 1 = omega (arith, value-le (bit_at b p)) in
          (ap₂ tree_end (bit-here I (value_I (bit_at b p) (λ z. omega arith))) (let q : p ≡ at = omega arith in q), (omega arith, omega arith))
      read_on (suc zero) e k h g =
          let none : x ≡ 0 = omega (arith, value-le (bit_at b p)) in (
            ap (λ s. tree_end (I ∷ s) at) (bit-here O (value_O (bit_at b p) (omega arith)))
                ∙ ap (λ i. inside_end (bits_from b (p + 1) (n - (p + 1))) i 0 65534) (let q : suc (suc at) ≡ p + 1 = omega arith in q)
                ∙ ap₂ (inside_end (bits_from b (p + 1) (n - (p + 1))) (p + 1)) (let q : 0 ≡ w + 2 * x - 1 = omega arith in q) (let q : 65534 ≡ m - x = omega arith in q),
            omega arith,
          )
      read_on (suc (suc r)) e k h g = (end_on p w m x l v h g, omega (arith, value-le (bit_at b p)))

-- ---- a tree that starts after `at` bits, read up to bit p

pub record Open (b : List ℕ) (n at p w m : ℕ) : Type 0 where
  pub from : at ≤ p
  pub few : w + m ≤ 65535
  pub counted : CountsAt (p - at) w m
  pub same : tree_end (bits_from b at (n - at)) at ≡ open_end b n (p - at) at p w m

module _ (b : List ℕ) (n at : ℕ) where
  pub open_first : (p w m : ℕ) → p ≡ at → w ≡ 0 → m ≡ 65535 → Open b n at p w m
  unfolding open_end
  open_first p w m e f g =
      let z : p - at ≡ 0 = omega arith in
      record {
        from = omega arith;
        few = omega arith;
        counted = subst (λ r. CountsAt r w m) (sym z) (f, g);
        same = ap (λ q. tree_end (bits_from b q (n - q)) q) (sym e) ∙ ap (λ r. open_end b n r at p w m) (sym z);
      }

  module _ (p w m : ℕ) (o : Open b n at p w m) where
    read : p ≡ at + (p - at)
    read = let h = o.from in omega arith

    pub open_none : p ≡ n → tree_end (bits_from b at (n - at)) at ≡ refused (n + 1)
    open_none h = o.same ∙ read_none b n (p - at) at p w m read h

    -- inside it whole bytes may be passed over
    pub open_few : at + 2 ≤ p → w + m ≤ 65534
    open_few h = (counted_inside (p - at) w m (omega arith)).0 o.counted

    pub open_skip : (q v k : ℕ) → at + 2 ≤ p → p ≤ q → v + k ≤ 65534 → end_from b n p w m ≡ end_from b n q v k → Open b n at q v k
    open_skip q v k h l few e =
        record {
          from = omega arith;
          few = omega arith;
          counted = (counted_inside (q - at) v k (omega arith)).1 few;
          same = o.same ∙ read_inside b n (p - at) at p w m (omega arith) ∙ e ∙ sym (read_inside b n (q - at) at q v k (omega arith));
        }

    module _ (x : ℕ) (l : p < n) (v : x ≡ value (bit_at b p)) where
      pub open_wrong : p ≡ at + x → tree_end (bits_from b at (n - at)) at ≡ refused (p + 1)
      open_wrong h = o.same ∙ read_wrong b n at p w m x l v (p - at) read h

      module _ (right : p ≡ at + x → ⊥) where
        pub open_over : w + x ≡ 0 → tree_end (bits_from b at (n - at)) at ≡ over (p + 1) (65535 - m)
        open_over h = o.same ∙ read_over b n at p w m x l v right (p - at) read o.counted h

        pub open_full : m < x → tree_end (bits_from b at (n - at)) at ≡ refused (p + 1)
        open_full h = o.same ∙ read_full b n at p w m x l v right (p - at) read o.counted h

        pub open_on : (w + x ≡ 0 → ⊥) → x ≤ m → Open b n at (p + 1) (w + 2 * x - 1) (m - x)
        open_on h g =
            let few = o.few in
            let from = o.from in
            let bit = value-le (bit_at b p) in
            let r = read_on b n at p w m x l v right (p - at) read o.counted h g in
            let e : p + 1 - at ≡ suc (p - at) = omega arith in
            record {
              from = omega arith;
              few = omega arith;
              counted = subst (λ k. CountsAt k (w + 2 * x - 1) (m - x)) (sym e) r.1;
              same = o.same ∙ r.0 ∙ ap (λ k. open_end b n k at (p + 1) (w + 2 * x - 1) (m - x)) (sym e);
            }
