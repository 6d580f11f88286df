-- The byte of a word that has one number k: the first whose lane, in the sums of ones, has k.
use mathlib.Core.Path.{◌≡◌, refl, sym, ap, subst, ◌∙◌}
use mathlib.Core.Bool.{Bool}
use Prim.Native.Nat.{ℕ, zero, suc, ◌+◌, ◌-◌, ◌*◌, ◌/◌, ◌%◌, ◌^◌, ◌<◌, ◌≤◌}
use native.Mathlib.Nat.{sub-zero, zero-add}
use native.Mathlib.Decide.{dec_lt}
use native.Mathlib.Omega.{arith}
use lib.Bits.{bit_and, and_block}
use lib.Count.{count_trailing_zeros}
use lib.Dec.{eqb, eqb→eq}
use lib.ListN.{length}
use lib.Pow.{shr-shr}
use Rattle.meaning.specs.Strings.{ones}
use Rattle.theory.specs.Rank.{position}
use Rattle.theory.proofs.Odd.{ones-append}
use Rattle.bits_byte.specs.Byte.{byte_bits}
use Rattle.bits_byte.proofs.Table.{at}
use Rattle.bits_lanes.specs.Lanes.{word_bits, each, ones_in, ones_earlier}
use Rattle.bits_lanes.proofs.Counts.{byte_few, byte_length}
use Rattle.bits_lanes.proofs.Zeros.{eight_on, eight-zeros, eight_more}
use Rattle.bits_select.proofs.Reaching.{front, later}

-- ---- sums compared with k

-- in the lane of each byte 128 and the ones up to its end, where c come before the first, less k
unfoldable levels : ℕ → ℕ → ℕ → ℕ → ℕ
levels k c w zero = 0
levels k c w (suc n) = levels k (c + ones_in (w % 256)) (w / 256) n * 256 + (c + ones_in (w % 256) + 128 - k)

-- the digits of 128 of them
unfoldable pub marks : ℕ → ℕ → ℕ → ℕ → ℕ
marks k c w zero = 0
marks k c w (suc n) = marks k (c + ones_in (w % 256)) (w / 256) n * 256 + bit_and (c + ones_in (w % 256) + 128 - k) 128

levels_are : (k c w n : ℕ) → k ≤ 64 → levels k c w n + each (λ x. k) w n ≡ each ones_in w n + ones_earlier c w n + each (λ x. 128) w n
unfolding levels each ones_earlier
levels_are k c w zero h = refl
levels_are k c w (suc n) h = omega (arith, levels_are k (c + ones_in (w % 256)) (w / 256) n h)

marks_are : (k c w n : ℕ) → c + 8 * n ≤ 64 → bit_and (levels k c w n) (each (λ x. 128) w n) ≡ marks k c w n
unfolding levels each marks
marks_are k c w zero h = refl
marks_are k c w (suc n) h =
    let d = c + ones_in (w % 256) in
    let few = byte_few (w % 256) in
    and_block 8 (levels k d (w / 256) n) (each (λ x. 128) (w / 256) n) (d + 128 - k) 128 (omega arith) (omega arith)
    ∙ ap (λ v. v * 256 + bit_and (d + 128 - k) 128) (marks_are k d (w / 256) n (omega arith))

-- as code has them
pub marked : (k w : ℕ) → k ≤ 64
    → bit_and (each ones_in w 8 + ones_earlier 0 w 8 + 9259542123273814144 - k * 72340172838076673) 9259542123273814144 ≡ marks k 0 w 8
unfolding each
marked k w h =
    ap (λ v. bit_and v 9259542123273814144)
    (let e : each ones_in w 8 + ones_earlier 0 w 8 + 9259542123273814144 - k * 72340172838076673 ≡ levels k 0 w 8 = omega (arith, levels_are k 0 w 8 h) in e)
    ∙ marks_are k 0 w 8 (omega arith)

-- ---- the first lane that has k

abbrev kept : ℕ → Bool
kept v = eqb (bit_and v 128) (v / 128 * 128)

digit : (v : ℕ) → v < 256 → bit_and v 128 ≡ v / 128 * 128
digit v h = eqb→eq (bit_and v 128) (v / 128 * 128) (at kept 256 tt v h)

-- byte i of a word
abbrev pub lane : ℕ → ℕ → ℕ
lane w i = w / 2 ^ (8 * i) % 256

-- where c ones come before the word, its byte i has one number k
pub record Found (w n c k i : ℕ) : Type 0 where
  pub within : i < n
  pub short : c + ones (word_bits w i) < k
  pub there : k ≤ c + ones (word_bits w i) + ones_in (lane w i)
  pub place : position (word_bits w n) (k - c) ≡ 8 * i + position (byte_bits (lane w i)) (k - c - ones (word_bits w i))

pub found : (n w c k : ℕ) → c < k → k ≤ c + ones (word_bits w n) → k ≤ 64 → c + 8 * n ≤ 64 → Found w n c k (count_trailing_zeros (8 * n) (marks k c w n) / 8)
unfolding word_bits marks
found zero w c k less some lk lc = absurd (omega arith)
found (suc n) w c k less some lk lc =
    let x = w % 256 in
    let d = c + ones_in x in
    let few = byte_few x in
    let rest = word_bits (w / 256) n in
    let all = marks k c w (suc n) in
    let others = marks k d (w / 256) n in
    let t = count_trailing_zeros (8 * suc n) all in
    let mark = digit (d + 128 - k) (omega arith) in
    let wide : t ≡ count_trailing_zeros (eight_on (8 * n)) all = ap (λ j. count_trailing_zeros j all) (let e : 8 * suc n ≡ eight_on (8 * n) = omega arith in e) in
    elim (dec_lt d k) [
      | yes past ↦
          let f = found n (w / 256) d k past (omega (arith, ones-append (byte_bits x) rest)) lk (omega arith) in
          let i = count_trailing_zeros (8 * n) others / 8 in
          let zeros : t ≡ 8 + count_trailing_zeros (8 * n) others =
          wide ∙ eight_more (8 * n) all (omega (arith, mark)) ∙ ap (λ v. 8 + count_trailing_zeros (8 * n) v) (let e : all / 256 ≡ others = omega (arith, mark) in e) in
          let up : lane (w / 256) i ≡ lane w (suc i) =
          ap (λ v. v % 256) (shr-shr w 8 (8 * i) ∙ ap (λ j. w / 2 ^ j) (let e : 8 + 8 * i ≡ 8 * suc i = omega arith in e)) in
          let count = ones-append (byte_bits x) (word_bits (w / 256) i) in
          let less : k - d - ones (word_bits (w / 256) i) ≡ k - c - ones (word_bits w (suc i)) = omega arith in
          subst (Found w (suc n) c k) (let e : suc i ≡ t / 8 = omega (arith, zeros) in e) (record {
            within = omega (arith, f.within);
            short = omega (arith, f.short);
            there = omega (arith, f.there, ap ones_in up);
            place = later (byte_bits x) rest (k - c) (omega arith)
                ∙ ap (λ m. length (byte_bits x) + position rest m) (let e : k - c - ones_in x ≡ k - d = omega arith in e)
                ∙ ap (λ m. length (byte_bits x) + m) f.place
                ∙ ap (λ y. length (byte_bits x) + (8 * i + position (byte_bits y) (k - d - ones (word_bits (w / 256) i)))) up
                ∙ ap (λ m. length (byte_bits x) + (8 * i + position (byte_bits (lane w (suc i))) m)) less
                ∙ (let e : length (byte_bits x) + (8 * i + position (byte_bits (lane w (suc i))) (k - c - ones (word_bits w (suc i))))
                ≡ 8 * suc i + position (byte_bits (lane w (suc i))) (k - c - ones (word_bits w (suc i))) = omega (arith, byte_length x) in e);
          })
      | no here ↦
          let set : bit_and (d + 128 - k) 128 ≡ 128 = omega (arith, mark) in
          let low : all % 256 ≡ 128 = omega (arith, set) in
          let none : 0 ≡ t / 8 = elim (dec_lt t 8) [
            | yes h ↦ omega arith
            | no h ↦ absurd (let z = (eight-zeros (8 * n) all (omega (arith, wide))).0 in let e : 128 ≡ 0 = sym low ∙ z in omega (arith, e))
          ] in
          let first : x ≡ lane w 0 = omega arith in
          subst (Found w (suc n) c k) none (record {
            within = omega arith;
            short = omega arith;
            there = omega (arith, ap ones_in first);
            place = front (byte_bits x) rest (k - c) (omega arith) (omega arith)
                ∙ ap (λ y. position (byte_bits y) (k - c)) first
                ∙ ap (position (byte_bits (lane w 0))) (sym (sub-zero (k - c)))
                ∙ sym (zero-add (position (byte_bits (lane w 0)) (k - c - 0)));
          })
    ]
