-- The ones of each byte of a word, and those of all earlier bytes.
use mathlib.Core.Path.{◌≡◌, refl, sym, ap, subst, ◌∙◌}
use mathlib.Core.List.{[], ◌∷◌, ◌++◌}
use Prim.Native.Nat.{ℕ, zero, suc, ◌+◌, ◌*◌, ◌/◌, ◌%◌, ◌^◌, ◌<◌, ◌≤◌}
use native.Mathlib.Nat.{mod-lt, zero-lt-suc}
use native.Mathlib.Omega.{arith}
use lib.Count.{ones_cat}
use lib.Count as count
use lib.ListN.{length, length-append}
use lib.Pow.{split, shr-shr, shr_lt}
use Rattle.meaning.specs.Strings.{ones}
use Rattle.theory.proofs.Odd.{ones-append}
use Rattle.theory.proofs.Packing.{bits-length}
use Rattle.theory.proofs.Payloads.{ones-le}
use Rattle.bits_byte.specs.Byte.{byte_bits}
use Rattle.bits_byte.proofs.Counting.{byte_ones}
use Rattle.bits_lanes.specs.Lanes.{word_bits, each, ones_in, ones_earlier}

pub byte_length : (x : ℕ) → length (byte_bits x) ≡ 8
byte_length x = bits-length (x ∷ []) 0 8

pub byte_few : (x : ℕ) → ones_in x ≤ 8
byte_few x = omega (arith, ones-le (byte_bits x), byte_length x)

-- ---- sums by moving lanes on

-- as code moves lanes on
abbrev pub moved : ℕ → ℕ → ℕ
moved x k = x * 2 ^ k % 2 ^ 64

-- the number with these eight lanes, the first least significant
abbrev lanes : ℕ → ℕ → ℕ → ℕ → ℕ → ℕ → ℕ → ℕ → ℕ
lanes a b c d e f g h = ((((((h * 256 + g) * 256 + f) * 256 + e) * 256 + d) * 256 + c) * 256 + b) * 256 + a

module _ (a b c d e f g h : ℕ) (l : a + b + c + d + e + f + g + h < 256) where
  by_one : moved (lanes a b c d e f g h) 8 ≡ lanes 0 a b c d e f g
  by_one = omega arith

  by_two : moved (lanes a b c d e f g h) 16 ≡ lanes 0 0 a b c d e f
  by_two = omega arith

  by_four : moved (lanes a b c d e f g h) 32 ≡ lanes 0 0 0 0 a b c d
  by_four = omega arith

module _ (a b c d e f g h : ℕ) (l : a + b + c + d + e + f + g ≤ 56) (k : h ≤ 8) where
  abbrev one : ℕ
  one = moved (lanes a b c d e f g h) 8

  abbrev two : ℕ
  two = one + moved one 8

  abbrev four : ℕ
  four = two + moved two 16

  one_is : one ≡ lanes 0 a b c d e f g
  one_is = by_one a b c d e f g h (omega arith)

  two_is : two ≡ lanes 0 a (a + b) (b + c) (c + d) (d + e) (e + f) (f + g)
  two_is =
      let m = ap (λ n. moved n 8) one_is ∙ by_one 0 a b c d e f g (omega arith) in
      omega (arith, m, one_is)

  four_is : four ≡ lanes 0 a (a + b) (a + b + c) (a + b + c + d) (b + c + d + e) (c + d + e + f) (d + e + f + g)
  four_is =
      let m = ap (λ n. moved n 16) two_is ∙ by_two 0 a (a + b) (b + c) (c + d) (d + e) (e + f) (f + g) (omega arith) in
      omega (arith, m, two_is)

  all_is : four + moved four 32
      ≡ lanes 0 a (a + b) (a + b + c) (a + b + c + d) (a + b + c + d + e) (a + b + c + d + e + f) (a + b + c + d + e + f + g)
  all_is =
      let m = ap (λ n. moved n 32) four_is ∙ by_four 0 a (a + b) (a + b + c) (a + b + c + d) (b + c + d + e) (c + d + e + f) (d + e + f + g) (omega arith) in
      omega (arith, m, four_is)

  two-lt : two < 2 ^ 64
  two-lt = omega (arith, two_is)

  four-lt : four < 2 ^ 64
  four-lt = omega (arith, four_is)

-- ---- the same of the bytes of a word

-- as code makes the ones of all earlier bytes of those of each
abbrev pub one_on : ℕ → ℕ
one_on x = moved x 8

abbrev pub two_on : ℕ → ℕ
two_on x = one_on x + moved (one_on x) 8

abbrev pub four_on : ℕ → ℕ
four_on x = two_on x + moved (two_on x) 16

pub record Moving (w : ℕ) : Type 0 where
  pub two_fits : two_on (each ones_in w 8) < 2 ^ 64
  pub four_fits : four_on (each ones_in w 8) < 2 ^ 64
  pub earlier : four_on (each ones_in w 8) + moved (four_on (each ones_in w 8)) 32 ≡ ones_earlier 0 w 8

pub moving : (w : ℕ) → Moving w
unfolding each ones_earlier
moving w =
    let w1 = w / 256 in
    let w2 = w1 / 256 in
    let w3 = w2 / 256 in
    let w4 = w3 / 256 in
    let w5 = w4 / 256 in
    let w6 = w5 / 256 in
    let w7 = w6 / 256 in
    let a = ones_in (w % 256) in
    let b = ones_in (w1 % 256) in
    let c = ones_in (w2 % 256) in
    let d = ones_in (w3 % 256) in
    let e = ones_in (w4 % 256) in
    let f = ones_in (w5 % 256) in
    let g = ones_in (w6 % 256) in
    let h = ones_in (w7 % 256) in
    let few : a + b + c + d + e + f + g ≤ 56 =
    omega (arith, byte_few (w % 256), byte_few (w1 % 256), byte_few (w2 % 256), byte_few (w3 % 256), byte_few (w4 % 256), byte_few (w5 % 256), byte_few (w6 % 256)) in
    let here : each ones_in w 8 ≡ lanes a b c d e f g h = omega arith in
    let last = byte_few (w7 % 256) in
    let earlier : lanes 0 a (a + b) (a + b + c) (a + b + c + d) (a + b + c + d + e) (a + b + c + d + e + f) (a + b + c + d + e + f + g) ≡ ones_earlier 0 w 8 = omega arith in
    record {
      two_fits = subst (λ x. two_on x < 2 ^ 64) (sym here) (two-lt a b c d e f g h few last);
      four_fits = subst (λ x. four_on x < 2 ^ 64) (sym here) (four-lt a b c d e f g h few last);
      earlier = ap (λ x. four_on x + moved (four_on x) 32) here ∙ all_is a b c d e f g h few last ∙ earlier;
    }

pub earlier_le : (w n c : ℕ) → c + 8 * n ≤ 64 → ones_earlier c w n ≤ each (λ x. 64) w n
unfolding ones_earlier each
earlier_le w zero c l = omega arith
earlier_le w (suc n) c l = omega (arith, earlier_le (w / 256) n (c + ones_in (w % 256)) (omega (arith, byte_few (w % 256))))

-- ---- single lanes

-- the ones of the bytes before byte k
pub earlier_lane : (k n w c : ℕ) → k < n → c + 8 * n ≤ 255 → ones_earlier c w n / 2 ^ (8 * k) % 256 ≡ c + ones (word_bits w k)
unfolding ones_earlier word_bits
earlier_lane k zero w c h l = absurd (omega arith)
earlier_lane zero (suc n) w c h l = omega arith
earlier_lane (suc k) (suc n) w c h l =
    let x = w % 256 in
    let rest = ones_earlier (c + ones_in x) (w / 256) n in
    ap (λ j. (rest * 256 + c) / 2 ^ j % 256) (let e : 8 * suc k ≡ 8 + 8 * k = omega arith in e)
    ∙ ap (λ v. v % 256) (sym (shr-shr (rest * 256 + c) 8 (8 * k)))
    ∙ ap (λ v. v / 2 ^ (8 * k) % 256) (let e : (rest * 256 + c) / 256 ≡ rest = omega arith in e)
    ∙ earlier_lane k n (w / 256) (c + ones_in x) (omega arith) (omega (arith, byte_few x))
    ∙ (let e : c + ones_in x + ones (word_bits (w / 256) k) ≡ c + ones (byte_bits x ++ word_bits (w / 256) k) = omega (arith, ones-append (byte_bits x) (word_bits (w / 256) k)) in e)

-- the ones of all bytes
pub last-lane : (n w c : ℕ) → c + 8 * suc n ≤ 255 → (each ones_in w (suc n) + ones_earlier c w (suc n)) / 2 ^ (8 * n) ≡ c + ones (word_bits w (suc n))
unfolding each ones_earlier word_bits
last-lane zero w c l = omega (arith, ones-append (byte_bits (w % 256)) [])
last-lane (suc n) w c l =
    let x = w % 256 in
    let rest = each ones_in (w / 256) (suc n) + ones_earlier (c + ones_in x) (w / 256) (suc n) in
    let all = each ones_in w (suc (suc n)) + ones_earlier c w (suc (suc n)) in
    ap (λ j. all / 2 ^ j) (let e : 8 * suc n ≡ 8 + 8 * n = omega arith in e)
    ∙ sym (shr-shr all 8 (8 * n))
    ∙ ap (λ v. v / 2 ^ (8 * n)) (let e : all / 256 ≡ rest = omega (arith, byte_few x) in e)
    ∙ last-lane n (w / 256) (c + ones_in x) (omega (arith, byte_few x))
    ∙ (let e : c + ones_in x + ones (word_bits (w / 256) (suc n)) ≡ c + ones (byte_bits x ++ word_bits (w / 256) (suc n)) = omega (arith, ones-append (byte_bits x) (word_bits (w / 256) (suc n))) in e)

-- ---- all bits of a word

pub word_ones : (n w : ℕ) → w < 2 ^ (8 * n) → count.ones w ≡ ones (word_bits w n)
unfolding word_bits count.ones
word_ones zero w l = ap count.ones (let e : w ≡ 0 = omega arith in e)
word_ones (suc n) w l =
    let x = w % 256 in
    ap count.ones (sym (split w 8))
    ∙ ones_cat 8 (w / 256) x (mod-lt w (zero-lt-suc 255))
    ∙ (let e : count.ones (w / 256) + count.ones x ≡ ones (byte_bits x ++ word_bits (w / 256) n) =
    omega (
      arith,
      word_ones n (w / 256) (shr_lt {n = w} (8 * n) 8 (subst (λ k. w < 2 ^ k) (let q : 8 * suc n ≡ 8 * n + 8 = omega arith in q) l)),
      byte_ones x (mod-lt w (zero-lt-suc 255)),
      ones-append (byte_bits x) (word_bits (w / 256) n),
    ) in e)

pub word-length : (n w : ℕ) → length (word_bits w n) ≡ 8 * n
unfolding word_bits
word-length zero w = refl
word-length (suc n) w = omega (arith, length-append (byte_bits (w % 256)) (word_bits (w / 256) n), byte_length (w % 256), word-length n (w / 256))
