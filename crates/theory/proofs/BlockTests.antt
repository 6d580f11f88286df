-- The payload of a block against the one it should be: by its words, and by what is looked at in
-- it.
use mathlib.Core.Path.{◌≡◌, sym, ap, ap₂, ◌∙◌}
use mathlib.Core.Logic.{◌↔◌}
use mathlib.Core.Bool.{true}
use mathlib.Core.List.{List, ◌++◌}
use Prim.Native.Nat.{ℕ, zero, suc, ◌+◌, ◌-◌, ◌*◌, ◌/◌, ◌%◌, ◌^◌, ◌≤◌, ◌<◌}
use native.Mathlib.Omega.{arith}
use lib.ListN.{length, get_or, take, drop, length-take, length-drop, get_or-eq_default}
use lib.Seq.{get_or-append-add, get_or-take, get_or-drop, ext_get_or, length-take-le}
use Rattle.meaning.specs.Strings.{Bit, O, ones}
use Rattle.meaning.specs.Bytes.{bit, bit_at, bytes_of}
use Rattle.meaning.specs.Blocks.{le32, padded, same}
use Rattle.meaning.specs.Image.{string_blocks, samples, string_in}
use Rattle.meaning.specs.Faults.{payload_at, whole, zero_after}
use Rattle.theory.specs.Layout.{AreBytes, word_at, bit_place, string_word}
use Rattle.theory.specs.Faults.{BlockKept, RestKept, BlockSampled}
use Rattle.theory.proofs.Digits.{bytes_of-bit, take_bytes, drop_bytes, word_at-take, word_at-drop, length-word_bytes, words_bytes, same-words}
use Rattle.theory.proofs.Sealing.{same_refl, same-eq, length-padded, padded-at, padded_bytes, padded-word}
use Rattle.theory.proofs.Payloads.{sample_word_lem, string-word, string_bytes}
use Rattle.theory.proofs.Images.{string_payload, list_payload, sample_payload}
use Rattle.theory.proofs.TreeImages.{length-string_in}
use Rattle.theory.proofs.InBlocks.{string_in-take}
use Rattle.theory.proofs.Stages.{block-word}

-- ---- whole payloads

pub whole_is : (p x : List ℕ) → (whole p x ≡ true) ↔ (padded p ≡ x)
whole_is p x = (same-eq (padded p) x, λ e. ap (same (padded p)) (sym e) ∙ same_refl (padded p))

module _ (bytes : List ℕ) (b : ℕ) (fits : 512 * (b + 1) ≤ length bytes) where
  pub length-payload : length (payload_at bytes b) ≡ 504
  length-payload = length-take-le 504 (drop (512 * b) bytes) (omega (arith, length-drop (512 * b) bytes))

  pub payload_byte : (i : ℕ) → i < 504 → get_or (payload_at bytes b) i 0 ≡ get_or bytes (512 * b + i) 0
  payload_byte i h = get_or-take 504 (drop (512 * b) bytes) i 0 h ∙ get_or-drop (512 * b) bytes i 0

  payload-word : (w : ℕ) → w < 126 → word_at (payload_at bytes b) (4 * w) ≡ word_at bytes (512 * b + 4 * w)
  payload-word w h = word_at-take 504 (drop (512 * b) bytes) (4 * w) (omega arith) ∙ word_at-drop (512 * b) bytes (4 * w)

  -- by its words
  pub whole_words : AreBytes bytes → (p : List ℕ) → AreBytes p
      → ((w : ℕ) → w < 126 → word_at bytes (512 * b + 4 * w) ≡ word_at p (4 * w)) ↔ (whole p (payload_at bytes b) ≡ true)
  whole_words are p hp = (
    λ f. (whole_is p (payload_at bytes b)).1 (same-words 126 (padded p) (payload_at bytes b)
        (padded_bytes p hp) (take_bytes 504 (drop (512 * b) bytes) (drop_bytes (512 * b) bytes are)) (length-padded p) length-payload
        (λ w h. padded-word p w h ∙ sym (f w h) ∙ sym (payload-word w h))),
    λ e w h. sym (payload-word w h) ∙ ap (λ x. word_at x (4 * w)) (sym ((whole_is p (payload_at bytes b)).0 e)) ∙ padded-word p w h,
  )

-- ---- blocks of a string

-- the bits of a block
payload-bit : (bytes : List ℕ) (b : ℕ) → 512 * (b + 1) ≤ length bytes → (c : ℕ) (y : List Bit) → padded (le32 c ++ bytes_of 500 y) ≡ payload_at bytes b
    → (p : ℕ) → p < 4000 → bit_at bytes (8 * (512 * b + 4) + p) ≡ get_or y p O
unfolding bit_at
payload-bit bytes b fits c y e p h =
    let q = p / 8 in
    let at : get_or bytes (512 * b + (4 + q)) 0 ≡ get_or (bytes_of 500 y) q 0 =
    sym (payload_byte bytes b fits (4 + q) (omega arith)) ∙ ap (λ x. get_or x (4 + q) 0) (sym e)
    ∙ padded-at (le32 c ++ bytes_of 500 y) (4 + q) (omega arith) ∙ get_or-append-add (le32 c) (bytes_of 500 y) q 0 in
    ap₂ (λ a k. bit (get_or bytes a 0 / 2 ^ (7 - k) % 2))
    (let e : (8 * (512 * b + 4) + p) / 8 ≡ 512 * b + (4 + q) = omega arith in e) (let e : (8 * (512 * b + 4) + p) % 8 ≡ p % 8 = omega arith in e)
    ∙ ap (λ z. bit (z / 2 ^ (7 - p % 8) % 2)) at ∙ bytes_of-bit 500 y p (omega arith)

module _ (bytes : List ℕ) (are : AreBytes bytes) (first n j : ℕ) (few : n ≤ 65536) (has : j < string_blocks n) (fits : 512 * (first + j + 1) ≤ length bytes) where
  abbrev string : List Bit
  string = string_in bytes first 0 n

  kept-words : BlockKept bytes first n j → whole (string_payload string j) (payload_at bytes (first + j)) ≡ true
  kept-words k =
      (whole_words bytes (first + j) fits are (string_payload string j) (string_bytes (ones (take (4000 * j) string)) (take 4000 (drop (4000 * j) string)))).0
      (λ w g. block-word bytes are first n j has fits k w g ∙ sym (string-word string j w (omega (arith, length-string_in bytes first 0 n)) g))

  words-kept : whole (string_payload string j) (payload_at bytes (first + j)) ≡ true → BlockKept bytes first n j
  unfolding string_word
  words-kept e =
      let l = length-string_in bytes first 0 n in
      let y = take 4000 (drop (4000 * j) string) in
      let words = (whole_words bytes (first + j) fits are (string_payload string j) (string_bytes (ones (take (4000 * j) string)) y)).1 e in
      let same = (whole_is (string_payload string j) (payload_at bytes (first + j))).0 e in
      record {
        count = ap (word_at bytes) (let e : 512 * (first + j) ≡ 512 * (first + j) + 4 * 0 = omega arith in e)
            ∙ words 0 (omega arith) ∙ string-word string j 0 (omega arith) (omega arith)
            ∙ ap (λ r. ones r) (string_in-take bytes first (4000 * j) n (omega arith));
        unused = λ i over from to.
            let p = i - 4000 * j in
            ap (bit_at bytes) (let e : bit_place first i ≡ 8 * (512 * (first + j) + 4) + p = omega arith in e)
            ∙ payload-bit bytes (first + j) fits (ones (take (4000 * j) string)) y same p (omega arith)
            ∙ get_or-take 4000 (drop (4000 * j) string) p O (omega arith) ∙ get_or-drop (4000 * j) string p O
            ∙ get_or-eq_default string O (omega arith);
      }

  pub kept_tested : BlockKept bytes first n j ↔ (whole (string_payload string j) (payload_at bytes (first + j)) ≡ true)
  kept_tested = (kept-words, words-kept)

-- ---- blocks of samples

module _ (bytes : List ℕ) (from : ℕ) (r : List Bit) (j : ℕ) (fits : 512 * (from + j + 1) ≤ length bytes) where
  pub sampled_tested : AreBytes bytes → length r ≤ 65536 → BlockSampled bytes from r j ↔ (whole (sample_payload r j) (payload_at bytes (from + j)) ≡ true)
  sampled_tested are few =
      let p = sample_payload r j in
      let t = whole_words bytes (from + j) fits are p (words_bytes (take 126 (drop (126 * j) (samples r)))) in (
        λ f. t.0 (λ w h. f w h ∙ sym (sample_word_lem r j w few h)),
        λ e w h. t.1 e w h ∙ sample_word_lem r j w few h,
      )

-- ---- what comes after the last number of a list

module _ (bytes : List ℕ) (from : ℕ) (ws : List ℕ) (j : ℕ) (fits : 512 * (from + j + 1) ≤ length bytes) where
  -- a word is zero exactly if its bytes are
  zero_bytes : (q : ℕ) → word_at bytes q ≡ 0 → (k : ℕ) → k < 4 → get_or bytes (q + k) 0 ≡ 0
  unfolding word_at
  zero_bytes q e zero h = ap (λ i. get_or bytes i 0) (let e : q + 0 ≡ q = omega arith in e) ∙ omega arith
  zero_bytes q e (suc zero) h = omega arith
  zero_bytes q e (suc (suc zero)) h = omega arith
  zero_bytes q e (suc (suc (suc zero))) h = omega arith
  zero_bytes q e (suc (suc (suc (suc k)))) h = absurd (omega arith)

  bytes_zero : (q : ℕ) → ((k : ℕ) → k < 4 → get_or bytes (q + k) 0 ≡ 0) → word_at bytes q ≡ 0
  unfolding word_at
  bytes_zero q f =
      let first : get_or bytes q 0 ≡ 0 = ap (λ i. get_or bytes i 0) (let e : q ≡ q + 0 = omega arith in e) ∙ f 0 (omega arith) in
      omega (arith, f 1 (omega arith), f 2 (omega arith), f 3 (omega arith))

  -- byte i after the numbers, and where they end
  abbrev here : List ℕ
  here = list_payload ws j

  used : length here ≡ 4 * length (take 126 (drop (126 * j) ws))
  used = length-word_bytes (take 126 (drop (126 * j) ws))

  padded-after : (i : ℕ) → i < 504 → length here ≤ i → get_or (padded here) i 0 ≡ 0
  padded-after i h g = padded-at here i h ∙ get_or-eq_default here 0 g

  rest-zero : RestKept bytes from (length ws) j → zero_after here (payload_at bytes (from + j)) ≡ true
  rest-zero f =
      let k = length here in
      let x = payload_at bytes (from + j) in
      let lp = length-drop k (padded here) in
      let lx = length-drop k x in
      let lo = length-padded here in
      let ly = length-payload bytes (from + j) fits in
      let same_rest : drop k (padded here) ≡ drop k x = ext_get_or 0 (drop k (padded here)) (drop k x) (omega arith)
      (λ i h. get_or-drop k (padded here) i 0 ∙ padded-after (k + i) (omega arith) (omega arith)
      ∙ sym (get_or-drop k x i 0 ∙ payload_byte bytes (from + j) fits (k + i) (omega arith)
      ∙ ap (λ q. get_or bytes q 0) (let e : 512 * (from + j) + (k + i) ≡ 512 * (from + j) + 4 * ((k + i) / 4) + (k + i) % 4 = omega arith in e)
      ∙ zero_bytes (512 * (from + j) + 4 * ((k + i) / 4))
      (f ((k + i) / 4) (omega arith) (omega (arith, used, length-take 126 (drop (126 * j) ws), length-drop (126 * j) ws)))
      ((k + i) % 4) (omega arith))) in
      ap (same (drop k (padded here))) (sym same_rest) ∙ same_refl (drop k (padded here))

  zero_rest : zero_after here (payload_at bytes (from + j)) ≡ true → RestKept bytes from (length ws) j
  zero_rest e w h g =
      let k = length here in
      let x = payload_at bytes (from + j) in
      let same_rest = same-eq (drop k (padded here)) (drop k x) e in
      bytes_zero (512 * (from + j) + 4 * w) (λ i l.
      let at : k ≤ 4 * w + i = omega (arith, used, length-take 126 (drop (126 * j) ws), length-drop (126 * j) ws) in
      let o = 4 * w + i - k in
      ap (λ q. get_or bytes q 0) (let e : 512 * (from + j) + 4 * w + i ≡ 512 * (from + j) + (4 * w + i) = omega arith in e)
      ∙ sym (payload_byte bytes (from + j) fits (4 * w + i) (omega arith))
      ∙ ap (λ q. get_or x q 0) (let e : 4 * w + i ≡ k + o = omega arith in e)
      ∙ sym (get_or-drop k x o 0) ∙ ap (λ z. get_or z o 0) (sym same_rest) ∙ get_or-drop k (padded here) o 0
      ∙ padded-after (k + o) (omega arith) (omega arith))

  pub rest_tested : RestKept bytes from (length ws) j ↔ (zero_after here (payload_at bytes (from + j)) ≡ true)
  rest_tested = (rest-zero, zero_rest)
