-- The image of two strings and of the metres word by word, and back: bytes with those words are
-- that image.
use mathlib.Core.Path.{◌≡◌, refl, sym, ap, ◌∙◌, subst}
use mathlib.Core.List.{List, [], ◌∷◌, ◌++◌}
use mathlib.Core.Option.{Option, none, some}
use Prim.Native.Nat.{ℕ, zero, suc, ◌+◌, ◌-◌, ◌*◌, ◌^◌, ◌≤◌, ◌<◌}
use native.Mathlib.Decide.{dec_lt}
use native.Mathlib.Omega.{arith}
use lib.ListN.{length, get_or, take, drop, length-append, length-map, get_or-append, get_or-eq_default}
use lib.Seq.{get_or-append-add}
use Rattle.meaning.specs.Strings.{Bit, ones}
use Rattle.meaning.specs.Bytes.{bytes_of}
use Rattle.meaning.specs.Blocks.{le32, word_bytes, sum_start, cut, sealed, wrong_block}
use Rattle.meaning.specs.Image.{Measured, version_of, list_of, word_blocks, list_part, string_blocks, samples, string_part, sample_part, metres_held, payloads, header, image_of_parts}
use Rattle.theory.specs.Layout.{AreBytes, word_at, string_word, list_word, sample_word, start_r0, start_s1, start_s0, start_metres, total, Laid}
use Rattle.theory.proofs.Digits.{word_bytes-at, words_bytes}
use Rattle.theory.proofs.Sealing.{length_cut, length-sealed, sealed_bytes, sealed-word, sealed_checks, is_sealed_words}
use Rattle.theory.proofs.Payloads.{ones-le, length-samples, list_payload_lem, list_word_lem, sample_word_lem, string-payload, length-strings, string-word, string_bytes}

-- ---- the metres, if there are any

module _ (n : ℕ) where
  pub measured_most : (ms : Option (List ℕ)) → Measured n ms → length (list_of ms) ≤ n
  measured_most none h = omega arith
  measured_most (some ms) h = omega (arith, h.0)

  -- each of them is a word, and so is the zero after the last
  pub measured-word : (ms : Option (List ℕ)) → Measured n ms → (i : ℕ) → get_or (list_of ms) i 0 < 2 ^ 32
  measured-word none h i = omega arith
  measured-word (some ms) h i = elim (dec_lt i n) [
    | yes l ↦ h.1 i l
    | no l ↦ omega (arith, get_or-eq_default ms 0 (let e : length ms ≤ i = omega (arith, h.0) in e))
  ]

  -- as many as the version says
  pub measured-held : (ms : Option (List ℕ)) → Measured n ms → length (list_of ms) ≡ metres_held (version_of ms) n
  measured-held none h = refl
  measured-held (some ms) h = h.0

pub version_small : (ms : Option (List ℕ)) → (1 ≤ version_of ms) × (version_of ms ≤ 2)
version_small none = (omega arith, omega arith)
version_small (some ms) = (omega arith, omega arith)

-- ---- the payloads, block by block

-- the payload of block j of a string, of a list of numbers, and of a string's samples
abbrev pub string_payload : List Bit → ℕ → List ℕ
string_payload r j = le32 (ones (take (4000 * j) r)) ++ bytes_of 500 (take 4000 (drop (4000 * j) r))

abbrev pub list_payload : List ℕ → ℕ → List ℕ
list_payload ws j = word_bytes (take 126 (drop (126 * j) ws))

abbrev pub sample_payload : List Bit → ℕ → List ℕ
sample_payload r j = list_payload (samples r) j

pub length-string : (r : List Bit) → length (string_part r) ≡ string_blocks (length r)
length-string r = length-strings (cut (string_blocks (length r)) 4000 r) 0 ∙ length_cut (string_blocks (length r)) 4000 r

pub length_list : (ws : List ℕ) → length (list_part ws) ≡ word_blocks (length ws)
length_list ws = length-map (cut (word_blocks (length ws)) 126 ws) word_bytes ∙ length_cut (word_blocks (length ws)) 126 ws

pub string_part_lem : (r : List Bit) (j : ℕ) → j < string_blocks (length r) → get_or (string_part r) j [] ≡ string_payload r j
string_part_lem r j h =
    string-payload (string_blocks (length r)) r 0 j h
    ∙ ap (λ n. le32 n ++ bytes_of 500 (take 4000 (drop (4000 * j) r))) (let e : 0 + ones (take (4000 * j) r) ≡ ones (take (4000 * j) r) = omega arith in e)

pub list_part_lem : (ws : List ℕ) (j : ℕ) → j < word_blocks (length ws) → get_or (list_part ws) j [] ≡ list_payload ws j
list_part_lem ws j h = list_payload_lem (word_blocks (length ws)) ws j h

module _ (h : List ℕ) (x y z v u : List (List ℕ)) where
  abbrev all : List (List ℕ)
  all = h ∷ (x ++ y ++ z ++ v ++ u)

  long-front : length (x ++ y ++ z ++ v) ≡ length x + length y + length z + length v
  long-front = omega (arith, length-append x y, length-append (x ++ y) z, length-append (x ++ y ++ z) v)

  -- the first four lists, and in them the first three
  in_front : (i : ℕ) → i < length (x ++ y ++ z ++ v) → get_or all (suc i) [] ≡ get_or (x ++ y ++ z ++ v) i []
  in_front i l = get_or-append (x ++ y ++ z ++ v) u [] i l

  in_three : (i : ℕ) → i < length (x ++ y ++ z) → get_or all (suc i) [] ≡ get_or (x ++ y ++ z) i []
  in_three i l = in_front i (omega (arith, length-append (x ++ y ++ z) v)) ∙ get_or-append (x ++ y ++ z) v [] i l

  in_first : (j : ℕ) → j < length x → get_or all (1 + j) [] ≡ get_or x j []
  in_first j l =
      ap (λ i. get_or all i []) (let e : 1 + j ≡ suc j = omega arith in e)
      ∙ in_three j (omega (arith, length-append x y, length-append (x ++ y) z))
      ∙ get_or-append (x ++ y) z [] j (omega (arith, length-append x y))
      ∙ get_or-append x y [] j l

  in_second : (n j : ℕ) → n ≡ 1 + length x → j < length y → get_or all (n + j) [] ≡ get_or y j []
  in_second n j e l =
      ap (λ i. get_or all i []) (let f : n + j ≡ suc (length x + j) = omega arith in f)
      ∙ in_three (length x + j) (omega (arith, length-append x y, length-append (x ++ y) z))
      ∙ get_or-append (x ++ y) z [] (length x + j) (omega (arith, length-append x y))
      ∙ get_or-append-add x y j []

  in_third : (n j : ℕ) → n ≡ 1 + length x + length y → j < length z → get_or all (n + j) [] ≡ get_or z j []
  in_third n j e l =
      ap (λ i. get_or all i []) (let f : n + j ≡ suc (length (x ++ y) + j) = omega (arith, length-append x y) in f)
      ∙ in_three (length (x ++ y) + j) (omega (arith, length-append (x ++ y) z))
      ∙ get_or-append-add (x ++ y) z j []

  in_fourth : (n j : ℕ) → n ≡ 1 + length x + length y + length z → j < length v → get_or all (n + j) [] ≡ get_or v j []
  in_fourth n j e l =
      ap (λ i. get_or all i []) (let f : n + j ≡ suc (length (x ++ y ++ z) + j) = omega (arith, length-append x y, length-append (x ++ y) z) in f)
      ∙ in_front (length (x ++ y ++ z) + j) (omega (arith, length-append (x ++ y ++ z) v))
      ∙ get_or-append-add (x ++ y ++ z) v j []

  in_fifth : (n j : ℕ) → n ≡ 1 + length x + length y + length z + length v → get_or all (n + j) [] ≡ get_or u j []
  in_fifth n j e =
      ap (λ i. get_or all i []) (let f : n + j ≡ suc (length (x ++ y ++ z ++ v) + j) = omega (arith, long-front) in f)
      ∙ get_or-append-add (x ++ y ++ z ++ v) u j []

module _ (ms : Option (List ℕ)) (a b : List Bit) where
  unfoldable pub blocks : List (List ℕ)
  blocks = header ms a b ∷ payloads ms a b

  pub image_blocks : image_of_parts ms a b ≡ sealed sum_start blocks 0
  unfolding image_of_parts blocks
  image_blocks = refl

  length-payloads : suc (length (payloads ms a b)) ≡ total ms a b
  unfolding payloads
  length-payloads =
      omega (
        arith,
        length-append (string_part a ++ string_part b ++ sample_part a ++ sample_part b) (list_part (list_of ms)),
        long-front [] (string_part a) (string_part b) (sample_part a) (sample_part b) [],
        length-string a,
        length-string b,
        length_list (samples a),
        length_list (samples b),
        length_list (list_of ms),
      )

  pub length-blocks : length blocks ≡ total ms a b
  unfolding blocks
  length-blocks = length-payloads

  pub parts_size : length (image_of_parts ms a b) ≡ 512 * total ms a b
  parts_size = ap length image_blocks ∙ length-sealed sum_start blocks 0 ∙ ap (λ n. 512 * n) length-blocks

  -- the sums of an image check
  pub parts_check : wrong_block (image_of_parts ms a b) ≡ total ms a b
  parts_check = ap wrong_block image_blocks ∙ sealed_checks blocks ∙ length-blocks

  pub payload-head : get_or blocks 0 [] ≡ word_bytes (version_of ms ∷ length a ∷ ones a ∷ total ms a b ∷ [])
  unfolding blocks header
  payload-head = ap (λ n. word_bytes (version_of ms ∷ length a ∷ ones a ∷ n ∷ [])) length-payloads

  pub payload-R1 : (j : ℕ) → 1 + j < start_r0 a b → get_or blocks (1 + j) [] ≡ string_payload a j
  unfolding blocks payloads
  payload-R1 j h =
      in_first (header ms a b) (string_part a) (string_part b) (sample_part a) (sample_part b) (list_part (list_of ms)) j (omega (arith, length-string a)) ∙ string_part_lem a j (omega arith)

  pub payload-R0 : (j : ℕ) → start_r0 a b + j < start_s1 a b → get_or blocks (start_r0 a b + j) [] ≡ string_payload b j
  unfolding blocks payloads
  payload-R0 j h =
      in_second (header ms a b) (string_part a) (string_part b) (sample_part a) (sample_part b) (list_part (list_of ms)) (start_r0 a b) j
      (omega (arith, length-string a)) (omega (arith, length-string b))
      ∙ string_part_lem b j (omega arith)

  payload_S1 : (j : ℕ) → start_s1 a b + j < start_s0 a b → get_or blocks (start_s1 a b + j) [] ≡ sample_payload a j
  unfolding blocks payloads
  payload_S1 j h =
      in_third (header ms a b) (string_part a) (string_part b) (sample_part a) (sample_part b) (list_part (list_of ms)) (start_s1 a b) j
      (omega (arith, length-string a, length-string b)) (omega (arith, length_list (samples a)))
      ∙ list_part_lem (samples a) j (omega arith)

  payload_S0 : (j : ℕ) → start_s0 a b + j < start_metres a b → get_or blocks (start_s0 a b + j) [] ≡ sample_payload b j
  unfolding blocks payloads
  payload_S0 j h =
      in_fourth (header ms a b) (string_part a) (string_part b) (sample_part a) (sample_part b) (list_part (list_of ms)) (start_s0 a b) j
      (omega (arith, length-string a, length-string b, length_list (samples a))) (omega (arith, length_list (samples b)))
      ∙ list_part_lem (samples b) j (omega arith)

  payload-metres : (j : ℕ) → start_metres a b + j < total ms a b → get_or blocks (start_metres a b + j) [] ≡ list_payload (list_of ms) j
  unfolding blocks payloads
  payload-metres j h =
      in_fifth (header ms a b) (string_part a) (string_part b) (sample_part a) (sample_part b) (list_part (list_of ms)) (start_metres a b) j
      (omega (arith, length-string a, length-string b, length_list (samples a), length_list (samples b)))
      ∙ list_part_lem (list_of ms) j (omega arith)

-- ---- every word of an image

module _ (ms : Option (List ℕ)) (a b : List Bit) where
  -- payload word w of block i
  word_is : (i w : ℕ) → i < total ms a b → w < 126 → word_at (image_of_parts ms a b) (512 * i + 4 * w) ≡ word_at (get_or (blocks ms a b) i []) (4 * w)
  word_is i w h g = ap (λ x. word_at x (512 * i + 4 * w)) (image_blocks ms a b) ∙ sealed-word sum_start (blocks ms a b) i w (omega (arith, length-blocks ms a b)) g

  -- word w of the header, where it is a number of 32 bits
  pub head-word : (w : ℕ) → w < 126 → get_or (version_of ms ∷ length a ∷ ones a ∷ total ms a b ∷ []) w 0 < 2 ^ 32
      → word_at (image_of_parts ms a b) (4 * w) ≡ get_or (version_of ms ∷ length a ∷ ones a ∷ total ms a b ∷ []) w 0
  head-word w g small =
      ap (word_at (image_of_parts ms a b)) (let e : 4 * w ≡ 512 * 0 + 4 * w = omega arith in e) ∙ word_is 0 w (omega arith) g
      ∙ ap (λ p. word_at p (4 * w)) (payload-head ms a b) ∙ word_bytes-at (version_of ms ∷ length a ∷ ones a ∷ total ms a b ∷ []) w small

module _ (ms : Option (List ℕ)) (a b : List Bit) (la : length a ≤ 65535) (lb : length b ≤ 65536) (measured : Measured (length a) ms) where
  pub total_small : total ms a b ≤ 574
  total_small = omega (arith, length-samples a, length-samples b, ones-le a, ones-le b, measured_most (length a) ms measured)

  head_small : (w : ℕ) → get_or (version_of ms ∷ length a ∷ ones a ∷ total ms a b ∷ []) w 0 < 2 ^ 32
  head_small zero = omega (arith, (version_small ms).1)
  head_small (suc zero) = omega arith
  head_small (suc (suc zero)) = omega (arith, ones-le a)
  head_small (suc (suc (suc zero))) = omega (arith, total_small)
  head_small (suc (suc (suc (suc w)))) = omega arith

  word-head : (w : ℕ) → word_at (get_or (blocks ms a b) 0 []) (4 * w) ≡ get_or (version_of ms ∷ length a ∷ ones a ∷ total ms a b ∷ []) w 0
  word-head w = ap (λ p. word_at p (4 * w)) (payload-head ms a b) ∙ word_bytes-at (version_of ms ∷ length a ∷ ones a ∷ total ms a b ∷ []) w (head_small w)

  word-R1 : (j w : ℕ) → 1 + j < start_r0 a b → w < 126 → word_at (get_or (blocks ms a b) (1 + j) []) (4 * w) ≡ string_word a j w
  word-R1 j w h g = ap (λ p. word_at p (4 * w)) (payload-R1 ms a b j h) ∙ string-word a j w (omega arith) g

  word-R0 : (j w : ℕ) → start_r0 a b + j < start_s1 a b → w < 126 → word_at (get_or (blocks ms a b) (start_r0 a b + j) []) (4 * w) ≡ string_word b j w
  word-R0 j w h g = ap (λ p. word_at p (4 * w)) (payload-R0 ms a b j h) ∙ string-word b j w lb g

  word_S1 : (j w : ℕ) → start_s1 a b + j < start_s0 a b → w < 126 → word_at (get_or (blocks ms a b) (start_s1 a b + j) []) (4 * w) ≡ sample_word a j w
  word_S1 j w h g = ap (λ p. word_at p (4 * w)) (payload_S1 ms a b j h) ∙ sample_word_lem a j w (omega arith) g

  word_S0 : (j w : ℕ) → start_s0 a b + j < start_metres a b → w < 126 → word_at (get_or (blocks ms a b) (start_s0 a b + j) []) (4 * w) ≡ sample_word b j w
  word_S0 j w h g = ap (λ p. word_at p (4 * w)) (payload_S0 ms a b j h) ∙ sample_word_lem b j w lb g

  word-metres : (j w : ℕ) → start_metres a b + j < total ms a b → w < 126 → word_at (get_or (blocks ms a b) (start_metres a b + j) []) (4 * w) ≡ list_word (list_of ms) j w
  word-metres j w h g = ap (λ p. word_at p (4 * w)) (payload-metres ms a b j h) ∙ list_word_lem (list_of ms) j w (measured-word (length a) ms measured (126 * j + w)) g

  pub laid : Laid (image_of_parts ms a b) ms a b
  laid = record {
    size = parts_size ms a b;
    sums = parts_check ms a b;
    head = λ w g. head-word ms a b w g (head_small w);
    in_r1 = λ j w h g. word_is ms a b (1 + j) w (omega arith) g ∙ word-R1 j w h g;
    in_r0 = λ j w h g. word_is ms a b (start_r0 a b + j) w (omega arith) g ∙ word-R0 j w h g;
    in_s1 = λ j w h g. word_is ms a b (start_s1 a b + j) w (omega arith) g ∙ word_S1 j w h g;
    in_s0 = λ j w h g. word_is ms a b (start_s0 a b + j) w (omega arith) g ∙ word_S0 j w h g;
    in_metres = λ j w h g. word_is ms a b (start_metres a b + j) w h g ∙ word-metres j w h g;
  }

-- ---- and back

-- where block i is
data Region (ms : Option (List ℕ)) (a b : List Bit) (i : ℕ) : Type 0 where
  in_head : 0 ≡ i → Region ms a b i
  in_r1 : (j : ℕ) → 1 + j < start_r0 a b → 1 + j ≡ i → Region ms a b i
  in_r0 : (j : ℕ) → start_r0 a b + j < start_s1 a b → start_r0 a b + j ≡ i → Region ms a b i
  in_s1 : (j : ℕ) → start_s1 a b + j < start_s0 a b → start_s1 a b + j ≡ i → Region ms a b i
  in_s0 : (j : ℕ) → start_s0 a b + j < start_metres a b → start_s0 a b + j ≡ i → Region ms a b i
  in_metres : (j : ℕ) → start_metres a b + j < total ms a b → start_metres a b + j ≡ i → Region ms a b i

region : (ms : Option (List ℕ)) (a b : List Bit) (i : ℕ) → i < total ms a b → Region ms a b i
region ms a b i h = elim (dec_lt i 1) [
  | yes g ↦ in_head (omega arith)
  | no g ↦ elim (dec_lt i (start_r0 a b)) [
    | yes k ↦ in_r1 (i - 1) (omega arith) (omega arith)
    | no k ↦ elim (dec_lt i (start_s1 a b)) [
      | yes l ↦ in_r0 (i - start_r0 a b) (omega arith) (omega arith)
      | no l ↦ elim (dec_lt i (start_s0 a b)) [
        | yes m ↦ in_s1 (i - start_s1 a b) (omega arith) (omega arith)
        | no m ↦ elim (dec_lt i (start_metres a b)) [
          | yes o ↦ in_s0 (i - start_s0 a b) (omega arith) (omega arith)
          | no o ↦ in_metres (i - start_metres a b) (omega arith) (omega arith)
        ]
      ]
    ]
  ]
]

payload_bytes : (ms : Option (List ℕ)) (a b : List Bit) (i : ℕ) → Region ms a b i → AreBytes (get_or (blocks ms a b) i [])
payload_bytes ms a b i (in_head e) =
    subst (λ n. AreBytes (get_or (blocks ms a b) n [])) e (subst AreBytes (sym (payload-head ms a b)) (words_bytes (version_of ms ∷ length a ∷ ones a ∷ total ms a b ∷ [])))
payload_bytes ms a b i (in_r1 j h e) =
    subst (λ n. AreBytes (get_or (blocks ms a b) n [])) e (subst AreBytes (sym (payload-R1 ms a b j h)) (string_bytes (ones (take (4000 * j) a)) (take 4000 (drop (4000 * j) a))))
payload_bytes ms a b i (in_r0 j h e) =
    subst (λ n. AreBytes (get_or (blocks ms a b) n [])) e (subst AreBytes (sym (payload-R0 ms a b j h)) (string_bytes (ones (take (4000 * j) b)) (take 4000 (drop (4000 * j) b))))
payload_bytes ms a b i (in_s1 j h e) =
    subst (λ n. AreBytes (get_or (blocks ms a b) n [])) e (subst AreBytes (sym (payload_S1 ms a b j h)) (words_bytes (take 126 (drop (126 * j) (samples a)))))
payload_bytes ms a b i (in_s0 j h e) =
    subst (λ n. AreBytes (get_or (blocks ms a b) n [])) e (subst AreBytes (sym (payload_S0 ms a b j h)) (words_bytes (take 126 (drop (126 * j) (samples b)))))
payload_bytes ms a b i (in_metres j h e) =
    subst (λ n. AreBytes (get_or (blocks ms a b) n [])) e (subst AreBytes (sym (payload-metres ms a b j h)) (words_bytes (take 126 (drop (126 * j) (list_of ms)))))

-- whatever the strings and the metres are, the image is made of bytes
pub parts_bytes : (ms : Option (List ℕ)) (a b : List Bit) → AreBytes (image_of_parts ms a b)
parts_bytes ms a b =
    subst AreBytes (sym (image_blocks ms a b))
    (sealed_bytes sum_start (blocks ms a b) 0 (λ j h. payload_bytes ms a b j (region ms a b j (omega (arith, length-blocks ms a b)))))

module _ (bytes : List ℕ) (ms : Option (List ℕ)) (a b : List Bit) (la : length a ≤ 65535) (lb : length b ≤ 65536) (measured : Measured (length a) ms) (l : Laid bytes ms a b) where
  Agree : ℕ → ℕ → Type 0
  Agree w i = word_at bytes (512 * i + 4 * w) ≡ word_at (get_or (blocks ms a b) i []) (4 * w)

  agree : (i w : ℕ) → Region ms a b i → w < 126 → Agree w i
  unfolding Agree
  agree i w (in_head e) g =
      subst (Agree w) e (ap (word_at bytes) (let f : 512 * 0 + 4 * w ≡ 4 * w = omega arith in f) ∙ l.head w g ∙ sym (word-head ms a b la lb measured w))
  agree i w (in_r1 j h e) g = subst (Agree w) e (l.in_r1 j w h g ∙ sym (word-R1 ms a b la lb measured j w h g))
  agree i w (in_r0 j h e) g = subst (Agree w) e (l.in_r0 j w h g ∙ sym (word-R0 ms a b la lb measured j w h g))
  agree i w (in_s1 j h e) g = subst (Agree w) e (l.in_s1 j w h g ∙ sym (word_S1 ms a b la lb measured j w h g))
  agree i w (in_s0 j h e) g = subst (Agree w) e (l.in_s0 j w h g ∙ sym (word_S0 ms a b la lb measured j w h g))
  agree i w (in_metres j h e) g = subst (Agree w) e (l.in_metres j w h g ∙ sym (word-metres ms a b la lb measured j w h g))

pub unlaid : (bytes : List ℕ) (ms : Option (List ℕ)) (a b : List Bit) → length a ≤ 65535 → length b ≤ 65536 → Measured (length a) ms
    → AreBytes bytes → Laid bytes ms a b → bytes ≡ image_of_parts ms a b
unfolding Agree
unlaid bytes ms a b la lb measured h l =
    let n = length-blocks ms a b in
    is_sealed_words (blocks ms a b) bytes h
    (λ j k. payload_bytes ms a b j (region ms a b j (omega arith)))
    (l.size ∙ ap (λ k. 512 * k) (sym n)) (l.sums ∙ sym n)
    (λ j w k g. agree bytes ms a b la lb measured l j w (region ms a b j (omega arith)) g)
    ∙ sym (image_blocks ms a b)
