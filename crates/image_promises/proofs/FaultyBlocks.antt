-- The promises of specs/Faults.antt on codes 14 and 15: the lowest block, word by word.
use mathlib.Core.Path.{◌≡◌, refl, sym, ap, ap₂, ◌∙◌, subst}
use mathlib.Core.Bool.{Bool, true, false, not}
use mathlib.Core.List.{List, [], ◌∷◌, ◌++◌, map}
use mathlib.Core.Option.{Option}
use mathlib.Core.Logic.{◌⊎◌, inl, inr, ⊎_elim, ◌↔◌}
use Prim.Native.Nat.{ℕ, zero, suc, ◌+◌, ◌-◌, ◌*◌, ◌/◌, ◌%◌, ◌≤◌, ◌<◌}
use native.Mathlib.Decide.{dec_lt}
use native.Mathlib.Omega.{arith}
use borrow.Author.Tests.{not-false, le-ltb, lt-ltb, ltb-false, ltb-true}
use lib.Dec.{ltb}
use lib.ListN.{length, get_or, take, drop, length-take, length-drop, length-map, length-append, get_or-append}
use lib.Seq.{get_or-drop, get_or-take, get_or-append-add, ext_get_or}
use Rattle.meaning.specs.Trees.{Tree, nodes}
use Rattle.meaning.specs.Strings.{Bit, ones, lbs, R1, R0}
use Rattle.meaning.specs.Blocks.{padded, same, blocks_in}
use Rattle.meaning.specs.Image.{Content, FitImage, list_of, list_part, blocks_of_samples, r1_samples, string_part, sample_part, samples, image, header_word, metres_in}
use Rattle.meaning.specs.Faults.{is_header, are_strings, payload_at, whole, zero_after, lowest_failing, wrong_kept, wrong_sample}
use Rattle.meaning.specs.Tests.{outside}
use Rattle.theory.specs.Rank.{with_children}
use Rattle.theory.specs.Layout.{start_s1, start_metres, total}
use Rattle.theory.specs.Faults.{LowestWrong, none, here}
use Rattle.theory.proofs.Digits.{length-word_bytes}
use Rattle.theory.proofs.Forms.{length-R1, length-R0, marks-count, marks-same}
use Rattle.theory.proofs.Sealing.{same_refl, same-eq}
use Rattle.theory.proofs.Payloads.{length-samples}
use Rattle.theory.proofs.Settled.{between}
use Rattle.theory.proofs.Images.{length-blocks, length_list, list_part_lem}
use Rattle.theory.proofs.TreeImages.{length-string_in, image-size}
use Rattle.theory.proofs.BlockTests.{length-payload, payload_byte}
use Rattle.theory.proofs.LowestWrong.{lowest-one, lowest-none, failing_is, first_fails, first_passes}
use Rattle.theory.proofs.NoFault.{strings, tables, metres, length-strings, length-tables, length_parts, in_strings, in_tables, in_metres_lem, image-payload}
use Rattle.image_promises.specs.Faults as P
use Rattle.image_promises.specs.Faults.{Checks, HasStrings, HasMetres, SameWord, SampleIn, IsSample, SameWords, SameButSamples, LowestNot}
use Rattle.image_promises.proofs.Faults.{sizes, has-version, has-header, has-strings, given14, given15}

-- ---- two blocks, from a word on

-- equal after the first u words exactly if each later word is the same
module _ (x y : List ℕ) (c u : ℕ) (some : u ≤ 126) (fx : 512 * (c + 1) ≤ length x) (fy : 512 * (c + 1) ≤ length y) where
  abbrev p : List ℕ
  p = payload_at x c

  abbrev q : List ℕ
  q = payload_at y c

  words_same : drop (4 * u) p ≡ drop (4 * u) q → (w : ℕ) → u ≤ w → w < 126 → SameWord x y c w
  words_same e w h g k l =
      let i = 4 * w + k in
      at x ∙ sym (payload_byte x c fx i (omega arith)) ∙ from p ∙ ap (λ z. get_or z (i - 4 * u) 0) e ∙ sym (from q) ∙ payload_byte y c fy i (omega arith) ∙ sym (at y)
    where
      at : (z : List ℕ) → get_or z (512 * c + 4 * w + k) 0 ≡ get_or z (512 * c + (4 * w + k)) 0
      at z = ap (λ i. get_or z i 0) (let f : 512 * c + 4 * w + k ≡ 512 * c + (4 * w + k) = omega arith in f)

      from : (z : List ℕ) → get_or z (4 * w + k) 0 ≡ get_or (drop (4 * u) z) (4 * w + k - 4 * u) 0
      from z = ap (λ i. get_or z i 0) (let f : 4 * w + k ≡ 4 * u + (4 * w + k - 4 * u) = omega arith in f) ∙ sym (get_or-drop (4 * u) z (4 * w + k - 4 * u) 0)

  same-words : ((w : ℕ) → u ≤ w → w < 126 → SameWord x y c w) → drop (4 * u) p ≡ drop (4 * u) q
  same-words f =
      let lp = length-payload x c fx in
      let lq = length-payload y c fy in
      let dp = length-drop (4 * u) p in
      let dq = length-drop (4 * u) q in
      ext_get_or 0 (drop (4 * u) p) (drop (4 * u) q) (omega arith) (λ i h. byte i (omega arith))
    where
      byte : (i : ℕ) → 4 * u + i < 504 → get_or (drop (4 * u) p) i 0 ≡ get_or (drop (4 * u) q) i 0
      byte i h =
          let j = 4 * u + i in
          let split : 512 * c + j ≡ 512 * c + 4 * (j / 4) + j % 4 = omega arith in
          get_or-drop (4 * u) p i 0 ∙ payload_byte x c fx j h ∙ ap (λ n. get_or x n 0) split
          ∙ f (j / 4) (omega arith) (omega arith) (j % 4) (omega arith)
          ∙ sym (get_or-drop (4 * u) q i 0 ∙ payload_byte y c fy j h ∙ ap (λ n. get_or y n 0) split)

-- of two groups of blocks the lowest wrong one
both : (Right : ℕ → Type 0) (from k l r s x : ℕ) → 1 ≤ from → LowestWrong Right from k r → LowestWrong (λ j. Right (k + j)) (from + k) l s
    → ((r ≡ 0 → ⊥) → x ≡ r) → (r ≡ 0 → x ≡ s) → LowestWrong Right from (k + l) x
both Right from k l r s x one (here j m e b n) second f g = here j (omega arith) (f (λ z. omega arith) ∙ e) b n
both Right from k l r s x one (none e f) (none e' f') _ g = none (g e ∙ e') each
  where
    each : (j : ℕ) → j < k + l → Right j
    each j h = elim (dec_lt j k) [
      | yes i ↦ f j i
      | no i ↦ subst Right (let z : k + (j - k) ≡ j = omega arith in z) (f' (j - k) (omega arith))
    ]
both Right from k l r s x one (none e f) (here j m e' b n) _ g = here (k + j) (omega arith) (g e ∙ e' ∙ omega arith) lower n
  where
    lower : (i : ℕ) → i < k + j → Right i
    lower i h = elim (dec_lt i k) [
      | yes o ↦ f i o
      | no o ↦ subst Right (let z : k + (i - k) ≡ i = omega arith in z) (b (i - k) (omega arith))
    ]

-- ---- the tree that has header, strings and metres

module _ (bytes : List ℕ) (content : Content) (checks : Checks bytes) (measured : HasMetres content bytes) where
  abbrev t : Tree
  t = content.tree

  abbrev ms : Option (List ℕ)
  ms = content.metres

  abbrev has : HasStrings content bytes
  has = measured.strings

  abbrev x : List ℕ
  x = image content

  abbrev a : List Bit
  a = R1 (lbs t)

  abbrev b : List Bit
  b = R0 (lbs t)

  abbrev m : ℕ
  m = with_children t + 1

  fit : FitImage content
  fit = has.header.fit

  ones-a : ones a ≡ m
  ones-a = marks-count t ∙ omega arith

  ones-b : ones b ≡ m
  ones-b = marks-same t ∙ ones-a

  start : start_s1 a b ≡ r1_samples (nodes t)
  start = omega (arith, length-R1 t, length-R0 t)

  count : blocks_in bytes ≡ 1 + length (strings ms a b) + length (tables ms a b) + length (metres ms a b)
  count = omega (arith, has.header.long, image-size content, length-blocks ms a b, length_parts ms a b)

  fits : (c : ℕ) → c < blocks_in bytes → (512 * (c + 1) ≤ length x) × (512 * (c + 1) ≤ length bytes)
  fits c h = (omega (arith, has.header.long, (sizes bytes checks).0), omega (arith, (sizes bytes checks).0))

  -- a test that looks at a block after its first u words
  looks : (c u : ℕ) → u ≤ 126 → c < blocks_in bytes → (p : List ℕ) → padded p ≡ payload_at x c
      → ((w : ℕ) → u ≤ w → w < 126 → SameWord x bytes c w) ↔ (same (drop (4 * u) (padded p)) (drop (4 * u) (payload_at bytes c)) ≡ true)
  looks c u some h p e =
      let f = fits c h in (
        λ s. ap₂ (λ y z. same (drop (4 * u) y) z) e (sym (same-words x bytes c u some f.0 f.1 s)) ∙ same_refl (drop (4 * u) (payload_at x c)),
        λ s. words_same x bytes c u some f.0 f.1 (ap (drop (4 * u)) (sym e) ∙ same-eq (drop (4 * u) (padded p)) (drop (4 * u) (payload_at bytes c)) s),
      )

  -- the header is the tree's
  first_block : SameWords content bytes 0
  first_block w h k l =
      let i = 512 * 0 + 4 * w + k in
      sym (get_or-take 504 x i 0 (omega arith)) ∙ ap (λ z. get_or z i 0) has.header.same ∙ get_or-take 504 bytes i 0 (omega arith)

  -- a block before those of the samples has none
  no_sample : (c w : ℕ) → c < start_s1 a b → IsSample t c w → ⊥
  no_sample c w h (inl s) = omega (arith, start, s.2)
  no_sample c w h (inr s) = omega (arith, start, s.2)

  all_words : (c : ℕ) → c < start_s1 a b → SameButSamples content bytes c → SameWords content bytes c
  all_words c h s w g = s w g (no_sample c w h)

  -- nor has one after them
  after-samples : start_metres a b ≡ r1_samples (nodes t) + blocks_of_samples m + blocks_of_samples m
  after-samples = omega (arith, start, length-samples a, length-samples b, ones-a, ones-b)

  no_later_sample : (c w : ℕ) → start_metres a b ≤ c → IsSample t c w → ⊥
  no_later_sample c w h (inl s) = omega (arith, after-samples, s.1, s.2)
  no_later_sample c w h (inr s) = omega (arith, after-samples, s.1, s.2)

  metres-words : (c : ℕ) → start_metres a b ≤ c → SameButSamples content bytes c → SameWords content bytes c
  metres-words c h s w g = s w g (no_later_sample c w h)

  but_samples : (c : ℕ) → SameWords content bytes c → SameButSamples content bytes c
  but_samples c s w g n = s w g

  -- ---- strings

  string_decided : (j : ℕ) → j < length (strings ms a b) → SameWords content bytes (1 + j) ↔ (whole (get_or (strings ms a b) j []) (payload_at bytes (1 + j)) ≡ true)
  string_decided j h =
      let l = looks (1 + j) 0 (omega arith) (omega (arith, count)) (get_or (strings ms a b) j [])
      (ap padded (sym (in_strings ms a b j h)) ∙ image-payload content fit (1 + j) (omega (arith, length_parts ms a b))) in
      (λ s. l.0 (λ w o g. s w g), λ e w g. l.1 e w (omega arith) g)

  -- ---- samples

  table_payload : (i : ℕ) → i < length (tables ms a b) → padded (get_or (tables ms a b) i []) ≡ payload_at x (start_s1 a b + i)
  table_payload i h = ap padded (sym (in_tables ms a b i h)) ∙ image-payload content fit (start_s1 a b + i) (omega (arith, length_parts ms a b, length-strings ms a b))

  sample_decided : (i : ℕ) → i < length (tables ms a b) → SameWords content bytes (start_s1 a b + i) ↔ (whole (get_or (tables ms a b) i []) (payload_at bytes (start_s1 a b + i)) ≡ true)
  sample_decided i h =
      let l = looks (start_s1 a b + i) 0 (omega arith) (omega (arith, count, length-strings ms a b)) (get_or (tables ms a b) i []) (table_payload i h) in
      (λ s. l.0 (λ w o g. s w g), λ e w g. l.1 e w (omega arith) g)

  -- how many samples the block has, and that they are its first words
  lists : length (tables ms a b) ≡ blocks_of_samples m + blocks_of_samples m
  lists = omega (arith, length-append (sample_part a) (sample_part b), length_list (samples a), length_list (samples b), length-samples a, length-samples b, ones-a, ones-b)

  record Used (i : ℕ) : Type 0 where
    words : ℕ
    most : words ≤ 126
    size : length (get_or (tables ms a b) i []) ≡ 4 * words
    sample : (w : ℕ) → w < words → IsSample t (start_s1 a b + i) w
    other : (w : ℕ) → w < 126 → words ≤ w → IsSample t (start_s1 a b + i) w → ⊥

  used : (i : ℕ) → i < length (tables ms a b) → Used i
  used i h = elim (dec_lt i (blocks_of_samples m)) [
    | yes g ↦
        let here = take 126 (drop (126 * i) (samples a)) in
        let l = length-take 126 (drop (126 * i) (samples a)) in
        let d = length-drop (126 * i) (samples a) in
        let n = length-samples a in
        record {
          words = length here;
          most = omega (arith, ones-a);
          size = ap length (get_or-append (sample_part a) (sample_part b) [] i (omega (arith, length_list (samples a), length-samples a, ones-a))
              ∙ list_part_lem (samples a) i (omega (arith, length-samples a, ones-a))) ∙ length-word_bytes here;
          sample = λ w o. inl (126 * i + w, omega (arith, ones-a), omega (arith, start, ones-a), omega (arith, ones-a));
          other = λ w o u. λ s. ⊎_elim (λ q. omega (arith, start, ones-a, q.1, q.2, q.3)) (λ q. omega (arith, start, q.2)) s;
        }
    | no g ↦
        let j = i - blocks_of_samples m in
        let here = take 126 (drop (126 * j) (samples b)) in
        let l = length-take 126 (drop (126 * j) (samples b)) in
        let d = length-drop (126 * j) (samples b) in
        let n = length-samples b in
        let k = lists in
        let la : length (sample_part a) ≡ blocks_of_samples m = omega (arith, length_list (samples a), length-samples a, ones-a) in
        record {
          words = length here;
          most = omega (arith, ones-b);
          size = ap length (ap (λ e. get_or (sample_part a ++ sample_part b) e []) (let e : i ≡ length (sample_part a) + j = omega arith in e)
              ∙ get_or-append-add (sample_part a) (sample_part b) j []
              ∙ list_part_lem (samples b) j (omega (arith, length-samples b, ones-b))) ∙ length-word_bytes here;
          sample = λ w o. inr (126 * j + w, omega (arith, ones-b), omega (arith, start, ones-b), omega (arith, ones-b));
          other = λ w o u. λ s. ⊎_elim (λ q. omega (arith, start, q.1, q.2)) (λ q. omega (arith, start, ones-b, q.1, q.2, q.3)) s;
        }
  ]

  rest_decided : (i : ℕ) → i < length (tables ms a b) → SameButSamples content bytes (start_s1 a b + i) ↔ (zero_after (get_or (tables ms a b) i []) (payload_at bytes (start_s1 a b + i)) ≡ true)
  rest_decided i h =
      let u = used i h in
      let p = get_or (tables ms a b) i [] in
      let y = payload_at bytes (start_s1 a b + i) in
      let l = looks (start_s1 a b + i) u.words u.most (omega (arith, count, length-strings ms a b)) p (table_payload i h) in
      let tested : same (drop (length p) (padded p)) (drop (length p) y) ≡ same (drop (4 * u.words) (padded p)) (drop (4 * u.words) y) =
      ap (λ k. same (drop k (padded p)) (drop k y)) u.size in (
        λ s. tested ∙ l.0 (λ w o g. s w g (u.other w g o)),
        λ e w g n. l.1 (sym tested ∙ e) w (later u.words w (λ o. n (u.sample w o))) g,
      )
    where
      later : (k w : ℕ) → (w < k → ⊥) → k ≤ w
      later k w n = elim (dec_lt w k) [
        | yes o ↦ absurd (n o)
        | no o ↦ omega arith
      ]

  -- ---- metres

  metres_decided : (i : ℕ) → i < length (metres ms a b) → SameWords content bytes (start_metres a b + i) ↔ (whole (get_or (metres ms a b) i []) (payload_at bytes (start_metres a b + i)) ≡ true)
  metres_decided i h =
      let l = looks (start_metres a b + i) 0 (omega arith) (omega (arith, count, length-strings ms a b, length-tables ms a b)) (get_or (metres ms a b) i [])
      (ap padded (sym (in_metres_lem ms a b i)) ∙ image-payload content fit (start_metres a b + i) (omega (arith, length_parts ms a b, length-strings ms a b, length-tables ms a b))) in
      (λ s. l.0 (λ w o g. s w g), λ e w g. l.1 e w (omega arith) g)

  -- ---- the lowest

  abbrev first : List (List ℕ → Bool)
  first = map whole (strings ms a b)

  abbrev second : List (List ℕ → Bool)
  second = map zero_after (tables ms a b)

  abbrev third : List (List ℕ → Bool)
  third = map whole (metres ms a b)

  kept_is : wrong_kept bytes ≡ lowest_failing (first ++ second ++ third) bytes 1
  unfolding wrong_kept
  kept_is =
      ap₂ (λ p q. lowest_failing (map whole (string_part p ++ string_part q) ++ map zero_after (sample_part p ++ sample_part q) ++ map whole (list_part (list_of (metres_in bytes)))) bytes 1)
      (sym has.first) (sym has.second)
      ∙ ap (λ l. lowest_failing (first ++ second ++ map whole (list_part (list_of l))) bytes 1) (sym measured.metres)

  -- the strings and the samples, then the metres
  abbrev front : ℕ
  front = length (strings ms a b) + length (tables ms a b)

  front_long : length (first ++ second) ≡ front
  front_long = omega (arith, length-append first second, length-map (strings ms a b) whole, length-map (tables ms a b) zero_after)

  front-lowest : LowestWrong (λ j. SameButSamples content bytes (1 + j)) 1 front (lowest_failing (first ++ second) bytes 1)
  front-lowest =
      let k = length (strings ms a b) in
      let r = lowest_failing first bytes 1 in
      let s = lowest_failing second bytes (1 + k) in
      both (λ j. SameButSamples content bytes (1 + j)) 1 k (length (tables ms a b)) r s (lowest_failing (first ++ second) bytes 1) (omega arith)
      (failing_is whole bytes (strings ms a b) 1 k refl (λ j. SameButSamples content bytes (1 + j)) (λ j h.
      let d = string_decided j h in
      (λ w. d.0 (all_words (1 + j) (omega (arith, length-strings ms a b)) w), λ e. but_samples (1 + j) (d.1 e))))
      (failing_is zero_after bytes (tables ms a b) (1 + k) (length (tables ms a b)) refl (λ j. SameButSamples content bytes (1 + (k + j))) (λ j h.
      let same_block : start_s1 a b + j ≡ 1 + (k + j) = omega (arith, length-strings ms a b) in
      let same_place : start_s1 a b + j ≡ 1 + k + j = omega (arith, length-strings ms a b) in
      let d = rest_decided j h in (
        λ w. ap (λ c. zero_after (get_or (tables ms a b) j []) (payload_at bytes c)) (sym same_place) ∙ d.0 (subst (SameButSamples content bytes) (sym same_block) w),
        λ e. subst (SameButSamples content bytes) same_block (d.1 (ap (λ c. zero_after (get_or (tables ms a b) j []) (payload_at bytes c)) same_place ∙ e)),
      )))
      (λ n. first_fails bytes first second 1 n)
      (λ z. first_passes bytes first second 1 (omega arith) z
      ∙ ap (lowest_failing second bytes) (let e : 1 + length first ≡ 1 + k = omega (arith, length-map (strings ms a b) whole) in e))

  kept-lowest : LowestWrong (λ j. SameButSamples content bytes (1 + j)) 1 (front + length (metres ms a b)) (wrong_kept bytes)
  kept-lowest =
      let s = lowest_failing third bytes (1 + front) in
      both (λ j. SameButSamples content bytes (1 + j)) 1 front (length (metres ms a b)) (lowest_failing (first ++ second) bytes 1) s (wrong_kept bytes) (omega arith)
      front-lowest
      (failing_is whole bytes (metres ms a b) (1 + front) (length (metres ms a b)) refl (λ j. SameButSamples content bytes (1 + (front + j))) (λ j h.
      let same_block : start_metres a b + j ≡ 1 + (front + j) = omega (arith, length-strings ms a b, length-tables ms a b) in
      let same_place : start_metres a b + j ≡ 1 + front + j = omega (arith, length-strings ms a b, length-tables ms a b) in
      let d = metres_decided j h in (
        λ w. ap (λ c. whole (get_or (metres ms a b) j []) (payload_at bytes c)) (sym same_place)
            ∙ d.0 (metres-words (start_metres a b + j) (omega arith) (subst (SameButSamples content bytes) (sym same_block) w)),
        λ e. subst (SameButSamples content bytes) same_block (but_samples (start_metres a b + j) (d.1 (ap (λ c. whole (get_or (metres ms a b) j []) (payload_at bytes c)) same_place ∙ e))),
      )))
      (λ n. kept_is ∙ first_fails bytes (first ++ second) third 1 n)
      (λ z. kept_is ∙ first_passes bytes (first ++ second) third 1 (omega arith) z
      ∙ ap (lowest_failing third bytes) (let e : 1 + length (first ++ second) ≡ 1 + front = omega (arith, front_long) in e))

  sample_is : wrong_sample bytes ≡ lowest_failing (map whole (tables ms a b)) bytes (start_s1 a b)
  unfolding wrong_sample
  sample_is =
      ap₂ (λ p q. lowest_failing (map whole (sample_part p ++ sample_part q)) bytes (r1_samples (header_word bytes 1))) (sym has.first) (sym has.second)
      ∙ ap (λ n. lowest_failing (map whole (tables ms a b)) bytes (r1_samples n)) nodes_are
      ∙ ap (lowest_failing (map whole (tables ms a b)) bytes) (sym start)
    where
      nodes_are : header_word bytes 1 ≡ nodes t
      nodes_are = sym (ap length has.first ∙ length-string_in bytes 1 0 (header_word bytes 1)) ∙ length-R1 t

  sample_lowest : LowestWrong (λ i. SameWords content bytes (start_s1 a b + i)) (start_s1 a b) (length (tables ms a b)) (wrong_sample bytes)
  sample_lowest =
      subst (LowestWrong (λ i. SameWords content bytes (start_s1 a b + i)) (start_s1 a b) (length (tables ms a b))) (sym sample_is)
      (failing_is whole bytes (tables ms a b) (start_s1 a b) (length (tables ms a b)) refl (λ i. SameWords content bytes (start_s1 a b + i)) sample_decided)

  -- ---- 14

  silent : (outside 1 2 (header_word bytes 0) ≡ false) × ((not (is_header bytes) ≡ false) × ((not (are_strings bytes) ≡ false) × Unit {0}))
  silent =
      let h = has.header in
      let v = has-version bytes checks content h in
      (between 1 2 (header_word bytes 0) v.some v.most, (ap not (has-header bytes checks content h), (ap not (has-strings bytes checks content has), tt)))

  kept-named : (p : ℕ) → p ≡ wrong_kept bytes → 1 ≤ p → LowestNot (SameButSamples content bytes) (blocks_in bytes) p
  kept-named p e some = go (wrong_kept bytes) e kept-lowest
    where
      go : (r : ℕ) → p ≡ r → LowestWrong (λ j. SameButSamples content bytes (1 + j)) 1 (front + length (metres ms a b)) r → LowestNot (SameButSamples content bytes) (blocks_in bytes) p
      go r f (none z g) = absurd (omega arith)
      go r f (here j l g lower n) = record {
        there = omega (arith, count);
        lower = λ c h. below c (omega arith);
        not = λ s. n (subst (SameButSamples content bytes) (let q : p ≡ 1 + j = f ∙ g in q) s);
      }
        where
          below : (c : ℕ) → c < 1 + j → SameButSamples content bytes c
          below zero h = but_samples 0 first_block
          below (suc c) h = subst (SameButSamples content bytes) (let q : 1 + c ≡ suc c = omega arith in q) (lower c (omega arith))

  named-kept : (p : ℕ) → LowestNot (SameButSamples content bytes) (blocks_in bytes) p → (1 ≤ p) × (p ≡ wrong_kept bytes)
  named-kept zero l = absurd (l.not (but_samples 0 first_block))
  named-kept (suc j) l = (
    omega arith,
    lowest-one (λ i. SameButSamples content bytes (1 + i)) 1 (front + length (metres ms a b)) (suc j) (wrong_kept bytes)
        (here j (omega (arith, l.there, count)) (omega arith) (λ i h. l.lower (1 + i) (omega arith))
        (λ s. l.not (subst (SameButSamples content bytes) (let q : 1 + j ≡ suc j = omega arith in q) s))) kept-lowest,
  )

  -- ---- 15

  all-kept : wrong_kept bytes ≡ 0 → (c : ℕ) → c < blocks_in bytes → SameButSamples content bytes c
  all-kept e zero h = but_samples 0 first_block
  all-kept e (suc c) h =
      subst (SameButSamples content bytes) (let q : 1 + c ≡ suc c = omega arith in q)
      (lowest-none (λ j. SameButSamples content bytes (1 + j)) 1 (front + length (metres ms a b)) (wrong_kept bytes) (omega arith) e kept-lowest c (omega (arith, count)))

  none_kept : ((c : ℕ) → c < blocks_in bytes → SameButSamples content bytes c) → wrong_kept bytes ≡ 0
  none_kept f =
      lowest-one (λ j. SameButSamples content bytes (1 + j)) 1 (front + length (metres ms a b)) (wrong_kept bytes) 0 kept-lowest
      (none refl (λ j h. f (1 + j) (omega (arith, count))))

  sample_named : (p : ℕ) → p ≡ wrong_sample bytes → 1 ≤ p → wrong_kept bytes ≡ 0 → LowestNot (SameWords content bytes) (blocks_in bytes) p
  sample_named p e some kept = go (wrong_sample bytes) e sample_lowest
    where
      go : (r : ℕ) → p ≡ r → LowestWrong (λ i. SameWords content bytes (start_s1 a b + i)) (start_s1 a b) (length (tables ms a b)) r → LowestNot (SameWords content bytes) (blocks_in bytes) p
      go r f (none z g) = absurd (omega arith)
      go r f (here j l g lower n) = record {
        there = omega (arith, count, length-strings ms a b);
        lower = λ c h. elim (dec_lt c (start_s1 a b)) [
          | yes o ↦ all_words c o (all-kept kept c (omega (arith, count, length-strings ms a b)))
          | no o ↦ subst (SameWords content bytes) (let q : start_s1 a b + (c - start_s1 a b) ≡ c = omega arith in q) (lower (c - start_s1 a b) (omega arith))
        ];
        not = λ s. n (subst (SameWords content bytes) (let q : p ≡ start_s1 a b + j = f ∙ g in q) s);
      }

  named_sample : (p : ℕ) → ((c : ℕ) → c < blocks_in bytes → SameButSamples content bytes c) → LowestNot (SameWords content bytes) (blocks_in bytes) p → (1 ≤ p) × (p ≡ wrong_sample bytes)
  named_sample p kept l = elim (dec_lt p (start_s1 a b)) [
    | yes o ↦ absurd (l.not (all_words p o (kept p l.there)))
    | no o ↦ elim (dec_lt p (start_metres a b)) [
      | yes before ↦
          let j = p - start_s1 a b in
          let at : start_s1 a b + j ≡ p = omega arith in (
            omega arith,
            lowest-one (λ i. SameWords content bytes (start_s1 a b + i)) (start_s1 a b) (length (tables ms a b)) p (wrong_sample bytes)
                (here j (omega (arith, length-tables ms a b)) (sym at) (λ i h. l.lower (start_s1 a b + i) (omega arith)) (λ s. l.not (subst (SameWords content bytes) at s)))
                sample_lowest,
          )
      | no after ↦ absurd (l.not (metres-words p (omega arith) (kept p l.there)))
    ]
  ]

-- ---- the promises

pub counts_named : P.CountsNamed
counts_named bytes c checks has p = (
  λ e. let g = (given14 bytes checks p).0 e in
      kept-named bytes c checks has p g.2 (let l = ltb-true 0 (wrong_kept bytes) g.1 in omega (arith, g.2)),
  λ l. let g = named-kept bytes c checks has p l in
      (given14 bytes checks p).1 (silent bytes c checks has, lt-ltb 0 (wrong_kept bytes) (omega (arith, g.0, g.1)), g.1),
)

pub samples_named : P.SamplesNamed
samples_named bytes c checks has p = (
  λ e. let g = (given15 bytes checks p).0 e in
      let zero-kept = ltb-false 0 (wrong_kept bytes) g.0.1.1.1.0 in
      let kept : wrong_kept bytes ≡ 0 = omega arith in
      (all-kept bytes c checks has kept, sample_named bytes c checks has p g.2 (let l = ltb-true 0 (wrong_sample bytes) g.1 in omega (arith, g.2)) kept),
  λ w.
      let kept = none_kept bytes c checks has w.0 in
      let g = named_sample bytes c checks has p w.0 w.1 in
      let s = silent bytes c checks has in
      (given15 bytes checks p).1 (
        (s.0, (s.1.0, (s.1.1.0, (le-ltb 0 (wrong_kept bytes) (omega arith), tt)))),
        lt-ltb 0 (wrong_sample bytes) (omega (arith, g.0, g.1)),
        g.1,
      ),
)
