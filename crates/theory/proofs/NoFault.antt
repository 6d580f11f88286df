-- No test of codes 11 to 15 holds exactly if the bytes are an image: by payloads, so of any list of
-- numbers.
use mathlib.Core.Path.{◌≡◌, refl, sym, ap, ap₂, ◌∙◌, subst}
use mathlib.Core.Logic.{◌↔◌}
use mathlib.Core.Bool.{Bool, true}
use mathlib.Core.List.{List, [], ◌∷◌, ◌++◌, map, append_assoc}
use mathlib.Core.Option.{Option}
use Prim.Native.Nat.{ℕ, zero, suc, ◌+◌, ◌-◌, ◌*◌, ◌≤◌, ◌<◌}
use native.Mathlib.Decide.{dec_lt}
use native.Mathlib.Omega.{arith}
use lib.ListN.{length, get_or, take, drop, length-append, length-map, get_or-append}
use lib.Seq.{get_or-append-add, ext_get_or}
use Rattle.meaning.specs.Trees.{Tree, nodes}
use Rattle.meaning.specs.Strings.{Bit, ones, lbs, R1, R0}
use Rattle.meaning.specs.Blocks.{word_bytes, padded, sealed, sum_start, same, blocks_in, wrong_block}
use Rattle.meaning.specs.Image.{Content, FitImage, version_of, list_of, list_part, string_blocks, samples}
use Rattle.meaning.specs.Image.{string_part, sample_part, header, payloads, image_of_parts, image, header_word, metres_in, is_image}
use Rattle.meaning.specs.Faults.{is_header, are_strings, payload_at, whole, zero_after, lowest_failing, wrong_kept, wrong_sample}
use Rattle.theory.specs.Layout.{total, start_s1, start_metres}
use Rattle.theory.specs.Stages.{nodes_of, runs_of, r1_samples, read_r1, read_r0, Known, Ended, Stages}
use Rattle.theory.proofs.Forms.{length-R1, length-R0}
use Rattle.theory.proofs.Sealing.{same_refl, length-padded, sealed-at, length-sealed, is_sealed}
use Rattle.theory.proofs.Payloads.{length-samples}
use Rattle.theory.proofs.Images.{blocks, image_blocks, length-blocks, length-string, length_list, payload-head}
use Rattle.theory.proofs.TreeImages.{length-string_in, image_parts, image-size, image_least, tree_laid, metres_in_lem, is_image_lem, made-image}
use Rattle.theory.proofs.Stages.{image_stages, tree-R1, tree-R0, metres-count, metres-version}
use Rattle.theory.proofs.LowestWrong.{all_pass, none_fails, first_passes, front_passes}
use Rattle.theory.proofs.BlockTests.{whole_is, length-payload, payload_byte}
use Rattle.theory.proofs.Faults.{version-at, nodes-at, runs-at, r1-at, r0-at, HeaderTold, header_told, told_header, header_of}
use Rattle.theory.proofs.Faults.{Strings, strings_told, told_strings, strings_staged, staged_strings, kept_read, sample_read}

pub record NoFault (bytes : List ℕ) : Type 0 where
  pub version : Known (header_word bytes 0)
  pub header : is_header bytes ≡ true
  pub strings : are_strings bytes ≡ true
  pub kept : wrong_kept bytes ≡ 0
  pub samples : wrong_sample bytes ≡ 0

-- ---- the payloads of an image, in three parts

module _ (ms : Option (List ℕ)) (a b : List Bit) where
  abbrev pub strings : List (List ℕ)
  strings = string_part a ++ string_part b

  abbrev pub tables : List (List ℕ)
  tables = sample_part a ++ sample_part b

  abbrev pub metres : List (List ℕ)
  metres = list_part (list_of ms)

  pub length-strings : 1 + length strings ≡ start_s1 a b
  length-strings = omega (arith, length-append (string_part a) (string_part b), length-string a, length-string b)

  pub length-tables : start_s1 a b + length tables ≡ start_metres a b
  length-tables = omega (arith, length-append (sample_part a) (sample_part b), length_list (samples a), length_list (samples b))

  in_parts : blocks ms a b ≡ header ms a b ∷ (strings ++ tables ++ metres)
  unfolding blocks payloads
  in_parts = ap (λ xs. header ms a b ∷ (xs ++ metres)) (append_assoc strings (sample_part a) (sample_part b))

  pub in_strings : (j : ℕ) → j < length strings → get_or (blocks ms a b) (1 + j) [] ≡ get_or strings j []
  in_strings j h =
      ap₂ (λ xs i. get_or xs i []) in_parts (let e : 1 + j ≡ suc j = omega arith in e)
      ∙ get_or-append (strings ++ tables) metres [] j (omega (arith, length-append strings tables))
      ∙ get_or-append strings tables [] j h

  pub in_tables : (j : ℕ) → j < length tables → get_or (blocks ms a b) (start_s1 a b + j) [] ≡ get_or tables j []
  in_tables j h =
      ap₂ (λ xs i. get_or xs i []) in_parts (let e : start_s1 a b + j ≡ suc (length strings + j) = omega (arith, length-strings) in e)
      ∙ get_or-append (strings ++ tables) metres [] (length strings + j) (omega (arith, length-append strings tables))
      ∙ get_or-append-add strings tables j []

  pub in_metres_lem : (j : ℕ) → get_or (blocks ms a b) (start_metres a b + j) [] ≡ get_or metres j []
  in_metres_lem j =
      ap₂ (λ xs i. get_or xs i []) in_parts
      (let e : start_metres a b + j ≡ suc (length (strings ++ tables) + j) = omega (arith, length-append strings tables, length-strings, length-tables) in e)
      ∙ get_or-append-add (strings ++ tables) metres j []

  pub length_parts : length (blocks ms a b) ≡ 1 + length strings + length tables + length metres
  length_parts = ap length in_parts ∙ omega (arith, length-append (strings ++ tables) metres, length-append strings tables)

-- ---- the payloads of sealed blocks

pub sealed-payload : (ps : List (List ℕ)) (j : ℕ) → j < length ps → padded (get_or ps j []) ≡ payload_at (sealed sum_start ps 0) j
sealed-payload ps j h =
    let x = sealed sum_start ps 0 in
    let p = padded (get_or ps j []) in
    let fits : 512 * (j + 1) ≤ length x = omega (arith, length-sealed sum_start ps 0) in
    ext_get_or 0 p (payload_at x j) (length-padded (get_or ps j []) ∙ sym (length-payload x j fits))
    (λ i l. sym (payload_byte x j fits i (omega (arith, length-padded (get_or ps j []))) ∙ sealed-at sum_start ps 0 j i h (omega (arith, length-padded (get_or ps j [])))))

-- ---- an image has none of these faults

zero-after : (p x : List ℕ) → padded p ≡ x → zero_after p x ≡ true
zero-after p x e = ap (λ y. same (drop (length p) (padded p)) (drop (length p) y)) (sym e) ∙ same_refl (drop (length p) (padded p))

module _ (c : Content) (fit : FitImage c) where
  abbrev t : Tree
  t = c.tree

  abbrev ms : Option (List ℕ)
  ms = c.metres

  abbrev x : List ℕ
  x = image c

  abbrev a : List Bit
  a = R1 (lbs t)

  abbrev b : List Bit
  b = R0 (lbs t)

  stages : Stages x
  stages = image_stages x ((is_image_lem x).1 (c, fit, refl))

  long : 504 ≤ length x
  long = omega (arith, image-size c, image_least c)

  pub image-payload : (j : ℕ) → j < length (blocks ms a b) → padded (get_or (blocks ms a b) j []) ≡ payload_at x j
  image-payload j h = sealed-payload (blocks ms a b) j h ∙ ap (λ y. payload_at y j) (sym (image_parts c ∙ image_blocks ms a b))

  header-words : padded (header_of x) ≡ take 504 x
  header-words =
      let l = tree_laid c fit in
      let v : header_word x 0 ≡ version_of ms = version-at x long ∙ l.head 0 (omega arith) in
      let n : header_word x 1 ≡ length a = nodes-at x long ∙ l.head 1 (omega arith) in
      let m : header_word x 2 ≡ ones a = runs-at x long ∙ l.head 2 (omega arith) in
      let k : blocks_in x ≡ total ms a b = omega (arith, image-size c) in
      ap₂ (λ v n. padded (word_bytes (v ∷ n ∷ header_word x 2 ∷ blocks_in x ∷ []))) v n
      ∙ ap₂ (λ m k. padded (word_bytes (version_of ms ∷ length a ∷ m ∷ k ∷ []))) m k
      ∙ ap padded (sym (payload-head ms a b))
      ∙ image-payload 0 (omega (arith, length-blocks ms a b, image_least c))

  module _ (test : List ℕ → List ℕ → Bool) (right : (p y : List ℕ) → padded p ≡ y → test p y ≡ true) where
    strings_pass : lowest_failing (map test (strings ms a b)) x 1 ≡ 0
    strings_pass =
        all_pass test x (strings ms a b) 1 (λ j h. right (get_or (strings ms a b) j []) (payload_at x (1 + j))
        (ap padded (sym (in_strings ms a b j h)) ∙ image-payload (1 + j) (omega (arith, length_parts ms a b))))

    tables_pass : lowest_failing (map test (tables ms a b)) x (start_s1 a b) ≡ 0
    tables_pass =
        all_pass test x (tables ms a b) (start_s1 a b) (λ j h. right (get_or (tables ms a b) j []) (payload_at x (start_s1 a b + j))
        (ap padded (sym (in_tables ms a b j h)) ∙ image-payload (start_s1 a b + j) (omega (arith, length_parts ms a b, length-strings ms a b))))

    metres_pass : lowest_failing (map test (metres ms a b)) x (start_metres a b) ≡ 0
    metres_pass =
        all_pass test x (metres ms a b) (start_metres a b) (λ j h. right (get_or (metres ms a b) j []) (payload_at x (start_metres a b + j))
        (ap padded (sym (in_metres_lem ms a b j)) ∙ image-payload (start_metres a b + j) (omega (arith, length_parts ms a b, length-strings ms a b, length-tables ms a b))))

  -- no block is named by code 14
  none_kept : lowest_failing (map whole (strings ms a b) ++ map zero_after (tables ms a b) ++ map whole (metres ms a b)) x 1 ≡ 0
  none_kept =
      first_passes x (map whole (strings ms a b) ++ map zero_after (tables ms a b)) (map whole (metres ms a b)) 1 (omega arith)
      (first_passes x (map whole (strings ms a b)) (map zero_after (tables ms a b)) 1 (omega arith) (strings_pass whole (λ p y e. (whole_is p y).1 e))
      ∙ ap (lowest_failing (map zero_after (tables ms a b)) x)
      (let e : 1 + length (map whole (strings ms a b)) ≡ start_s1 a b = omega (arith, length-map (strings ms a b) whole, length-strings ms a b) in e)
      ∙ tables_pass zero_after zero-after)
      ∙ ap (lowest_failing (map whole (metres ms a b)) x)
      (let e : 1 + length (map whole (strings ms a b) ++ map zero_after (tables ms a b)) ≡ start_metres a b =
      omega (
        arith,
        length-append (map whole (strings ms a b)) (map zero_after (tables ms a b)),
        length-map (strings ms a b) whole,
        length-map (tables ms a b) zero_after,
        length-strings ms a b,
        length-tables ms a b,
      ) in e)
      ∙ metres_pass whole (λ p y e. (whole_is p y).1 e)

  pub image_faultless : NoFault x
  image_faultless =
      let s = stages in
      let h = s.header in
      let n : nodes_of x ≡ nodes t = (tree_laid c fit).head 1 (omega arith) ∙ length-R1 t in
      let start : r1_samples (nodes_of x) ≡ start_s1 a b = omega (arith, length-R1 t, length-R0 t) in
      record {
        version = subst Known (sym (version-at x long)) s.version;
        header = told_header x long (record {
          some = h.some;
          most = h.most;
          runs_some = h.runs_some;
          runs_most = h.runs_most;
          runs_two = h.runs_two;
          needed = sym h.needed;
          words = header-words;
        });
        strings = told_strings x (staged_strings x long h.some h.most s.ended1 s.ended0 s.in_step);
        kept = kept_read x long s.ended1
            ∙ ap₂ (λ p q. lowest_failing (map whole (string_part p ++ string_part q) ++ map zero_after (sample_part p ++ sample_part q) ++ map whole (list_part (list_of (metres_in x)))) x 1)
            (tree-R1 c fit) (tree-R0 c fit)
            ∙ ap (λ m. lowest_failing (map whole (strings ms a b) ++ map zero_after (tables ms a b) ++ map whole (list_part (list_of m))) x 1) (metres_in_lem c fit)
            ∙ none_kept;
        samples = sample_read x long s.ended1
            ∙ ap₂ (λ p q. lowest_failing (map whole (sample_part p ++ sample_part q)) x (r1_samples (nodes_of x))) (tree-R1 c fit) (tree-R0 c fit)
            ∙ ap (lowest_failing (map whole (tables ms a b)) x) start
            ∙ tables_pass whole (λ p y e. (whole_is p y).1 e);
      }

-- ---- and bytes that have none are an image

module _ (bytes : List ℕ) (size : length bytes ≡ 512 * blocks_in bytes) (sums : wrong_block bytes ≡ blocks_in bytes) (long : 504 ≤ length bytes) (f : NoFault bytes) where
  abbrev r1 : List Bit
  r1 = read_r1 bytes

  abbrev r0 : List Bit
  r0 = read_r0 bytes

  abbrev held : Option (List ℕ)
  held = metres_in bytes

  told : HeaderTold bytes long
  told = header_told bytes long f.header

  given : Strings bytes
  given = strings_told bytes f.strings

  ended : Ended (runs_of bytes) r1 × Ended (runs_of bytes) r0
  ended = let s = strings_staged bytes long told.some given in (s.0, s.1)

  start_is : start_s1 r1 r0 ≡ r1_samples (nodes_of bytes)
  start_is =
      omega (arith, length-string_in bytes 1 0 (nodes_of bytes), length-string_in bytes (1 + string_blocks (nodes_of bytes)) 0 (nodes_of bytes + 1))

  total_is : total held r1 r0 ≡ blocks_in bytes
  total_is =
      let e = ended in
      omega (arith, start_is, length-samples r1, length-samples r0, e.0.count, e.1.count, metres-count bytes long, told.needed)

  -- the tests of code 14: those of the strings, and those of the metres
  before-metres : lowest_failing (map whole (strings held r1 r0) ++ map zero_after (tables held r1 r0)) bytes 1 ≡ 0
  before-metres =
      front_passes bytes (map whole (strings held r1 r0) ++ map zero_after (tables held r1 r0)) (map whole (metres held r1 r0)) 1 (sym (kept_read bytes long ended.0) ∙ f.kept)

  none_in_metres : lowest_failing (map whole (metres held r1 r0)) bytes (start_metres r1 r0) ≡ 0
  none_in_metres =
      ap (lowest_failing (map whole (metres held r1 r0)) bytes)
      (let e : start_metres r1 r0 ≡ 1 + length (map whole (strings held r1 r0) ++ map zero_after (tables held r1 r0)) =
      omega (
        arith,
        length-append (map whole (strings held r1 r0)) (map zero_after (tables held r1 r0)),
        length-map (strings held r1 r0) whole,
        length-map (tables held r1 r0) zero_after,
        length-strings held r1 r0,
        length-tables held r1 r0,
      ) in e)
      ∙ sym (first_passes bytes (map whole (strings held r1 r0) ++ map zero_after (tables held r1 r0)) (map whole (metres held r1 r0)) 1 (omega arith) before-metres)
      ∙ sym (kept_read bytes long ended.0) ∙ f.kept

  -- a block that the tests show right is the one that it should be
  block_is : (ps : List (List ℕ)) (from : ℕ) → 1 ≤ from → lowest_failing (map whole ps) bytes from ≡ 0
      → (i : ℕ) → i < length ps → get_or (blocks held r1 r0) (from + i) [] ≡ get_or ps i [] → (k : ℕ) → k ≡ from + i → payload_at bytes k ≡ padded (get_or (blocks held r1 r0) k [])
  block_is ps from some none i l at k e =
      ap (payload_at bytes) e
      ∙ sym ((whole_is (get_or ps i []) (payload_at bytes (from + i))).0 (none_fails whole bytes ps from some none i l))
      ∙ ap padded (sym at ∙ ap (λ k. get_or (blocks held r1 r0) k []) (sym e))

  payload_is : (j : ℕ) → j < length (blocks held r1 r0) → payload_at bytes j ≡ padded (get_or (blocks held r1 r0) j [])
  payload_is zero h =
      let e = ended in
      let v : version_of held ≡ header_word bytes 0 = sym (metres-version bytes long (subst Known (version-at bytes long) f.version)) ∙ sym (version-at bytes long) in
      let n : length r1 ≡ header_word bytes 1 = length-string_in bytes 1 0 (nodes_of bytes) ∙ sym (nodes-at bytes long) in
      let m : ones r1 ≡ header_word bytes 2 = e.0.count ∙ sym (runs-at bytes long) in
      sym told.words ∙ ap padded (sym (payload-head held r1 r0
      ∙ ap₂ (λ v n. word_bytes (v ∷ n ∷ ones r1 ∷ total held r1 r0 ∷ [])) v n
      ∙ ap₂ (λ m c. word_bytes (header_word bytes 0 ∷ header_word bytes 1 ∷ m ∷ c ∷ [])) m total_is))
  payload_is (suc j) h = elim (dec_lt j (length (strings held r1 r0))) [
    | yes g ↦
        let none = front_passes bytes (map whole (strings held r1 r0)) (map zero_after (tables held r1 r0)) 1 before-metres in
        block_is (strings held r1 r0) 1 (omega arith) none j g (in_strings held r1 r0 j g) (suc j) (omega arith)
    | no g ↦ elim (dec_lt (suc j) (start_metres r1 r0)) [
      | yes l ↦
          let from = start_s1 r1 r0 in
          let i = suc j - from in
          let few : i < length (tables held r1 r0) = omega (arith, length-strings held r1 r0, length-tables held r1 r0) in
          let none = ap (lowest_failing (map whole (tables held r1 r0)) bytes) start_is ∙ sym (sample_read bytes long ended.0) ∙ f.samples in
          block_is (tables held r1 r0) from (omega arith) none i few (in_tables held r1 r0 i few) (suc j) (omega (arith, length-strings held r1 r0))
      | no l ↦
          let from = start_metres r1 r0 in
          let i = suc j - from in
          block_is (metres held r1 r0) from (omega arith) none_in_metres i (omega (arith, length_parts held r1 r0, length-strings held r1 r0, length-tables held r1 r0))
          (in_metres_lem held r1 r0 i) (suc j) (omega arith)
    ]
  ]

  pub faultless_image : is_image bytes ≡ true
  faultless_image = made-image bytes (record { tree = given.tree; metres = held }) given.few refl (
      image_parts (record { tree = given.tree; metres = held })
      ∙ ap₂ (image_of_parts held) (given.first ∙ r1-at bytes long) (given.second ∙ r0-at bytes long)
      ∙ image_blocks held r1 r0
      ∙ sym (is_sealed (blocks held r1 r0) bytes (omega (arith, length-blocks held r1 r0, total_is)) (sums ∙ omega (arith, length-blocks held r1 r0, total_is)) payload_is))

pub faultless : (bytes : List ℕ) → length bytes ≡ 512 * blocks_in bytes → wrong_block bytes ≡ blocks_in bytes → 504 ≤ length bytes → (is_image bytes ≡ true) ↔ NoFault bytes
faultless bytes size sums long =
    (λ e. let r = (is_image_lem bytes).0 e in subst NoFault r.2 (image_faultless r.0 r.1), faultless_image bytes size sums long)
