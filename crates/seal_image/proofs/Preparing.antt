-- The passes one after the other fill the payloads.
use mathlib.Core.Path.{◌≡◌, refl, sym, ap, ap₂, ◌∙◌, subst, subst₂}
use mathlib.Core.List.{List, [], ◌∷◌, ◌++◌}
use mathlib.Core.Option.{Option, none, some}
use Prim.Native.Nat.{ℕ, ◌+◌, ◌-◌, ◌*◌, ◌%◌, ◌^◌, ◌≤◌, ◌<◌}
use native.Mathlib.Omega.{arith}
use lib.ListN.{length, get_or, take, drop, replicate, length-replicate, get_or-replicate, get_or-append}
use lib.Seq.{get_or-drop, get_or-append-add}
use Rattle.meaning.specs.Parents.{IsParents, bad_entry}
use Rattle.meaning.specs.Strings.{Bit, ones, R1, R0, string_of}
use Rattle.meaning.specs.Image.{Measured, version_of, list_of, word_blocks, string_blocks, samples, metres_held, string_in}
use Rattle.theory.specs.Layout.{word_at, sample_place, start_r0, start_s1, start_s0, start_metres, total}
use Rattle.theory.specs.Stages.{blocks_of_samples, r0_block, r1_samples}
use Rattle.theory.proofs.Images.{version_small}
use Rattle.theory.proofs.Payloads.{ones-le, length-samples}
use Rattle.parents_check.proofs.Rising.{good_parents}
use Rattle.image_layout.specs.declared.Layout.{Layout}
use Rattle.image_layout.specs.Layout.{metres_at, layout_of}
use Rattle.image_layout.proofs.Laying.{held_most}
use Rattle.seal_r1_bits.specs.Listed.{runs_in}
use Rattle.seal_r1.specs.Passes.{Part, tree_blocks, Blank, Outside, StringsWritten}
use Rattle.seal_frame.specs.Filled.{Counts, Filled}
use Rattle.seal_frame.specs.Passes.{CountsWritten, version_at, headed, blocks_for, Prepared}
use Rattle.seal_metres.specs.Metres.{MetresWritten}
use Rattle.seal_r1_bits.proofs.Entries.{sizes}
use Rattle.seal_r1.proofs.Placing.{word-agree}
use Rattle.seal_frame.proofs.Heading.{headed_byte, headed-word}
use Rattle.seal_r0.proofs.Parting.{part_agree, part_string}
use Rattle.seal_image.specs.Given.{given}

-- ---- bytes cleared

module _ (old : List ℕ) (k : ℕ) where
  pub cleared-zero : (q : ℕ) → q < k → get_or (replicate k 0 ++ drop k old) q 0 ≡ 0
  cleared-zero q h = get_or-append (replicate k 0) (drop k old) 0 q (omega (arith, length-replicate {A = ℕ} k 0)) ∙ get_or-replicate k q 0 0 h

  pub cleared-rest : (q : ℕ) → k ≤ q → get_or (replicate k 0 ++ drop k old) q 0 ≡ get_or old q 0
  cleared-rest q h =
      let l = length-replicate {A = ℕ} k 0 in
      ap (λ j. get_or (replicate k 0 ++ drop k old) j 0) (let e : q ≡ length (replicate k 0) + (q - k) = omega arith in e)
      ∙ get_or-append-add (replicate k 0) (drop k old) (q - k) 0 ∙ get_or-drop k old (q - k) 0 ∙ ap (λ j. get_or old j 0) (let e : k + (q - k) ≡ q = omega arith in e)

-- ---- the metres of a lent list

pub given_list : (ms : List ℕ) → list_of (given ms) ≡ ms
given_list [] = refl
given_list (m ∷ ms) = refl

pub given-measured : (n : ℕ) (ms : List ℕ) → length ms ≡ metres_held (version_of (given ms)) n → ((i : ℕ) → i < length ms → get_or ms i 0 < 2 ^ 32) → Measured n (given ms)
given-measured n [] e small = tt
given-measured n (m ∷ ms) e small = (e, λ i h. small i (omega arith))

pub few-metres : (n : ℕ) (ms : List ℕ) → length ms ≡ metres_held (version_of (given ms)) n → length ms ≤ n
few-metres n ms e = omega (arith, e, held_most (version_of (given ms)) n)

-- the version that is put into the header
layout_version : (g : Option (List ℕ)) (block : ℕ) → version_at (metres_at (version_of g) block) ≡ version_of g
layout_version none block = refl
layout_version (some ms) block = refl

-- ---- how many blocks there are

pub few-runs : (ps : List ℕ) → IsParents ps → runs_in ps ≤ length ps
few-runs ps h = omega (arith, ones-le (R1 (string_of ps)), (sizes ps h).long1)

samples-blocks : (r : List Bit) → word_blocks (length (samples r)) ≡ blocks_of_samples (ones r)
samples-blocks r = ap (λ k. word_blocks k) (length-samples r)

pub tree-total : (ps : List ℕ) → IsParents ps → tree_blocks ps ≡ start_metres (R1 (string_of ps)) (R0 (string_of ps))
tree-total ps h =
    let s = sizes ps h in
    omega (arith, s.long1, s.long0, s.same, length-samples (R1 (string_of ps)), length-samples (R0 (string_of ps)))

pub blocks-total : (g : Option (List ℕ)) (ps : List ℕ) → length (list_of g) ≡ metres_held (version_of g) (length ps) → IsParents ps
    → blocks_for g ps ≡ total g (R1 (string_of ps)) (R0 (string_of ps))
blocks-total g ps e h = omega (arith, tree-total ps h, e)

-- behind those of the tree the metres
pub blocks_split : (ps ms : List ℕ) (layout : Layout) → length ms ≡ metres_held (version_of (given ms)) (length ps)
    → layout ≡ layout_of (version_of (given ms)) (length ps) (runs_in ps) → layout.blocks ≡ tree_blocks ps + word_blocks (length ms)
blocks_split ps ms layout e laid = ap (λ (l : Layout). l.blocks) laid ∙ ap (λ k. tree_blocks ps + word_blocks k) (sym e)

-- ---- all passes

part_cast : (bytes : List ℕ) (f B at S f' B' at' S' : ℕ) (r : List Bit) → f ≡ f' → B ≡ B' → at ≡ at' → S ≡ S' → Part bytes f B at S r → Part bytes f' B' at' S' r
part_cast bytes f B at S f' B' at' S' r e g h k p =
    subst₂ (λ x y. Part bytes x y at' S' r) e g (subst₂ (λ x y. Part bytes f B x y r) h k p)

module _ (old cleared ran one two : List ℕ) (g : Option (List ℕ)) (ps : List ℕ) (are : IsParents ps) (most : length ps ≤ 65535)
    (each : length (list_of g) ≡ metres_held (version_of g) (length ps))
    (c : cleared ≡ replicate (512 * blocks_for g ps) 0 ++ drop (512 * blocks_for g ps) old) (r : StringsWritten cleared ran ps)
    (c1 : CountsWritten ran one 1 (length ps)) (c0 : CountsWritten one two (r0_block (length ps)) (length ps + 1)) where
  a : List Bit
  a = R1 (string_of ps)

  b : List Bit
  b = R0 (string_of ps)

  -- a byte that holds no count
  two-one : (q : ℕ) → (512 * r0_block (length ps) ≤ q → q < 512 * r1_samples (length ps) → 4 ≤ q % 512) → get_or two q 0 ≡ get_or one q 0
  two-one q h = c0.apart q (λ x y. h x (omega arith))

  one_ran : (q : ℕ) → (512 ≤ q → q < 512 * r0_block (length ps) → 4 ≤ q % 512) → get_or one q 0 ≡ get_or ran q 0
  one_ran q h = c1.apart q (λ x y. h (omega arith) (omega arith))

  -- a byte after the samples
  two-cleared : (q : ℕ) → 512 * tree_blocks ps ≤ q → get_or two q 0 ≡ get_or (replicate (512 * blocks_for g ps) 0 ++ drop (512 * blocks_for g ps) old) q 0
  two-cleared q h = two-one q (λ v w. absurd (omega arith)) ∙ one_ran q (λ v w. absurd (omega arith)) ∙ r.tail q h ∙ ap (λ s. get_or s q 0) c

  blank_metres : Blank two (tree_blocks ps) (word_blocks (length (list_of g)))
  blank_metres q h l = two-cleared q h ∙ cleared-zero old (512 * blocks_for g ps) q (omega arith)

  n_is : length a ≡ length ps
  unfolding a
  n_is = (sizes ps are).long1

  n0_is : length b ≡ length ps + 1
  unfolding b
  n0_is = (sizes ps are).long0

  m_is : ones b ≡ ones a
  unfolding a b
  m_is = (sizes ps are).same

  sa : word_blocks (length (samples a)) ≡ blocks_of_samples (runs_in ps)
  unfolding a
  sa = samples-blocks a

  sb : word_blocks (length (samples b)) ≡ blocks_of_samples (runs_in ps)
  unfolding a b
  sb = samples-blocks b ∙ ap (λ m. blocks_of_samples m) m_is

  one-second : Part one (r0_block (length ps)) (string_blocks (length ps + 1)) (r1_samples (length ps) + blocks_of_samples (runs_in ps)) (blocks_of_samples (runs_in ps)) b
  unfolding b
  one-second =
      part_agree ran (r0_block (length ps)) (string_blocks (length ps + 1)) (r1_samples (length ps) + blocks_of_samples (runs_in ps)) (blocks_of_samples (runs_in ps)) b r.second one
      (λ q x y z. one_ran q (λ v w. z)) (λ q x y. one_ran q (λ v w. absurd (omega arith)))

  string1 : string_in ran 1 0 (length ps) ≡ a
  unfolding a
  string1 =
      let S = blocks_of_samples (runs_in ps) in
      let at = r1_samples (length ps) in
      ap (string_in ran 1 0) (sym n_is)
      ∙ part_string ran 1 at S a (part_cast ran 1 (string_blocks (length ps)) at S 1 (string_blocks (length a)) at S a refl (omega (arith, n_is)) refl refl r.first)

  string0 : string_in one (r0_block (length ps)) 0 (length ps + 1) ≡ b
  string0 =
      let S = blocks_of_samples (runs_in ps) in
      let at = r1_samples (length ps) + S in
      let z = r0_block (length ps) in
      ap (string_in one z 0) (sym n0_is)
      ∙ part_string one z at S b (part_cast one z (string_blocks (length ps + 1)) at S z (string_blocks (length b)) at S b refl (omega (arith, n0_is)) refl refl one-second)

  module _ (three : List ℕ) (room : 512 * blocks_for g ps ≤ length three) (m : MetresWritten two three (tree_blocks ps) (list_of g)) where
    new : List ℕ
    new = headed three (version_of g) (length ps) (runs_in ps) (blocks_for g ps)

    new_three : (q : ℕ) → 512 ≤ q → get_or new q 0 ≡ get_or three q 0
    unfolding new
    new_three q h = headed_byte three (version_of g) (length ps) (runs_in ps) (blocks_for g ps) (omega arith) q (omega arith)

    -- a byte that holds no metres
    new_two : (q : ℕ) → 512 ≤ q → Outside (tree_blocks ps) (word_blocks (length (list_of g))) q → get_or new q 0 ≡ get_or two q 0
    new_two q h away = new_three q h ∙ m.apart q away

    new-second : Part new (start_r0 a b) (string_blocks (length b)) (start_s0 a b) (word_blocks (length (samples b))) b
    new-second =
        let B0 = string_blocks (length ps + 1) in
        let S = blocks_of_samples (runs_in ps) in
        part_cast new (r0_block (length ps)) B0 (r1_samples (length ps) + S) S (start_r0 a b) (string_blocks (length b)) (start_s0 a b) (word_blocks (length (samples b))) b
        (omega (arith, n_is)) (omega (arith, n0_is)) (omega (arith, n_is, n0_is, sa)) (sym sb)
        (part_agree one (r0_block (length ps)) B0 (r1_samples (length ps) + S) S b one-second new
        (λ q x y z. new_two q (omega arith) (λ v w. omega arith) ∙ two-one q (λ v w. z))
        (λ q x y. new_two q (omega arith) (λ v w. omega arith) ∙ two-one q (λ v w. absurd (omega arith))))

    new-first : Part new 1 (string_blocks (length a)) (start_s1 a b) (word_blocks (length (samples a))) a
    unfolding a
    new-first =
        let B1 = string_blocks (length ps) in
        let S = blocks_of_samples (runs_in ps) in
        part_cast new 1 B1 (r1_samples (length ps)) S 1 (string_blocks (length a)) (start_s1 a b) (word_blocks (length (samples a))) a
        refl (omega (arith, n_is)) (omega (arith, n_is, n0_is)) (sym sa)
        (part_agree ran 1 B1 (r1_samples (length ps)) S a r.first new
        (λ q x y z. new_two q (omega arith) (λ v w. omega arith) ∙ two-one q (λ v w. z) ∙ one_ran q (λ v w. z))
        (λ q x y. new_two q (omega arith) (λ v w. omega arith) ∙ two-one q (λ v w. absurd (omega arith)) ∙ one_ran q (λ v w. absurd (omega arith))))

    counts-one : Counts new 1 a
    counts-one j h =
        word-agree new one (512 * (1 + j)) (λ q x y. new_two q (omega arith) (λ v w. omega (arith, n_is)) ∙ two-one q (λ v w. absurd (omega (arith, n_is))))
        ∙ c1.counts j (omega (arith, n_is)) ∙ ap (λ s. ones (take (4000 * j) s)) string1

    counts_zero : Counts new (start_r0 a b) b
    counts_zero j h =
        ap (word_at new) (let e : 512 * (start_r0 a b + j) ≡ 512 * (r0_block (length ps) + j) = omega (arith, n_is) in e)
        ∙ word-agree new two (512 * (r0_block (length ps) + j)) (λ q x y. new_two q (omega arith) (λ v w. omega (arith, n0_is)))
        ∙ c0.counts j (omega (arith, n0_is)) ∙ ap (λ s. ones (take (4000 * j) s)) string0

    new-head : (w : ℕ) → w < 126 → word_at new (4 * w) ≡ get_or (version_of g ∷ length a ∷ ones a ∷ total g a b ∷ []) w 0
    unfolding new a b
    new-head w h =
        let f = few-runs ps are in
        headed-word three (version_of g) (length ps) (runs_in ps) (blocks_for g ps) (omega arith)
        (omega (arith, (version_small g).1)) (omega arith) (omega arith) (omega (arith, held_most (version_of g) (length ps)))
        (λ q x. m.apart q (λ v w. omega arith) ∙ two-one q (λ v w. absurd (omega arith)) ∙ one_ran q (λ v w. absurd (omega arith)) ∙ r.head q x) w h
        ∙ ap₂ (λ n t. get_or (version_of g ∷ n ∷ runs_in ps ∷ t ∷ []) w 0) (sym n_is) (blocks-total g ps each are)

    new-metres : (w : ℕ) → w < 126 * word_blocks (length (list_of g)) → word_at new (sample_place (start_metres a b) w) ≡ get_or (list_of g) w 0
    unfolding a b
    new-metres w h =
        ap (λ k. word_at new (sample_place k w)) (sym (tree-total ps are))
        ∙ word-agree new three (sample_place (tree_blocks ps) w) (λ q x y. new_three q (omega arith)) ∙ m.words w h

    made : Filled new g a b
    made = record { head = new-head; parts = record { first = new-first; second = new-second }; counts1 = counts-one; counts0 = counts_zero; metres = new-metres }

    prepared : (last : List ℕ) → last ≡ headed three (version_of g) (length ps) (runs_in ps) (blocks_for g ps) → Prepared old last g ps
    unfolding new a b
    prepared last e = subst (λ s. Prepared old s g ps) (sym e) (record {
      filled = made;
      tail = λ q h. new_two q (omega arith) (λ v w. omega (arith, each)) ∙ two-cleared q (omega arith) ∙ cleared-rest old (512 * blocks_for g ps) q h;
    })

-- ---- as the code has it: with a layout, and a list of metres that may be empty

module _ (old cleared ps ms : List ℕ) (layout : Layout) (some : 1 ≤ length ps) (most : length ps ≤ 65535) (good : bad_entry ps ≡ 0)
    (each : length ms ≡ metres_held (version_of (given ms)) (length ps)) (laid : layout ≡ layout_of (version_of (given ms)) (length ps) (runs_in ps))
    (c : cleared ≡ replicate (512 * layout.blocks) 0 ++ drop (512 * layout.blocks) old) where
  cleared_is : cleared ≡ replicate (512 * blocks_for (given ms) ps) 0 ++ drop (512 * blocks_for (given ms) ps) old
  cleared_is = c ∙ ap (λ (l : Layout). replicate (512 * l.blocks) 0 ++ drop (512 * l.blocks) old) laid

  r0_is : layout.r0_block ≡ r0_block (length ps)
  r0_is = ap (λ (l : Layout). l.r0_block) laid

  module _ (ran one two : List ℕ) (block : ℕ) (is : block ≡ layout.blocks - word_blocks (length ms)) (r : StringsWritten cleared ran ps) (c1 : CountsWritten ran one 1 (length ps))
      (c0 : CountsWritten one two layout.r0_block (length ps + 1)) where
    are : IsParents ps
    are = good_parents ps some good

    each-given : length (list_of (given ms)) ≡ metres_held (version_of (given ms)) (length ps)
    each-given = ap length (given_list ms) ∙ each

    zeros-counted : CountsWritten one two (r0_block (length ps)) (length ps + 1)
    zeros-counted = subst (λ k. CountsWritten one two k (length ps + 1)) r0_is c0

    block_is : block ≡ tree_blocks ps
    block_is = omega (arith, blocks_split ps ms layout each laid)

    pub room_for_metres : Blank two block (word_blocks (length ms))
    room_for_metres =
        subst₂ (λ k n. Blank two k (word_blocks n)) (sym block_is) (ap length (given_list ms))
        (blank_metres old cleared ran one two (given ms) ps are most each-given cleared_is r c1 zeros-counted)

    pub all_prepared : (three last : List ℕ) → 512 * blocks_for (given ms) ps ≤ length three → MetresWritten two three block ms
        → last ≡ headed three (version_at layout.metres) layout.nodes layout.runs layout.blocks → Prepared old last (given ms) ps
    all_prepared three last room m e =
        prepared old cleared ran one two (given ms) ps are most each-given cleared_is r c1 zeros-counted three room
        (subst₂ (λ k ws. MetresWritten two three k ws) block_is (sym (given_list ms)) m) last
        (e ∙ ap (λ (l : Layout). headed three (version_at l.metres) l.nodes l.runs l.blocks) laid
        ∙ ap (λ v. headed three v (length ps) (runs_in ps) (blocks_for (given ms) ps)) (layout_version (given ms) (tree_blocks ps)))
