-- The check of the sums: a block is right if its last two words are its sums, and the loop over the
-- blocks finds the lowest that is not.
use mathlib.Core.Path.{◌≡◌, refl, sym, ap, ap₂, ◌∙◌}
use mathlib.Core.Bool.{Bool, true, false, cond}
use mathlib.Core.List.{List, [], ◌∷◌, ◌++◌}
use Prim.Native.Nat.{ℕ, zero, suc, ◌+◌, ◌-◌, ◌*◌, ◌^◌, ◌≤◌, ◌<◌}
use native.Mathlib.Numerals.{add-one}
use native.Mathlib.Omega.{arith}
use borrow.Author.Tests.{eqb-true, eq-eqb, le-ltb, lt-ltb}
use lib.Dec.{eqb}
use lib.ListN.{length, get_or, take, drop, length-drop, take-append-drop}
use lib.Seq.{length-take-le, take-take, drop-drop}
use Rattle.meaning.specs.Blocks.{word_bytes, words, sums, sum_start, block, same, cut, blocks_in, wrong_from, wrong_block}
use Rattle.theory.specs.Layout.{AreBytes, word_at}
use Rattle.theory.proofs.Digits.{take_bytes, drop_bytes, words_bytes, word_at-append, word_at-take, word_at-drop, word_bytes-at, same-words}
use Rattle.theory.proofs.Sealing.{same-eq, same_refl}
use Rattle.seal_sums.specs.Sealed.{payload, right_at}
use Rattle.std.specs.Prelude.{Option, Some, None}
use Rattle.std.specs.Option.{MatchOption}
use Rattle.check_sums.specs.Wrong.{wrong_if_any}

-- ---- tests

both_ways : (a b : Bool) → (a ≡ true → b ≡ true) → (b ≡ true → a ≡ true) → a ≡ b
both_ways true b f g = sym (f refl)
both_ways false true f g = g refl
both_ways false false f g = refl

never : (b : Bool) → (b ≡ true → ⊥) → false ≡ b
never true h = absurd (h refl)
never false h = refl

-- ---- one block

module _ (bytes : List ℕ) (i s t : ℕ) (room : 512 * i + 512 ≤ length bytes) (small : s < 2 ^ 32) (little : t < 2 ^ 32)
    (right : s ∷ t ∷ [] ≡ sums (words (payload bytes i)) i 0) where
  abbrev here : List ℕ
  here = take 512 (drop (512 * i) bytes)

  here-size : length here ≡ 512
  here-size = length-take-le 512 (drop (512 * i) bytes) (omega (arith, length-drop (512 * i) bytes))

  here-payload : take 504 here ≡ payload bytes i
  here-payload = take-take 504 512 (drop (512 * i) bytes) (omega arith)

  block_is : block i (take 504 here) ≡ take 504 here ++ word_bytes (s ∷ t ∷ [])
  unfolding block
  block_is = ap (λ ss. take 504 here ++ word_bytes ss) (ap (λ p. sums (words p) i 0) here-payload ∙ sym right)

  -- word k after the payload
  word-here : (k : ℕ) → k < 2 → word_at bytes (512 * i + (504 + 4 * k)) ≡ word_at here (504 + 4 * k)
  word-here k h = sym (word_at-drop (512 * i) bytes (504 + 4 * k)) ∙ sym (word_at-take 512 (drop (512 * i) bytes) (504 + 4 * k) (omega arith))

  sum-there : (k : ℕ) → k < 2 → get_or (s ∷ t ∷ []) k 0 < 2 ^ 32
  sum-there zero h = small
  sum-there (suc zero) h = little
  sum-there (suc (suc k)) h = absurd (omega arith)

  -- a right block's last words are its sums
  right_word : right_at bytes i ≡ true → (k : ℕ) → k < 2 → word_at bytes (512 * i + (504 + 4 * k)) ≡ get_or (s ∷ t ∷ []) k 0
  unfolding right_at
  right_word e k h =
      let p = take 504 here in
      let size : length p ≡ 504 = length-take-le 504 here (omega (arith, here-size)) in
      word-here k h
      ∙ ap (λ x. word_at x (504 + 4 * k)) (sym (same-eq (block i p) here e) ∙ block_is)
      ∙ ap (λ n. word_at (p ++ word_bytes (s ∷ t ∷ [])) (n + 4 * k)) (sym size)
      ∙ word_at-append p (word_bytes (s ∷ t ∷ [])) (4 * k)
      ∙ word_bytes-at (s ∷ t ∷ []) k (sum-there k h)

  -- and a block whose last words are its sums is right
  words_right : AreBytes bytes → ((k : ℕ) → k < 2 → word_at bytes (512 * i + (504 + 4 * k)) ≡ get_or (s ∷ t ∷ []) k 0) → right_at bytes i ≡ true
  unfolding right_at word_bytes
  words_right are e =
      let last : word_bytes (s ∷ t ∷ []) ≡ drop 504 here =
      same-words 2 (word_bytes (s ∷ t ∷ [])) (drop 504 here) (words_bytes (s ∷ t ∷ []))
      (drop_bytes 504 here (take_bytes 512 (drop (512 * i) bytes) (drop_bytes (512 * i) bytes are)))
      refl (omega (arith, length-drop 504 here, here-size))
      (λ k h. word_bytes-at (s ∷ t ∷ []) k (sum-there k h) ∙ sym (e k h) ∙ word-here k h ∙ sym (word_at-drop 504 here (4 * k))) in
      let whole : block i (take 504 here) ≡ here = block_is ∙ ap (λ r. take 504 here ++ r) last ∙ take-append-drop 504 here in
      ap (λ x. same x here) whole ∙ same_refl here

  pub wrong_first : (word_at bytes (512 * i + 504) ≡ s → ⊥) → false ≡ right_at bytes i
  wrong_first h = never (right_at bytes i) (λ e. h (right_word e 0 (omega arith)))

  pub right_second : AreBytes bytes → word_at bytes (512 * i + 504) ≡ s → eqb (word_at bytes (512 * i + 508)) t ≡ right_at bytes i
  right_second are first = both_ways (eqb (word_at bytes (512 * i + 508)) t) (right_at bytes i)
      (λ e. words_right are (λ k h. told (eqb-true (word_at bytes (512 * i + 508)) t e) k h))
      (λ e. eq-eqb (word_at bytes (512 * i + 508)) t (right_word e 1 (omega arith)))
    where
      told : word_at bytes (512 * i + 508) ≡ t → (k : ℕ) → k < 2 → word_at bytes (512 * i + (504 + 4 * k)) ≡ get_or (s ∷ t ∷ []) k 0
      told second zero h = first
      told second (suc zero) h = second
      told second (suc (suc k)) h = absurd (omega arith)

-- ---- the blocks in order

-- the lowest wrong block from block i on
wrong_after : List ℕ → ℕ → ℕ → ℕ
wrong_after bytes blocks i = wrong_from sum_start (cut (blocks - i) 512 (drop (512 * i) bytes)) i

module _ (bytes : List ℕ) (blocks : ℕ) where
  wrong_all : length bytes ≡ 512 * blocks → wrong_after bytes blocks 0 ≡ wrong_block bytes
  unfolding wrong_after wrong_block
  wrong_all h = ap (λ k. wrong_from sum_start (cut k 512 bytes) 0) (let e : blocks - 0 ≡ blocks_in bytes = omega arith in e)

  wrong_step : (i : ℕ) → i < blocks → wrong_after bytes blocks i ≡ cond (right_at bytes i) (wrong_after bytes blocks (i + 1)) i
  unfolding wrong_after right_at wrong_from cut
  wrong_step i h =
      let x = drop (512 * i) bytes in
      let k = blocks - (i + 1) in
      ap (λ n. wrong_from sum_start (cut n 512 x) i) (let e : blocks - i ≡ suc k = omega arith in e)
      ∙ ap₂ (λ y n. cond (same (block i (take 504 (take 512 x))) (take 512 x)) (wrong_from sum_start (cut k 512 y) n) i)
      (drop-drop 512 (512 * i) bytes ∙ ap (λ n. drop n bytes) (let e : 512 * i + 512 ≡ 512 * (i + 1) = omega arith in e)) (sym (add-one i))

  wrong_here : (i : ℕ) → i < blocks → right_at bytes i ≡ false → wrong_after bytes blocks i ≡ i
  wrong_here i h e = wrong_step i h ∙ ap (λ c. cond c (wrong_after bytes blocks (i + 1)) i) e

  wrong_later : (i : ℕ) → i < blocks → right_at bytes i ≡ true → wrong_after bytes blocks (i + 1) ≡ wrong_after bytes blocks i
  wrong_later i h e = sym (wrong_step i h ∙ ap (λ c. cond c (wrong_after bytes blocks (i + 1)) i) e)

  wrong_none : wrong_after bytes blocks blocks ≡ blocks
  unfolding wrong_after wrong_from cut
  wrong_none = ap (λ n. wrong_from sum_start (cut n 512 (drop (512 * blocks) bytes)) blocks) (let e : blocks - blocks ≡ 0 = omega arith in e)

  module _ (size : length bytes ≡ 512 * blocks) where
    -- after i right blocks
    wrong_past : (i : ℕ) → i ≤ blocks → ((k : ℕ) → k < i → right_at bytes k ≡ true) → wrong_block bytes ≡ wrong_after bytes blocks i
    wrong_past zero h all = sym (wrong_all size)
    wrong_past (suc i) h all =
        wrong_past i (omega arith) (λ k l. all k (omega arith))
        ∙ sym (wrong_later i (omega arith) (all i (omega arith)))
        ∙ ap (wrong_after bytes blocks) (add-one i)

    -- what a search for the lowest wrong block finds
    pub found : (r : Option ℕ)
        → MatchOption r ((k : ℕ) → 0 ≤ k → k < blocks → right_at bytes k ≡ true)
        (λ i. (0 ≤ i) × (i < blocks) × (right_at bytes i ≡ false) × ((k : ℕ) → 0 ≤ k → k < i → right_at bytes k ≡ true)) → r ≡ wrong_if_any bytes
    found None all =
        let e = wrong_past blocks (omega arith) (λ k l. all k (omega arith) l) ∙ wrong_none in
        sym (ap (λ t. cond t (Some (wrong_block bytes)) None) (le-ltb (wrong_block bytes) (blocks_in bytes) (omega arith)))
    found (Some i) here =
        let e = wrong_past i (omega (arith, here.1)) (λ k l. here.3 k (omega arith) l) ∙ wrong_here i here.1 here.2 in
        ap Some (sym e) ∙ sym (ap (λ t. cond t (Some (wrong_block bytes)) None) (lt-ltb (wrong_block bytes) (blocks_in bytes) (omega (arith, here.1))))
