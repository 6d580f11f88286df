-- What the loop over a payload's words keeps: the sums of the words that are left, from the s and t
-- reached, are those of all.
use Rattle.std.specs.Prelude.{◌≡◌, ℕ, ◌+◌, ◌*◌, ◌%◌, ◌^◌, ◌<◌, ◌≤◌, List, [], ◌∷◌, length, get_or, take, drop}
use Rattle.std.proofs.Common.{sym, ap, ◌∙◌, ap₂, add-one, arith, length-drop, drop_of_length-le, length-take-le, drop-cons}
use Rattle.meaning.specs.Blocks.{words, sums}
use Rattle.theory.specs.Layout.{word_at}
use Rattle.theory.proofs.Digits.{words-at, length-words, word_at-take, word_at-drop}

-- the words of the 504 bytes from byte `at` on
abbrev pub words_from : List ℕ → ℕ → List ℕ
words_from b at = words (take 504 (drop at b))

module _ (b : List ℕ) (at : ℕ) (room : at + 504 ≤ length b) where
  payload-size : length (take 504 (drop at b)) ≡ 504
  payload-size = length-take-le 504 (drop at b) (omega (arith, length-drop at b))

  words_count : length (words_from b at) ≡ 126
  words_count = length-words 126 (take 504 (drop at b)) payload-size

  word_is : (i : ℕ) → i < 126 → word_at b (at + 4 * i) ≡ get_or (words_from b at) i 0
  word_is i h =
      sym (word_at-drop at b (4 * i)) ∙ sym (word_at-take 504 (drop at b) (4 * i) (omega arith))
      ∙ words-at i (take 504 (drop at b)) (omega (arith, payload-size))

  pub words-here : (i w : ℕ) → i < 126 → w ≡ word_at b (at + 4 * i) → drop i (words_from b at) ≡ w ∷ drop (i + 1) (words_from b at)
  words-here i w h word =
      let ws = words_from b at in
      drop-cons ws i 0 (omega (arith, words_count)) ∙ ap₂ (λ x k. x ∷ drop k ws) (sym (word_is i h) ∙ sym word) (sym (add-one i))

  pub sums_next : (i w s t s' t' : ℕ) (all : List ℕ) → i < 126 → sums (drop i (words_from b at)) s t ≡ all
      → w ≡ word_at b (at + 4 * i) → s' ≡ (s + w) % 2 ^ 32 → t' ≡ (t + s') % 2 ^ 32 → sums (drop (i + 1) (words_from b at)) s' t' ≡ all
  unfolding sums
  sums_next i w s t s' t' all h before word new after =
      let ws = words_from b at in
      ap₂ (sums (drop (i + 1) ws)) new (after ∙ ap (λ x. (t + x) % 2 ^ 32) new) ∙ sym (ap (λ xs. sums xs s t) (words-here i w h word)) ∙ before

  pub sums-last : (i s t : ℕ) (all : List ℕ) → 126 ≤ i → sums (drop i (words_from b at)) s t ≡ all → s ∷ t ∷ [] ≡ all
  unfolding sums
  sums-last i s t all h before =
      sym (ap (λ xs. sums xs s t) (drop_of_length-le (words_from b at) {i = i} (omega (arith, words_count)))) ∙ before
