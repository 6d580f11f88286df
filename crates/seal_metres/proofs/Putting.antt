-- The metres put one by one: what the loops keep.
use mathlib.Core.Path.{◌≡◌, refl, sym, ap, ◌∙◌, subst₂}
use mathlib.Core.List.{List, ◌++◌}
use Prim.Native.Nat.{ℕ, ◌+◌, ◌-◌, ◌*◌, ◌^◌, ◌≤◌, ◌<◌, min}
use native.Mathlib.Decide.{dec_lt, ℕ_discrete}
use native.Mathlib.Omega.{arith}
use lib.ListN.{length, get_or, take, drop, length-take, length-drop, get_or-append, get_or-eq_default, drop_of_length-le}
use lib.Seq.{get_or-take, get_or-drop, take_all, drop_at, drop-drop}
use Rattle.theory.specs.Layout.{word_at, sample_place}
use Rattle.theory.specs.Stages.{word_blocks}
use Rattle.image_words.specs.Words.{with_word}
use Rattle.seal_r1.specs.Passes.{Blank, Outside}
use Rattle.seal_r1.proofs.Placing.{word-agree, word-zero, put_length, put_word, put_byte}

-- the first i of them are put, and after them there are zeros
pub record Putting (old out : List ℕ) (block : ℕ) (ms : List ℕ) (i : ℕ) : Type 0 where
  pub words : (v : ℕ) → v < 126 * word_blocks (length ms) → word_at out (sample_place block v) ≡ get_or (take i ms) v 0
  pub apart : (q : ℕ) → Outside block (word_blocks (length ms)) q → get_or out q 0 ≡ get_or old q 0
  pub kept : length out ≡ length old

pub putting_first : (old : List ℕ) (block : ℕ) (ms : List ℕ) → Blank old block (word_blocks (length ms)) → Putting old old block ms 0
putting_first old block ms blank = record {
  words = λ v l. word-zero old (sample_place block v) (λ q a b. blank q (omega arith) (omega arith));
  apart = λ q a. refl;
  kept = refl;
}

-- one number more makes no difference to those before it, nor to those after it
take_same : (ms : List ℕ) (i v : ℕ) → (v ≡ i → ⊥) → get_or (take i ms) v 0 ≡ get_or (take (i + 1) ms) v 0
take_same ms i v d = elim (dec_lt v i) [
  | yes l ↦ get_or-take i ms v 0 l ∙ sym (get_or-take (i + 1) ms v 0 (omega arith))
  | no l ↦ elim (dec_lt v (i + 1)) [
    | yes g ↦ absurd (d (omega arith))
    | no g ↦ get_or-eq_default (take i ms) 0 (omega (arith, length-take i ms)) ∙ sym (get_or-eq_default (take (i + 1) ms) 0 (omega (arith, length-take (i + 1) ms)))
  ]
]

-- where a block begins, from it on
pub putting_here : (old out : List ℕ) (block : ℕ) (ms : List ℕ) (i k : ℕ) → Putting old out block ms i → i ≡ k → Putting out out block ms k
putting_here old out block ms i k n e = record { words = λ v h. n.words v h ∙ ap (λ m. get_or (take m ms) v 0) e; apart = λ q a. refl; kept = refl }

-- where it ends, from the start on: behind the last number there is nothing to put
pub putting_block : (old mid out : List ℕ) (block : ℕ) (ms : List ℕ) (a i k : ℕ) → Putting old mid block ms a → Putting mid out block ms i → min i (length ms) ≡ min k (length ms)
    → Putting old out block ms k
putting_block old mid out block ms a i k before n e = record {
  words = λ v h. n.words v h ∙ ap (λ ws. get_or ws v 0) all;
  apart = λ q h. n.apart q h ∙ before.apart q h;
  kept = n.kept ∙ before.kept;
}
  where
    all : take i ms ≡ take k ms
    all = elim (dec_lt i (length ms)) [
      | yes l ↦ ap (λ m. take m ms) (let f : i ≡ k = omega arith in f)
      | no l ↦ take_all i ms (omega arith) ∙ sym (take_all k ms (omega arith))
    ]

-- the numbers of block j, cut off what is left of the list
module _ (ms left words rest : List ℕ) (size j : ℕ) (full : size ≡ 126) (whole : left ≡ drop (126 * j) ms)
    (cut : left ≡ words ++ rest) (long : length words ≡ min size (length left)) where
  many : length words ≡ min 126 (length ms - 126 * j)
  many = omega (arith, full, long, ap length whole, length-drop (126 * j) ms)

  pub number_inside : (w : ℕ) → w < length words → (w < 126) × (126 * j + w < length ms)
  number_inside w l = (omega (arith, many), omega (arith, many))

  pub number_at : (w : ℕ) → w < length words → get_or words w 0 ≡ get_or ms (126 * j + w) 0
  number_at w l = sym (get_or-append words rest 0 w l) ∙ ap (λ s. get_or s w 0) (sym cut ∙ whole) ∙ get_or-drop (126 * j) ms w 0

  pub cut_end : (w : ℕ) → length words ≤ w → w ≤ length words → min (126 * j + w) (length ms) ≡ min (126 * (j + 1)) (length ms)
  cut_end w a b = omega (arith, many)

  pub rest_is : rest ≡ drop (126 * (j + 1)) ms
  rest_is =
      sym (drop_at words rest (length words) refl) ∙ ap (drop (length words)) (sym cut ∙ whole) ∙ drop-drop (length words) (126 * j) ms
      ∙ elim (ℕ_discrete (length words) 126) [
        | yes f ↦ ap (λ n. drop n ms) (let g : 126 * j + length words ≡ 126 * (j + 1) = omega arith in g)
        | no f ↦ drop_of_length-le ms (omega (arith, many)) ∙ sym (drop_of_length-le ms (omega (arith, many)))
      ]

-- word w of block j of them
module _ (old out : List ℕ) (block : ℕ) (ms : List ℕ) (j w : ℕ) (n : Putting old out block ms (126 * j + w)) (low : w < 126) (l : 126 * j + w < length ms)
    (small : get_or ms (126 * j + w) 0 < 2 ^ 32) (room : 512 * (block + word_blocks (length ms)) ≤ length old) where
  i : ℕ
  i = 126 * j + w

  p : ℕ
  p = 512 * (block + j) + 4 * w

  place : sample_place block (126 * j + w) ≡ p
  unfolding p
  place = omega arith

  fits : p + 4 ≤ length out
  unfolding p
  fits = omega (arith, n.kept)

  next : List ℕ
  next = with_word out p (get_or ms (126 * j + w) 0)

  away : (q : ℕ) → (p ≤ q → q < p + 4 → ⊥) → get_or next q 0 ≡ get_or out q 0
  unfolding next
  away q h = put_byte out p (get_or ms (126 * j + w) 0) fits q h

  next_word : (v : ℕ) → v < 126 * word_blocks (length ms) → word_at next (sample_place block v) ≡ get_or (take (i + 1) ms) v 0
  unfolding i p next
  next_word v h = elim (ℕ_discrete v i) [
    | yes f ↦ ap (word_at next) (ap (sample_place block) f ∙ place) ∙ put_word out p (get_or ms i 0) fits small
        ∙ ap (λ k. get_or ms k 0) (sym f) ∙ sym (get_or-take (i + 1) ms v 0 (omega arith))
    | no f ↦ word-agree next out (sample_place block v) (λ q a b. away q (λ c d. f (omega arith))) ∙ n.words v h ∙ take_same ms i v f
  ]

  pub putting_next : (new : List ℕ) → new ≡ with_word out (512 * (block + j) + 4 * w) (get_or ms (126 * j + w) 0) → Putting old new block ms (126 * j + (w + 1))
  unfolding i p next
  putting_next new g = subst₂ (λ s k. Putting old s block ms k) (sym g) (let e : i + 1 ≡ 126 * j + (w + 1) = omega arith in e) (record {
    words = next_word;
    apart = λ q h. away q (λ a b. h (omega arith) (omega arith)) ∙ n.apart q h;
    kept = put_length out p (get_or ms i 0) fits ∙ n.kept;
  })
