-- The header put: its four words, and that it changes nothing else.
use mathlib.Core.Path.{◌≡◌, refl, ap, ◌∙◌}
use mathlib.Core.Logic.{inl}
use mathlib.Core.List.{List, [], ◌∷◌}
use Prim.Native.Nat.{ℕ, zero, suc, ◌*◌, ◌^◌, ◌≤◌, ◌<◌}
use native.Mathlib.Omega.{arith}
use lib.ListN.{length, get_or}
use Rattle.theory.specs.Layout.{word_at}
use Rattle.image_words.specs.Words.{with_word}
use Rattle.seal_r1.proofs.Placing.{word-agree, word-zero, put_length, put_word, put_byte, word_away}
use Rattle.seal_frame.specs.Passes.{headed}

module _ (bytes : List ℕ) (v n m t : ℕ) (room : 16 ≤ length bytes) where
  h1 : List ℕ
  h1 = with_word bytes 0 v

  h2 : List ℕ
  h2 = with_word h1 4 n

  h3 : List ℕ
  h3 = with_word h2 8 m

  l1 : length h1 ≡ length bytes
  unfolding h1
  l1 = put_length bytes 0 v (omega arith)

  l2 : length h2 ≡ length bytes
  unfolding h2
  l2 = put_length h1 4 n (omega (arith, l1)) ∙ l1

  l3 : length h3 ≡ length bytes
  unfolding h3
  l3 = put_length h2 8 m (omega (arith, l2)) ∙ l2

  is : headed bytes v n m t ≡ with_word h3 12 t
  unfolding headed h1 h2 h3
  is = refl

  pub headed-length : length (headed bytes v n m t) ≡ length bytes
  headed-length = ap length is ∙ put_length h3 12 t (omega (arith, l3)) ∙ l3

  pub headed_byte : (q : ℕ) → 16 ≤ q → get_or (headed bytes v n m t) q 0 ≡ get_or bytes q 0
  unfolding h1 h2 h3
  headed_byte q h =
      ap (λ s. get_or s q 0) is
      ∙ put_byte h3 12 t (omega (arith, l3)) q (λ a b. omega arith) ∙ put_byte h2 8 m (omega (arith, l2)) q (λ a b. omega arith)
      ∙ put_byte h1 4 n (omega (arith, l1)) q (λ a b. omega arith) ∙ put_byte bytes 0 v (omega arith) q (λ a b. omega arith)

  pub headed-word : v < 2 ^ 32 → n < 2 ^ 32 → m < 2 ^ 32 → t < 2 ^ 32 → ((q : ℕ) → q < 512 → get_or bytes q 0 ≡ 0) → (w : ℕ) → w < 126
      → word_at (headed bytes v n m t) (4 * w) ≡ get_or (v ∷ n ∷ m ∷ t ∷ []) w 0
  unfolding h1 h2 h3
  headed-word sv sn sm st z zero h =
      ap (λ s. word_at s 0) is ∙ word_away h3 12 t 0 (omega (arith, l3)) (inl (omega arith)) ∙ word_away h2 8 m 0 (omega (arith, l2)) (inl (omega arith))
      ∙ word_away h1 4 n 0 (omega (arith, l1)) (inl (omega arith)) ∙ put_word bytes 0 v (omega arith) sv
  headed-word sv sn sm st z (suc zero) h =
      ap (λ s. word_at s 4) is ∙ word_away h3 12 t 4 (omega (arith, l3)) (inl (omega arith)) ∙ word_away h2 8 m 4 (omega (arith, l2)) (inl (omega arith))
      ∙ put_word h1 4 n (omega (arith, l1)) sn
  headed-word sv sn sm st z (suc (suc zero)) h =
      ap (λ s. word_at s 8) is ∙ word_away h3 12 t 8 (omega (arith, l3)) (inl (omega arith)) ∙ put_word h2 8 m (omega (arith, l2)) sm
  headed-word sv sn sm st z (suc (suc (suc zero))) h = ap (λ s. word_at s 12) is ∙ put_word h3 12 t (omega (arith, l3)) st
  headed-word sv sn sm st z (suc (suc (suc (suc w)))) h =
      let u = suc (suc (suc (suc w))) in
      word-agree (headed bytes v n m t) bytes (4 * u) (λ q a b. headed_byte q (omega arith)) ∙ word-zero bytes (4 * u) (λ q a b. z q (omega arith))
