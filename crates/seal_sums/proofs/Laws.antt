-- Words and sums written into an image: what they change, what they leave, and that sealing block
-- after block gives sealed payloads.
use mathlib.Core.Path.{◌≡◌, refl, sym, ap, ap₂, ◌∙◌}
use mathlib.Core.Logic.{◌⊎◌, inl, inr}
use mathlib.Core.List.{List, [], ◌∷◌, ◌++◌, append_assoc, append-nil}
use Prim.Native.Nat.{ℕ, zero, suc, ◌+◌, ◌*◌, ◌≤◌, ◌<◌}
use native.Mathlib.Nat.{eq-or-lt_of_le}
use native.Mathlib.Omega.{arith}
use lib.ListN.{length, get_or, take, drop, replicate, length-append, length-drop, get_or-append}
use lib.Seq.{length-take-le, take_at, drop_at, take-add, drop-drop, take-append-add, drop-append-add, get_or_at}
use Rattle.meaning.specs.Blocks.{le32, word_bytes, words, sums, sum_start, padded, block, sealed}
use Rattle.theory.proofs.Sealing.{length-sealed}
use Rattle.image_words.specs.Words.{with_word}
use Rattle.seal_sums.specs.Sealed.{payload, payloads_in, with_sums}

-- ---- two words

with_word_is : (bytes : List ℕ) (p w : ℕ) → with_word bytes p w ≡ take p bytes ++ (le32 w ++ drop (p + 4) bytes)
unfolding with_word
with_word_is bytes p w = ap (λ n. take p bytes ++ (le32 w ++ drop n bytes)) (let e : suc (suc (suc (suc p))) ≡ p + 4 = omega arith in e)

-- two words one after the other
two-words : (bytes : List ℕ) (p s t : ℕ) → p + 8 ≤ length bytes
    → with_word (with_word bytes p s) (p + 4) t ≡ take p bytes ++ (le32 s ++ (le32 t ++ drop (p + 8) bytes))
two-words bytes p s t h =
    let front = take p bytes in
    let back = drop (p + 4) bytes in
    let size : length front ≡ p = length-take-le p bytes (omega arith) in
    let first : take (p + 4) (front ++ (le32 s ++ back)) ≡ front ++ le32 s =
    ap (λ n. take (n + 4) (front ++ (le32 s ++ back))) (sym size) ∙ take-append-add front (le32 s ++ back) 4 in
    let rest : drop (p + 4 + 4) (front ++ (le32 s ++ back)) ≡ drop (p + 8) bytes =
    ap (λ n. drop n (front ++ (le32 s ++ back))) (let e : p + 4 + 4 ≡ length front + 8 = omega arith in e) ∙ drop-append-add front (le32 s ++ back) 8
    ∙ drop-drop 4 (p + 4) bytes ∙ ap (λ n. drop n bytes) (let e : p + 4 + 4 ≡ p + 8 = omega arith in e) in
    ap (λ x. with_word x (p + 4) t) (with_word_is bytes p s) ∙ with_word_is (front ++ (le32 s ++ back)) (p + 4) t
    ∙ ap₂ (λ x y. x ++ (le32 t ++ y)) first rest ∙ append_assoc front (le32 s) (le32 t ++ drop (p + 8) bytes)

-- ---- the sums of one block

module _ (bytes : List ℕ) (i : ℕ) (room : 512 * i + 512 ≤ length bytes) where
  payload-size : length (payload bytes i) ≡ 504
  payload-size = length-take-le 504 (drop (512 * i) bytes) (omega (arith, length-drop (512 * i) bytes))

  -- the sums as two words after the payload
  pub sums-written : (s t : ℕ) → s ∷ t ∷ [] ≡ sums (words (payload bytes i)) i 0
      → with_word (with_word bytes (512 * i + 504) s) (512 * i + 508) t ≡ with_sums bytes i
  unfolding with_sums block word_bytes
  sums-written s t e =
      let front = take (512 * i) bytes in
      let p = payload bytes i in
      let back = drop (512 * suc i) bytes in
      ap (λ n. with_word (with_word bytes (512 * i + 504) s) n t) (let q : 512 * i + 508 ≡ 512 * i + 504 + 4 = omega arith in q)
      ∙ two-words bytes (512 * i + 504) s t (omega arith)
      ∙ ap₂ (λ x y. x ++ (le32 s ++ (le32 t ++ y))) (take-add (512 * i) 504 bytes)
      (ap (λ n. drop n bytes) (let q : 512 * i + 504 + 8 ≡ 512 * suc i = omega arith in q))
      ∙ append_assoc front p (le32 s ++ (le32 t ++ back))
      ∙ ap (λ y. front ++ y) (sym (append_assoc p (word_bytes (s ∷ t ∷ [])) back))
      ∙ ap (λ ss. front ++ ((p ++ word_bytes ss) ++ back)) e

-- ---- all payloads

pub length-payloads_in : (bytes : List ℕ) (k : ℕ) → length (payloads_in bytes k) ≡ k
unfolding payloads_in
length-payloads_in bytes zero = refl
length-payloads_in bytes (suc k) =
    length-append (payloads_in bytes k) (payload bytes k ∷ []) ∙ omega (arith, length-payloads_in bytes k)

pub payloads_in-at : (bytes : List ℕ) (k j : ℕ) → j < k → get_or (payloads_in bytes k) j [] ≡ payload bytes j
unfolding payloads_in
payloads_in-at bytes zero j h = absurd (omega arith)
payloads_in-at bytes (suc k) j h = by_place (payloads_in-at bytes k j) (eq-or-lt_of_le {n = j} {m = k} (omega arith))
  where
    by_place : (j < k → get_or (payloads_in bytes k) j [] ≡ payload bytes j) → (j ≡ k) ⊎ (j < k)
        → get_or (payloads_in bytes k ++ (payload bytes k ∷ [])) j [] ≡ payload bytes j
    by_place earlier (inl e) = get_or_at (payloads_in bytes k) (payload bytes k) [] [] j (length-payloads_in bytes k ∙ sym e) ∙ ap (payload bytes) (sym e)
    by_place earlier (inr l) =
        get_or-append (payloads_in bytes k) (payload bytes k ∷ []) [] j (omega (arith, length-payloads_in bytes k)) ∙ earlier l

-- ---- sealing block after block

-- a payload that fills its block needs no padding
padded_full : (p : List ℕ) → length p ≡ 504 → padded p ≡ p
unfolding padded
padded_full p h = take_at p (replicate 504 0) 504 h

sealed_snoc : (ps : List (List ℕ)) (p : List ℕ) (b : ℕ) → sealed sum_start (ps ++ (p ∷ [])) b ≡ sealed sum_start ps b ++ block (b + length ps) (padded p)
unfolding sealed
sealed_snoc [] p b = append-nil (block b (padded p)) ∙ ap (λ n. block n (padded p)) (let e : b ≡ b + 0 = omega arith in e)
sealed_snoc (q ∷ ps) p b =
    ap (λ xs. block b (padded q) ++ xs)
    (sealed_snoc ps p (suc b) ∙ ap (λ n. sealed sum_start ps (suc b) ++ block n (padded p)) (let e : suc b + length ps ≡ b + suc (length ps) = omega arith in e))
    ∙ sym (append_assoc (block b (padded q)) (sealed sum_start ps (suc b)) (block (b + suc (length ps)) (padded p)))

-- the image when the first k blocks are sealed
abbrev pub sealed_to : List ℕ → ℕ → List ℕ
sealed_to bytes k = sealed sum_start (payloads_in bytes k) 0 ++ drop (512 * k) bytes

pub sealed-none : (bytes : List ℕ) → bytes ≡ sealed_to bytes 0
unfolding sealed payloads_in
sealed-none bytes = refl

module _ (bytes : List ℕ) (k : ℕ) where
  sealed-size : length (sealed sum_start (payloads_in bytes k) 0) ≡ 512 * k
  sealed-size = length-sealed sum_start (payloads_in bytes k) 0 ∙ ap (λ n. 512 * n) (length-payloads_in bytes k)

  -- the sums of block k seal one block more
  pub sealed-next : 512 * k + 512 ≤ length bytes → with_sums (sealed_to bytes k) k ≡ sealed_to bytes (suc k)
  unfolding with_sums payloads_in
  sealed-next h =
      let done = sealed sum_start (payloads_in bytes k) 0 in
      let p = payload bytes k in
      let back = drop (512 * suc k) bytes in
      let after : drop (512 * k) (sealed_to bytes k) ≡ drop (512 * k) bytes = drop_at done (drop (512 * k) bytes) (512 * k) sealed-size in
      let rest : drop (512 * suc k) (sealed_to bytes k) ≡ back =
      ap (λ n. drop n (sealed_to bytes k)) (let e : 512 * suc k ≡ 512 * k + 512 = omega arith in e)
      ∙ sym (drop-drop 512 (512 * k) (sealed_to bytes k)) ∙ ap (drop 512) after ∙ drop-drop 512 (512 * k) bytes
      ∙ ap (λ n. drop n bytes) (let e : 512 * k + 512 ≡ 512 * suc k = omega arith in e) in
      let one : block (0 + length (payloads_in bytes k)) (padded p) ≡ block k p =
      ap₂ block (let e : 0 + length (payloads_in bytes k) ≡ k = omega (arith, length-payloads_in bytes k) in e) (padded_full p (payload-size bytes k h)) in
      ap₂ (λ x y. x ++ (block k (take 504 y) ++ drop (512 * suc k) (sealed_to bytes k))) (take_at done (drop (512 * k) bytes) (512 * k) sealed-size) after
      ∙ ap (λ y. done ++ (block k p ++ y)) rest
      ∙ sym (append_assoc done (block k p) back)
      ∙ ap (λ x. x ++ back) (sym (sealed_snoc (payloads_in bytes k) p 0 ∙ ap (λ x. done ++ x) one))
