-- Sealed payloads: where their bytes are, that their sums always check, and that bytes whose sums
-- check are sealed payloads.
use mathlib.Core.Path.{◌≡◌, refl, sym, ap, ap₂, ◌∙◌}
use mathlib.Core.Bool.{Bool, true, false, cond, ◌&&◌}
use mathlib.Core.List.{List, [], ◌∷◌, ◌++◌}
use Prim.Native.Nat.{ℕ, zero, suc, ◌+◌, ◌*◌, ◌%◌, ◌^◌, ◌<◌}
use native.Mathlib.Omega.{arith}
use borrow.Author.Tests.{eqb-true, eq-eqb}
use lib.Dec.{eqb}
use lib.ListN.{length, get_or, take, drop, replicate, length-append, length-drop, length-replicate, get_or-append, take-append-drop}
use lib.Seq.{get_or-append-add, get_or-take, drop-drop, take-take, take_at, drop_at, length-take-le}
use Rattle.meaning.specs.Blocks.{word_bytes, words, sums, sum_start, padded, block, sealed, same, cut, blocks_in, wrong_from, wrong_block}
use Rattle.theory.specs.Layout.{AreBytes, word_at}
use Rattle.theory.proofs.Digits.{length-word_bytes, words_bytes, append_bytes, take_bytes, drop_bytes, word_at-take, word_at-drop, same-words}

-- ---- the comparison

pub and_both : (s t : Bool) → (s && t) ≡ true → (s ≡ true) × (t ≡ true)
and_both true true f = (refl, refl)
and_both true false f = absurd (let z : ◌≡◌ {A = ℕ} 0 1 = cc in omega arith)
and_both false true f = absurd (let z : ◌≡◌ {A = ℕ} 0 1 = cc in omega arith)
and_both false false f = absurd (let z : ◌≡◌ {A = ℕ} 0 1 = cc in omega arith)

pub same_refl : (xs : List ℕ) → same xs xs ≡ true
same_refl [] = refl
same_refl (x ∷ xs) = ap₂ ◌&&◌ (eq-eqb x x refl) (same_refl xs)

pub same-eq : (xs ys : List ℕ) → same xs ys ≡ true → xs ≡ ys
same-eq [] [] e = refl
same-eq [] (y ∷ ys) e = absurd (let z : ◌≡◌ {A = ℕ} 0 1 = cc in omega arith)
same-eq (x ∷ xs) [] e = absurd (let z : ◌≡◌ {A = ℕ} 0 1 = cc in omega arith)
same-eq (x ∷ xs) (y ∷ ys) e = let p = and_both (eqb x y) (same xs ys) e in ap₂ ◌∷◌ (eqb-true x y p.0) (same-eq xs ys p.1)

-- ---- a list in parts

pub length_cut : {A : Type 0} (k n : ℕ) (xs : List A) → length (cut k n xs) ≡ k
unfolding cut
length_cut zero n xs = refl
length_cut (suc k) n xs = ap suc (length_cut k n (drop n xs))

pub cut_at : {A : Type 0} (k n : ℕ) (xs : List A) (j : ℕ) → j < k → get_or (cut k n xs) j [] ≡ take n (drop (n * j) xs)
unfolding cut
cut_at zero n xs j h = absurd (omega arith)
cut_at (suc k) n xs zero h = ap (λ i. take n (drop i xs)) (let e : 0 ≡ n * 0 = omega arith in e)
cut_at (suc k) n xs (suc j) h =
    cut_at k n (drop n xs) j (omega arith)
    ∙ ap (take n) (drop-drop (n * j) n xs ∙ ap (λ i. drop i xs) (let e : n + n * j ≡ n * suc j = omega arith in e))

-- ---- the padding

pub length-padded : (p : List ℕ) → length (padded p) ≡ 504
unfolding padded
length-padded p = length-take-le 504 (p ++ replicate 504 0) (omega (arith, length-append p (replicate 504 0), length-replicate {A = ℕ} 504 0))

zeros-after : (xs : List ℕ) (n r : ℕ) → get_or (xs ++ replicate n 0) r 0 ≡ get_or xs r 0
zeros-after [] zero r = refl
zeros-after [] (suc n) zero = refl
zeros-after [] (suc n) (suc r) = zeros-after [] n r
zeros-after (x ∷ xs) n zero = refl
zeros-after (x ∷ xs) n (suc r) = zeros-after xs n r

pub padded-at : (p : List ℕ) (r : ℕ) → r < 504 → get_or (padded p) r 0 ≡ get_or p r 0
unfolding padded
padded-at p r h = get_or-take 504 (p ++ replicate 504 0) r 0 h ∙ zeros-after p 504 r

zero_bytes : (n : ℕ) → AreBytes (replicate n 0)
zero_bytes n i h = omega (arith, zeros-after [] n i)

pub padded_bytes : (p : List ℕ) → AreBytes p → AreBytes (padded p)
unfolding padded
padded_bytes p h = take_bytes 504 (p ++ replicate 504 0) (append_bytes p (replicate 504 0) h (zero_bytes 504))

-- word w of a padded payload
pub padded-word : (p : List ℕ) (w : ℕ) → w < 126 → word_at (padded p) (4 * w) ≡ word_at p (4 * w)
unfolding word_at
padded-word p w h =
    omega (arith, padded-at p (4 * w) (omega arith), padded-at p (4 * w + 1) (omega arith), padded-at p (4 * w + 2) (omega arith), padded-at p (4 * w + 3) (omega arith))

-- ---- blocks

length-sums : (ws : List ℕ) (s t : ℕ) → length (sums ws s t) ≡ 2
unfolding sums
length-sums [] s t = refl
length-sums (w ∷ ws) s t = length-sums ws ((s + w) % 2 ^ 32) ((t + (s + w) % 2 ^ 32) % 2 ^ 32)

pub length-block : (b : ℕ) (payload : List ℕ) → length payload ≡ 504 → length (block b payload) ≡ 512
unfolding block
length-block b payload h =
    let ss = sums (words payload) b 0 in
    omega (arith, length-append payload (word_bytes ss), length-word_bytes ss, length-sums (words payload) b 0)

-- no block is wrong: this one is right, and so are the later ones
all_right : (t : Bool) (rest b n : ℕ) → cond t rest b ≡ b + suc n → (t ≡ true) × (rest ≡ suc b + n)
all_right true rest b n e = (refl, omega arith)
all_right false rest b n e = absurd (omega arith)

-- ---- whatever the s of each block starts with

module _ (start : ℕ → ℕ) where
  sealed-length : (p : List ℕ) (b : ℕ) → length (block (start b) (padded p)) ≡ 512
  sealed-length p b = length-block (start b) (padded p) (length-padded p)

  -- byte r of the payload of block j
  pub sealed-at : (ps : List (List ℕ)) (b j r : ℕ) → j < length ps → r < 504 → get_or (sealed start ps b) (512 * j + r) 0 ≡ get_or (padded (get_or ps j [])) r 0
  unfolding sealed block
  sealed-at [] b j r h g = absurd (omega arith)
  sealed-at (p ∷ ps) b zero r h g =
      ap (λ k. get_or (block (start b) (padded p) ++ sealed start ps (suc b)) k 0) (let e : 512 * 0 + r ≡ r = omega arith in e)
      ∙ get_or-append (block (start b) (padded p)) (sealed start ps (suc b)) 0 r (omega (arith, sealed-length p b))
      ∙ get_or-append (padded p) (word_bytes (sums (words (padded p)) (start b) 0)) 0 r (omega (arith, length-padded p))
  sealed-at (p ∷ ps) b (suc j) r h g =
      ap (λ k. get_or (block (start b) (padded p) ++ sealed start ps (suc b)) k 0)
      (let e : 512 * suc j + r ≡ length (block (start b) (padded p)) + (512 * j + r) = omega (arith, sealed-length p b) in e)
      ∙ get_or-append-add (block (start b) (padded p)) (sealed start ps (suc b)) (512 * j + r) 0
      ∙ sealed-at ps (suc b) j r (omega arith) g

  -- they are bytes if the payloads are
  pub sealed_bytes : (ps : List (List ℕ)) (b : ℕ) → ((j : ℕ) → j < length ps → AreBytes (get_or ps j [])) → AreBytes (sealed start ps b)
  unfolding sealed block
  sealed_bytes [] b h = λ i g. absurd (omega arith)
  sealed_bytes (p ∷ ps) b h =
      append_bytes (block (start b) (padded p)) (sealed start ps (suc b))
      (append_bytes (padded p) (word_bytes (sums (words (padded p)) (start b) 0)) (padded_bytes p (h 0 (omega arith))) (words_bytes (sums (words (padded p)) (start b) 0)))
      (sealed_bytes ps (suc b) (λ j g. h (suc j) (omega arith)))

  -- payload word w of block j
  pub sealed-word : (ps : List (List ℕ)) (j w : ℕ) → j < length ps → w < 126 → word_at (sealed start ps 0) (512 * j + 4 * w) ≡ word_at (get_or ps j []) (4 * w)
  unfolding word_at
  sealed-word ps j w h g = omega (arith, byte 0 (omega arith), byte 1 (omega arith), byte 2 (omega arith), byte 3 (omega arith), none, nothing)
    where
      none : get_or (sealed start ps 0) (512 * j + 4 * w + 0) 0 ≡ get_or (sealed start ps 0) (512 * j + 4 * w) 0
      none = ap (λ i. get_or (sealed start ps 0) i 0) (let e : 512 * j + 4 * w + 0 ≡ 512 * j + 4 * w = omega arith in e)

      nothing : get_or (get_or ps j []) (4 * w + 0) 0 ≡ get_or (get_or ps j []) (4 * w) 0
      nothing = ap (λ i. get_or (get_or ps j []) i 0) (let e : 4 * w + 0 ≡ 4 * w = omega arith in e)

      byte : (k : ℕ) → k < 4 → get_or (sealed start ps 0) (512 * j + 4 * w + k) 0 ≡ get_or (get_or ps j []) (4 * w + k) 0
      byte k l =
          ap (λ i. get_or (sealed start ps 0) i 0) (let e : 512 * j + 4 * w + k ≡ 512 * j + (4 * w + k) = omega arith in e)
          ∙ sealed-at ps 0 j (4 * w + k) h (omega arith) ∙ padded-at (get_or ps j []) (4 * w + k) (omega arith)

  -- ---- the check of the sums

  chosen : {t : Bool} (x y : ℕ) → t ≡ true → cond t x y ≡ x
  chosen x y e = ap (λ t. cond t x y) e

  block-payload : (b : ℕ) (p : List ℕ) → take 504 (block (start b) (padded p)) ≡ padded p
  unfolding block
  block-payload b p = take_at (padded p) (word_bytes (sums (words (padded p)) (start b) 0)) 504 (length-padded p)

  sealed_right : (ps : List (List ℕ)) (b : ℕ) → wrong_from start (cut (length ps) 512 (sealed start ps b)) b ≡ b + length ps
  unfolding wrong_from cut sealed
  sealed_right [] b = omega arith
  sealed_right (p ∷ ps) b =
      let x = block (start b) (padded p) in
      let rest = sealed start ps (suc b) in
      let here : take 512 (x ++ rest) ≡ x = take_at x rest 512 (sealed-length p b) in
      let right : same (block (start b) (take 504 (take 512 (x ++ rest)))) (take 512 (x ++ rest)) ≡ true =
      ap (λ y. same (block (start b) (take 504 y)) y) here ∙ ap (λ y. same (block (start b) y) x) (block-payload b p) ∙ same_refl x in
      chosen (wrong_from start (cut (length ps) 512 (drop 512 (x ++ rest))) (suc b)) b right
      ∙ ap (λ y. wrong_from start (cut (length ps) 512 y) (suc b)) (drop_at x rest 512 (sealed-length p b))
      ∙ sealed_right ps (suc b) ∙ omega arith

pub length-sealed : (start : ℕ → ℕ) (ps : List (List ℕ)) (b : ℕ) → length (sealed start ps b) ≡ 512 * length ps
unfolding sealed
length-sealed start [] b = refl
length-sealed start (p ∷ ps) b =
    length-append (block (start b) (padded p)) (sealed start ps (suc b)) ∙ omega (arith, sealed-length start p b, length-sealed start ps (suc b))

-- and the other way
unsealed : (start : ℕ → ℕ) (ps : List (List ℕ)) (bytes : List ℕ) (b : ℕ) → length bytes ≡ 512 * length ps → wrong_from start (cut (length ps) 512 bytes) b ≡ b + length ps
    → ((j : ℕ) → j < length ps → take 504 (drop (512 * j) bytes) ≡ padded (get_or ps j [])) → bytes ≡ sealed start ps b
unfolding wrong_from cut sealed
unsealed start [] [] b l e h = refl
unsealed start [] (x ∷ bytes) b l e h = absurd (omega arith)
unsealed start (p ∷ ps) bytes b l e h =
    let x = take 512 bytes in
    let after = drop 512 bytes in
    let right = all_right (same (block (start b) (take 504 x)) x) (wrong_from start (cut (length ps) 512 after) (suc b)) b (length ps) e in
    let payload : take 504 x ≡ padded p = take-take 504 512 bytes (omega arith) ∙ h 0 (omega arith) in
    sym (take-append-drop 512 bytes)
    ∙ ap₂ ◌++◌ (sym (same-eq (block (start b) (take 504 x)) x right.0) ∙ ap (block (start b)) payload)
    (unsealed start ps after (suc b) (omega (arith, length-drop 512 bytes)) right.1
    (λ j k. ap (take 504) (drop-drop (512 * j) 512 bytes ∙ ap (λ i. drop i bytes) (let q : 512 + 512 * j ≡ 512 * suc j = omega arith in q)) ∙ h (suc j) (omega arith)))

-- ---- with the starts of an image

-- sealed payloads always check
pub sealed_checks : (ps : List (List ℕ)) → wrong_block (sealed sum_start ps 0) ≡ length ps
unfolding wrong_block
sealed_checks ps =
    ap (λ k. wrong_from sum_start (cut k 512 (sealed sum_start ps 0)) 0) (let e : blocks_in (sealed sum_start ps 0) ≡ length ps = omega (arith, length-sealed sum_start ps 0) in e)
    ∙ sealed_right sum_start ps 0 ∙ omega arith

pub is_sealed : (ps : List (List ℕ)) (bytes : List ℕ) → length bytes ≡ 512 * length ps → wrong_block bytes ≡ length ps
    → ((j : ℕ) → j < length ps → take 504 (drop (512 * j) bytes) ≡ padded (get_or ps j [])) → bytes ≡ sealed sum_start ps 0
unfolding wrong_block
is_sealed ps bytes l e h =
    unsealed sum_start ps bytes 0 l
    (sym (ap (λ k. wrong_from sum_start (cut k 512 bytes) 0) (let q : blocks_in bytes ≡ length ps = omega arith in q)) ∙ e ∙ omega arith) h

-- bytes are sealed payloads if their sums are right and each word of each block is that of its
-- payload
pub is_sealed_words : (ps : List (List ℕ)) (bytes : List ℕ) → AreBytes bytes → ((j : ℕ) → j < length ps → AreBytes (get_or ps j []))
    → length bytes ≡ 512 * length ps → wrong_block bytes ≡ length ps
    → ((j w : ℕ) → j < length ps → w < 126 → word_at bytes (512 * j + 4 * w) ≡ word_at (get_or ps j []) (4 * w)) → bytes ≡ sealed sum_start ps 0
is_sealed_words ps bytes hb hp l e h = is_sealed ps bytes l e (λ j k.
    same-words 126 (take 504 (drop (512 * j) bytes)) (padded (get_or ps j []))
    (take_bytes 504 (drop (512 * j) bytes) (drop_bytes (512 * j) bytes hb)) (padded_bytes (get_or ps j []) (hp j k))
    (length-take-le 504 (drop (512 * j) bytes) (omega (arith, length-drop (512 * j) bytes))) (length-padded (get_or ps j []))
    (λ w g. word_at-take 504 (drop (512 * j) bytes) (4 * w) (omega arith) ∙ word_at-drop (512 * j) bytes (4 * w) ∙ h j w k g ∙ sym (padded-word (get_or ps j []) w g)))
