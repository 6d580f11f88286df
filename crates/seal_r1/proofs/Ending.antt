-- R1 put byte by byte, with its samples: what the loop keeps.
use mathlib.Core.Path.{◌≡◌, refl, sym, ap, ◌∙◌, subst₂}
use mathlib.Core.Bool.{cond}
use mathlib.Core.List.{List, [], ◌∷◌}
use Prim.Native.Nat.{ℕ, zero, suc, ◌+◌, ◌-◌, ◌*◌, ◌/◌, ◌%◌, ◌^◌, ◌≤◌, ◌<◌}
use native.Mathlib.Decide.{dec_lt, ℕ_discrete}
use native.Mathlib.Omega.{arith}
use borrow.Author.Tests.{lt-ltb, le-ltb}
use lib.ListN.{length, get_or, take, drop, set, length-take, length-set, take-append-drop, get_or-eq_default}
use lib.Seq.{length-take-le, take_all, take-add, get_or-take, get_or-drop, get_or-set_other}
use Rattle.meaning.specs.Parents.{IsParents}
use Rattle.meaning.specs.Strings.{Bit, O, I, ones, R1, string_of}
use Rattle.meaning.specs.Bytes.{bit_at, value, number}
use Rattle.meaning.specs.Image.{string_blocks, samples}
use Rattle.theory.specs.Layout.{word_at, bit_place, sample_place}
use Rattle.theory.specs.Rank.{position}
use Rattle.theory.specs.Stages.{blocks_of_samples}
use Rattle.theory.proofs.Odd.{ones-append}
use Rattle.theory.proofs.Forms.{position_split}
use Rattle.theory.proofs.Navigate.{position-zero}
use Rattle.theory.proofs.Packing.{bits-length}
use Rattle.theory.proofs.Payloads.{ones-le, length-samples, sample_at}
use Rattle.bits_byte.specs.Byte.{byte_bits}
use Rattle.bits_byte.proofs.Byte.{digit, byte_digit, number-digit}
use Rattle.bits_append.proofs.Appending.{set-bit-same, set-bit-other}
use Rattle.bits_byte.proofs.Counting.{number-ones}
use Rattle.image_words.specs.Words.{with_word}
use Rattle.seal_r1_bits.specs.Listed.{runs_in}
use Rattle.seal_r1_bits.proofs.Lists.{never}
use Rattle.seal_r1_bits.proofs.Entries.{length-ends}
use Rattle.seal_r1.specs.Passes.{Blank, Outside, byte_place, byte_marked, R1Written}
use Rattle.seal_r1.proofs.Placing.{bit-agree, word-agree, bit-zero, word-zero, put_length, put_word, put_byte}

-- ---- positions of ones

pub position-le : (bs : List Bit) (k : ℕ) → position bs k ≤ length bs
position-le [] k = omega arith
position-le (b ∷ bs) zero = omega arith
position-le (O ∷ bs) (suc k) = omega (arith, position-le bs (suc k))
position-le (I ∷ bs) (suc k) = omega (arith, position-le bs k)

pub position-low : (bs : List Bit) (k : ℕ) → k < ones bs → 1 ≤ position bs (suc k)
position-low [] k h = absurd (omega arith)
position-low (O ∷ bs) k h = omega arith
position-low (I ∷ bs) k h = omega arith

none : (a : List Bit) → ((j : ℕ) → j < length a → get_or a j O ≡ O) → ones a ≡ 0
none [] h = refl
none (O ∷ a) h = none a (λ j l. h (suc j) (omega arith))
none (I ∷ a) h = never (h 0 (omega arith))

-- the same bits as far as one string goes have its ones at the same places
position-agree : (a b : List Bit) → ((j : ℕ) → j < length a → get_or a j O ≡ get_or b j O) → (t : ℕ) → t < ones a → position a (suc t) ≡ position b (suc t)
position-agree [] b h t l = absurd (omega arith)
position-agree (x ∷ a) [] h t l = absurd (omega (arith, none (x ∷ a) h))
position-agree (O ∷ a) (O ∷ b) h t l = ap suc (position-agree a b (λ j g. h (suc j) (omega arith)) t l)
position-agree (O ∷ a) (I ∷ b) h t l = never (sym (h 0 (omega arith)))
position-agree (I ∷ a) (O ∷ b) h t l = never (h 0 (omega arith))
position-agree (I ∷ a) (I ∷ b) h zero l = ap suc (position-zero a ∙ sym (position-zero b))
position-agree (I ∷ a) (I ∷ b) h (suc t) l = ap suc (position-agree a b (λ j g. h (suc j) (omega arith)) t (omega arith))

-- ---- the byte of the next eight bits

number-take : (n : ℕ) (bs : List Bit) → number n (take n bs) ≡ number n bs
unfolding number
number-take zero bs = refl
number-take (suc n) [] = refl
number-take (suc n) (b ∷ bs) = ap (λ m. value b * 2 ^ n + m) (number-take n bs)

pub byte_few : (x : ℕ) → ones (byte_bits x) ≤ 8
byte_few x = omega (arith, ones-le (byte_bits x), bits-length (x ∷ []) 0 8)

pub place-few : (x k : ℕ) → position (byte_bits x) k ≤ 8
place-few x k = omega (arith, position-le (byte_bits x) k, bits-length (x ∷ []) 0 8)

module _ (r : List Bit) (b x : ℕ) (e : x ≡ number 8 (drop (8 * b) r)) where
  next-ones : ones (take (8 * (b + 1)) r) ≡ ones (take (8 * b) r) + ones (byte_bits x)
  next-ones =
      let d = drop (8 * b) r in
      let few : length (take 8 d) ≤ 8 = omega (arith, length-take 8 d) in
      ap (λ j. ones (take j r)) (let f : 8 * (b + 1) ≡ 8 * b + 8 = omega arith in f)
      ∙ ap ones (take-add (8 * b) 8 r) ∙ ones-append (take (8 * b) r) (take 8 d)
      ∙ ap (λ n. ones (take (8 * b) r) + n)
      (sym (number-ones (take 8 d) few) ∙ ap (λ y. ones (byte_bits y)) (number-take 8 d ∙ sym e))

  next_place : (k t : ℕ) → k ≡ ones (take (8 * b) r) → 8 * b ≤ length r → t < ones (byte_bits x) → position r (suc (k + t)) ≡ 8 * b + position (byte_bits x) (suc t)
  next_place k t f l h =
      let front = take (8 * b) r in
      let d = drop (8 * b) r in
      let eight = bits-length (x ∷ []) 0 8 in
      ap (λ n. position r (suc (n + t))) f
      ∙ ap (λ s. position s (suc (ones front + t))) (sym (take-append-drop (8 * b) r))
      ∙ position_split front d t
      ∙ ap (λ n. n + position d (suc t)) (length-take-le (8 * b) r l)
      ∙ ap (λ n. 8 * b + n)
      (sym (position-agree (byte_bits x) d (λ j g. byte_digit x j (omega arith) ∙ ap (λ y. digit y j) e ∙ number-digit d j (omega arith)) t h))

ones-front : (j : ℕ) (r : List Bit) → ones (take j r) ≤ ones r
ones-front j r = omega (arith, ones-append (take j r) (drop j r), ap ones (take-append-drop j r))

-- ---- a byte marked

module _ (bytes : List ℕ) (first b x k : ℕ) where
  pub byte_sample : 64 * ((k + 63) / 64) < k + ones (byte_bits x)
      → byte_marked bytes first b x k
      ≡ with_word (set bytes (byte_place 1 b) x) (sample_place first ((k + 63) / 64)) (8 * b + position (byte_bits x) (64 * ((k + 63) / 64) + 1 - k))
  unfolding byte_marked
  byte_sample h =
      let put = set bytes (byte_place 1 b) x in
      let s = (k + 63) / 64 in
      ap (λ t. cond t (with_word put (sample_place first s) (8 * b + position (byte_bits x) (64 * s + 1 - k))) put) (lt-ltb (64 * s) (k + ones (byte_bits x)) h)

  pub byte_plain : k + ones (byte_bits x) ≤ 64 * ((k + 63) / 64) → byte_marked bytes first b x k ≡ set bytes (byte_place 1 b) x
  unfolding byte_marked
  byte_plain h =
      let put = set bytes (byte_place 1 b) x in
      let s = (k + 63) / 64 in
      ap (λ t. cond t (with_word put (sample_place first s) (8 * b + position (byte_bits x) (64 * s + 1 - k))) put) (le-ltb (64 * s) (k + ones (byte_bits x)) h)

  module _ (room : 512 * (first + blocks_of_samples (k + ones (byte_bits x))) ≤ length bytes) where
    fits : 64 * ((k + 63) / 64) < k + ones (byte_bits x) → sample_place first ((k + 63) / 64) + 4 ≤ length (set bytes (byte_place 1 b) x)
    fits h = omega (arith, length-set bytes (byte_place 1 b) x)

    pub byte_length : length (byte_marked bytes first b x k) ≡ length bytes
    byte_length = elim (dec_lt (64 * ((k + 63) / 64)) (k + ones (byte_bits x))) [
      | yes h ↦ ap length (byte_sample h)
          ∙ put_length (set bytes (byte_place 1 b) x) (sample_place first ((k + 63) / 64)) (8 * b + position (byte_bits x) (64 * ((k + 63) / 64) + 1 - k)) (fits h)
          ∙ length-set bytes (byte_place 1 b) x
      | no h ↦ ap length (byte_plain (omega arith)) ∙ length-set bytes (byte_place 1 b) x
    ]

    -- a byte outside the sample's word
    byte_put : (q : ℕ) → (64 * ((k + 63) / 64) < k + ones (byte_bits x) → sample_place first ((k + 63) / 64) ≤ q → q < sample_place first ((k + 63) / 64) + 4 → ⊥)
        → get_or (byte_marked bytes first b x k) q 0 ≡ get_or (set bytes (byte_place 1 b) x) q 0
    byte_put q d = elim (dec_lt (64 * ((k + 63) / 64)) (k + ones (byte_bits x))) [
      | yes h ↦ ap (λ s. get_or s q 0) (byte_sample h)
          ∙ put_byte (set bytes (byte_place 1 b) x) (sample_place first ((k + 63) / 64)) (8 * b + position (byte_bits x) (64 * ((k + 63) / 64) + 1 - k)) (fits h) q (d h)
      | no h ↦ ap (λ s. get_or s q 0) (byte_plain (omega arith))
    ]

    byte_away : (q : ℕ) → (q ≡ byte_place 1 b → ⊥)
        → (64 * ((k + 63) / 64) < k + ones (byte_bits x) → sample_place first ((k + 63) / 64) ≤ q → q < sample_place first ((k + 63) / 64) + 4 → ⊥)
        → get_or (byte_marked bytes first b x k) q 0 ≡ get_or bytes q 0
    byte_away q n d = byte_put q d ∙ get_or-set_other bytes (byte_place 1 b) q x 0 n

    -- a bit before the samples
    byte_bit : (p : ℕ) → p / 8 < 512 * first → bit_at (byte_marked bytes first b x k) p ≡ bit_at (set bytes (byte_place 1 b) x) p
    byte_bit p h = bit-agree (byte_marked bytes first b x k) (set bytes (byte_place 1 b) x) p (byte_put (p / 8) (λ due a c. omega arith))

    -- another sample
    byte_word : (w : ℕ) → byte_place 1 b < 512 * first → (64 * ((k + 63) / 64) < k + ones (byte_bits x) → w ≡ (k + 63) / 64 → ⊥)
        → word_at (byte_marked bytes first b x k) (sample_place first w) ≡ word_at bytes (sample_place first w)
    byte_word w h d =
        word-agree (byte_marked bytes first b x k) bytes (sample_place first w)
        (λ q a c. byte_away q (λ e. omega arith) (λ due g l. d due (omega arith)))

-- ---- what the loop keeps

pub record Ending (ps old out : List ℕ) (first b k : ℕ) : Type 0 where
  pub left : 8 * b ≤ length ps + 7
  pub sum : k ≡ ones (take (8 * b) (R1 (string_of ps)))
  pub bits : (i : ℕ) → i < 4000 * string_blocks (length ps) → bit_at out (bit_place 1 i) ≡ get_or (take (8 * b) (R1 (string_of ps))) i O
  pub words : (w : ℕ) → 64 * w < k → word_at out (sample_place first w) ≡ position (R1 (string_of ps)) (64 * w + 1)
  pub rest : (w : ℕ) → k ≤ 64 * w → w < 126 * blocks_of_samples (runs_in ps) → word_at out (sample_place first w) ≡ 0
  pub apart : (q : ℕ) → Outside 1 (string_blocks (length ps)) q → Outside first (blocks_of_samples (runs_in ps)) q → get_or out q 0 ≡ get_or old q 0
  pub kept : length out ≡ length old

pub ending_first : (ps old : List ℕ) (first : ℕ) → Blank old 1 (string_blocks (length ps)) → Blank old first (blocks_of_samples (runs_in ps)) → Ending ps old old first 0 0
ending_first ps old first h g = record {
  left = omega arith;
  sum = refl;
  bits = λ i l. bit-zero old (bit_place 1 i) (h (bit_place 1 i / 8) (omega arith) (omega arith));
  words = λ w l. absurd (omega arith);
  rest = λ w l m. word-zero old (sample_place first w) (λ q a c. g q (omega arith) (omega arith));
  apart = λ q a c. refl;
  kept = refl;
}

module _ (ps old out : List ℕ) (first b k : ℕ) (are : IsParents ps) (n : Ending ps old out first b k) where
  pub ending_few : 8 * b ≤ length ps → k ≤ 8 * b
  ending_few l = omega (arith, n.sum, ones-le (take (8 * b) (R1 (string_of ps))), length-take (8 * b) (R1 (string_of ps)))

  pub ending_last : length ps ≤ 8 * b → (k ≡ runs_in ps) × R1Written old out ps first
  ending_last l =
      let all : take (8 * b) (R1 (string_of ps)) ≡ R1 (string_of ps) = take_all (8 * b) (R1 (string_of ps)) (omega (arith, length-ends ps are)) in
      let m : k ≡ runs_in ps = n.sum ∙ ap ones all in
      let size = length-samples (R1 (string_of ps)) in (
        m,
        record {
          part = record {
            bits = λ i h. n.bits i h ∙ ap (λ s. get_or s i O) all;
            words = λ w h. elim (dec_lt (64 * w) k) [
              | yes g ↦ n.words w g ∙ sym (sample_at (R1 (string_of ps)) w (omega arith))
              | no g ↦ n.rest w (omega arith) h ∙ sym (get_or-eq_default (samples (R1 (string_of ps))) 0 (omega arith))
            ];
          };
          apart = n.apart;
        },
      )

  module _ (x : ℕ) (e : x ≡ number 8 (drop (8 * b) (R1 (string_of ps)))) (l : 8 * b < length ps) where
    sum-next : ones (take (8 * (b + 1)) (R1 (string_of ps))) ≡ k + ones (byte_bits x)
    sum-next = next-ones (R1 (string_of ps)) b x e ∙ ap (λ m. m + ones (byte_bits x)) (sym n.sum)

    -- no more ones than there are
    pub ending_within : k + ones (byte_bits x) ≤ runs_in ps
    ending_within = omega (arith, sum-next, ones-front (8 * (b + 1)) (R1 (string_of ps)))

    module _ (most : length ps ≤ 65535) (low : 1 + string_blocks (length ps) ≤ first) (high : 512 * (first + blocks_of_samples (runs_in ps)) ≤ length old) where
      room : 512 * (first + blocks_of_samples (k + ones (byte_bits x))) ≤ length out
      room = omega (arith, ending_within, n.kept)

      bit-here : (i : ℕ) → i < 4000 * string_blocks (length ps) → i / 8 ≡ b → bit_at (set out (byte_place 1 b) x) (bit_place 1 i) ≡ get_or (take (8 * (b + 1)) (R1 (string_of ps))) i O
      bit-here i h f =
          let d = drop (8 * b) (R1 (string_of ps)) in
          set-bit-same out (byte_place 1 b) x (bit_place 1 i) (omega (arith, n.kept)) (omega arith)
          ∙ ap (digit x) (let g : bit_place 1 i % 8 ≡ i % 8 = omega arith in g)
          ∙ ap (λ y. digit y (i % 8)) e
          ∙ number-digit d (i % 8) (omega arith)
          ∙ get_or-drop (8 * b) (R1 (string_of ps)) (i % 8) O
          ∙ ap (λ j. get_or (R1 (string_of ps)) j O) (let g : 8 * b + i % 8 ≡ i = omega arith in g)
          ∙ sym (get_or-take (8 * (b + 1)) (R1 (string_of ps)) i O (omega arith))

      take_same : (i : ℕ) → (i / 8 ≡ b → ⊥) → get_or (take (8 * b) (R1 (string_of ps))) i O ≡ get_or (take (8 * (b + 1)) (R1 (string_of ps))) i O
      take_same i f = elim (dec_lt i (8 * b)) [
        | yes h ↦ get_or-take (8 * b) (R1 (string_of ps)) i O h ∙ sym (get_or-take (8 * (b + 1)) (R1 (string_of ps)) i O (omega arith))
        | no h ↦ elim (dec_lt i (8 * b + 8)) [
          | yes g ↦ absurd (f (omega arith))
          | no g ↦ get_or-eq_default (take (8 * b) (R1 (string_of ps))) O (omega (arith, length-take (8 * b) (R1 (string_of ps))))
              ∙ sym (get_or-eq_default (take (8 * (b + 1)) (R1 (string_of ps))) O (omega (arith, length-take (8 * (b + 1)) (R1 (string_of ps)))))
        ]
      ]

      bit-next : (i : ℕ) → i < 4000 * string_blocks (length ps) → bit_at (byte_marked out first b x k) (bit_place 1 i) ≡ get_or (take (8 * (b + 1)) (R1 (string_of ps))) i O
      bit-next i h = elim (ℕ_discrete (i / 8) b) [
        | yes f ↦ byte_bit out first b x k room (bit_place 1 i) (omega arith) ∙ bit-here i h f
        | no f ↦ byte_bit out first b x k room (bit_place 1 i) (omega arith)
            ∙ set-bit-other out (byte_place 1 b) x (bit_place 1 i) (λ g. f (omega arith)) ∙ n.bits i h ∙ take_same i f
      ]

      -- the sample that is due
      word-new : 64 * ((k + 63) / 64) < k + ones (byte_bits x)
          → word_at (byte_marked out first b x k) (sample_place first ((k + 63) / 64)) ≡ position (R1 (string_of ps)) (64 * ((k + 63) / 64) + 1)
      word-new h =
          let s = (k + 63) / 64 in
          let t = 64 * s - k in
          let v = 8 * b + position (byte_bits x) (64 * s + 1 - k) in
          let is : v ≡ position (R1 (string_of ps)) (64 * s + 1) =
          ap (λ j. 8 * b + position (byte_bits x) j) (let g : 64 * s + 1 - k ≡ suc t = omega arith in g)
          ∙ sym (next_place (R1 (string_of ps)) b x e k t n.sum (omega (arith, length-ends ps are)) (omega arith))
          ∙ ap (position (R1 (string_of ps))) (let g : suc (k + t) ≡ 64 * s + 1 = omega arith in g) in
          ap (λ y. word_at y (sample_place first s)) (byte_sample out first b x k h)
          ∙ put_word (set out (byte_place 1 b) x) (sample_place first s) v (fits out first b x k room h) (omega (arith, place-few x (64 * s + 1 - k)))
          ∙ is

      ahead : byte_place 1 b < 512 * first
      ahead = omega arith

      pub ending_next : (new : List ℕ) (j : ℕ) → new ≡ byte_marked out first b x k → j ≡ k + ones (byte_bits x) → Ending ps old new first (b + 1) j
      ending_next new j f g = subst₂ (λ s m. Ending ps old s first (b + 1) m) (sym f) (sym g) (record {
        left = omega arith;
        sum = sym sum-next;
        bits = bit-next;
        words = λ w h. elim (dec_lt (64 * w) k) [
          | yes m ↦ byte_word out first b x k room w ahead (λ due q. omega arith) ∙ n.words w m
          | no m ↦
              let few = byte_few x in
              let q : w ≡ (k + 63) / 64 = omega arith in
              ap (λ v. word_at (byte_marked out first b x k) (sample_place first v)) q
              ∙ word-new (omega arith) ∙ ap (λ v. position (R1 (string_of ps)) (64 * v + 1)) (sym q)
        ];
        rest = λ w h m. byte_word out first b x k room w ahead (λ due q. omega arith) ∙ n.rest w (omega arith) m;
        apart = λ q h m. byte_away out first b x k room q (λ u. h (omega arith) (omega arith))
            (λ due u v. let wi = ending_within in m (omega arith) (omega arith)) ∙ n.apart q h m;
        kept = byte_length out first b x k room ∙ n.kept;
      })
