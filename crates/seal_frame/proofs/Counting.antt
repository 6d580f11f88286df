-- The counts of earlier ones put into a string's blocks: what the loop keeps.
use mathlib.Core.Path.{◌≡◌, refl, sym, ap, ap₂, ◌∙◌, subst}
use mathlib.Core.List.{List}
use Prim.Native.Nat.{ℕ, ◌+◌, ◌*◌, ◌/◌, ◌%◌, ◌≤◌, ◌<◌}
use native.Mathlib.Decide.{ℕ_discrete}
use native.Mathlib.Omega.{arith}
use lib.ListN.{length, get_or}
use lib.Seq.{ext_get_or}
use Rattle.meaning.specs.Strings.{O, ones}
use Rattle.meaning.specs.Bytes.{bits_from}
use Rattle.meaning.specs.Image.{string_blocks, string_in}
use Rattle.theory.specs.Layout.{word_at}
use Rattle.theory.proofs.Packing.{bits-length, bits_at}
use Rattle.theory.proofs.InBlocks.{no_string, string-ones-le, string_in-take, full_more}
use Rattle.bits_count.proofs.Runs.{bits-ones-le}
use Rattle.image_words.specs.Words.{with_word}
use Rattle.seal_frame.specs.Passes.{CountsWritten}
use Rattle.seal_r1.proofs.Placing.{bit-agree, word-agree, put_length, put_word, put_byte}

pub block-few : (s : List ℕ) (p x : ℕ) → x ≡ ones (bits_from s p 4000) → x ≤ 4000
block-few s p x e = omega (arith, bits-ones-le s p 4000)

pub record Counting (old out : List ℕ) (from n c j : ℕ) : Type 0 where
  pub left : j ≤ string_blocks n
  pub sum : c ≡ ones (string_in old from 0 (4000 * j))
  pub counts : (i : ℕ) → i < j → word_at out (512 * (from + i)) ≡ ones (string_in old from 0 (4000 * i))
  pub apart : (q : ℕ) → (512 * from ≤ q → q < 512 * (from + string_blocks n) → 4 ≤ q % 512) → get_or out q 0 ≡ get_or old q 0
  pub kept : length out ≡ length old

pub counting-first : (old : List ℕ) (from n : ℕ) → Counting old old from n 0 0
counting-first old from n = record { left = omega arith; sum = no_string old from; counts = λ i h. absurd (omega arith); apart = λ q h. refl; kept = refl }

module _ (old out : List ℕ) (from n c j : ℕ) (k : Counting old out from n c j) where
  pub counting-few : c ≤ 4000 * j
  counting-few = omega (arith, k.sum, string-ones-le old from (4000 * j))

  pub counting-last : string_blocks n ≤ j → CountsWritten old out from n
  counting-last l = record {
    counts = λ i h. k.counts i (omega arith) ∙ ap (λ s. ones s) (sym (string_in-take old from (4000 * i) n (omega arith)));
    apart = k.apart;
  }

  module _ (l : j < string_blocks n) (few : n ≤ 65536) (room : 512 * (from + string_blocks n) ≤ length old) where
    fits : 512 * (from + j) + 4 ≤ length out
    fits = omega (arith, k.kept)

    new : List ℕ
    new = with_word out (512 * (from + j)) c

    new_byte : (q : ℕ) → (512 * (from + j) ≤ q → q < 512 * (from + j) + 4 → ⊥) → get_or new q 0 ≡ get_or out q 0
    unfolding new
    new_byte q h = put_byte out (512 * (from + j)) c fits q h

    new_apart : (q : ℕ) → (512 * from ≤ q → q < 512 * (from + string_blocks n) → 4 ≤ q % 512) → get_or new q 0 ≡ get_or old q 0
    new_apart q h =
        new_byte q (λ a b. let g : 4 ≤ q % 512 = h (omega arith) (omega arith) in omega arith) ∙ k.apart q h

    -- the bits of the block are as before
    new-bits : bits_from new (8 * (512 * (from + j) + 4)) 4000 ≡ bits_from old (8 * (512 * (from + j) + 4)) 4000
    new-bits =
        let p = 8 * (512 * (from + j) + 4) in
        let m = bits-length new p 4000 in
        ext_get_or O (bits_from new p 4000) (bits_from old p 4000) (m ∙ sym (bits-length old p 4000))
        (λ i h. let g : i < 4000 = omega arith in
        bits_at new p 4000 i g ∙ bit-agree new old (p + i) (new_apart ((p + i) / 8) (λ a b. omega arith)) ∙ sym (bits_at old p 4000 i g))

    new-count : (i : ℕ) → i < j + 1 → word_at new (512 * (from + i)) ≡ ones (string_in old from 0 (4000 * i))
    unfolding new
    new-count i h = elim (ℕ_discrete i j) [
      | yes e ↦ ap (λ m. word_at new (512 * (from + m))) e ∙ put_word out (512 * (from + j)) c fits (omega (arith, counting-few))
          ∙ k.sum ∙ ap (λ m. ones (string_in old from 0 (4000 * m))) (sym e)
      | no d ↦ word-agree new out (512 * (from + i)) (λ q a b. new_byte q (λ g m. d (omega arith))) ∙ k.counts i (omega arith)
    ]

    pub counting-next : (s : List ℕ) (x at : ℕ) → s ≡ with_word out (512 * (from + j)) c → at ≡ 512 * (from + j) + 4 → x ≡ ones (bits_from s (8 * at) 4000)
        → Counting old s from n (c + x) (j + 1)
    unfolding new
    counting-next s x at e is_at f =
        subst (λ t. Counting old t from n (c + x) (j + 1)) (sym e) (record {
          left = omega arith;
          sum = ap₂ ◌+◌ k.sum (f ∙ ap₂ (λ t p. ones (bits_from t (8 * p) 4000)) e is_at ∙ ap (λ t. ones t) new-bits) ∙ full_more old from j;
          counts = new-count;
          apart = new_apart;
          kept = put_length out (512 * (from + j)) c fits ∙ k.kept;
        })
