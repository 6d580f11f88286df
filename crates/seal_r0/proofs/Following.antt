-- The samples of R0 put: what the loop keeps.
use mathlib.Core.Path.{◌≡◌, refl, sym, ap, ◌∙◌, subst}
use mathlib.Core.List.{List}
use Prim.Native.Nat.{ℕ, suc, ◌+◌, ◌-◌, ◌*◌, ◌≤◌, ◌<◌}
use native.Mathlib.Decide.{dec_lt, ℕ_discrete}
use native.Mathlib.Omega.{arith}
use lib.ListN.{length, get_or, drop, get_or-eq_default}
use Rattle.meaning.specs.Parents.{IsParents}
use Rattle.meaning.specs.Strings.{R1, R0, string_of}
use Rattle.meaning.specs.Image.{samples}
use Rattle.theory.specs.Layout.{word_at, sample_place}
use Rattle.theory.specs.Rank.{position}
use Rattle.theory.specs.Stages.{blocks_of_samples}
use Rattle.theory.proofs.Payloads.{length-samples, sample_at}
use Rattle.image_words.specs.Words.{with_word}
use Rattle.seal_r1_bits.specs.Listed.{next_of, runs_in}
use Rattle.seal_r1_bits.proofs.Lists.{R0-place}
use Rattle.seal_r1_bits.proofs.Entries.{sizes}
use Rattle.seal_r1.specs.Passes.{Blank, Outside, R1SamplesKnown, R0SamplesWritten}
use Rattle.seal_r1.proofs.Placing.{earlier, word-agree, word-zero, put_length, put_word, put_byte}
use Rattle.seal_r1.proofs.Ending.{position-le, position-low}

pub record Following (ps old out : List ℕ) (second s : ℕ) : Type 0 where
  pub left : 64 * s ≤ runs_in ps + 63
  pub words : (w : ℕ) → w < s → word_at out (sample_place second w) ≡ position (R0 (string_of ps)) (64 * w + 1)
  pub rest : (w : ℕ) → s ≤ w → w < 126 * blocks_of_samples (runs_in ps) → word_at out (sample_place second w) ≡ 0
  pub apart : (q : ℕ) → Outside second (blocks_of_samples (runs_in ps)) q → get_or out q 0 ≡ get_or old q 0
  pub kept : length out ≡ length old

pub following_first : (ps old : List ℕ) (second : ℕ) → Blank old second (blocks_of_samples (runs_in ps)) → Following ps old old second 0
following_first ps old second h = record {
  left = omega arith;
  words = λ w l. absurd (omega arith);
  rest = λ w l m. word-zero old (sample_place second w) (λ q a c. h q (omega arith) (omega arith));
  apart = λ q a. refl;
  kept = refl;
}

module _ (ps old out : List ℕ) (first second s : ℕ) (are : IsParents ps) (n : Following ps old out second s) where
  pub following_last : runs_in ps ≤ 64 * s → R0SamplesWritten old out ps second
  following_last l =
      let size = length-samples (R0 (string_of ps)) in
      let same = (sizes ps are).same in
      record {
        words = λ w h. elim (dec_lt w s) [
          | yes g ↦ n.words w g ∙ sym (sample_at (R0 (string_of ps)) w (let f = n.left in omega arith))
          | no g ↦ n.rest w (omega arith) h ∙ sym (get_or-eq_default (samples (R0 (string_of ps))) 0 (omega arith))
        ];
        apart = n.apart;
      }

  module _ (known : R1SamplesKnown old ps first) (before : first + blocks_of_samples (runs_in ps) ≤ second) (room : 512 * (second + blocks_of_samples (runs_in ps)) ≤ length old)
      (most : length ps ≤ 65535) (l : 64 * s < runs_in ps) (x : ℕ) (e : x ≡ word_at out (sample_place first s)) where
    is : x ≡ position (R1 (string_of ps)) (64 * s + 1)
    is = e ∙ word-agree out old (sample_place first s) (λ q a c. n.apart q (λ g h. omega arith)) ∙ known s l

    one : position (R1 (string_of ps)) (64 * s + 1) ≡ position (R1 (string_of ps)) (suc (64 * s))
    one = ap (position (R1 (string_of ps))) (let g : 64 * s + 1 ≡ suc (64 * s) = omega arith in g)

    pub following_place : (1 ≤ x) × (x ≤ length ps)
    following_place = (
      omega (arith, is, one, position-low (R1 (string_of ps)) (64 * s) l),
      omega (arith, is, position-le (R1 (string_of ps)) (64 * s + 1), (sizes ps are).long1),
    )

    module _ (y : ℕ) (f : y ≡ next_of (drop (x - 1 + 1) ps) (length ps + 1)) where
      next_is : y ≡ position (R0 (string_of ps)) (64 * s + 1)
      next_is =
          let low = following_place.0 in
          f ∙ ap (λ j. next_of (drop j ps) (length ps + 1)) (let g : x - 1 + 1 ≡ x = omega arith in g ∙ is ∙ one)
          ∙ sym (R0-place ps are (64 * s) l)
          ∙ ap (position (R0 (string_of ps))) (let g : suc (64 * s) ≡ 64 * s + 1 = omega arith in g)

      pub following_small : y ≤ length ps + 1
      following_small = omega (arith, next_is, position-le (R0 (string_of ps)) (64 * s + 1), (sizes ps are).long0)

      fits : sample_place second s + 4 ≤ length out
      fits = omega (arith, n.kept)

      away : (q : ℕ) → (sample_place second s ≤ q → q < sample_place second s + 4 → ⊥) → get_or (with_word out (sample_place second s) y) q 0 ≡ get_or out q 0
      away q h = put_byte out (sample_place second s) y fits q h

      pub following_next : (new : List ℕ) → new ≡ with_word out (sample_place second s) y → Following ps old new second (s + 1)
      following_next new g = subst (λ t. Following ps old t second (s + 1)) (sym g) (record {
        left = omega arith;
        words = λ w h. elim (ℕ_discrete w s) [
          | yes v ↦ ap (λ j. word_at (with_word out (sample_place second s) y) (sample_place second j)) v
              ∙ put_word out (sample_place second s) y fits (omega (arith, following_small)) ∙ next_is ∙ ap (λ j. position (R0 (string_of ps)) (64 * j + 1)) (sym v)
          | no v ↦ word-agree (with_word out (sample_place second s) y) out (sample_place second w) (λ q a c. away q (λ i j. v (omega arith))) ∙ n.words w (earlier w s h v)
        ];
        rest = λ w h m. word-agree (with_word out (sample_place second s) y) out (sample_place second w) (λ q a c. away q (λ i j. omega arith)) ∙ n.rest w (omega arith) m;
        apart = λ q h. away q (λ i j. h (omega arith) (omega arith)) ∙ n.apart q h;
        kept = put_length out (sample_place second s) y fits ∙ n.kept;
      })
