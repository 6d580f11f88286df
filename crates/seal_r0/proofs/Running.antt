-- The passes over a parent list one after the other: both strings and their samples are there.
use mathlib.Core.Path.{◌∙◌, subst, subst₂}
use mathlib.Core.List.{List}
use Prim.Native.Nat.{ℕ, ◌+◌, ◌/◌, ◌≤◌}
use native.Mathlib.Omega.{arith}
use lib.ListN.{length}
use Rattle.meaning.specs.Parents.{IsParents}
use Rattle.meaning.specs.Strings.{R1, R0, string_of}
use Rattle.meaning.specs.Image.{string_blocks}
use Rattle.theory.specs.Layout.{bit_place, sample_place}
use Rattle.theory.specs.Stages.{blocks_of_samples}
use Rattle.theory.proofs.Payloads.{ones-le, length-samples, sample_at}
use Rattle.parents_check.proofs.Rising.{good_parents}
use Rattle.seal_r1_bits.specs.Listed.{runs_in}
use Rattle.seal_r1_bits.proofs.Entries.{length-ends}
use Rattle.seal_r1.specs.Passes.{Part, Blank, R1SamplesKnown, R1Written, R0Written, R0SamplesWritten, RoomForStrings, StringsWritten}
use Rattle.seal_r1.proofs.Placing.{bit-agree, word-agree}
use Rattle.seal_r0.proofs.Parting.{part_agree}

module _ (ps old : List ℕ) (zeros first second : ℕ) (r : RoomForStrings old ps zeros first second) where
  are : IsParents ps
  are = good_parents ps r.some r.good

  pub runs-few : runs_in ps ≤ length ps
  runs-few = omega (arith, ones-le (R1 (string_of ps)), length-ends ps are)

  module _ (one : List ℕ) (e : R1Written old one ps first) where
    module _ (two : List ℕ) (g : R0Written one two ps zeros) where
      pub known : R1SamplesKnown two ps first
      known w h =
          word-agree two one (sample_place first w) (λ q a b. g.apart q (λ x y. omega (arith, r.is_r0, r.is_first)))
          ∙ e.part.words w (omega arith) ∙ sample_at (R1 (string_of ps)) w (omega (arith, length-samples (R1 (string_of ps))))

      pub blank_second : Blank two second (blocks_of_samples (runs_in ps))
      blank_second q a b =
          g.apart q (λ x y. omega (arith, r.is_r0, r.is_second))
          ∙ e.apart q (λ x y. omega (arith, r.is_second)) (λ x y. omega (arith, r.is_first, r.is_second))
          ∙ r.blank q (omega (arith, r.is_second))

      pub all_ran : (three : List ℕ) → R0SamplesWritten two three ps second → StringsWritten old three ps
      all_ran three f =
          let n = length ps in
          let S = blocks_of_samples (runs_in ps) in
          record {
            first = subst (λ k. Part three 1 (string_blocks n) k S (R1 (string_of ps))) r.is_first
                (part_agree one 1 (string_blocks n) first S (R1 (string_of ps)) e.part three
                (λ q a b c. f.apart q (λ x y. omega (arith, r.is_second)) ∙ g.apart q (λ x y. omega (arith, r.is_r0)))
                (λ q a b. f.apart q (λ x y. omega (arith, r.is_first, r.is_second)) ∙ g.apart q (λ x y. omega (arith, r.is_r0, r.is_first))));
            second = subst₂ (λ z k. Part three z (string_blocks (n + 1)) k S (R0 (string_of ps))) r.is_r0 r.is_second (record {
              bits = λ i h. bit-agree three two (bit_place zeros i) (f.apart (bit_place zeros i / 8) (λ x y. omega (arith, r.is_r0, r.is_second))) ∙ g.bits i h;
              words = f.words;
            });
            head = λ q h. f.apart q (λ x y. omega (arith, r.is_second)) ∙ g.apart q (λ x y. omega (arith, r.is_r0))
                ∙ e.apart q (λ x y. omega arith) (λ x y. omega (arith, r.is_first)) ∙ r.blank q (omega arith);
            tail = λ q h. f.apart q (λ x y. omega (arith, r.is_second)) ∙ g.apart q (λ x y. omega (arith, r.is_r0))
                ∙ e.apart q (λ x y. omega arith) (λ x y. omega (arith, r.is_first));
          }
