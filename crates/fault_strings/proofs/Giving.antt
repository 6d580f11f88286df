-- Both strings, from their last bits and what is counted before R0's.
use mathlib.Core.Path.{◌≡◌, sym, ap, ◌∙◌}
use mathlib.Core.List.{List}
use Prim.Native.Nat.{ℕ, ◌+◌, ◌-◌, ◌≤◌}
use native.Mathlib.Omega.{arith}
use Rattle.meaning.specs.Bytes.{value, bit_at}
use Rattle.theory.specs.Layout.{bit_place}
use Rattle.image_layout.specs.declared.Layout.{Layout}
use Rattle.image_string.specs.Parts.{ones_to}
use Rattle.image_string.proofs.Ones.{ones_to-next}
use Rattle.image_string.proofs.Pieces.{ended, ended_last}
use Rattle.fault_strings.specs.Given.{StepCounted, StringsGiven}

module _ (bytes : List ℕ) (layout : Layout) (some : 1 ≤ layout.nodes) where
  abbrev n : ℕ
  n = layout.nodes

  abbrev m : ℕ
  m = layout.runs

  abbrev z : ℕ
  z = layout.r0_block

  module _ (x1 : ℕ) (read1 : x1 ≡ value (bit_at bytes (bit_place 1 (n - 1)))) where
    pub last_of_r1 : StringsGiven bytes layout → x1 ≡ 1
    last_of_r1 g = ended_last bytes 1 n m x1 some read1 g.ended1

    module _ (x0 : ℕ) (read0 : x0 ≡ value (bit_at bytes (bit_place z n))) where
      read : x0 ≡ value (bit_at bytes (bit_place z (n + 1 - 1)))
      read = read0 ∙ ap (λ i. value (bit_at bytes (bit_place z i))) (let e : n ≡ n + 1 - 1 = omega arith in e)

      pub last_of_r0 : StringsGiven bytes layout → x0 ≡ 1
      last_of_r0 g = ended_last bytes z (n + 1) m x0 (omega arith) read g.ended0

      module _ (one1 : x1 ≡ 1) (one0 : x0 ≡ 1) where
        -- the last bit of R0 is one more
        one_more : ones_to bytes z (n + 1) ≡ ones_to bytes z n + 1
        one_more = ones_to-next bytes z n x0 read0 ∙ ap (λ k. ones_to bytes z n + k) one0

        pub given : StepCounted bytes z n m → StringsGiven bytes layout
        given s = record {
          ended1 = ended bytes 1 n m x1 some read1 s.ones1 one1;
          ended0 = ended bytes z (n + 1) m x0 (omega arith) read (one_more ∙ s.ones0) one0;
          in_step = s.in_step;
        }

        pub counted : StringsGiven bytes layout → StepCounted bytes z n m
        counted g = record { ones1 = g.ended1.count; ones0 = sym one_more ∙ g.ended0.count; in_step = g.in_step }
