-- A string and its samples in an image.
use mathlib.Core.Path.{◌≡◌, ap, ◌∙◌}
use mathlib.Core.List.{List}
use Prim.Native.Nat.{ℕ, ◌+◌, ◌*◌, ◌/◌, ◌%◌, ◌≤◌, ◌<◌}
use native.Mathlib.Omega.{arith}
use lib.ListN.{length, get_or}
use lib.Seq.{ext_get_or}
use Rattle.meaning.specs.Strings.{Bit, O}
use Rattle.meaning.specs.Bytes.{bit_at}
use Rattle.meaning.specs.Image.{string_blocks, string_in}
use Rattle.theory.specs.Layout.{bit_place, sample_place}
use Rattle.theory.proofs.TreeImages.{length-string_in, string_in-at}
use Rattle.seal_r1.specs.Passes.{Part}
use Rattle.seal_r1.proofs.Placing.{bit-agree, word-agree}

module _ (bytes : List ℕ) (from B at S : ℕ) (r : List Bit) (p : Part bytes from B at S r) where
  pub part_agree : (new : List ℕ)
      → ((q : ℕ) → 512 * from ≤ q → q < 512 * (from + B) → 4 ≤ q % 512 → get_or new q 0 ≡ get_or bytes q 0)
      → ((q : ℕ) → 512 * at ≤ q → q < 512 * (at + S) → get_or new q 0 ≡ get_or bytes q 0)
      → Part new from B at S r
  part_agree new h g = record {
    bits = λ i l. bit-agree new bytes (bit_place from i) (h (bit_place from i / 8) (omega arith) (omega arith) (omega arith)) ∙ p.bits i l;
    words = λ w l. word-agree new bytes (sample_place at w) (λ q a b. g q (omega arith) (omega arith)) ∙ p.words w l;
  }

pub part_string : (bytes : List ℕ) (from at S : ℕ) (r : List Bit) → Part bytes from (string_blocks (length r)) at S r → string_in bytes from 0 (length r) ≡ r
part_string bytes from at S r p =
    let l = length-string_in bytes from 0 (length r) in
    ext_get_or O (string_in bytes from 0 (length r)) r l
    (λ i h. let g : i < length r = omega arith in
    string_in-at bytes from 0 (length r) i g ∙ ap (λ k. bit_at bytes (bit_place from k)) (let e : 0 + i ≡ i = omega arith in e) ∙ p.bits i (omega arith))
