-- A one of a string, by the sample before it and the block that has it.
use mathlib.Core.Path.{◌≡◌, sym, ap, ◌∙◌}
use mathlib.Core.List.{List}
use Prim.Native.Nat.{ℕ, suc, ◌+◌, ◌-◌, ◌*◌, ◌/◌, ◌≤◌, ◌<◌}
use native.Mathlib.Omega.{arith}
use lib.ListN.{take}
use Rattle.meaning.specs.Strings.{ones}
use Rattle.meaning.specs.Image.{string_in}
use Rattle.theory.specs.Rank.{position}
use Rattle.theory.specs.Layout.{sample_in}
use Rattle.theory.specs.Stages.{Sampled}
use Rattle.theory.proofs.Navigate.{one-there, place_of_one}
use Rattle.theory.proofs.Payloads.{length-samples, sample_at}
use Rattle.theory.proofs.TreeImages.{length-string_in}
use Rattle.theory.proofs.InBlocks.{string_in-cut}
use Rattle.theory.proofs.Stages.{sampled-word}
use Rattle.image_string.specs.Parts.{ones_to}
use Rattle.image_string.proofs.Ones.{ones_to-take}
use Rattle.bits_select.proofs.Reaching.{same_place}

-- one number k, which is in block j, by bit i of that block
module _ (bytes : List ℕ) (first n i more j k : ℕ) (block : i / 4000 ≡ j) (number : ones_to bytes first i + more + 1 ≡ k) (inside : k ≤ ones_to bytes first (4000 * (j + 1))) where
  pub one-there-after : ones_to bytes first i + more < ones_to bytes first (4000 * (i / 4000 + 1))
  one-there-after = omega (arith, ap (λ t. ones_to bytes first (4000 * (t + 1))) block)

  pub one_found : k ≤ ones_to bytes first n → (x : ℕ) → x ≡ position (string_in bytes first 0 (4000 * (i / 4000 + 1))) (ones_to bytes first i + more + 1)
      → x ≡ position (string_in bytes first 0 n) k
  one_found h x e =
      e ∙ ap (λ t. position (string_in bytes first 0 (4000 * (t + 1))) (ones_to bytes first i + more + 1)) block
      ∙ ap (position (string_in bytes first 0 (4000 * (j + 1)))) number
      ∙ same_place (string_in bytes first) (λ a b p. string_in-cut bytes first a b p) (length-string_in bytes first) 0 n (4000 * (j + 1)) k (omega arith) h inside

-- before a one that k others come before
pub one-start : (bytes : List ℕ) (first n k x : ℕ) → k < ones_to bytes first n → x ≡ position (string_in bytes first 0 n) (k + 1)
    → (1 ≤ x) × (x ≤ n) × (ones_to bytes first (x - 1) ≡ k)
one-start bytes first n k x h e =
    let r = string_in bytes first 0 n in
    let o = one-there r k h in
    let i = o.0 in
    let l : i < n = omega (arith, o.1, length-string_in bytes first 0 n) in
    let f : x ≡ suc i = e ∙ ap (position r) (let g : k + 1 ≡ suc (ones (take i r)) = omega (arith, o.3) in g) ∙ place_of_one r i o.1 o.2 in
    (omega arith, omega arith, ap (ones_to bytes first) (let g : x - 1 ≡ i = omega arith in g) ∙ sym (ones_to-take bytes first i n (omega arith)) ∙ o.3)

-- sample number q is the position of a one that 64 q others come before
pub sample_start : (bytes : List ℕ) (from first n m q x : ℕ) → m ≡ ones_to bytes first n → Sampled bytes from m (string_in bytes first 0 n) → 64 * q < m
    → x ≡ sample_in bytes from q → (1 ≤ x) × (x ≤ n) × (ones_to bytes first (x - 1) ≡ 64 * q)
sample_start bytes from first n m q x e s h w =
    let r = string_in bytes first 0 n in
    one-start bytes first n (64 * q) x (omega arith) (w ∙ sampled-word bytes from m r s q (omega arith) ∙ sample_at r q (omega (arith, length-samples r)))
