-- What the end of the first tree says of bits that are read as one string.
use mathlib.Core.Path.{◌≡◌, sym, ap, ◌∙◌}
use mathlib.Core.List.{List}
use Prim.Native.Nat.{ℕ, ◌+◌, ◌-◌, ◌≤◌}
use native.Mathlib.Numerals.{add-one}
use native.Mathlib.Omega.{arith}
use Rattle.meaning.specs.Strings.{ones}
use Rattle.meaning.specs.Bytes.{bits_from}
use Rattle.meaning.specs.Scan.{one, place}
use Rattle.theory.proofs.Packing.{bits-length}
use Rattle.string_end_laws.specs.Ends.{over, refused, tree_end}
use Rattle.string_end.specs.Ends.{end_of}
use Rattle.string_end.specs.declared.TreeEnd.{TreeEnd}
use Rattle.std.specs.Prelude.{Result, Ok, Err}
use Rattle.string_end_laws.proofs.Ends.{over-within, refused-within, one-refused, one-whole, one-past}

module _ (b : List ℕ) (L : ℕ) (end : Result TreeEnd ℕ) (found : end_of end ≡ tree_end (bits_from b 0 (L - 0)) 0) where
  ended : tree_end (bits_from b 0 L) 0 ≡ end_of end
  ended = ap (λ n. tree_end (bits_from b 0 n) 0) (let e : L ≡ L - 0 = omega arith in e) ∙ sym found

  module _ {x : ℕ} (is : end ≡ Err x) where
    here : tree_end (bits_from b 0 L) 0 ≡ refused x
    here = ended ∙ ap end_of is

    pub refused-place : place one (bits_from b 0 L) ≡ x
    refused-place = one-refused (bits_from b 0 L) here

    pub refused-from : 1 ≤ x
    refused-from = omega (arith, (refused-within (bits_from b 0 L) 0 here).0)

    pub refused_to : x ≤ L + 1
    refused_to = omega (arith, (refused-within (bits_from b 0 L) 0 here).1, bits-length b 0 L)

  module _ {tree : TreeEnd} (is : end ≡ Ok tree) where
    there : tree_end (bits_from b 0 L) 0 ≡ over tree.next tree.size
    there = ended ∙ ap end_of is

    pub over_to : tree.next ≤ L
    over_to = omega (arith, (over-within (bits_from b 0 L) 0 there).1, bits-length b 0 L)

    pub over-size : tree.size ≤ 65535
    over-size = (over-within (bits_from b 0 L) 0 there).3

    pub over-place : (tree.next ≡ L → ⊥) → place one (bits_from b 0 L) ≡ tree.next + 1
    over-place h = one-past (bits_from b 0 L) there (omega (arith, over_to, bits-length b 0 L)) ∙ sym (add-one tree.next)

    pub over-whole : tree.next ≡ L → (place one (bits_from b 0 L) ≡ 0) × (ones (bits_from b 0 L) ≡ tree.size)
    over-whole h = one-whole (bits_from b 0 L) there (omega (arith, bits-length b 0 L))
