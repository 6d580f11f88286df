-- A bit of a string of a sound image, read from its block.
use mathlib.Core.Path.{◌≡◌, refl, sym, ap, subst, ◌∙◌}
use mathlib.Core.List.{List, [], ◌∷◌}
use Prim.Native.Nat.{ℕ, zero, suc, ◌+◌, ◌-◌, ◌≤◌, ◌<◌}
use native.Mathlib.Omega.{arith}
use lib.ListN.{length, get_or}
use Rattle.meaning.specs.Strings.{Bit, O, I}
use Rattle.meaning.specs.Bytes.{bit_at, value}
use Rattle.meaning.specs.Image.{string_in}
use Rattle.theory.specs.Layout.{bit_place}
use Rattle.theory.specs.ByStrings.{bit_of}
use Rattle.theory.specs.Stages.{nodes_of, read_r1, read_r0, r0_block}
use Rattle.theory.proofs.TreeImages.{length-string_in, string_in-at}
use Rattle.image_layout.specs.declared.Layout.{Layout}
use Rattle.image_found.specs.Checked.{layout_in}
use Rattle.image_found.proofs.Finding.{sound_known}
use Rattle.nav_strings.specs.Nodes.{IsNode}
use Rattle.nav_strings.proofs.Strings.{in_r1, in_r0}

-- at a position there is, what is elsewhere is no matter
pub any_else : (r : List Bit) (i : ℕ) → i < length r → get_or r i I ≡ get_or r i O
any_else [] i h = absurd (omega arith)
any_else (b ∷ r) zero h = refl
any_else (b ∷ r) (suc i) h = any_else r i (omega arith)

bit_read : (bytes : List ℕ) (first n x y : ℕ) → 1 ≤ x → x ≤ n → y ≡ value (bit_at bytes (bit_place first (x - 1))) → y ≡ value (bit_of (string_in bytes first 0 n) x)
bit_read bytes first n x y g h e =
    e ∙ ap (λ p. value (bit_at bytes (bit_place first p))) (let f : x - 1 ≡ 0 + (x - 1) = omega arith in f)
    ∙ ap value (sym (any_else (string_in bytes first 0 n) (x - 1) (omega (arith, length-string_in bytes first 0 n)) ∙ string_in-at bytes first 0 n (x - 1) (omega arith)))

-- the layout that the check found is the one that the header gives
module _ {bytes : List ℕ} {i : Layout} {x : ℕ} (node : IsNode bytes i x) where
  pub node_in : IsNode bytes (layout_in bytes) x
  node_in = subst (λ l. IsNode bytes l x) (sound_known bytes i node.sound).read node

  pub r0_begins : i.r0_block ≡ r0_block (nodes_of bytes)
  r0_begins = ap (λ (l : Layout). l.r0_block) (sound_known bytes i node.sound).read

module _ {bytes : List ℕ} {i : Layout} {x : ℕ} (node : IsNode bytes i x) (y : ℕ) where
  pub bit1 : y ≡ value (bit_at bytes (bit_place 1 (x - 1))) → y ≡ value (bit_of (read_r1 bytes) x)
  bit1 e = in_r1 bytes i node.sound (λ r. value (bit_of r x)) y (bit_read bytes 1 i.nodes x y node.some node.most e)

  pub bit0 : y ≡ value (bit_at bytes (bit_place i.r0_block (x - 1))) → y ≡ value (bit_of (read_r0 bytes) x)
  bit0 e = in_r0 bytes i node.sound (λ r. value (bit_of r x)) y (bit_read bytes i.r0_block (i.nodes + 1) x y node.some (omega (arith, node.most)) e)
