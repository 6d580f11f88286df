-- The ends of a run of siblings, found in the block of a node.
use mathlib.Core.Path.{◌≡◌, refl, sym, ap, ◌∙◌}
use mathlib.Core.List.{List}
use Prim.Native.Nat.{ℕ, zero, suc, ◌+◌, ◌-◌, ◌*◌, ◌/◌, ◌%◌, ◌≤◌, ◌<◌}
use native.Mathlib.Omega.{arith}
use native.Mathlib.Decide.{dec_le}
use lib.ListN.{length}
use Rattle.meaning.specs.Strings.{Bit}
use Rattle.meaning.specs.Bytes.{bit_at, value}
use Rattle.theory.specs.Rank.{ones_left, position}
use Rattle.theory.specs.Layout.{bit_place}
use Rattle.theory.specs.ByStrings.{bit_of}
use Rattle.theory.specs.Stages.{read_r1}
use Rattle.image_layout.specs.declared.Layout.{Layout}
use Rattle.bits_nearest.specs.Found.{IsLast, IsFirst}
use Rattle.nav_strings.specs.Nodes.{IsNode}
use Rattle.nav_strings.proofs.Bits.{bit1}
use Rattle.nav_sibling_range.proofs.Counting.{left_next, position_of_one, zero-not-last}
use Rattle.nav_sibling_range.proofs.Own.{strings}

-- bit k of the block that has bit i
place_in : (i k : ℕ) → k < 4000 → bit_place 1 (i - i % 4000 + k) ≡ 8 * (512 * (1 + i / 4000) + 4) + k
place_in i k h = omega arith

-- ---- bits of R1, and a node

module _ {bytes : List ℕ} {i : Layout} {x : ℕ} (node : IsNode bytes i x) where
  abbrev r1 : List Bit
  r1 = read_r1 bytes

  -- bit y, from 1, at its place
  abbrev there : ℕ → ℕ
  there y = value (bit_at bytes (bit_place 1 (y - 1)))

  read : (y : ℕ) → 1 ≤ y → y ≤ i.nodes → there y ≡ value (bit_of r1 y)
  read y g h = bit1 (record { sound = node.sound; some = g; most = h }) (there y) refl

  inside : (y : ℕ) → y ≤ i.nodes → y ≤ length r1
  inside y h = omega (arith, (strings bytes i node.sound).length1)

  none_between : (a d : ℕ) → 1 ≤ a → a + d ≤ i.nodes + 1 → ((y : ℕ) → a ≤ y → y < a + d → there y ≡ 0) → ones_left r1 (a + d) ≡ ones_left r1 a
  none_between a zero g h z = ap (ones_left r1) (let e : a + 0 ≡ a = omega arith in e)
  none_between a (suc d) g h z =
      omega (
        arith,
        ap (ones_left r1) (let e : a + suc d ≡ suc (a + d) = omega arith in e),
        left_next r1 (a + d) (omega arith) (inside (a + d) (omega arith)),
        read (a + d) (omega arith) (omega arith),
        z (a + d) (omega arith) (omega arith),
        none_between a d g (omega arith) (λ y k l. z y k (omega arith)),
      )

  met_left : (p : ℕ) → 1 ≤ p → p < x → ((y : ℕ) → p < y → y < x → there y ≡ 0) → there p ≡ 1 → p ≡ position r1 (ones_left r1 x)
  met_left p k l z e =
      sym (
      ap (position r1) (
      let f : ones_left r1 x ≡ suc (ones_left r1 p) =
      omega (
        arith,
        e,
        read p k (omega arith),
        left_next r1 p k (inside p (omega arith)),
        none_between (suc p) (x - suc p) (omega arith) (omega arith) (λ y m n. z y m (omega arith)),
        ap (ones_left r1) (let f : suc p + (x - suc p) ≡ x = omega arith in f),
      ) in
      f
      )
      ∙ position_of_one r1 p k (inside p (omega arith)) (sym (read p k (omega arith)) ∙ e)
      )

  met_right : (p : ℕ) → x ≤ p → ((y : ℕ) → x ≤ y → y < p → there y ≡ 0) → there p ≡ 1 → p ≡ position r1 (ones_left r1 x + 1)
  met_right p l z e = go (elim (dec_le p i.nodes) [
    | yes n ↦ n
    | no n ↦ absurd (
        let s = strings bytes i node.sound in
        let m = i.nodes in
        omega (
          arith,
          s.length1,
          zero-not-last i.runs r1 m s.ended1 (omega arith) (inside m (omega arith)) (sym (read m (omega arith) (omega arith)) ∙ z m node.most (omega arith)),
        )
        )
  ])
    where
      go : p ≤ i.nodes → p ≡ position r1 (ones_left r1 x + 1)
      go n =
          sym (
          ap (position r1) (
          let f : ones_left r1 x + 1 ≡ suc (ones_left r1 p) =
          omega (
            arith,
            none_between x (p - x) node.some (omega arith) (λ y k m. z y k (omega arith)),
            ap (ones_left r1) (let f : x + (p - x) ≡ p = omega arith in f),
          ) in
          f
          )
          ∙ position_of_one r1 p (omega arith) (inside p n) (sym (read p (omega arith) n) ∙ e)
          )

  -- ---- what was found in the block of x

  abbrev n : ℕ
  n = (x - 1) % 4000

  abbrev bits : ℕ
  bits = 8 * (512 * (1 + (x - 1) / 4000) + 4)

  in_block : (y k : ℕ) → k < 4000 → y ≡ x - n + k → there y ≡ value (bit_at bytes (bits + k))
  in_block y k l e =
      ap (λ p. value (bit_at bytes p)) (
      ap (bit_place 1) (let f : y - 1 ≡ x - 1 - (x - 1) % 4000 + k = omega arith in f) ∙ place_in (x - 1) k l
      )

  pub near_left : (r : ℕ) → IsLast bytes bits n r → x - 1 - n + r ≡ position r1 (ones_left r1 x)
  near_left r one =
      let p = x - 1 - n + r in
      let w = one.within in
      let s = one.some in
      met_left p (omega arith) (omega arith)
      (λ y k m. in_block y (y - (x - n)) (omega arith) (omega arith) ∙ one.clear (y - (x - n)) (omega arith) (omega arith))
      (in_block p (r - 1) (omega arith) (omega arith) ∙ one.found)

  pub near_right : (r : ℕ) → IsFirst bytes bits n r → x - n + r ≡ position r1 (ones_left r1 x + 1)
  near_right r one =
      let p = x - n + r in
      let w = one.within in
      let f = one.from in
      met_right p (omega arith)
      (λ y k m. in_block y (y - (x - n)) (omega arith) (omega arith) ∙ one.clear (y - (x - n)) (omega arith) (omega arith))
      (in_block p r (omega arith) (omega arith) ∙ one.found)
