-- In an image that the check found sound: the ones before a zero, as its strings give them, are
-- those of its tree's string; and what single bits of its strings tell of them.
use Rattle.std.specs.Prelude.{Ok}
use mathlib.Core.Path.{◌≡◌, refl, sym, ap, ap₂, ◌∙◌}
use mathlib.Core.List.{List}
use Prim.Native.Nat.{ℕ, zero, suc, ◌+◌, ◌-◌, ◌≤◌, ◌<◌}
use native.Mathlib.Decide.{dec_lt}
use native.Mathlib.Numerals.{add-one}
use native.Mathlib.Omega.{arith}
use lib.IntN.{pos}
use lib.ListN.{length, get_or}
use Rattle.meaning.specs.Trees.{Tree, nodes}
use Rattle.meaning.specs.Parents.{parents, entry}
use Rattle.meaning.specs.Strings.{Bit, O, I, ones, lbs, R1, R0, string_of}
use Rattle.meaning.specs.Bytes.{value}
use Rattle.meaning.specs.Image.{parents_in}
use Rattle.meaning.specs.Questions.{leaf, is_none, children_of, answer}
use Rattle.theory.specs.Rank.{ones_before, counting}
use Rattle.theory.specs.ByStrings.{where_zero, bit_of, ones_before_by, by_strings}
use Rattle.theory.specs.Stages.{read_r1, read_r0, nodes_of}
use Rattle.theory.proofs.Bits.{I≢O}
use Rattle.theory.proofs.Scan.{nodes-ones}
use Rattle.theory.proofs.Odd.{tree-counts}
use Rattle.theory.proofs.Forms.{length-parents, string-parents}
use Rattle.theory.proofs.Navigate.{counted, children_are, ones_before_is, ones_before_mono, ones_before_upto, ones_before-all, is_placed}
use Rattle.theory.proofs.TreeImages.{is_image_lem, parents_in_lem}
use Rattle.theory.proofs.Stages.{image_stages, parts_read}
use Rattle.image_layout.specs.declared.Layout.{Layout}
use Rattle.image_found.specs.Checked.{checked}
use Rattle.image_found.proofs.Finding.{sound_known}
use Rattle.bits_byte.proofs.Values.{is_O, is_I}
use Rattle.nav_sibling_range.proofs.Own.{strings}
use Rattle.list_measure.specs.Levels.{ones_before_in}

-- ---- of any bits

-- as many numbers in a row as a node has children: none exactly if the bit is 0
some_or_none : (v : Bit) (i m mark : ℕ) → is_none (length (counting i m)) ≡ where_zero v 1 0 → mark ≡ value v → (mark ≡ 0 → m ≡ 0) × ((mark ≡ 0 → ⊥) → 0 < m)
unfolding value
some_or_none O i zero mark e f = (λ z. refl, λ z. absurd (z f))
some_or_none I i zero mark e f = absurd (omega arith)
some_or_none O i (suc m) mark e f = absurd (omega arith)
some_or_none I i (suc m) mark e f = (λ z. absurd (omega arith), λ z. omega arith)

-- ---- of an image

module _ (bytes : List ℕ) (i : Layout) (found : checked bytes ≡ Ok i) where
  counted-nodes : i.nodes ≡ nodes_of bytes
  counted-nodes = ap (λ j. j.nodes) (sound_known bytes i found).read

  pub parents-count : length (parents_in bytes) ≡ i.nodes
  parents-count = (parts_read bytes (sound_known bytes i found).image).count ∙ sym counted-nodes

  pub most_nodes : i.nodes ≤ 65535
  most_nodes = omega (arith, counted-nodes, (image_stages bytes (sound_known bytes i found).image).header.most)

  -- its tree
  tree : (t : Tree) × (nodes t ≤ 65535) × (parents_in bytes ≡ parents t) × (string_of (parents_in bytes) ≡ lbs t) × (i.nodes ≡ nodes t)
  tree =
      let k = sound_known bytes i found in
      let r = (is_image_lem bytes).0 k.image in
      let t = r.0.tree in
      let p : parents_in bytes ≡ parents t = ap parents_in (sym r.2) ∙ parents_in_lem r.0 r.1 in
      (t, r.1.small, p, ap string_of p ∙ string-parents t, sym parents-count ∙ ap length p ∙ length-parents t)

  pub ones_before_in_mono : (z : ℕ) → ones_before_in bytes z ≤ ones_before_in bytes (suc z)
  unfolding ones_before_in
  ones_before_in_mono z = ones_before_mono (string_of (parents_in bytes)) z

  pub ones_before_in_upto : (y z : ℕ) → y ≤ z → ones_before_in bytes y ≤ ones_before_in bytes z
  unfolding ones_before_in
  ones_before_in_upto y z h = ones_before_upto (string_of (parents_in bytes)) y z h

  pub ones_before_in_most : (z : ℕ) → ones_before_in bytes z ≤ i.nodes
  unfolding ones_before_in
  ones_before_in_most z = let r = tree in omega (arith, ones_before-all (string_of (parents_in bytes)) z, ap ones r.3, nodes-ones r.0, r.4)

  pub ones_before_in_kids : (x : ℕ) → children_of (parents_in bytes) x ≡ counting (suc (ones_before_in bytes x)) (ones_before_in bytes (suc x) - ones_before_in bytes x)
  unfolding ones_before_in
  ones_before_in_kids x =
      let r = tree in
      let t = r.0 in
      let e : (z : ℕ) → ones_before (lbs t) z ≡ ones_before_in bytes z = λ z. ap (λ s. ones_before s z) (sym r.3) in
      ap (λ ps. children_of ps x) r.2 ∙ children_are t x
      ∙ counted (1 + ones_before (lbs t) x) (suc (ones_before_in bytes x)) (ones_before (lbs t) (suc x) - ones_before (lbs t) x) (ones_before_in bytes (suc x) - ones_before_in bytes x)
      (omega (arith, e x)) (omega (arith, e x, e (suc x)))

  -- its strings are those of the tree
  read1 : read_r1 bytes ≡ R1 (lbs tree.0)
  read1 = sym (parts_read bytes (sound_known bytes i found).image).first ∙ ap R1 tree.3

  read0 : read_r0 bytes ≡ R0 (lbs tree.0)
  read0 = sym (parts_read bytes (sound_known bytes i found).image).second ∙ ap R0 tree.3

  is_in : (z : ℕ) → ones_before (lbs tree.0) z ≡ ones_before_in bytes z
  unfolding ones_before_in
  is_in z = ap (λ s. ones_before s z) (sym tree.3)

  pub by_is_in : (z : ℕ) → 1 ≤ z → z ≤ i.nodes + 1 → ones_before_by (read_r1 bytes) (read_r0 bytes) z ≡ ones_before_in bytes z
  unfolding ones_before_by
  by_is_in z g h =
      let t = tree.0 in
      ap₂ (λ a b. ones_before_by a b z) read1 read0 ∙ go t z g (omega (arith, tree.4, nodes-ones t, tree-counts t)) ∙ is_in z
    where
      go : (t : Tree) (z : ℕ) → 1 ≤ z → z ≤ suc (ones (lbs t)) → ones_before_by (R1 (lbs t)) (R0 (lbs t)) z ≡ ones_before (lbs t) z
      go t zero g h = absurd (omega arith)
      go t (suc z) g h = sym (ones_before_is t (suc z) g (omega (arith, tree-counts t)))

  -- ---- single bits

  -- node x has a child exactly if R0 has 1 at x
  pub child_mark : (x mark : ℕ) → 1 ≤ x → x ≤ i.nodes → mark ≡ value (bit_of (read_r0 bytes) x)
      → (mark ≡ 0 → ones_before_in bytes (x + 1) ≡ ones_before_in bytes x) × ((mark ≡ 0 → ⊥) → ones_before_in bytes x < ones_before_in bytes (x + 1))
  unfolding answer by_strings
  child_mark x mark g h e =
      let f = ap (λ cs. is_none (length cs)) (sym (ones_before_in_kids x)) ∙ (strings bytes i found).own leaf x (pos 0) g h in
      let r = some_or_none (bit_of (read_r0 bytes) x) (suc (ones_before_in bytes x)) (ones_before_in bytes (suc x) - ones_before_in bytes x) mark f e in
      let m = ones_before_in_mono x in
      let k = ap (ones_before_in bytes) (add-one x) in
      (λ z. let q = r.0 z in omega arith, λ z. let q = r.1 z in omega arith)

  -- of the children of node x, y is the last exactly if R1 has 1 at y
  pub last_mark : (x y mark : ℕ) → ones_before_in bytes x < y → y ≤ ones_before_in bytes (x + 1) → mark ≡ value (bit_of (read_r1 bytes) y)
      → (mark ≡ 0 → y < ones_before_in bytes (x + 1)) × ((mark ≡ 0 → ⊥) → y ≡ ones_before_in bytes (x + 1))
  last_mark x zero mark g h e = absurd (omega arith)
  last_mark x (suc y) mark g h e =
      let t = tree.0 in
      let r = is_placed t y (omega (arith, ones_before_in_most (x + 1), tree.4, nodes-ones t)) in
      let p = entry (parents t) (suc y) in
      let same : p ≡ x = only p (omega (arith, r.above, is_in p)) (omega (arith, r.upto, is_in (suc p), ap (ones_before_in bytes) (add-one p))) in
      let bit : bit_of (read_r1 bytes) (suc y) ≡ get_or (R1 (lbs t)) (suc y - 1) I = ap (λ s. bit_of s (suc y)) read1 in
      let end : ones_before (lbs t) (suc p) ≡ ones_before_in bytes (x + 1) = is_in (suc p) ∙ ap (ones_before_in bytes) (let q : suc p ≡ x + 1 = omega arith in q) in (
        λ z. omega (arith, r.next.0 (sym bit ∙ is_O (bit_of (read_r1 bytes) (suc y)) mark e z)),
        λ z. elim (dec_lt (suc y) (ones_before_in bytes (x + 1))) [
          | yes l ↦ I≢O (sym (is_I (bit_of (read_r1 bytes) (suc y)) mark e z) ∙ bit ∙ r.next.1 (omega arith))
          | no l ↦ omega arith
        ],
      )
    where
      -- the one parent
      only : (p : ℕ) → ones_before_in bytes p < suc y → suc y ≤ ones_before_in bytes (p + 1) → p ≡ x
      only p above upto = elim (dec_lt p x) [
        | yes l ↦ absurd (omega (arith, ones_before_in_upto (p + 1) x (omega arith)))
        | no l ↦ elim (dec_lt x p) [
          | yes m ↦ absurd (omega (arith, ones_before_in_upto (x + 1) p (omega arith)))
          | no m ↦ omega arith
        ]
      ]
