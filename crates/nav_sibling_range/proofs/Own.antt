-- What the strings of a sound image give: the answers that the tree itself gives, each from ones
-- left of a position and positions of ones.
use Rattle.std.specs.Prelude.{Ok}
use mathlib.Core.Path.{◌≡◌, sym, ap, ap₂, ◌∙◌, subst}
use mathlib.Core.Bool.{true}
use mathlib.Core.List.{List}
use Prim.Native.Nat.{ℕ, zero, suc, ◌+◌, ◌≤◌, ◌<◌}
use native.Mathlib.Omega.{arith}
use lib.IntN.{ℤ}
use lib.ListN.{length}
use Rattle.meaning.specs.Strings.{Bit, lbs, R1, R0, string_of}
use Rattle.meaning.specs.Parents.{parents}
use Rattle.meaning.specs.Image.{parents_in, is_image, string_in}
use Rattle.meaning.specs.Questions.{Ask, answer}
use Rattle.theory.specs.Rank.{ones_left, position}
use Rattle.theory.specs.ByStrings.{ones_before_by, by_strings}
use Rattle.theory.specs.Stages.{Ended, read_r1, read_r0, nodes_of, r0_block}
use Rattle.theory.proofs.TreeImages.{is_image_lem, parents_in_lem, length-string_in}
use Rattle.theory.proofs.InBlocks.{string_in-cut}
use Rattle.theory.proofs.Forms.{length-parents, string-parents}
use Rattle.theory.proofs.Stages.{image_stages, parts_read}
use Rattle.theory.proofs.ByStrings.{answers_by_strings}
use Rattle.image_layout.specs.declared.Layout.{Layout}
use Rattle.image_found.specs.Checked.{checked}
use Rattle.image_found.proofs.Finding.{sound_known}
use Rattle.bits_select.proofs.Reaching.{place-le}
use Rattle.nav_strings.specs.Nodes.{IsNode}
use Rattle.nav_sibling_range.proofs.Counting.{left_missing}

-- ---- the answers of an image's own tree

image-answers : (bytes : List ℕ) → is_image bytes ≡ true → (ask : Ask) (x : ℕ) (z : ℤ) → 1 ≤ x → x ≤ nodes_of bytes
    → answer (parents_in bytes) ask x z ≡ by_strings (read_r1 bytes) (read_r0 bytes) ask x z
image-answers bytes e ask x z g h =
    let r = (is_image_lem bytes).0 e in
    let t = r.0.tree in
    let p = parts_read bytes e in
    let list : parents_in bytes ≡ parents t = ap parents_in (sym r.2) ∙ parents_in_lem r.0 r.1 in
    let string : string_of (parents_in bytes) ≡ lbs t = ap string_of list ∙ string-parents t in
    ap (λ ps. answer ps ask x z) list
    ∙ answers_by_strings t ask x g (omega (arith, p.count, ap length list, length-parents t)) z
    ∙ ap₂ (λ a b. by_strings a b ask x z) (sym (ap R1 string) ∙ p.first) (sym (ap R0 string) ∙ p.second)

-- the strings of an image that was found sound
pub record Strings (bytes : List ℕ) (i : Layout) : Type 0 where
  pub most : i.nodes ≤ 65535
  pub marked : i.runs ≤ i.nodes
  pub length1 : length (read_r1 bytes) ≡ i.nodes
  pub length0 : length (read_r0 bytes) ≡ i.nodes + 1
  pub ended1 : Ended i.runs (read_r1 bytes)
  pub ended0 : Ended i.runs (read_r0 bytes)
  pub own : (ask : Ask) (x : ℕ) (z : ℤ) → 1 ≤ x → x ≤ i.nodes → answer (parents_in bytes) ask x z ≡ by_strings (read_r1 bytes) (read_r0 bytes) ask x z

pub strings : (bytes : List ℕ) (i : Layout) → checked bytes ≡ Ok i → Strings bytes i
strings bytes i found =
    let k = sound_known bytes i found in
    let s = image_stages bytes k.image in
    subst (Strings bytes) (sym k.read) (record {
      most = s.header.most;
      marked = s.header.runs_most;
      length1 = length-string_in bytes 1 0 (nodes_of bytes);
      length0 = length-string_in bytes _ 0 (nodes_of bytes + 1);
      ended1 = s.ended1;
      ended0 = s.ended0;
      own = image-answers bytes k.image;
    })

-- what the strings give for a node is the answer
pub given : {bytes : List ℕ} {i : Layout} {x : ℕ} → IsNode bytes i x → (ask : Ask) (z : ℤ) (y : ℕ) → y ≡ by_strings (read_r1 bytes) (read_r0 bytes) ask x z → y ≡ answer (parents_in bytes) ask x z
given {bytes} {i} {x} node ask z y e = e ∙ sym ((strings bytes i node.sound).own ask x z node.some node.most)

-- there is one more one to select in R1
pub more1 : {bytes : List ℕ} {i : Layout} {x : ℕ} → IsNode bytes i x → ones_left (read_r1 bytes) x < i.runs
more1 {bytes} {i} {x} node =
    let s = strings bytes i node.sound in
    left_missing i.runs (read_r1 bytes) x s.ended1 node.some (omega (arith, node.most, s.length1))

module _ (bytes : List ℕ) (i : Layout) (found : checked bytes ≡ Ok i) where
  abbrev r1 : List Bit
  r1 = read_r1 bytes

  abbrev r0 : List Bit
  r0 = read_r0 bytes

  -- there is one more one to select in R0
  pub more0 : (x : ℕ) → 1 ≤ x → x ≤ i.nodes + 1 → ones_left r0 x < i.runs
  more0 x g h = let s = strings bytes i found in left_missing i.runs r0 x s.ended0 g (omega (arith, s.length0))

  -- what is found is small
  pub few : i.runs ≤ 65535
  few = let s = strings bytes i found in omega (arith, s.most, s.marked)

  within-length : (first n k : ℕ) → position (string_in bytes first 0 n) k ≤ n
  within-length first n k = place-le (string_in bytes first) (λ a b p. string_in-cut bytes first a b p) (length-string_in bytes first) 0 n k

  pub placed1 : (k : ℕ) → position r1 k ≤ i.nodes
  placed1 k = omega (arith, (strings bytes i found).length1, within-length 1 (nodes_of bytes) k, length-string_in bytes 1 0 (nodes_of bytes))

  pub small1 : (k : ℕ) → position r1 k ≤ 65535
  small1 k = omega (arith, (strings bytes i found).most, placed1 k)

  pub small0 : (k : ℕ) → position r0 k ≤ 65536
  small0 k =
      let s = strings bytes i found in
      let first = r0_block (nodes_of bytes) in
      omega (arith, s.most, s.length0, within-length first (nodes_of bytes + 1) k, length-string_in bytes first 0 (nodes_of bytes + 1))

  pub small_before : (z : ℕ) → ones_before_by r1 r0 z ≤ 65535
  unfolding ones_before_by
  small_before zero = omega arith
  small_before (suc z) = small1 (1 + ones_left r0 (suc z))
