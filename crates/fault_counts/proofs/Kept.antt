-- What code 14 names, from what each part of the image has: R1, R0, the words after the samples of
-- R1, those after the samples of R0 and those behind the metres.
use mathlib.Core.Path.{◌≡◌, sym, ap, subst, ◌∙◌}
use mathlib.Core.Bool.{Bool, true, false, cond}
use mathlib.Core.List.{List}
use Prim.Native.Nat.{ℕ, ◌+◌, ◌*◌, ◌≤◌}
use native.Mathlib.Omega.{arith}
use lib.Dec.{eqb}
use lib.ListN.{length}
use Rattle.std.specs.Prelude.{Option, Some, None, unwrap_or}
use Rattle.meaning.specs.Image.{string_blocks}
use Rattle.meaning.specs.Faults.{wrong_kept}
use Rattle.theory.specs.Layout.{AreBytes}
use Rattle.theory.specs.Stages.{word_blocks, samples_of, blocks_of_samples, nodes_of, runs_of, version_in, r0_block, r1_samples, metres_block, read_r1, read_r0, Ended}
use Rattle.theory.specs.Faults.{LowestWrong, none, BlockKept, RestKept}
use Rattle.theory.specs.Places.{place_of}
use Rattle.theory.proofs.Places.{no_place, the_place}
use Rattle.theory.proofs.TreeImages.{length-string_in}
use Rattle.theory.proofs.Faults.{in_string, after_samples, in_metres, lowest_in_string, lowest-after-samples, lowest_in_metres, kept_in_R1, kept_in_R0, kept_after_S1, kept_after_S0, kept-after-metres}
use Rattle.image_layout.specs.declared.Layout.{Layout}
use Rattle.image_layout.specs.Layout.{layout_in}
use Rattle.image_layout.specs.Fits.{MetresFit, LaidOut}
use Rattle.fault_strings.specs.Lowest.{LowestBlock}
use Rattle.fault_strings.proofs.Lowest.{lowest_number, lowest_place}
use Rattle.fault_counts.specs.After.{LowestAfterMetres}

-- a place that is there is not 0
some_number : (w p : ℕ) → Some p ≡ place_of w → w ≡ 0 → ⊥
some_number w p e z = let at = the_place w p (sym e) in omega (arith, at.0, at.1)

module _ (bytes : List ℕ) (layout : Layout) (are : AreBytes bytes) (laid : LaidOut bytes layout) (is : layout ≡ layout_in bytes)
    (ended1 : Ended (runs_of bytes) (read_r1 bytes)) (ended0 : Ended (runs_of bytes) (read_r0 bytes)) where
  abbrev n : ℕ
  n = nodes_of bytes

  abbrev m : ℕ
  m = runs_of bytes

  fits : LaidOut bytes (layout_in bytes)
  fits = subst (LaidOut bytes) is laid

  long : 504 ≤ length bytes
  long = omega (arith, fits.room)

  -- of blocks that the layout has, as of those that the theory names
  module _ (Right : Layout → ℕ → Type 0) (from k : Layout → ℕ) (o : Option ℕ) (l : LowestBlock (Right layout) (from layout) (k layout) o) where
    same : LowestBlock (Right (layout_in bytes)) (from (layout_in bytes)) (k (layout_in bytes)) o
    same = subst (λ (x : Layout). LowestBlock (Right x) (from x) (k x) o) is l

    number : LowestWrong (Right (layout_in bytes)) (from (layout_in bytes)) (k (layout_in bytes)) (unwrap_or o 0)
    number = lowest_number (Right (layout_in bytes)) (from (layout_in bytes)) (k (layout_in bytes)) o same

    place : 1 ≤ from (layout_in bytes) → (p : ℕ) → unwrap_or o 0 ≡ p → o ≡ place_of p
    place some p e = lowest_place (Right (layout_in bytes)) (from (layout_in bytes)) (k (layout_in bytes)) o some same ∙ ap place_of e

  in_R1 : (o : Option ℕ) → LowestBlock (BlockKept bytes 1 layout.nodes) 1 (string_blocks layout.nodes) o → o ≡ place_of (in_string bytes (read_r1 bytes) 1)
  in_R1 o l =
      let R : Layout → ℕ → Type 0 = λ x. BlockKept bytes 1 x.nodes in
      let k : Layout → ℕ = λ x. string_blocks x.nodes in
      place R (λ x. 1) k o l (omega arith) _
      (lowest_in_string bytes are 1 n (omega (arith, fits.most)) (omega (arith, fits.room)) _ (number R (λ x. 1) k o l))

  in_R0 : (o : Option ℕ) → LowestBlock (BlockKept bytes layout.r0_block (layout.nodes + 1)) layout.r0_block (string_blocks (layout.nodes + 1)) o
      → o ≡ place_of (in_string bytes (read_r0 bytes) (r0_block n))
  in_R0 o l =
      let R : Layout → ℕ → Type 0 = λ x. BlockKept bytes x.r0_block (x.nodes + 1) in
      let k : Layout → ℕ = λ x. string_blocks (x.nodes + 1) in
      place R (λ x. x.r0_block) k o l (omega arith) _
      (lowest_in_string bytes are (r0_block n) (n + 1) (omega (arith, fits.most)) (omega (arith, fits.room)) _ (number R (λ x. x.r0_block) k o l))

  after_S1 : (o : Option ℕ) → LowestBlock (RestKept bytes layout.r1_samples (samples_of layout.runs)) layout.r1_samples (blocks_of_samples layout.runs) o
      → o ≡ place_of (after_samples bytes (read_r1 bytes) (r1_samples n))
  after_S1 o l =
      let R : Layout → ℕ → Type 0 = λ x. RestKept bytes x.r1_samples (samples_of x.runs) in
      let k : Layout → ℕ = λ x. blocks_of_samples x.runs in
      place R (λ x. x.r1_samples) k o l (omega arith) _
      (lowest-after-samples bytes are (r1_samples n) m (read_r1 bytes) ended1.count (omega (arith, length-string_in bytes 1 0 n, fits.most)) (omega (arith, fits.room)) _
      (number R (λ x. x.r1_samples) k o l))

  after_S0 : (o : Option ℕ) → LowestBlock (RestKept bytes layout.r0_samples (samples_of layout.runs)) layout.r0_samples (blocks_of_samples layout.runs) o
      → o ≡ place_of (after_samples bytes (read_r0 bytes) (r1_samples n + blocks_of_samples m))
  after_S0 o l =
      let R : Layout → ℕ → Type 0 = λ x. RestKept bytes x.r0_samples (samples_of x.runs) in
      let k : Layout → ℕ = λ x. blocks_of_samples x.runs in
      place R (λ x. x.r0_samples) k o l (omega arith) _
      (lowest-after-samples bytes are (r1_samples n + blocks_of_samples m) m (read_r0 bytes) ended0.count
      (omega (arith, length-string_in bytes (r0_block n) 0 (n + 1), fits.most)) (omega (arith, fits.room)) _
      (number R (λ x. x.r0_samples) k o l))

  -- where there are no metres no block is wrong, and none is looked at
  after-metres : (o : Option ℕ) → LowestAfterMetres bytes layout.metres layout.nodes o → o ≡ place_of (in_metres bytes (metres_block n m))
  after-metres o l =
      let held = as_held (eqb (version_in bytes) 2) (subst (λ (x : Layout). LowestAfterMetres bytes x.metres x.nodes o) is l) in
      held.1 ∙ ap place_of (lowest_in_metres bytes are long (metres_fit (eqb (version_in bytes) 2) fits.metres_room) (unwrap_or o 0) held.0)
    where
      metres_fit : (t : Bool) → MetresFit bytes (cond t (Some (metres_block n m)) None) n → 512 * (metres_block n m + word_blocks (cond t n 0)) ≤ length bytes
      metres_fit true room = room
      metres_fit false room = omega (arith, fits.room)

      as_held : (t : Bool) → LowestAfterMetres bytes (cond t (Some (metres_block n m)) None) n o
          → LowestWrong (RestKept bytes (metres_block n m) (cond t n 0)) (metres_block n m) (word_blocks (cond t n 0)) (unwrap_or o 0) × (o ≡ place_of (unwrap_or o 0))
      as_held true low =
          let R = RestKept bytes (metres_block n m) n in
          (lowest_number R (metres_block n m) (word_blocks n) o low, lowest_place R (metres_block n m) (word_blocks n) o (omega arith) low)
      as_held false low =
          let e = ap (λ o. unwrap_or o 0) low in
          (none e (λ j h. absurd (omega arith)), low ∙ sym (ap place_of e))

  module _ (o1 : Option ℕ) (l1 : LowestBlock (BlockKept bytes 1 layout.nodes) 1 (string_blocks layout.nodes) o1) where
    pub named-R1 : (p : ℕ) → o1 ≡ Some p → Some p ≡ place_of (wrong_kept bytes)
    named-R1 p is_some = let e = sym is_some ∙ in_R1 o1 l1 in e ∙ sym (ap place_of (kept_in_R1 bytes long ended1 (some_number _ p e)))

    module _ (right1 : o1 ≡ None) (o0 : Option ℕ) (l0 : LowestBlock (BlockKept bytes layout.r0_block (layout.nodes + 1)) layout.r0_block (string_blocks (layout.nodes + 1)) o0) where
      none1 : in_string bytes (read_r1 bytes) 1 ≡ 0
      none1 = no_place _ (sym (in_R1 o1 l1) ∙ right1)

      pub named-R0 : (p : ℕ) → o0 ≡ Some p → Some p ≡ place_of (wrong_kept bytes)
      named-R0 p is_some = let e = sym is_some ∙ in_R0 o0 l0 in e ∙ sym (ap place_of (kept_in_R0 bytes long ended1 none1 (some_number _ p e)))

      module _ (right0 : o0 ≡ None) (s1 : Option ℕ) (a1 : LowestBlock (RestKept bytes layout.r1_samples (samples_of layout.runs)) layout.r1_samples (blocks_of_samples layout.runs) s1) where
        none0 : in_string bytes (read_r0 bytes) (r0_block n) ≡ 0
        none0 = no_place _ (sym (in_R0 o0 l0) ∙ right0)

        pub named_S1 : (p : ℕ) → s1 ≡ Some p → Some p ≡ place_of (wrong_kept bytes)
        named_S1 p is_some = let e = sym is_some ∙ after_S1 s1 a1 in e ∙ sym (ap place_of (kept_after_S1 bytes long ended1 none1 none0 (some_number _ p e)))

        module _ (right_s1 : s1 ≡ None) (s0 : Option ℕ) (a0 : LowestBlock (RestKept bytes layout.r0_samples (samples_of layout.runs)) layout.r0_samples (blocks_of_samples layout.runs) s0) where
          none_s1 : after_samples bytes (read_r1 bytes) (r1_samples n) ≡ 0
          none_s1 = no_place _ (sym (after_S1 s1 a1) ∙ right_s1)

          pub named_S0 : (p : ℕ) → s0 ≡ Some p → Some p ≡ place_of (wrong_kept bytes)
          named_S0 p is_some = let e = sym is_some ∙ after_S0 s0 a0 in e ∙ sym (ap place_of (kept_after_S0 bytes long ended1 none1 none0 none_s1 (some_number _ p e)))

          pub named-metres : s0 ≡ None → (r : Option ℕ) → LowestAfterMetres bytes layout.metres layout.nodes r → r ≡ place_of (wrong_kept bytes)
          named-metres right_s0 r l =
              after-metres r l ∙ sym (ap place_of (kept-after-metres bytes long ended1 none1 none0 none_s1 ended0 (no_place _ (sym (after_S0 s0 a0) ∙ right_s0))))
