-- What is wrong, from what the three parts of the second pass find.
use mathlib.Core.Path.{◌≡◌, refl, sym, ap, ap₂, subst, ◌∙◌}
use mathlib.Core.Bool.{Bool, true, false, cond}
use mathlib.Core.List.{List}
use Prim.Native.Nat.{ℕ, zero, suc, ◌≤◌}
use native.Mathlib.Omega.{arith}
use borrow.Author.Tests.{lt-ltb, le-ltb}
use lib.Dec.{ltb}
use lib.ListN.{length}
use Rattle.std.specs.Prelude.{Option, Some, None, unwrap_or}
use Rattle.meaning.specs.Faults.{are_strings, wrong_kept, wrong_sample}
use Rattle.theory.specs.Layout.{AreBytes}
use Rattle.theory.specs.Places.{place_of}
use Rattle.theory.proofs.Places.{no_place, the_place}
use Rattle.theory.specs.Stages.{Header}
use Rattle.theory.proofs.Faults.{strings_told, told_strings, strings_staged, staged_strings, kept-R1, kept-R0, rest_S1, rest_S0}
use Rattle.image_layout.specs.declared.Layout.{Layout}
use Rattle.image_layout.specs.Layout.{layout_in}
use Rattle.image_found.specs.declared.Fault.{Fault}
use Rattle.image_found.specs.declared.Fault.TheVariants.{Strings, Counts, Samples}
use Rattle.image_found.specs.Checked.{fault_in}
use Rattle.fault_strings.specs.Given.{StringsGiven}
use Rattle.fault_samples.specs.AllBut.{AllButSamples}

module _ (bytes : List ℕ) (layout : Layout) (are : AreBytes bytes) (is : layout ≡ layout_in bytes) (h : Header bytes) where
  long : 504 ≤ length bytes
  long = omega (arith, h.needed)

  read : StringsGiven bytes layout → StringsGiven bytes (layout_in bytes)
  read = subst (StringsGiven bytes) is

  strings_are : StringsGiven bytes layout → are_strings bytes ≡ true
  strings_are given = let g = read given in told_strings bytes (staged_strings bytes long h.some h.most g.ended1 g.ended0 g.in_step)

  strings_are_not : (StringsGiven bytes layout → ⊥) → are_strings bytes ≡ false
  strings_are_not not-given = go (are_strings bytes) refl
    where
      go : (t : Bool) → are_strings bytes ≡ t → are_strings bytes ≡ false
      go true e =
          let s = strings_staged bytes long h.some (strings_told bytes e) in
          absurd (not-given (subst (StringsGiven bytes) (sym is) (record { ended1 = s.0; ended0 = s.1; in_step = s.2 })))
      go false e = e

  pub all_but_samples : StringsGiven bytes layout → place_of (wrong_kept bytes) ≡ None → AllButSamples bytes
  all_but_samples given none =
      let g = read given in
      let kept = no_place (wrong_kept bytes) none in
      record {
        ended1 = g.ended1;
        ended0 = g.ended0;
        kept1 = kept-R1 bytes are h g.ended1 g.ended0 kept;
        kept0 = kept-R0 bytes are h g.ended1 g.ended0 kept;
        rest1 = rest_S1 bytes are h g.ended1 g.ended0 kept;
        rest0 = rest_S0 bytes are h g.ended1 g.ended0 kept;
      }

  -- ---- the answers

  abbrev kept-or : Bool → Fault
  kept-or t = cond t (Counts (wrong_kept bytes)) (Samples (wrong_sample bytes))

  pub fault_strings_lem : (StringsGiven bytes layout → ⊥) → Strings ≡ fault_in bytes
  unfolding fault_in
  fault_strings_lem wrong = sym (ap (λ t. cond t (kept-or (ltb 0 (wrong_kept bytes))) Strings) (strings_are_not wrong))

  pub fault_counts_lem : StringsGiven bytes layout → (block : ℕ) → Some block ≡ place_of (wrong_kept bytes) → Counts block ≡ fault_in bytes
  unfolding fault_in
  fault_counts_lem given block e =
      let at = the_place (wrong_kept bytes) block (sym e) in
      ap Counts (sym at.0)
      ∙ sym (ap₂ (λ s t. cond s (kept-or t) Strings) (strings_are given) (lt-ltb 0 (wrong_kept bytes) (omega (arith, at.0, at.1))))

  pub fault_samples_lem : StringsGiven bytes layout → place_of (wrong_kept bytes) ≡ None → (found : Option ℕ) → found ≡ place_of (wrong_sample bytes)
      → Samples (unwrap_or found 0) ≡ fault_in bytes
  unfolding fault_in
  fault_samples_lem given none found e =
      ap Samples (ap (λ o. unwrap_or o 0) e ∙ number_of (wrong_sample bytes))
      ∙ sym (ap₂ (λ s t. cond s (kept-or t) Strings) (strings_are given) (le-ltb 0 (wrong_kept bytes) (omega (arith, no_place (wrong_kept bytes) none))))
    where
      number_of : (k : ℕ) → unwrap_or (place_of k) 0 ≡ k
      number_of zero = refl
      number_of (suc k) = refl
