-- What the check finds, from what its parts tell of bytes whose size and sums are right.
use Rattle.std.specs.Prelude.{Ok, Err}
use mathlib.Core.Path.{◌≡◌, refl, sym, subst}
use mathlib.Core.Bool.{Bool, true, false}
use mathlib.Core.List.{List}
use Prim.Native.Nat.{ℕ, ◌^◌, ◌≤◌, ◌<◌}
use native.Mathlib.Omega.{arith}
use borrow.Author.Tests.{le-ltb}
use lib.Dec.{ltb}
use lib.ListN.{length}
use Rattle.meaning.specs.Blocks.{blocks_in, wrong_block}
use Rattle.meaning.specs.Image.{header_word}
use Rattle.meaning.specs.Faults.{is_header}
use Rattle.meaning.specs.Tests.{wrong_size}
use Rattle.theory.specs.Layout.{AreBytes}
use Rattle.theory.specs.Stages.{version_in, Known, Header, Stages}
use Rattle.theory.proofs.Faults.{version-at, header_right, right_header}
use Rattle.image_found.specs.declared.Fault.TheVariants as Fault
use Rattle.image_found.specs.Checked.{checked, layout_in, numbered, fault_in}
use Rattle.image_found.proofs.Finding.{found-version, found-header, found_sound, found_fault, staged, unstaged}
use Rattle.table_sizes.specs.ToCheck.{ImageSized}
use Rattle.table_sizes.proofs.ToCheck.{none_wrong}

module _ (bytes : List ℕ) (are : AreBytes bytes) (sized : ImageSized (length bytes)) (summed : blocks_in bytes ≤ wrong_block bytes) where
  right : wrong_size bytes ≡ false
  right = none_wrong bytes sized

  whole : ltb (wrong_block bytes) (blocks_in bytes) ≡ false
  whole = le-ltb (wrong_block bytes) (blocks_in bytes) summed

  long : 504 ≤ length bytes
  long = omega (arith, sized.whole, sized.some)

  small : blocks_in bytes < 2 ^ 32
  small = omega (arith, sized.most)

  pub other-version : (Known (version_in bytes) → ⊥) → Err (numbered Fault.Version) ≡ checked bytes
  other-version wrong = found-version bytes right whole (λ e. wrong (subst Known (version-at bytes long) e))

  module _ (version : Known (version_in bytes)) where
    known : Known (header_word bytes 0)
    known = subst Known (sym (version-at bytes long)) version

    pub wrong_header : (Header bytes → ⊥) → Err (numbered Fault.Header) ≡ checked bytes
    wrong_header wrong = go (is_header bytes) refl
      where
        go : (t : Bool) → is_header bytes ≡ t → Err (numbered Fault.Header) ≡ checked bytes
        go true e = absurd (wrong (header_right bytes long are small e))
        go false e = found-header bytes right whole known e

    module _ (h : Header bytes) where
      headed : is_header bytes ≡ true
      headed = right_header bytes long are small h

      pub all_right : Stages bytes → Ok (layout_in bytes) ≡ checked bytes
      all_right s = found_sound bytes right whole known headed (staged bytes (omega (arith, sized.whole)) (omega (arith, sized.some)) summed are s)

      pub some_wrong : (Stages bytes → ⊥) → Err (numbered (fault_in bytes)) ≡ checked bytes
      some_wrong wrong = found_fault bytes right whole known headed (unstaged bytes (omega (arith, sized.whole)) (omega (arith, sized.some)) summed wrong)
