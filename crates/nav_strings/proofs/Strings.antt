-- The two strings of an image that the check found sound are as rank and select need them.
use Rattle.std.specs.Prelude.{Ok}
use mathlib.Core.Path.{◌≡◌, sym, ap, ◌∙◌, subst}
use mathlib.Core.Bool.{true}
use mathlib.Core.List.{List}
use Prim.Native.Nat.{ℕ, ◌+◌, ◌*◌, ◌/◌, ◌≤◌}
use native.Mathlib.Omega.{arith}
use lib.ListN.{length}
use Rattle.meaning.specs.Strings.{Bit, ones}
use Rattle.meaning.specs.Image.{is_image, string_blocks, string_in}
use Rattle.theory.specs.Bounds.{most_block}
use Rattle.theory.specs.Stages.{CountsAndPadding, Sampled, blocks_of_samples, read_r1, read_r0}
use Rattle.theory.proofs.TreeImages.{is_image_lem, image-size, image_most}
use Rattle.theory.proofs.Stages.{image_stages}
use Rattle.image_layout.specs.declared.Layout.{Layout}
use Rattle.image_found.specs.Checked.{checked}
use Rattle.image_found.proofs.Finding.{sound_known}

-- a string of n bits, m of them ones, from block `first` on, its samples from block `from` on
pub record SoundString (bytes : List ℕ) (first n from m : ℕ) : Type 0 where
  pub most : n ≤ 65536
  pub size : length bytes ≤ 512 * most_block
  pub near : first ≤ most_block
  pub nearer : from ≤ most_block
  pub room : 512 * (first + string_blocks n) ≤ length bytes
  pub roomier : 512 * (from + blocks_of_samples m) ≤ length bytes
  pub count : m ≡ ones (string_in bytes first 0 n)
  pub kept : CountsAndPadding bytes first (string_in bytes first 0 n)
  pub sampled : Sampled bytes from m (string_in bytes first 0 n)

image-length : (bytes : List ℕ) → is_image bytes ≡ true → (length bytes ≡ 512 * (length bytes / 512)) × (length bytes ≤ 512 * 574)
image-length bytes e =
    let r = (is_image_lem bytes).0 e in
    let t = r.0 in
    let size = sym (ap length r.2) ∙ image-size t in
    let most = image_most t r.1 in
    (omega arith, omega arith)

module _ (bytes : List ℕ) (i : Layout) (found : checked bytes ≡ Ok i) where
  -- what is read of them
  pub in_r1 : (f : List Bit → ℕ) (x : ℕ) → x ≡ f (string_in bytes 1 0 i.nodes) → x ≡ f (read_r1 bytes)
  in_r1 f x e = e ∙ ap (λ j. f (string_in bytes 1 0 j.nodes)) (sound_known bytes i found).read

  pub in_r0 : (f : List Bit → ℕ) (x : ℕ) → x ≡ f (string_in bytes i.r0_block 0 (i.nodes + 1)) → x ≡ f (read_r0 bytes)
  in_r0 f x e = e ∙ ap (λ j. f (string_in bytes j.r0_block 0 (j.nodes + 1))) (sound_known bytes i found).read

  pub ready1 : SoundString bytes 1 i.nodes i.r1_samples i.runs
  ready1 =
      let k = sound_known bytes i found in
      let s = image_stages bytes k.image in
      let l = image-length bytes k.image in
      let h = s.header in
      subst (λ j. SoundString bytes 1 j.nodes j.r1_samples j.runs) (sym k.read) (record {
        most = omega (arith, h.most);
        size = omega (arith, l.1);
        near = omega arith;
        nearer = omega (arith, h.needed);
        room = omega (arith, h.needed);
        roomier = omega (arith, h.needed);
        count = sym s.ended1.count;
        kept = s.kept1;
        sampled = s.sampled1;
      })

  pub ready0 : SoundString bytes i.r0_block (i.nodes + 1) i.r0_samples i.runs
  ready0 =
      let k = sound_known bytes i found in
      let s = image_stages bytes k.image in
      let l = image-length bytes k.image in
      let h = s.header in
      subst (λ j. SoundString bytes j.r0_block (j.nodes + 1) j.r0_samples j.runs) (sym k.read) (record {
        most = omega (arith, h.most);
        size = omega (arith, l.1);
        near = omega (arith, h.needed);
        nearer = omega (arith, h.needed);
        room = omega (arith, h.needed);
        roomier = omega (arith, h.needed);
        count = sym s.ended0.count;
        kept = s.kept0;
        sampled = s.sampled0;
      })
