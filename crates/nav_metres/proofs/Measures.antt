-- The metres of a checked image, from where its layout has them.
use Rattle.std.specs.Prelude.{Ok, None, Some}
use mathlib.Core.Path.{◌≡◌, refl, sym, ap, ◌∙◌}
use mathlib.Core.Bool.{Bool, true, false, true≢false, cond}
use mathlib.Core.List.{List, []}
use mathlib.Core.Option.{Option, none, some}
use Prim.Native.Nat.{ℕ, zero, suc, ◌+◌, ◌-◌, ◌≤◌}
use native.Mathlib.Omega.{arith}
use lib.Dec.{eqb}
use lib.ListN.{length, get_or}
use Rattle.meaning.specs.Parents.{entry}
use Rattle.meaning.specs.Image.{present, list_of, metres_in, numbers_in}
use Rattle.theory.specs.Bounds.{most_block}
use Rattle.theory.specs.Layout.{word_at, sample_place}
use Rattle.theory.specs.Stages.{Stages, nodes_of, runs_of, version_in, held_in, metres_block}
use Rattle.theory.proofs.Stages.{image_stages, metres_read_lem, metres-at}
use Rattle.image_layout.specs.declared.Layout.{Layout}
use Rattle.image_layout.specs.Layout.{metres_at}
use Rattle.image_layout.proofs.Laying.{from-version}
use Rattle.image_found.specs.Checked.{checked}
use Rattle.image_found.proofs.Finding.{IsSound, sound_known}
use Rattle.nav_strings.specs.Nodes.{IsNode}
use Rattle.nav_metres.specs.Presence.{are_at}

entry_at : (ws : List ℕ) (x : ℕ) → 1 ≤ x → entry ws x ≡ get_or ws (x - 1) 0
entry_at ws zero h = absurd (omega arith)
entry_at ws (suc x) h = ap (λ i. get_or ws i 0) (let e : x ≡ suc x - 1 = omega arith in e)

module _ (bytes : List ℕ) (image : Layout) (found : checked bytes ≡ Ok image) where
  known : IsSound bytes image
  known = sound_known bytes image found

  stages : Stages bytes
  stages = image_stages bytes known.image

  long : 504 ≤ length bytes
  long = omega (arith, stages.header.needed)

  at_is : image.metres ≡ metres_at (version_in bytes) (metres_block (nodes_of bytes) (runs_of bytes))
  at_is = ap (λ i. i.metres) known.read

  -- whether there are any is told by where they are
  pub presence : are_at image.metres ≡ present (metres_in bytes)
  presence = ap are_at at_is ∙ go (eqb (version_in bytes) 2) ∙ ap present (sym (metres_read_lem bytes long))
    where
      go : (t : Bool) → are_at (cond t (Some (metres_block (nodes_of bytes) (runs_of bytes))) None)
          ≡ present (cond t (some (numbers_in bytes (metres_block (nodes_of bytes) (runs_of bytes)) 0 (nodes_of bytes))) none)
      go true = refl
      go false = refl

-- ---- the metres of node x

entry-none : (x : ℕ) → 0 ≡ entry [] x
entry-none zero = refl
entry-none (suc x) = refl

module _ {bytes : List ℕ} {image : Layout} {x : ℕ} (n : IsNode bytes image x) where
  -- without metres
  pub unmeasured : image.metres ≡ None → 0 ≡ entry (list_of (metres_in bytes)) x
  unmeasured e = go (metres_in bytes) (sym (presence bytes image n.sound) ∙ ap are_at e)
    where
      go : (ms : Option (List ℕ)) → present ms ≡ false → 0 ≡ entry (list_of ms) x
      go none f = entry-none x
      go (some ms) f = absurd (true≢false f)

  -- and where they are at a block
  pub record Measure (block : ℕ) : Type 0 where
    pub near : block ≤ most_block
    pub place : x ≤ 65535
    pub room : sample_place block (x - 1) + 4 ≤ length bytes
    pub value : word_at bytes (sample_place block (x - 1)) ≡ entry (list_of (metres_in bytes)) x

  pub measure : (block : ℕ) → image.metres ≡ Some block → Measure block
  measure block e =
      let k = known bytes image n.sound in
      let h = (stages bytes image n.sound).header in
      let v = from-version (eqb (version_in bytes) 2) (metres_block (nodes_of bytes) (runs_of bytes)) block (sym (at_is bytes image n.sound) ∙ e) in
      let held : held_in bytes ≡ nodes_of bytes = ap (λ t. cond t (nodes_of bytes) 0) v.0 in
      let most : x ≤ nodes_of bytes = omega (arith, n.most, ap (λ i. i.nodes) k.read) in
      let some = n.some in
      record {
        near = omega (arith, h.most, h.runs_most);
        place = omega (arith, h.most);
        room = omega (arith, h.needed, held);
        value = ap (λ s. word_at bytes (sample_place s (x - 1))) (sym v.1) ∙ sym (entry_at (list_of (metres_in bytes)) x some ∙ metres-at bytes (long bytes image n.sound) (x - 1) (omega arith));
      }
