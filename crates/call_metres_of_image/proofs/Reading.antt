-- What reading the metres of an image comes to, from what the check found.
use Rattle.std.specs.Prelude.{Ok, Err, None, Some}
use mathlib.Core.Path.{◌≡◌, refl, sym, ap, ap₂, ◌∙◌}
use mathlib.Core.Bool.{Bool, true, false, cond, not}
use mathlib.Core.List.{List, [], ◌∷◌}
use mathlib.Core.Option.{Option, none, some}
use Prim.Native.Nat.{ℕ, ◌+◌, ◌*◌, ◌≤◌, ◌<◌}
use native.Mathlib.Omega.{arith}
use borrow.Author.Tests.{lt-ltb, le-ltb}
use lib.Dec.{eqb}
use lib.ListN.{length}
use Rattle.meaning.specs.declared.Refusal.{Refusal}
use Rattle.meaning.specs.Answers.{Row, ◌at◌when◌, refused_with, counts, came_to, written, too_short}
use Rattle.meaning.specs.Image.{present, list_of, word_blocks, metres_held, numbers_in, metres_in}
use Rattle.calls.specs.Calls.{metres_of_image}
use Rattle.theory.specs.Bounds.{most_block}
use Rattle.theory.specs.Stages.{Stages, nodes_of, runs_of, version_in, metres_block}
use Rattle.theory.proofs.Settled.{settle-here, settle_on, settle-none}
use Rattle.theory.proofs.TreeImages.{length-numbers_in}
use Rattle.theory.proofs.Stages.{image_stages, metres_read_lem}
use Rattle.image_layout.specs.declared.Layout.{Layout}
use Rattle.image_layout.specs.Layout.{metres_at}
use Rattle.image_layout.proofs.Laying.{from-version, nowhere_version}
use Rattle.image_found.specs.Checked.{Checked, checked}
use Rattle.image_found.proofs.Finding.{IsSound, comes_to, rows_checked, sound_known}

-- ---- the answers

module _ (bytes out : List ℕ) where
  abbrev ms : Option (List ℕ)
  ms = metres_in bytes

  abbrev absent : Row
  absent = 8 at 1 when not (present ms)

  abbrev short : Row
  short = 1 at 0 when too_short (list_of ms) out

  by_check : (c : Checked) → checked bytes ≡ c
      → metres_of_image bytes out ≡ comes_to out (absent ∷ short ∷ []) (counts (length (list_of ms)) 0) (written (list_of ms) out) c
  unfolding metres_of_image
  by_check c e =
      rows_checked out (absent ∷ short ∷ []) (counts (length (list_of ms)) 0) (written (list_of ms) out) bytes false refl
      ∙ ap (comes_to out (absent ∷ short ∷ []) (counts (length (list_of ms)) 0) (written (list_of ms) out)) e

  pub metres-refused : (r : Refusal) → checked bytes ≡ Err r → came_to (refused_with r.code r.place) out ≡ metres_of_image bytes out
  metres-refused r e = sym (by_check (Err r) e)

  module _ (i : Layout) (e : checked bytes ≡ Ok i) where
    known : IsSound bytes i
    known = sound_known bytes i e

    stages : Stages bytes
    stages = image_stages bytes known.image

    long : 504 ≤ length bytes
    long = omega (arith, stages.header.needed)

    at_is : i.metres ≡ metres_at (version_in bytes) (metres_block (nodes_of bytes) (runs_of bytes))
    at_is = ap (λ j. j.metres) known.read

    -- metres that the version has, or none
    abbrev held : Bool → Option (List ℕ)
    held t = cond t (some (numbers_in bytes (metres_block (nodes_of bytes) (runs_of bytes)) 0 (nodes_of bytes))) none

    pub metres-absent : i.metres ≡ None → came_to (refused_with 8 1) out ≡ metres_of_image bytes out
    metres-absent f =
        let one : eqb (version_in bytes) 2 ≡ false = nowhere_version (eqb (version_in bytes) 2) (metres_block (nodes_of bytes) (runs_of bytes)) (sym at_is ∙ f) in
        sym (by_check (Ok i) e
        ∙ settle-here out (counts (length (list_of ms)) 0) (written (list_of ms) out) absent (short ∷ []) (ap (λ m. not (present m)) (metres_read_lem bytes long ∙ ap held one)))

    module _ (block : ℕ) (f : i.metres ≡ Some block) where
      two : (eqb (version_in bytes) 2 ≡ true) × (metres_block (nodes_of bytes) (runs_of bytes) ≡ block)
      two = from-version (eqb (version_in bytes) 2) (metres_block (nodes_of bytes) (runs_of bytes)) block (sym at_is ∙ f)

      nodes_is : i.nodes ≡ nodes_of bytes
      nodes_is = ap (λ j. j.nodes) known.read

      -- what the metres are copied by
      pub metres-room : (i.nodes ≤ 65535) × ((block ≤ most_block) × (512 * (block + word_blocks i.nodes) ≤ length bytes))
      metres-room =
          let h = stages.header in
          let all : metres_held (version_in bytes) (nodes_of bytes) ≡ nodes_of bytes = ap (λ t. cond t (nodes_of bytes) 0) two.0 in (
            omega (arith, nodes_is, h.most),
            (omega (arith, two.1, h.most, h.runs_most), omega (arith, two.1, nodes_is, all, h.needed)),
          )

      metres_are : ms ≡ some (numbers_in bytes block 0 i.nodes)
      metres_are = metres_read_lem bytes long ∙ ap held two.0 ∙ ap₂ (λ k n. some (numbers_in bytes k 0 n)) two.1 (sym nodes_is)

      counted : length (list_of ms) ≡ i.nodes
      counted = ap (λ m. length (list_of m)) metres_are ∙ length-numbers_in bytes block 0 i.nodes

      -- there are some
      passed : not (present ms) ≡ false
      passed = ap (λ m. not (present m)) metres_are

      pub metres-short : length out < i.nodes → came_to (refused_with 1 0) out ≡ metres_of_image bytes out
      metres-short l =
          sym (by_check (Ok i) e
          ∙ settle_on out (counts (length (list_of ms)) 0) (written (list_of ms) out) absent (short ∷ []) passed
          ∙ settle-here out (counts (length (list_of ms)) 0) (written (list_of ms) out) short [] (lt-ltb (length out) (length (list_of ms)) (omega (arith, counted))))

      pub metres-given : i.nodes ≤ length out → came_to (counts i.nodes 0) (written (numbers_in bytes block 0 i.nodes) out) ≡ metres_of_image bytes out
      metres-given l =
          ap₂ (λ n ws. came_to (counts n 0) (written ws out)) (sym counted) (sym (ap list_of metres_are))
          ∙ sym (by_check (Ok i) e
          ∙ settle_on out (counts (length (list_of ms)) 0) (written (list_of ms) out) absent (short ∷ []) passed
          ∙ settle_on out (counts (length (list_of ms)) 0) (written (list_of ms) out) short [] (le-ltb (length out) (length (list_of ms)) (omega (arith, counted)))
          ∙ settle-none out (counts (length (list_of ms)) 0) (written (list_of ms) out))
