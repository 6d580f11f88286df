-- What reading the parents of an image comes to, from what the check found.
use Rattle.std.specs.Prelude.{Ok, Err}
use mathlib.Core.Path.{◌≡◌, refl, sym, ap, ap₂, ◌∙◌, subst}
use mathlib.Core.Bool.{false}
use mathlib.Core.List.{List, [], ◌∷◌}
use Prim.Native.Nat.{ℕ, ◌+◌, ◌*◌, ◌≤◌, ◌<◌}
use native.Mathlib.Omega.{arith}
use borrow.Author.Tests.{lt-ltb, le-ltb}
use lib.ListN.{length}
use Rattle.meaning.specs.declared.Refusal.{Refusal}
use Rattle.meaning.specs.Answers.{◌at◌when◌, refused_with, counts, came_to, written, too_short}
use Rattle.meaning.specs.Strings.{parents_of, woven}
use Rattle.meaning.specs.Image.{parents_in, string_in}
use Rattle.calls.specs.Calls.{parents_of_image}
use Rattle.theory.specs.Stages.{read_r1, read_r0, nodes_of, runs_of, r0_block, r1_samples}
use Rattle.theory.proofs.Settled.{settle-here, settle_on, settle-none}
use Rattle.theory.proofs.InStep.{runs_ended}
use Rattle.theory.proofs.TreeImages.{length-string_in}
use Rattle.theory.proofs.Stages.{image_stages, parts_read}
use Rattle.image_layout.specs.declared.Layout.{Layout}
use Rattle.image_found.specs.Checked.{Checked, checked}
use Rattle.image_found.proofs.Finding.{IsSound, comes_to, rows_checked, sound_known}
use Rattle.unseal_parents.specs.Spread.{InRuns}

-- what the parents of a sound image are written by
pub record Fits (bytes : List ℕ) (n zeros : ℕ) : Type 0 where
  pub most : n ≤ 65535
  pub from : zeros ≡ r0_block n
  pub room : 512 * r1_samples n ≤ length bytes
  pub runs : InRuns (string_in bytes 1 0 n) (string_in bytes zeros 0 (n + 1))

header-fits : (bytes : List ℕ) (i : Layout) → IsSound bytes i → Fits bytes (nodes_of bytes) (r0_block (nodes_of bytes))
header-fits bytes i k =
    let s = image_stages bytes k.image in
    let some = s.header.some in
    let l1 = length-string_in bytes 1 0 (nodes_of bytes) in
    let l0 = length-string_in bytes (r0_block (nodes_of bytes)) 0 (nodes_of bytes + 1) in
    record {
      most = s.header.most;
      from = refl;
      room = omega (arith, s.header.needed);
      runs = record {
        marks = runs_of bytes;
        first = (runs_ended (runs_of bytes) (read_r1 bytes) (omega arith)).1 s.ended1;
        second = (runs_ended (runs_of bytes) (read_r0 bytes) (omega arith)).1 s.ended0;
      };
    }

pub sound_fits : (bytes : List ℕ) (i : Layout) → IsSound bytes i → Fits bytes i.nodes i.r0_block
sound_fits bytes i k = subst (λ j. Fits bytes j.nodes j.r0_block) (sym k.read) (header-fits bytes i k)

module _ (bytes out : List ℕ) where
  abbrev given : List ℕ
  given = parents_in bytes

  by_check : (c : Checked) → checked bytes ≡ c
      → parents_of_image bytes out ≡ comes_to out (1 at 0 when too_short given out ∷ []) (counts (length given) 0) (written given out) c
  unfolding parents_of_image
  by_check c e =
      rows_checked out (1 at 0 when too_short given out ∷ []) (counts (length given) 0) (written given out) bytes false refl
      ∙ ap (comes_to out (1 at 0 when too_short given out ∷ []) (counts (length given) 0) (written given out)) e

  pub parents-refused : (r : Refusal) → checked bytes ≡ Err r → came_to (refused_with r.code r.place) out ≡ parents_of_image bytes out
  parents-refused r e = sym (by_check (Err r) e)

  module _ (i : Layout) (e : checked bytes ≡ Ok i) where
    counted : length given ≡ i.nodes
    counted = let k = sound_known bytes i e in (parts_read bytes k.image).count ∙ ap (λ j. j.nodes) (sym k.read)

    pub parents-short : length out < i.nodes → came_to (refused_with 1 0) out ≡ parents_of_image bytes out
    parents-short l =
        sym (by_check (Ok i) e ∙ settle-here out (counts (length given) 0) (written given out) (1 at 0 when too_short given out) [] (lt-ltb (length out) (length given) (omega (arith, counted))))

    pub parents-given : i.nodes ≤ length out
        → came_to (counts i.nodes 0) (written (parents_of (woven (string_in bytes 1 0 i.nodes) (string_in bytes i.r0_block 0 (i.nodes + 1)))) out) ≡ parents_of_image bytes out
    parents-given l =
        let k = sound_known bytes i e in
        ap₂ (λ n ps. came_to (counts n 0) (written ps out))
        (sym counted)
        (ap (λ j. parents_of (woven (string_in bytes 1 0 j.nodes) (string_in bytes j.r0_block 0 (j.nodes + 1)))) k.read ∙ (parts_read bytes k.image).given)
        ∙ sym (by_check (Ok i) e
        ∙ settle_on out (counts (length given) 0) (written given out) (1 at 0 when too_short given out) [] (le-ltb (length out) (length given) (omega (arith, counted)))
        ∙ settle-none out (counts (length given) 0) (written given out))
