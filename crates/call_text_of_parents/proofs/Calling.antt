-- What writing a parent list as text comes to, from what is found of it.
use Rattle.std.specs.Prelude.{Ok, Err}
use mathlib.Core.Path.{◌≡◌, sym, ap, ap₂, ◌∙◌}
use mathlib.Core.List.{List, [], ◌∷◌}
use Prim.Native.Nat.{ℕ, ◌*◌, ◌≤◌, ◌<◌}
use native.Mathlib.Omega.{arith}
use borrow.Author.Tests.{lt-ltb, le-ltb}
use lib.Dec.{ltb}
use lib.ListN.{length}
use Rattle.meaning.specs.declared.Answer.{Answer}
use Rattle.meaning.specs.declared.Refusal.{Refusal}
use Rattle.meaning.specs.Trees.{Tree}
use Rattle.meaning.specs.Parents.{parents}
use Rattle.meaning.specs.Listing.{listing, deep}
use Rattle.meaning.specs.Brackets.{bracketing}
use Rattle.meaning.specs.Text.{text_of}
use Rattle.meaning.specs.Answers.{Row, ◌at◌when◌, refused_with, counts, came_to, first_holding, settle, written, too_short}
use Rattle.meaning.specs.Tests.{parent_rows}
use Rattle.calls.specs.Calls.{text_of_parents}
use Rattle.std.specs.Prelude.{Some, None}
use Rattle.theory.specs.Places.{place_of}
use Rattle.theory.proofs.Places.{no_place, the_place}
use Rattle.theory.proofs.Settled.{settle-refused, settle_passed, settle-here, settle_on, settle-none}
use Rattle.theory.proofs.Forms.{length-parents}
use Rattle.theory.proofs.Parents.{are_parents}
use Rattle.parents_check.proofs.Refusing.{writable}
use Rattle.text_laws.proofs.Nodes.{nested-brackets, length-brackets}
use Rattle.text_laws.proofs.Back.{length-text}
use Rattle.text_walk.specs.Walk.{Started}
use Rattle.text_write.specs.Writing.{ToWrite}

module _ (ps out : List ℕ) where
  abbrev text : List ℕ
  text = text_of (bracketing ps)

  abbrev deepest : ℕ
  deepest = deep (listing 65 ps 1 0)

  abbrev counted : Answer
  counted = counts (length text) 0

  abbrev deep_row : Row
  deep_row = 9 at deepest when ltb 0 deepest

  abbrev room_row : Row
  room_row = 1 at 0 when too_short text out

  pub list_refused : (r : Refusal) → Err r ≡ first_holding (parent_rows ps) → came_to (refused_with r.code r.place) out ≡ text_of_parents ps out
  unfolding text_of_parents
  list_refused r e = sym (settle-refused _ _ _ _ (parent_rows ps) e)

  module _ (passed : (Ok tt) ≡ first_holding (parent_rows ps)) where
    by_depth : text_of_parents ps out ≡ settle out (deep_row ∷ room_row ∷ []) counted (written text out)
    unfolding text_of_parents
    by_depth = settle_passed _ _ _ _ (parent_rows ps) passed

    tree : (t : Tree) × (parents t ≡ ps)
    tree = are_parents ps (writable ps passed).parents

    size : length text ≡ 2 * length ps
    size =
        let t = tree.0 in
        ap (λ qs. length (text_of (bracketing qs))) (sym tree.1) ∙ length-text (bracketing (parents t)) ∙ ap length (nested-brackets t) ∙ length-brackets t
        ∙ omega (arith, length-parents t, ap length tree.1)

    pub list_deep : (d : ℕ) → Some d ≡ place_of deepest → came_to (refused_with 9 d) out ≡ text_of_parents ps out
    list_deep d e =
        let q = the_place deepest d (sym e) in
        ap (λ p. came_to (refused_with 9 p) out) (sym q.0) ∙ sym (by_depth ∙ settle-here _ _ _ _ _ (lt-ltb 0 deepest (omega (arith, q.0, q.1))))

    module _ (shallow : None ≡ place_of deepest) where
      by_room : text_of_parents ps out ≡ settle out (room_row ∷ []) counted (written text out)
      by_room = by_depth ∙ settle_on _ _ _ _ _ (le-ltb 0 deepest (omega (arith, no_place deepest (sym shallow))))

      pub list_short : length out < 2 * length ps → came_to (refused_with 1 0) out ≡ text_of_parents ps out
      list_short h = sym (by_room ∙ settle-here _ _ _ _ _ (lt-ltb (length out) (length text) (omega (arith, size))))

      module _ (room : 2 * length ps ≤ length out) where
        pub to_write : (levels : List ℕ) → ((t : Tree) → parents t ≡ ps → Started t levels) → ToWrite ps levels out
        to_write levels ready = record { tree = tree.0; same = tree.1; ready = ready tree.0 tree.1; most = (writable ps passed).most; room = room }

        pub list_written : (r : Answer) (o : List ℕ) → r ≡ counts (2 * length ps) 0 → o ≡ written text out → came_to r o ≡ text_of_parents ps out
        list_written r o e f =
            ap₂ came_to (e ∙ ap (λ n. counts n 0) (sym size)) f
            ∙ sym (by_room ∙ settle_on _ _ _ _ _ (le-ltb (length out) (length text) (omega (arith, size))) ∙ settle-none _ _ _)
