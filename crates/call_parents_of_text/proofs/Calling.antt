-- What reading a text comes to, from what the first walk finds.
use mathlib.Core.Path.{◌≡◌, refl, sym, ap, ap₂, ◌∙◌}
use mathlib.Core.List.{List, [], ◌∷◌}
use Prim.Native.Nat.{ℕ, ◌≤◌, ◌<◌}
use native.Mathlib.Omega.{arith}
use borrow.Author.Tests.{lt-ltb, le-ltb}
use lib.Dec.{ltb}
use lib.ListN.{length, get_or, replicate}
use Rattle.meaning.specs.declared.Answer.{Answer}
use Rattle.meaning.specs.Trees.{Tree, nodes}
use Rattle.meaning.specs.Parents.{parents}
use Rattle.meaning.specs.Listing.{listing, deep}
use Rattle.meaning.specs.Brackets.{brackets, tree_in}
use Rattle.meaning.specs.Text.{brackets_in, whole, broken, deeper, read_text, broken_at, deeper_at}
use Rattle.meaning.specs.Answers.{Row, ◌at◌when◌, refused_with, counts, came_to, settle, written, too_short}
use Rattle.calls.specs.Calls.{parents_of_text}
use Rattle.theory.specs.Tables.{sum_to}
use Rattle.theory.proofs.Settled.{settle-here, settle_on, settle-none}
use Rattle.theory.proofs.Forms.{length-parents}
use Rattle.text_laws.proofs.Back.{tree_back}
use Rattle.text_laws.proofs.Reading.{whole-brackets}
use Rattle.text_laws.proofs.Limits.{none_deep}
use Rattle.text_nesting.specs.Nesting.{tally}
use Rattle.text_number.specs.Numbering.{ToNumber}
use Rattle.text_number.proofs.Starting.{started, all-nodes}

module _ (text out : List ℕ) where
  abbrev tree : Tree
  tree = tree_in (brackets_in text)

  abbrev ps : List ℕ
  ps = parents tree

  abbrev counted : Answer
  counted = counts (length ps) 0

  abbrev after : List ℕ
  after = written ps out

  -- the rows from the second on, with what the reading found
  abbrev broken_row : ℕ → Row
  broken_row p = 16 at p when ltb 0 p

  abbrev deeper_row : ℕ → Row
  deeper_row p = 17 at p when ltb 0 p

  abbrev nodes_row : Row
  nodes_row = 2 at 0 when ltb 65535 (length ps)

  abbrev room_row : Row
  room_row = 1 at 0 when too_short ps out

  pub text-long : 1048576 < length text → came_to (refused_with 2 0) out ≡ parents_of_text text out
  unfolding parents_of_text
  text-long h = sym (settle-here _ _ _ _ _ (lt-ltb 1048576 (length text) h))

  module _ (short : length text ≤ 1048576) where
    by_reading : parents_of_text text out ≡ settle out (broken_row (broken_at (read_text text)) ∷ deeper_row (deeper_at (read_text text)) ∷ nodes_row ∷ room_row ∷ []) counted after
    unfolding parents_of_text
    by_reading = settle_on _ _ _ _ _ (le-ltb 1048576 (length text) short)

    pub text_broken : (p : ℕ) → 1 ≤ p → read_text text ≡ broken p → came_to (refused_with 16 p) out ≡ parents_of_text text out
    text_broken p h e =
        sym (by_reading
        ∙ ap (λ r. settle out (broken_row (broken_at r) ∷ deeper_row (deeper_at r) ∷ nodes_row ∷ room_row ∷ []) counted after) e
        ∙ settle-here _ _ _ _ _ (lt-ltb 0 p h))

    pub text_deeper : (p : ℕ) → 1 ≤ p → read_text text ≡ deeper p → came_to (refused_with 17 p) out ≡ parents_of_text text out
    text_deeper p h e =
        sym (by_reading
        ∙ ap (λ r. settle out (broken_row (broken_at r) ∷ deeper_row (deeper_at r) ∷ nodes_row ∷ room_row ∷ []) counted after) e
        ∙ settle_on _ _ _ _ _ refl
        ∙ settle-here _ _ _ _ _ (lt-ltb 0 p h))

    module _ (read : read_text text ≡ whole) where
      own : brackets tree ≡ brackets_in text
      unfolding read_text
      own = let w = whole-brackets 64 text read in ap brackets (ap tree_in w.2 ∙ tree_back w.0) ∙ sym w.2

      shallow : deep (listing 65 ps 1 0) ≡ 0
      unfolding read_text
      shallow =
          let w = whole-brackets 64 text read in
          ap (λ t. deep (listing 65 (parents t) 1 0)) (ap tree_in w.2 ∙ tree_back w.0) ∙ (none_deep w.0).1 w.1

      -- the nodes that were counted, and the cursors
      module _ (levels levels' : List ℕ) (tallied : levels ≡ tally (brackets_in text) 0 (replicate 66 0)) where
        counts_are : levels ≡ tally (brackets tree) 0 (replicate 66 0)
        counts_are = tallied ∙ ap (λ bs. tally bs 0 (replicate 66 0)) (sym own)

        pub count_is : (n : ℕ) → n ≡ sum_to levels 66 → n ≡ nodes tree
        count_is n e = e ∙ ap (λ l. sum_to l 66) counts_are ∙ all-nodes tree shallow

        pub to_number : length levels' ≡ 66 → ((e : ℕ) → e < 66 → get_or levels' e 0 ≡ sum_to levels e) → nodes tree ≤ 65535 → nodes tree ≤ length out → ToNumber text levels' out
        to_number size sums most room = record {
          whole = own;
          ready = started tree shallow levels' size (λ e h. sums e h ∙ ap (λ l. sum_to l e) counts_are);
          most = most;
          room = room;
        }

      pub by_nodes : parents_of_text text out ≡ settle out (nodes_row ∷ room_row ∷ []) counted after
      by_nodes =
          by_reading
          ∙ ap (λ r. settle out (broken_row (broken_at r) ∷ deeper_row (deeper_at r) ∷ nodes_row ∷ room_row ∷ []) counted after) read
          ∙ settle_on _ _ _ _ _ refl
          ∙ settle_on _ _ _ _ _ refl

      pub text_many : 65535 < nodes tree → came_to (refused_with 2 0) out ≡ parents_of_text text out
      text_many h = sym (by_nodes ∙ settle-here _ _ _ _ _ (lt-ltb 65535 (length ps) (omega (arith, length-parents tree))))

      module _ (few : nodes tree ≤ 65535) where
        by_room : parents_of_text text out ≡ settle out (room_row ∷ []) counted after
        by_room = by_nodes ∙ settle_on _ _ _ _ _ (le-ltb 65535 (length ps) (omega (arith, length-parents tree)))

        pub text-short : length out < nodes tree → came_to (refused_with 1 0) out ≡ parents_of_text text out
        text-short h = sym (by_room ∙ settle-here _ _ _ _ _ (lt-ltb (length out) (length ps) (omega (arith, length-parents tree))))

        pub text-given : nodes tree ≤ length out → (n : ℕ) (r : Answer) (o : List ℕ) → n ≡ nodes tree → r ≡ counts n 0 → o ≡ written ps out → came_to r o ≡ parents_of_text text out
        text-given h n r o e f g =
            ap₂ came_to (f ∙ ap (λ k. counts k 0) (e ∙ sym (length-parents tree))) g
            ∙ sym (by_room ∙ settle_on _ _ _ _ _ (le-ltb (length out) (length ps) (omega (arith, length-parents tree))) ∙ settle-none _ _ _)
