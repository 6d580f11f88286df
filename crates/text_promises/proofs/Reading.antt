-- What reading a text comes to, by cases.
use mathlib.Core.Path.{◌≡◌, refl, sym, ap, ◌∙◌, subst}
use mathlib.Core.List.{List, [], ◌∷◌}
use Prim.Native.Nat.{ℕ, ◌≤◌, ◌<◌}
use native.Mathlib.Decide.{dec_lt}
use native.Mathlib.Omega.{arith}
use borrow.Author.Tests.{lt-ltb, le-ltb}
use lib.Dec.{ltb}
use lib.ListN.{length}
use Rattle.meaning.specs.Trees.{Tree, node, none, nodes}
use Rattle.meaning.specs.Parents.{parents}
use Rattle.meaning.specs.Scan.{FirstNone}
use Rattle.meaning.specs.Brackets.{brackets, tree_in}
use Rattle.meaning.specs.Text.{without_blanks, text_of, brackets_in, Read, whole, broken, deeper, read_within, read_text, broken_at, deeper_at}
use Rattle.meaning.specs.Answers.{◌at◌when◌, Outcome, came_to, counts, refused_with, settle, written, too_short}
use Rattle.calls.specs.Calls.{parents_of_text}
use Rattle.theory.proofs.Settled.{settle-here, settle_on, settle-none}
use Rattle.theory.proofs.Forms.{length-parents}
use Rattle.text_laws.specs.Texts.{Within, BeginsText}
use Rattle.text_laws.proofs.Back.{tree_back}
use Rattle.text_laws.proofs.Reading.{whole-brackets}
use Rattle.text_laws.proofs.Places.{broken_first, deeper_first}
use Rattle.text_promises.specs.Promises.{Fits}

pub data Came (text out : List ℕ) (o : Outcome (List ℕ)) : Type 0 where
  too_long : 1048576 < length text → o ≡ came_to (refused_with 2 0) out → Came text out o
  came_broken : (p : ℕ) → read_within 64 text ≡ broken p → o ≡ came_to (refused_with 16 p) out → Came text out o
  came_deeper : (p : ℕ) → read_within 64 text ≡ deeper p → o ≡ came_to (refused_with 17 p) out → Came text out o
  too_many : (t : Tree) → Within 64 t → without_blanks text ≡ text_of (brackets t) → 65535 < nodes t → o ≡ came_to (refused_with 2 0) out → Came text out o
  no_room : (t : Tree) → Fits t → without_blanks text ≡ text_of (brackets t) → length out < nodes t → o ≡ came_to (refused_with 1 0) out → Came text out o
  given : (t : Tree) → Fits t → without_blanks text ≡ text_of (brackets t) → length text ≤ 1048576 → nodes t ≤ length out
      → o ≡ came_to (counts (nodes t) 0) (written (parents t) out) → Came text out o

-- what the rows below the first come to
abbrev later : Read → (ps out : List ℕ) → Outcome (List ℕ)
later read ps out =
    settle out
    (16 at broken_at read when ltb 0 (broken_at read)
    ∷ 17 at deeper_at read when ltb 0 (deeper_at read)
    ∷ 2 at 0 when ltb 65535 (length ps)
    ∷ 1 at 0 when too_short ps out
    ∷ [])
    (counts (length ps) 0)
    (written ps out)

-- no bytes at all begin the text of a tree, so a place is at least 1
some-place : (text : List ℕ) (p : ℕ) → FirstNone (BeginsText 64) text p → 1 ≤ p
unfolding Within brackets text_of without_blanks
some-place text p f = elim (dec_lt 0 p) [
  | yes l ↦ l
  | no l ↦
      let z : 0 ≡ p = omega arith in
      absurd ((subst (λ q. FirstNone (BeginsText 64) text q) (sym z) f).here (omega arith) (40 ∷ 41 ∷ [], (node none, tt, refl)))
]

module _ (text out : List ℕ) (o : Outcome (List ℕ)) where
  -- too many nodes, too little room, or the parent list
  came_whole : (t : Tree) → length text ≤ 1048576 → Within 64 t → without_blanks text ≡ text_of (brackets t) → o ≡ later whole (parents t) out → Came text out o
  came_whole t short w e is =
      let ps = parents t in
      let n = length-parents t in
      let read = is ∙ settle_on _ _ _ _ _ refl ∙ settle_on _ _ _ _ _ refl in
      elim (dec_lt 65535 (nodes t)) [
        | yes l ↦ too_many t w e l (read ∙ settle-here _ _ _ _ _ (lt-ltb 65535 (length ps) (omega arith)))
        | no l ↦
            let few = read ∙ settle_on _ _ _ _ _ (le-ltb 65535 (length ps) (omega arith)) in
            let fits : Fits t = (omega arith, w) in
            elim (dec_lt (length out) (nodes t)) [
              | yes s ↦ no_room t fits e s (few ∙ settle-here _ _ _ _ _ (lt-ltb (length out) (length ps) (omega arith)))
              | no s ↦
                  given t fits e short (omega arith)
                  (few ∙ settle_on _ _ _ _ _ (le-ltb (length out) (length ps) (omega arith)) ∙ settle-none _ _ _ ∙ ap (λ k. came_to (counts k 0) (written ps out)) n)
            ]
      ]

  came_read : length text ≤ 1048576 → (r : Read) → read_within 64 text ≡ r → o ≡ later r (parents (tree_in (brackets_in text))) out → Came text out o
  came_read short whole e is =
      let w = whole-brackets 64 text e in
      came_whole w.0 short w.1 w.3 (is ∙ ap (λ u. later whole (parents u) out) (ap tree_in w.2 ∙ tree_back w.0))
  came_read short (broken p) e is =
      let l = some-place text p (broken_first 64 text p (omega arith) e) in
      came_broken p e (is ∙ settle-here _ _ _ _ _ (lt-ltb 0 p l))
  came_read short (deeper p) e is =
      let l = some-place text p (deeper_first 64 text p (omega arith) e).0 in
      came_deeper p e (is ∙ settle_on _ _ _ _ _ refl ∙ settle-here _ _ _ _ _ (lt-ltb 0 p l))

pub came : (text out : List ℕ) → Came text out (parents_of_text text out)
unfolding parents_of_text read_text
came text out = elim (dec_lt 1048576 (length text)) [
  | yes l ↦ too_long l (settle-here _ _ _ _ _ (lt-ltb 1048576 (length text) l))
  | no l ↦ came_read text out _ (omega arith) (read_within 64 text) refl (settle_on _ _ _ _ _ (le-ltb 1048576 (length text) (omega arith)))
]
