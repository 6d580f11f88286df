-- The promises of specs/Promises.antt.
use mathlib.Core.Path.{◌≡◌, refl, sym, ap, ap₂, ◌∙◌}
use mathlib.Core.List.{List}
use mathlib.Core.Logic.{inl, inr}
use mathlib.Core.Option.{none}
use Prim.Native.Nat.{ℕ, zero, suc, ◌*◌}
use native.Mathlib.Decide.{dec_lt}
use native.Mathlib.Omega.{arith}
use borrow.Author.Tests.{lt-ltb, ltb-false}
use lib.ListN.{length, take, drop, take-append-drop}
use lib.Seq.{take-length, take_at}
use Rattle.meaning.specs.Trees.{Tree, nodes}
use Rattle.meaning.specs.Parents.{parents}
use Rattle.meaning.specs.Listing.{listing, deep}
use Rattle.meaning.specs.Brackets.{brackets, tree_in, bracketing}
use Rattle.meaning.specs.Text.{text_of, brackets_in, broken, deeper, read_within}
use Rattle.meaning.specs.Answers.{Outcome, came_to, counts, refused_with, written}
use Rattle.meaning.specs.Tests.{parent_rows}
use Rattle.calls.specs.Calls.{parents_of_text, text_of_parents}
use Rattle.theory.proofs.Settled.{settle-here}
use Rattle.theory.proofs.Codes.{listed-tree, none-held}
use Rattle.theory.proofs.Scan.{first_unique}
use Rattle.theory.proofs.Forms.{length-parents}
use Rattle.text_laws.specs.Texts.{IsText, SomeText}
use Rattle.text_laws.proofs.Nodes.{nested-brackets}
use Rattle.text_laws.proofs.Back.{tree_back, brackets_in_text, no_blanks}
use Rattle.text_laws.proofs.Reading.{read_tree}
use Rattle.text_laws.proofs.Limits.{within_all, none_deep}
use Rattle.text_laws.proofs.Places.{broken_first, broken_first_of_all, deeper_first}
use Rattle.list_measure.specs.Levels.{sized, size_of}
use Rattle.list_measure.specs.Numbers.{measured_outcome}
use Rattle.image_promises.proofs.Promises.{listed_by_measure}
use Rattle.std.specs.Prelude.{Ok, Err}
use Rattle.text_nesting.specs.declared.TextFault.TheVariants.{Broken, Deeper}
use Rattle.call_parents_of_text.proofs.Calling.{by_nodes, text_broken, text_deeper}
use Rattle.text_promises.specs.Promises as P
use Rattle.text_promises.proofs.Nesting.{nested-there}
use Rattle.text_promises.proofs.Ends.{ends_there}
use Rattle.text_promises.proofs.Writing.{text-length, root-there, deepest, first-deep, tree-written, tree_too_deep}
use Rattle.text_promises.proofs.Reading.{too_long, came_broken, came_deeper, too_many, no_room, given, came}

-- ---- trees and their brackets

pub levels_are_depths : P.LevelsAreDepths
levels_are_depths = within_all

pub brackets_of_one_tree : P.BracketsOfOneTree
brackets_of_one_tree t u e = sym (tree_back t) ∙ ap tree_in e ∙ tree_back u

-- no other tree has the same text
one-text : (t u : Tree) → text_of (brackets t) ≡ text_of (brackets u) → t ≡ u
one-text t u e = brackets_of_one_tree t u (sym (brackets_in_text (brackets t)) ∙ ap brackets_in e ∙ brackets_in_text (brackets u))

coded : {o r : Outcome (List ℕ)} → o ≡ r → o.answer.code ≡ r.answer.code
coded e = ap (λ o. o.answer.code) e

-- the text of a tree is neither broken nor too deep
module _ (text : List ℕ) (p : ℕ) (w : IsText 64 text) where
  not_broken : read_within 64 text ≡ broken p → ⊥
  not_broken e = let r = read_tree 64 text w in let z : ◌≡◌ {A = ℕ} 0 1 = cc in omega arith

  not_deeper : read_within 64 text ≡ deeper p → ⊥
  not_deeper e = let r = read_tree 64 text w in let z : ◌≡◌ {A = ℕ} 0 1 = cc in omega arith

-- ---- there and back

-- the other cases would be another tree, or no tree
pub text_gives_its_tree : P.TextGivesItsTree
text_gives_its_tree t text out short fits e room = elim (came text out) [
  | too_long l is ↦ absurd (omega arith)
  | came_broken p f is ↦ absurd (not_broken text p (t, fits.1, e) f)
  | came_deeper p f is ↦ absurd (not_deeper text p (t, fits.1, e) f)
  | too_many u w f l is ↦ let n = ap nodes (one-text t u (sym e ∙ f)) in absurd (omega (arith, fits.0))
  | no_room u g f l is ↦ let n = ap nodes (one-text t u (sym e ∙ f)) in absurd (omega arith)
  | given u g f s l is ↦ is ∙ ap (λ v. came_to (counts (nodes v) 0) (written (parents v) out)) (one-text u t (sym f ∙ e))
]

pub text_written_then_read : P.TextWrittenThenRead
text_written_then_read t out out' fits room room_out =
    let made = tree-written t out fits room in
    let text = text_of (brackets t) in
    let n = text-length t in
    let front : take (2 * nodes t) (text_of_parents (parents t) out).lent ≡ text
    = ap (λ o. take (2 * nodes t) o.lent) made ∙ take_at text (drop (length text) out) (2 * nodes t) n in
    (made, ap (λ xs. parents_of_text xs out') front ∙ text_gives_its_tree t text out' (omega (arith, fits.0)) fits (no_blanks (brackets t)) room_out)

pub text_accepted_exactly : P.TextAcceptedExactly
text_accepted_exactly text out = (
  λ c. elim (came text out) [
    | too_long l is ↦ absurd (omega (arith, coded is))
    | came_broken p e is ↦ absurd (omega (arith, coded is))
    | came_deeper p e is ↦ absurd (omega (arith, coded is))
    | too_many t w e l is ↦ absurd (omega (arith, coded is))
    | no_room t fits e l is ↦ absurd (omega (arith, coded is))
    | given t fits e short l is ↦ (short, (t, fits, e, l))
  ],
  λ w. coded (text_gives_its_tree w.1.0 text out w.0 w.1.1 w.1.2 w.1.3),
)

pub text_read_then_written : P.TextReadThenWritten
text_read_then_written text out out' e room =
    let a = (text_accepted_exactly text out).0 e in
    let t = a.1.0 in
    let same = a.1.2 in
    let n = text-length t in
    let m = ap length same in
    ap (λ o. text_of_parents (take o.answer.first o.lent) out') (text_gives_its_tree t text out a.0 a.1.1 same a.1.3)
    ∙ ap (λ ps. text_of_parents ps out') (take_at (parents t) (drop (length (parents t)) out) (nodes t) (length-parents t))
    ∙ tree-written t out' a.1.1 (omega arith)
    ∙ ap₂ (λ n xs. came_to (counts n 0) (written xs out')) (sym (m ∙ n)) (sym same)

pub text_written_exactly : P.TextWrittenExactly
unfolding text_of_parents parent_rows
text_written_exactly ps out = (
  λ e.
      let h = (none-held out _ _ 0 _ (omega arith) e).0 in
      let w = listed-tree ps h.0 h.1.0 in
      let t = w.0 in
      let shallow = ltb-false 0 (deep (listing 65 ps 1 0)) h.1.1.0 in
      let room = ltb-false (length out) (length (text_of (bracketing ps))) h.1.1.1.0 in
      let none = ap (λ qs. deep (listing 65 qs 1 0)) w.2 in
      let same = ap length (ap text_of (sym (nested-brackets t) ∙ ap bracketing w.2)) in
      (t, (w.1, (none_deep t).0 (omega arith)), w.2, omega (arith, text-length t)),
  λ w. ap (λ qs. (text_of_parents qs out).answer.code) (sym w.2) ∙ coded (tree-written w.0 out w.1 w.3),
)

-- ---- what is refused

pub text_refused_there : P.TextRefusedThere
text_refused_there text out short n = elim (came text out) [
  | too_long l is ↦ absurd (omega arith)
  | came_broken p e is ↦
      let here = broken_first 64 text p (omega arith) e in
      rw is (here, λ q f. first_unique _ _ q p f here, inl refl, (λ z. absurd (omega arith), λ b. absurd ((broken_first_of_all 64 text p (omega arith) e).here b.0 b.1)))
  | came_deeper p e is ↦
      let d = deeper_first 64 text p (omega arith) e in
      rw is (d.0, λ q f. first_unique _ _ q p f d.0, inr refl, (λ z. (d.1, d.2), λ b. refl))
  | too_many t w e l is ↦ absurd (n (t, w, e))
  | no_room t fits e l is ↦ absurd (n (t, fits.1, e))
  | given t fits e s l is ↦ absurd (n (t, fits.1, e))
]

-- a text that is broken is that of no tree, of any depth
broken_none : (text : List ℕ) (p : ℕ) → read_within 64 text ≡ broken p → SomeText text → ⊥
broken_none text p e s = elim (dec_lt (length text) p) [
  | yes l ↦
      let b = (broken_first 64 text p (omega arith) e).before (length text) l in
      not_broken text p (ends_there 64 text s (rw take-length at b)) e
  | no l ↦ (broken_first_of_all 64 text p (omega arith) e).here (omega arith) (drop p text, rw take-append-drop s)
]

pub text_broken_there : P.TextBrokenThere
text_broken_there text out c = elim (came text out) [
  | too_long l is ↦ absurd (omega (arith, coded is))
  | came_broken p e is ↦
      let here = broken_first_of_all 64 text p (omega arith) e in
      rw is (broken_none text p e, here, λ q f. first_unique _ _ q p f here)
  | came_deeper p e is ↦ absurd (omega (arith, coded is))
  | too_many t w e l is ↦ absurd (omega (arith, coded is))
  | no_room t fits e l is ↦ absurd (omega (arith, coded is))
  | given t fits e s l is ↦ absurd (omega (arith, coded is))
]

pub text_too_nested_there : P.TextTooNestedThere
text_too_nested_there text out c = elim (came text out) [
  | too_long l is ↦ absurd (omega (arith, coded is))
  | came_broken p e is ↦ absurd (omega (arith, coded is))
  | came_deeper p e is ↦ rw is (nested-there 64 text p e)
  | too_many t w e l is ↦ absurd (omega (arith, coded is))
  | no_room t fits e l is ↦ absurd (omega (arith, coded is))
  | given t fits e s l is ↦ absurd (omega (arith, coded is))
]

pub text_too_long : P.TextTooLong
unfolding parents_of_text
text_too_long text out l = settle-here _ _ _ _ _ (lt-ltb 1048576 (length text) l)

pub text_too_many_nodes : P.TextTooManyNodes
text_too_many_nodes text out short = (
  λ c. elim (came text out) [
    | too_long l is ↦ absurd (omega arith)
    | came_broken p e is ↦ absurd (omega (arith, coded c, coded is))
    | came_deeper p e is ↦ absurd (omega (arith, coded c, coded is))
    | too_many t w e l is ↦ (t, w, e, l)
    | no_room t fits e l is ↦ absurd (omega (arith, coded c, coded is))
    | given t fits e s l is ↦ absurd (omega (arith, coded c, coded is))
  ],
  λ w. elim (came text out) [
    | too_long l is ↦ is
    | came_broken p e is ↦ absurd (not_broken text p (w.0, w.1, w.2) e)
    | came_deeper p e is ↦ absurd (not_deeper text p (w.0, w.1, w.2) e)
    | too_many t v e l is ↦ is
    | no_room t fits e l is ↦ let n = ap nodes (one-text w.0 t (sym w.2 ∙ e)) in absurd (omega (arith, fits.0, w.3))
    | given t fits e s l is ↦ let n = ap nodes (one-text w.0 t (sym w.2 ∙ e)) in absurd (omega (arith, fits.0, w.3))
  ],
)

-- what a listing comes to that is too deep
named : (d n : ℕ) (pairs out : List ℕ) → (d ≡ 0 → ⊥) → (measured_outcome (sized d n) pairs out).answer ≡ refused_with 9 d
named zero n pairs out h = absurd (h refl)
named (suc d) n pairs out h = refl

pub text_too_deep_is_named : P.TextTooDeepIsNamed
unfolding size_of
text_too_deep_is_named t out out' small n =
    let some : deepest t ≡ 0 → ⊥ = λ e. n ((none_deep t).0 e) in
    let wrote = tree_too_deep t out small some in
    let listed = listed_by_measure (record { tree = t; metres = none }) 1 out' (record { small = small; measured = tt }) (omega arith) (root-there t) in
    rw wrote (refl, first-deep t n, ap (λ o. o.answer) listed ∙ named (deepest t) _ _ _ some)

-- ---- what reading a text finds

pub text_by_found : P.TextByFound
text_by_found text levels levels' out (Ok to) short r = sym (by_nodes text out short r.0)
text_by_found text levels levels' out (Err (Broken p)) short r = text_broken text out short p r.0 r.2
text_by_found text levels levels' out (Err (Deeper p)) short r = text_deeper text out short p r.0 r.2
