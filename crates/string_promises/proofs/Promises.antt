-- The promises of specs/Promises.antt.
use mathlib.Core.Path.{◌≡◌, refl, sym, ap, ap₂, ◌∙◌}
use mathlib.Core.Bool.{false, not}
use mathlib.Core.List.{List, [], ◌∷◌, append-nil}
use Prim.Native.Nat.{ℕ, ◌+◌, ◌*◌, ◌≤◌}
use native.Mathlib.Numerals.{add-one}
use native.Mathlib.Decide.{dec_lt}
use native.Mathlib.Omega.{arith}
use borrow.Author.Tests.{lt-ltb, le-ltb, ltb-false}
use lib.Dec.{ltb, eqb}
use lib.ListN.{length, take, drop}
use lib.Seq.{take_at}
use Rattle.meaning.specs.Trees.{Tree, nodes}
use Rattle.meaning.specs.Parents.{parents}
use Rattle.meaning.specs.Strings.{Bit, ones, lbs, strings, parents_of, string_of}
use Rattle.meaning.specs.Bytes.{bits_from, bytes_for, leftover, packed}
use Rattle.meaning.specs.Scan.{one, place}
use Rattle.meaning.specs.declared.Answer.{Answer}
use Rattle.meaning.specs.Answers.{Row, ◌at◌when◌, counts, came_to, settle, written, too_short}
use Rattle.meaning.specs.Tests.{parent_rows}
use Rattle.calls.specs.Calls.{string_of_parents, parents_of_string}
use Rattle.theory.specs.Changes.{changed}
use Rattle.theory.proofs.Settled.{or_neither, unequal, equal, settle_on}
use Rattle.theory.proofs.Codes.{neither, not_unequal, listed-tree, none-held}
use Rattle.theory.proofs.Scan.{nodes-ones}
use Rattle.theory.proofs.Odd.{never_odd}
use Rattle.theory.proofs.Parents.{parents_are}
use Rattle.theory.proofs.Lowest.{parents-bad_entry}
use Rattle.theory.proofs.Forms.{length-parents, string-parents}
use Rattle.theory.proofs.Packing.{bits-length, packed-length, packed-leftover, packed_read, read_packed}
use Rattle.theory.proofs.Packs.{string-length}
use Rattle.theorems.proofs.Promises.{string_back, string_accepted}
use Rattle.string_end_laws.specs.Ends.{tree_end}
use Rattle.string_end_laws.proofs.Ends.{over-within, refused-within, one-refused, one-whole, one-past}
use Rattle.string_end.specs.declared.TreeEnd.{TreeEnd}
use Rattle.std.specs.Prelude.{Result, Ok, Err}
use Rattle.string_end.specs.Ends.{end_of}
use Rattle.string_end.specs.Numbers.{end_row}
use Rattle.parents_check.proofs.Refusing.{passes}
use Rattle.call_string_of_parents.proofs.Answers.{string-made}
use Rattle.call_parents_of_string.proofs.Answers.{parents-made}
use Rattle.string_promises.specs.Promises as P
use Rattle.string_promises.proofs.Reading.{read_done, never_among}

-- ---- of a tree

string_bytes : (t : Tree) → length (packed (lbs t)) ≡ bytes_for (2 * nodes t + 1)
string_bytes t = packed-length (lbs t) ∙ ap (λ n. bytes_for n) (string-length t)

-- its parent list gives its string
tree-written : (t : Tree) (bytes : List ℕ) → nodes t ≤ 65535 → bytes_for (2 * nodes t + 1) ≤ length bytes
    → string_of_parents (parents t) bytes ≡ came_to (counts (2 * nodes t + 1) 1) (written (packed (lbs t)) bytes)
tree-written t bytes h room =
    let n = length-parents t in
    let p = parents_are t in
    let passed = passes (parents t) p.some (omega arith) (parents-bad_entry (parents t) p) in
    sym (string-made (parents t) bytes passed (omega arith) refl refl)
    ∙ ap₂ (λ n bs. came_to (counts (2 * n + 1) 1) (written (packed bs) bytes)) n (string-parents t)

-- its string gives its parent list
pub tree_read : (t : Tree) (out : List ℕ) → nodes t ≤ 65535 → nodes t ≤ length out
    → parents_of_string (packed (lbs t)) (2 * nodes t + 1) out ≡ came_to (counts (nodes t) 0) (written (parents t) out)
tree_read t out h room =
    let L = 2 * nodes t + 1 in
    let bytes = packed (lbs t) in
    let read : bits_from bytes 0 L ≡ lbs t = ap (bits_from bytes 0) (sym (string-length t)) ∙ packed_read (lbs t) in
    let clean : leftover bytes L ≡ false = ap (leftover bytes) (sym (string-length t)) ∙ packed-leftover (lbs t) in
    let good : place one (bits_from bytes 0 L) ≡ 0 = (string_accepted (bits_from bytes 0 L)).1 (t, h, sym read) in
    sym (parents-made bytes L out (omega arith) (string_bytes t) clean good (nodes t) (ap ones read ∙ sym (nodes-ones t)) room)
    ∙ ap (λ ps. came_to (counts (nodes t) 0) (written ps out)) (ap parents_of read ∙ (string_back t).1)

pub written_then_read : P.WrittenThenRead
written_then_read t bytes out h room room_out =
    let L = 2 * nodes t + 1 in
    let made = tree-written t bytes h room in
    let front : take (bytes_for L) (string_of_parents (parents t) bytes).lent ≡ packed (lbs t)
    = ap (λ o. take (bytes_for L) o.lent) made ∙ take_at (packed (lbs t)) (drop (length (packed (lbs t))) bytes) (bytes_for L) (string_bytes t) in
    (made, ap (λ xs. parents_of_string xs L out) front ∙ tree_read t out h room_out)

-- ---- of lists and bytes that are accepted

pub list_written_exactly : P.ListWrittenExactly
unfolding string_of_parents parent_rows
list_written_exactly ps bytes = (
  λ e.
      let h = (none-held bytes _ _ 0 _ (omega arith) e).0 in
      let w = listed-tree ps h.0 h.1.0 in
      let t = w.0 in
      let room = ltb-false (length bytes) (length (packed (string_of ps))) h.1.1.0 in
      let same = ap (λ bs. length (packed bs)) (sym (string-parents t) ∙ ap string_of w.2) in
      (t, w.1, w.2, omega (arith, string_bytes t)),
  λ w. ap (λ qs. (string_of_parents qs bytes).answer.code) (sym w.2) ∙ ap (λ o. o.answer.code) (tree-written w.0 bytes w.1 w.3),
)

record Accepted (bytes : List ℕ) (L : ℕ) (out : List ℕ) : Type 0 where
  size : length bytes ≡ bytes_for L
  clean : leftover bytes L ≡ false
  good : place one (bits_from bytes 0 L) ≡ 0
  room : length (parents_of (bits_from bytes 0 L)) ≤ length out

accepted : (bytes : List ℕ) (L : ℕ) (out : List ℕ) → (parents_of_string bytes L out).answer.code ≡ 0 → Accepted bytes L out
unfolding parents_of_string
accepted bytes L out e =
    let h = read_done out _ _ _ one bytes L _ (omega arith) e in
    record {
      size = not_unequal (length bytes) (bytes_for L) (neither (ltb 131071 L) (not (eqb (length bytes) (bytes_for L))) h.0).1;
      clean = h.1;
      good = h.2;
      room = ltb-false (length out) (length (parents_of (bits_from bytes 0 L))) h.3.0;
    }

-- bytes that a tree gives are read as its parent list
given_read : (bytes : List ℕ) (L : ℕ) (out : List ℕ) (t : Tree) → nodes t ≤ 65535 → packed (lbs t) ≡ bytes → L ≡ 2 * nodes t + 1 → nodes t ≤ length out
    → parents_of_string bytes L out ≡ came_to (counts (nodes t) 0) (written (parents t) out)
given_read bytes L out t h e l room = ap₂ (λ xs n. parents_of_string xs n out) (sym e) l ∙ tree_read t out h room

pub string_accepted_exactly : P.StringAcceptedExactly
string_accepted_exactly bytes L out b = (
  λ e.
      let a = accepted bytes L out e in
      let w = (string_accepted (bits_from bytes 0 L)).0 a.good in
      let t = w.0 in (
        t,
        w.1,
        ap packed w.2 ∙ read_packed bytes L b a.size a.clean,
        sym (bits-length bytes 0 L) ∙ ap length (sym w.2) ∙ string-length t,
        omega (arith, a.room, length-parents t, ap length (ap parents_of (sym w.2) ∙ (string_back t).1)),
      ),
  λ w. ap (λ o. o.answer.code) (given_read bytes L out w.0 w.1 w.2 w.3 w.4),
)

pub read_then_written : P.ReadThenWritten
read_then_written bytes L out bytes' b room e =
    let g = (string_accepted_exactly bytes L out b).0 e in
    let t = g.0 in
    let read = given_read bytes L out t g.1 g.2 g.3 g.4 in
    let n = string_bytes t in
    let m = ap length g.2 in
    ap (λ o. string_of_parents (take o.answer.first o.lent) bytes') read
    ∙ ap (λ ps. string_of_parents ps bytes') (take_at (parents t) (drop (length (parents t)) out) (nodes t) (length-parents t))
    ∙ tree-written t bytes' g.1 (omega arith)
    ∙ ap₂ (λ n xs. came_to (counts n 1) (written xs bytes')) (sym g.3) g.2

-- ---- by the end of the tree

-- the row of code 4 decides as that of the end
row_by_end : {A : Type 0} (before : A) (rest : List Row) (a : Answer) (after : A) (bits : List Bit) (end : Result TreeEnd ℕ) → end_of end ≡ tree_end bits 0
    → settle before (4 at place one bits when ltb 0 (place one bits) ∷ rest) a after ≡ settle before (end_row end (length bits) ∷ rest) a after
row_by_end before rest a after bits (Err x) e =
    let p = one-refused bits (sym e) in
    let w = refused-within bits 0 (sym e) in
    ap₂ (λ n b. settle before (4 at n when b ∷ rest) a after) p (lt-ltb 0 (place one bits) (omega arith))
row_by_end before rest a after bits (Ok end) e =
    let w = over-within bits 0 (sym e) in
    elim (dec_lt end.next (length bits)) [
      | yes l ↦
          let p = one-past bits (sym e) l in
          ap₂ (λ n b. settle before (4 at n when b ∷ rest) a after) (p ∙ sym (add-one end.next))
          (lt-ltb 0 (place one bits) (omega arith) ∙ sym (unequal end.next (length bits) (λ z. omega arith)))
      | no l ↦
          let h : end.next ≡ length bits = omega arith in
          let p = (one-whole bits (sym e) h).0 in
          settle_on before a after (4 at place one bits when ltb 0 (place one bits)) rest (le-ltb 0 (place one bits) (omega arith))
          ∙ sym (settle_on before a after (end_row (Ok end) (length bits)) rest (equal end.next (length bits) h))
    ]

pub read_by_end : P.ReadByEnd
unfolding parents_of_string
read_by_end bytes L out end short size clean e =
    settle_on _ _ _ _ _ (or_neither (ltb 131071 L) (not (eqb (length bytes) (bytes_for L))) (le-ltb 131071 L short) (equal (length bytes) (bytes_for L) size))
    ∙ settle_on _ _ _ _ _ clean
    ∙ row_by_end out _ _ _ (bits_from bytes 0 L) end e
    ∙ ap
    (λ n. settle out (end_row end n ∷ 1 at 0 when too_short (parents_of (bits_from bytes 0 L)) out ∷ []) (counts (length (parents_of (bits_from bytes 0 L))) 0)
    (written (parents_of (bits_from bytes 0 L)) out))
    (bits-length bytes 0 L)

-- ---- damage

-- a string alone is a list of strings
alone : (t : Tree) (bs : List Bit) → lbs t ≡ bs → strings (t ∷ []) ≡ bs
alone t bs e = append-nil (lbs t) ∙ e

pub odd_never_read : P.OddNeverRead
odd_never_read a b L out out' e f m c =
    let v = (string_accepted (bits_from a 0 L)).0 (accepted a L out e).good in
    let w = (string_accepted (bits_from b 0 L)).0 (accepted b L out' f).good in
    let p = alone v.0 (bits_from a 0 L) v.2 in
    let q = alone w.0 (bits_from b 0 L) w.2 in
    never_odd (v.0 ∷ []) (w.0 ∷ []) (ap length p ∙ bits-length a 0 L ∙ sym (ap length q ∙ bits-length b 0 L)) refl m (ap₂ changed p q ∙ c)

pub never_named_before : P.NeverNamedBefore
unfolding parents_of_string
never_named_before a b L out out' j e f same l =
    never_among out' _ _ _ one b L _ (omega arith) (omega arith) f a j (accepted a L out e).good same l
