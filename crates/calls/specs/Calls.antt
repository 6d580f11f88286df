-- The thirteen public calls: from what is lent to the answer and to what the lent lists hold
-- afterwards, for any input.
-- The refusals of each are in the order of document 01's table, "Numbers a caller gets back".
use Rattle.std.specs.Prelude.{Bool, false, not, ◌||◌, List, [], ◌∷◌, ◌++◌, map, ℕ, ◌+◌, ◌*◌, ◌/◌, ◌%◌, ltb, eqb, ℤ, length}
use Rattle.std.proofs.Math.Option.{Option, none, some}
use Rattle.meaning.specs.Parents.{parents, bad_entry}
use Rattle.meaning.specs.Strings.{ones, R1, parents_of, string_of}
use Rattle.meaning.specs.Bytes.{bits_from, bytes_for, leftover, packed}
use Rattle.meaning.specs.Scan.{one, place}
use Rattle.meaning.specs.Packs.{starts, sizes}
use Rattle.meaning.specs.Image.{present, list_of, image_of_string, parents_in, metres_in}
use Rattle.meaning.specs.Questions.{questions, is_node, not_allowed, answer_to}
use Rattle.meaning.specs.Listing.{listing, deep}
use Rattle.meaning.specs.Brackets.{tree_in, bracketing}
use Rattle.meaning.specs.Text.{text_of, brackets_in, read_text, broken_at, deeper_at}
use Rattle.meaning.specs.declared.Answer.{Answer}
use Rattle.meaning.specs.Answers.{◌at◌when◌, Outcome, counts, settle, written, too_short}
use Rattle.meaning.specs.Tests.{wrong_to_split, wrong_to_join, parent_rows, check_rows, pack_rows}

-- ---- Strings.

unfoldable pub string_of_parents : List ℕ → List ℕ → Outcome (List ℕ)
string_of_parents ps bytes =
    let bits = string_of ps in
    settle bytes
    (parent_rows ps
    ++ 1 at 0 when too_short (packed bits) bytes
    ∷ [])
    (counts (length bits) 1)
    (written (packed bits) bytes)

unfoldable pub parents_of_string : List ℕ → ℕ → List ℕ → Outcome (List ℕ)
parents_of_string bytes L ps =
    let bits = bits_from bytes 0 L in
    settle ps
    (2 at 0 when (ltb 131071 L || not (eqb (length bytes) (bytes_for L)))
    ∷ 5 at 0 when leftover bytes L
    ∷ 4 at place one bits when ltb 0 (place one bits)
    ∷ 1 at 0 when too_short (parents_of bits) ps
    ∷ [])
    (counts (length (parents_of bits)) 0)
    (written (parents_of bits) ps)

-- ---- Images.

-- a list of metres whose length is not that of the parent list
abbrev pub wrong_metres : Option (List ℕ) → List ℕ → Bool
wrong_metres none ps = false
wrong_metres (some ms) ps = not (eqb (length ms) (length ps))

-- the image of a parent list, with metres or without
unfoldable pub seal_parents : Option (List ℕ) → List ℕ → List ℕ → Outcome (List ℕ)
seal_parents ms ps bytes =
    let bits = string_of ps in
    settle bytes
    (2 at 0 when wrong_metres ms ps
    ∷ parent_rows ps
    ++ 1 at 0 when too_short (image_of_string ms bits) bytes
    ∷ [])
    (counts (length ps) (ones (R1 bits)))
    (written (image_of_string ms bits) bytes)

unfoldable pub image_of_parents : List ℕ → List ℕ → Outcome (List ℕ)
unfolding seal_parents
image_of_parents ps bytes = seal_parents none ps bytes

unfoldable pub image_with_metres : List ℕ → List ℕ → List ℕ → Outcome (List ℕ)
unfolding seal_parents
image_with_metres ps ms bytes = seal_parents (some ms) ps bytes

unfoldable pub check_image : List ℕ → Outcome Unit
check_image image =
    let ps = parents_in image in
    settle tt (check_rows image false) (counts (length ps) (ones (R1 (string_of ps)))) tt

unfoldable pub parents_of_image : List ℕ → List ℕ → Outcome (List ℕ)
parents_of_image image out =
    let ps = parents_in image in
    settle out
    (check_rows image false
    ++ 1 at 0 when too_short ps out
    ∷ [])
    (counts (length ps) 0)
    (written ps out)

unfoldable pub metres_of_image : List ℕ → List ℕ → Outcome (List ℕ)
metres_of_image image out =
    let ms = metres_in image in
    settle out
    (check_rows image false
    ++ 8 at 1 when not (present ms)
    ∷ 1 at 0 when too_short (list_of ms) out
    ∷ [])
    (counts (length (list_of ms)) 0)
    (written (list_of ms) out)

-- questions not in threes or over 256
abbrev pub wrong_questions : List ℤ → Bool
wrong_questions qs = not (eqb (length qs % 3) 0) || ltb 256 (length qs / 3)

unfoldable pub ask_image : List ℕ → List ℤ → List ℕ → Outcome (List ℕ)
ask_image image qs out =
    let ps = parents_in image in
    let ms = metres_in image in
    let bad = not_allowed (length ps) (present ms) (questions qs) 0 in
    let answers = map (answer_to ps (list_of ms)) (questions qs) in
    settle out
    (check_rows image (wrong_questions qs)
    ++ 8 at bad when ltb 0 bad
    ∷ 1 at 0 when too_short answers out
    ∷ [])
    (counts (length answers) 0)
    (written answers out)

unfoldable pub list_image : List ℕ → ℕ → List ℕ → Outcome (List ℕ)
list_image image x out =
    let ps = parents_in image in
    let pairs = listing 65 ps x 0 in
    settle out
    (check_rows image false
    ++ 8 at 1 when not (is_node (length ps) x)
    ∷ 9 at deep pairs when ltb 0 (deep pairs)
    ∷ 1 at 0 when too_short pairs out
    ∷ [])
    (counts (length pairs / 2) 0)
    (written pairs out)

-- ---- Packs.

unfoldable pub split_pack : List ℕ → ℕ → ℕ → List ℕ → List ℕ → Outcome (List ℕ × List ℕ)
split_pack bytes L k out_starts out_sizes =
    let bits = bits_from bytes 0 L in
    settle (out_starts, out_sizes)
    (2 at 0 when wrong_to_split (length bytes) L k
    ∷ pack_rows bytes L k
    ++ 1 at 0 when (too_short (starts bits) out_starts || too_short (sizes bits) out_sizes)
    ∷ [])
    (counts L k)
    (written (starts bits) out_starts, written (sizes bits) out_sizes)

unfoldable pub join_pack : List ℕ → ℕ → ℕ → List ℕ → Outcome (List ℕ)
join_pack pack L k ps =
    let bits = bits_from pack 0 L in
    let joined = bits ++ string_of ps in
    let longer = L + (2 * length ps + 1) in
    settle pack
    (2 at 0 when wrong_to_join (length pack) L k (length ps)
    ∷ pack_rows pack L k
    ++ 3 at bad_entry ps when ltb 0 (bad_entry ps)
    ∷ 1 at 0 when too_short (packed joined) pack
    ∷ [])
    (counts longer (k + 1))
    (written (packed joined) pack)

-- ---- Text.

unfoldable pub parents_of_text : List ℕ → List ℕ → Outcome (List ℕ)
parents_of_text text out =
    let read = read_text text in
    let ps = parents (tree_in (brackets_in text)) in
    settle out
    (2 at 0 when ltb 1048576 (length text)
    ∷ 16 at broken_at read when ltb 0 (broken_at read)
    ∷ 17 at deeper_at read when ltb 0 (deeper_at read)
    ∷ 2 at 0 when ltb 65535 (length ps)
    ∷ 1 at 0 when too_short ps out
    ∷ [])
    (counts (length ps) 0)
    (written ps out)

unfoldable pub text_of_parents : List ℕ → List ℕ → Outcome (List ℕ)
text_of_parents ps out =
    let deepest = deep (listing 65 ps 1 0) in
    let text = text_of (bracketing ps) in
    settle out
    (parent_rows ps
    ++ 9 at deepest when ltb 0 deepest
    ∷ 1 at 0 when too_short text out
    ∷ [])
    (counts (length text) 0)
    (written text out)

-- ---- All calls: a call with its inputs, and what comes back, the answer and each lent list that
-- may be written.

pub data Call : Type 0 where
  plq_string_of_parents : (parents bytes : List ℕ) → Call
  plq_parents_of_string : (bytes : List ℕ) (L : ℕ) (parents : List ℕ) → Call
  plq_image_of_parents : (parents image : List ℕ) → Call
  plq_image_with_metres : (parents metres image : List ℕ) → Call
  plq_parents_of_image : (image parents : List ℕ) → Call
  plq_metres_of_image : (image metres : List ℕ) → Call
  plq_check_image : (image : List ℕ) → Call
  ask : (image : List ℕ) (questions : List ℤ) (answers : List ℕ) → Call
  list : (image : List ℕ) (x : ℕ) (listing : List ℕ) → Call
  split : (bytes : List ℕ) (L k : ℕ) (starts sizes : List ℕ) → Call
  join : (pack : List ℕ) (L k : ℕ) (parents : List ℕ) → Call
  plq_parents_of_text : (text parents : List ℕ) → Call
  plq_text_of_parents : (parents text : List ℕ) → Call

pub record Back : Type 0 where
  pub answer : Answer
  pub lent : List (List ℕ)

abbrev one_list : Outcome (List ℕ) → Back
one_list o = record { answer = o.answer; lent = o.lent ∷ [] }

abbrev two_lists : Outcome (List ℕ × List ℕ) → Back
two_lists o = record { answer = o.answer; lent = o.lent.0 ∷ o.lent.1 ∷ [] }

unfoldable pub does : Call → Back
does (plq_string_of_parents ps out) = one_list (string_of_parents ps out)
does (plq_parents_of_string bytes L out) = one_list (parents_of_string bytes L out)
does (plq_image_of_parents ps out) = one_list (image_of_parents ps out)
does (plq_image_with_metres ps ms out) = one_list (image_with_metres ps ms out)
does (plq_parents_of_image image out) = one_list (parents_of_image image out)
does (plq_metres_of_image image out) = one_list (metres_of_image image out)
does (plq_check_image image) = record { answer = (check_image image).answer; lent = [] }
does (ask image qs out) = one_list (ask_image image qs out)
does (list image x out) = one_list (list_image image x out)
does (split bytes L k starts sizes) = two_lists (split_pack bytes L k starts sizes)
does (join pack L k ps) = one_list (join_pack pack L k ps)
does (plq_parents_of_text text out) = one_list (parents_of_text text out)
does (plq_text_of_parents ps out) = one_list (text_of_parents ps out)
