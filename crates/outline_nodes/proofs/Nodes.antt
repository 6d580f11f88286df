-- The lines of the nodes of a listing, pair by pair: those that are put, and those that are still
-- to come.
use mathlib.Core.Path.{◌≡◌, refl, sym, ap, ◌∙◌, subst}
use mathlib.Core.List.{List, [], ◌∷◌, ◌++◌, append_assoc, append-nil}
use mathlib.Core.Option.{Option}
use Prim.Native.Nat.{ℕ, suc, ◌+◌, ◌*◌, ◌/◌, ◌≤◌, ◌<◌}
use native.Mathlib.Numerals.{add-one}
use native.Mathlib.Omega.{arith}
use native.Mathlib.Decide.{dec_le}
use lib.IntN.{pos}
use lib.ListN.{length, get_or, drop, length-append, length-drop, drop_of_length-le}
use lib.Seq.{drop-cons}
use Rattle.meaning.specs.Questions.{answer, degree}
use Rattle.outline_text.specs.declared.Page.{Page}
use Rattle.outline_text.specs.Text.{Room, Writes}
use Rattle.outline_heading.specs.Lines.{node_line, node_lines, Pairs}
use Rattle.outline_text.proofs.Putting.{nothing_written, both_written, written_as, room_left}

-- ---- pairs

-- the pair at i, and those after it
pub record PairAt (n : ℕ) (pairs : List ℕ) (i : ℕ) : Type 0 where
  pub second : i + 1 < length pairs
  pub some : 1 ≤ get_or pairs i 0
  pub most : get_or pairs i 0 ≤ n
  pub here : drop i pairs ≡ get_or pairs i 0 ∷ get_or pairs (i + 1) 0 ∷ drop (i + 2) pairs
  pub after : Pairs n (drop (i + 2) pairs)

not_last : (n x : ℕ) (l : List ℕ) → Pairs n (x ∷ l) → 0 < length l
not_last n x [] h = absurd h
not_last n x (d ∷ l) h = omega arith

pub pair_at : (n : ℕ) (pairs : List ℕ) (i : ℕ) → Pairs n (drop i pairs) → i < length pairs → PairAt n pairs i
pair_at n pairs i h l =
    let x = get_or pairs i 0 in
    let first : drop i pairs ≡ x ∷ drop (i + 1) pairs = drop-cons pairs i 0 l ∙ ap (λ k. x ∷ drop k pairs) (sym (add-one i)) in
    let k : i + 1 < length pairs = omega (arith, not_last n x (drop (i + 1) pairs) (subst (Pairs n) first h), length-drop (i + 1) pairs) in
    let here = first ∙ ap (λ r. x ∷ r) (drop-cons pairs (i + 1) 0 k ∙ ap (λ j. get_or pairs (i + 1) 0 ∷ drop j pairs) (let e : suc (i + 1) ≡ i + 2 = omega arith in e)) in
    let p = subst (Pairs n) here h in
    record { second = k; some = p.0; most = p.1; here = here; after = p.3 }

-- ---- lines

-- of the lines of all pairs, those before pair k are on the page
pub record Half (ps : List ℕ) (ms : Option (List ℕ)) (pairs : List ℕ) (n : ℕ) (first : Page) (k : ℕ) (page : Page) : Type 0 where
  pub lines : List ℕ
  pub put : Writes lines first page
  pub whole : lines ++ node_lines ps ms (drop (2 * k) pairs) ≡ node_lines ps ms pairs
  pub rest : Pairs n (drop (2 * k) pairs)

module _ (ps : List ℕ) (ms : Option (List ℕ)) (pairs : List ℕ) (n : ℕ) (first : Page) where
  pub none_put : Pairs n pairs → first.at ≤ length first.text.now → Half ps ms pairs n first 0 first
  none_put h fits = record { lines = []; put = nothing_written first fits; whole = refl; rest = h }

  module _ (k : ℕ) (page : Page) (half : Half ps ms pairs n first k page) where
    pub all_put : length pairs / 2 ≤ k → Writes (node_lines ps ms pairs) first page
    unfolding node_lines
    all_put h = elim (dec_le (length pairs) (2 * k)) [
      | yes l ↦
          written_as (sym (append-nil half.lines) ∙ ap (λ l. half.lines ++ node_lines ps ms l) (sym (drop_of_length-le pairs {i = 2 * k} l)) ∙ half.whole) half.put
      | no l ↦ absurd (omega (arith, (pair_at n pairs (2 * k) half.rest (omega arith)).second))
    ]

    module _ (l : k < length pairs / 2) where
      pub here : PairAt n pairs (2 * k)
      here = pair_at n pairs (2 * k) half.rest (omega arith)

      abbrev line : List ℕ
      line = node_line ms (get_or pairs (2 * k) 0) (get_or pairs (2 * k + 1) 0) (answer ps degree (get_or pairs (2 * k) 0) (pos 0))

      grown : (half.lines ++ line) ++ node_lines ps ms (drop (2 * k + 2) pairs) ≡ node_lines ps ms pairs
      unfolding node_lines
      grown = append_assoc half.lines line _ ∙ ap (λ r. half.lines ++ node_lines ps ms r) (sym here.here) ∙ half.whole

      pub line-room : Room (node_lines ps ms pairs) first → Room line page
      line-room h = omega (arith, room_left half.put, simp length-append at (ap length grown))

      pub line_put : (after : Page) → Writes line page after → Half ps ms pairs n first (k + 1) after
      line_put after p =
          let e : 2 * k + 2 ≡ 2 * (k + 1) = omega arith in
          record {
            lines = half.lines ++ line;
            put = both_written half.put p;
            whole = ap (λ j. (half.lines ++ line) ++ node_lines ps ms (drop j pairs)) (sym e) ∙ grown;
            rest = subst (λ j. Pairs n (drop j pairs)) e here.after;
          }
