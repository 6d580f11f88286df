-- The lines of an outline: the pieces that they are put together from, and how long they are.
use mathlib.Core.Path.{◌≡◌, refl, sym}
use mathlib.Core.Bool.{Bool, true, false, true≢false}
use mathlib.Core.List.{List, [], ◌∷◌, ◌++◌, append_assoc}
use mathlib.Core.Option.{Option, none, some}
use Prim.Native.Nat.{ℕ, zero, suc, ◌+◌, ◌*◌, ◌^◌, ◌≤◌, ◌<◌}
use native.Mathlib.Omega.{arith}
use lib.Dec.{eqb}
use lib.IntN.{pos}
use lib.ListN.{length, get_or, length-append}
use Rattle.meaning.specs.declared.Answer.{Answer}
use Rattle.meaning.specs.Parents.{entry}
use Rattle.meaning.specs.Image.{present, list_of}
use Rattle.meaning.specs.Questions.{keep, numbers_of, children_of, answer, degree}
use Rattle.outline_text.specs.Text.{ascii, decimal}
use Rattle.outline_heading.specs.Lines.{heading, metres_field, node_line, node_lines, refusal, Pairs}
use Rattle.outline_text.proofs.Putting.{decimal-length}

-- ---- pieces

pub heading_pieces : (n m blocks : ℕ)
    → (ascii "n " ++ decimal n) ++ ((ascii " m " ++ decimal m) ++ ((ascii " blocks " ++ decimal blocks) ++ ascii "\n")) ≡ heading n m blocks
unfolding heading
heading_pieces n m blocks = sym (simp append_assoc)

pub metres_pieces : (ms : Option (List ℕ)) (x : ℕ) → present ms ≡ true → ascii " " ++ decimal (entry (list_of ms) x) ≡ metres_field ms x
metres_pieces none x e = absurd (true≢false (sym e))
metres_pieces (some ms) x e = refl

pub no_metres : (ms : Option (List ℕ)) (x : ℕ) → present ms ≡ false → [] ≡ metres_field ms x
no_metres none x e = refl
no_metres (some ms) x e = absurd (true≢false e)

pub node_pieces : (ms : Option (List ℕ)) (x depth d : ℕ)
    → decimal x ++ ((ascii " " ++ decimal depth) ++ ((ascii " " ++ decimal d) ++ (metres_field ms x ++ ascii "\n"))) ≡ node_line ms x depth d
unfolding node_line
node_pieces ms x depth d = sym (simp append_assoc)

pub refusal_pieces : (a : Answer) → (ascii "refused " ++ decimal a.code) ++ ((ascii " " ++ decimal a.place) ++ ascii "\n") ≡ refusal a
unfolding refusal
refusal_pieces a = sym (simp append_assoc)

-- ---- sizes

pub heading-size : (n m blocks : ℕ) → length (heading n m blocks) ≡ 14 + length (decimal n) + length (decimal m) + length (decimal blocks)
unfolding heading
heading-size n m blocks = simp length-append (omega arith)

pub node_size : (ms : Option (List ℕ)) (x depth d : ℕ)
    → length (node_line ms x depth d) ≡ 3 + length (decimal x) + length (decimal depth) + length (decimal d) + length (metres_field ms x)
unfolding node_line
node_size ms x depth d = simp length-append (omega arith)

pub refusal-size : (a : Answer) → length (refusal a) ≡ 10 + length (decimal a.code) + length (decimal a.place)
unfolding refusal
refusal-size a = simp length-append (omega arith)

-- ---- room for them all

kids_most : (ps : List ℕ) (x i : ℕ) → length (numbers_of ps x i) ≤ length ps
kids_most [] x i = omega arith
kids_most (p ∷ ps) x i = go (kids_most ps x (suc i)) (eqb p x)
  where
    go : length (numbers_of ps x (suc i)) ≤ length ps → (b : Bool) → length (keep b i (numbers_of ps x (suc i))) ≤ suc (length ps)
    go less true = omega arith
    go less false = omega arith

-- metres, where there are any, are a space and at most 10 digits
metres_most : (ms : Option (List ℕ)) (x : ℕ) → ((i : ℕ) → get_or (list_of ms) i 0 < 2 ^ 32) → length (metres_field ms x) ≤ 11
metres_most none x h = omega arith
metres_most (some ms) zero h = omega (arith, decimal-length 9 0 (omega arith))
metres_most (some ms) (suc i) h = omega (arith, decimal-length 9 (get_or ms i 0) (omega (arith, h i)))

module _ (n : ℕ) (ps : List ℕ) (ms : Option (List ℕ)) (few : n ≤ 4000) (size : length ps ≡ n) (small : (i : ℕ) → get_or (list_of ms) i 0 < 2 ^ 32) where
  -- a node's line has at most 4 digits, 2 and 4, two spaces, its metres and a line feed
  node_most : (x depth : ℕ) → x ≤ n → depth < 64 → length (node_line ms x depth (answer ps degree x (pos 0))) ≤ 24
  unfolding answer children_of
  node_most x depth g h =
      let d = length (numbers_of ps x 1) in
      omega (
        arith,
        node_size ms x depth d,
        decimal-length 3 x (omega arith),
        decimal-length 1 depth (omega arith),
        decimal-length 3 d (omega (arith, kids_most ps x 1)),
        metres_most ms x small,
      )

  pub lines_most : (pairs : List ℕ) → Pairs n pairs → length (node_lines ps ms pairs) ≤ 12 * length pairs
  unfolding node_lines
  lines_most [] p = omega arith
  lines_most (x ∷ []) p = absurd p
  lines_most (x ∷ depth ∷ rest) p =
      omega (
        arith,
        length-append (node_line ms x depth (answer ps degree x (pos 0))) (node_lines ps ms rest),
        node_most x depth p.1 p.2,
        lines_most rest p.3,
      )

-- of numbers of 32 bits
pub heading_most : (n m blocks : ℕ) → n < 4294967296 → m < 4294967296 → blocks < 4294967296 → length (heading n m blocks) ≤ 44
heading_most n m blocks f g h =
    omega (arith, heading-size n m blocks, decimal-length 9 n (omega arith), decimal-length 9 m (omega arith), decimal-length 9 blocks (omega arith))

pub refusal_most : (a : Answer) → a.code < 4294967296 → a.place < 4294967296 → length (refusal a) ≤ 30
refusal_most a g h = omega (arith, refusal-size a, decimal-length 9 a.code (omega arith), decimal-length 9 a.place (omega arith))
