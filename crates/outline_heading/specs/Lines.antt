-- The lines that the outline program prints (document 01, "The outline program", and document 02,
-- item 2). Every line ends with one line feed.
use Rattle.std.specs.Prelude.{List, [], ◌∷◌, ◌++◌, ℕ, ◌≤◌, ◌<◌, pos}
use Rattle.std.proofs.Math.Option.{Option, none, some}
use Rattle.meaning.specs.declared.Answer.{Answer}
use Rattle.meaning.specs.Parents.{entry}
use Rattle.meaning.specs.Questions.{answer, degree}
use Rattle.outline_text.specs.Text.{ascii, decimal}

-- n N m M blocks B
unfoldable pub heading : ℕ → ℕ → ℕ → List ℕ
heading n m blocks = ascii "n " ++ decimal n ++ ascii " m " ++ decimal m ++ ascii " blocks " ++ decimal blocks ++ ascii "\n"

-- where there are metres, a space and those of node x
abbrev pub metres_field : Option (List ℕ) → ℕ → List ℕ
metres_field none x = []
metres_field (some ms) x = ascii " " ++ decimal (entry ms x)

-- number, depth, degree and, where there are metres, the node's metres, with one space between
unfoldable pub node_line : Option (List ℕ) → ℕ → ℕ → ℕ → List ℕ
node_line ms x depth d = decimal x ++ ascii " " ++ decimal depth ++ ascii " " ++ decimal d ++ metres_field ms x ++ ascii "\n"

-- one line for each node of a listing, in its order, by the parent list of the tree and the metres,
-- if there are any: a listing has two numbers to a node
unfoldable pub node_lines : List ℕ → Option (List ℕ) → List ℕ → List ℕ
node_lines ps ms [] = []
node_lines ps ms (x ∷ []) = []
node_lines ps ms (x ∷ depth ∷ rest) = node_line ms x depth (answer ps degree x (pos 0)) ++ node_lines ps ms rest

-- refused CODE PLACE
unfoldable pub refusal : Answer → List ℕ
refusal a = ascii "refused " ++ decimal a.code ++ ascii " " ++ decimal a.place ++ ascii "\n"

-- node and depth, two numbers to a node, of nodes 1 to n at depths that a listing has
abbrev pub Pairs : ℕ → List ℕ → Type 0
Pairs n [] = Unit
Pairs n (x ∷ []) = ⊥
Pairs n (x ∷ depth ∷ rest) = (1 ≤ x) × (x ≤ n) × (depth < 64) × Pairs n rest
