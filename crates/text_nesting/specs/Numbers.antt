-- Document 02's numbers for how a text is read (item 4).
use Rattle.std.specs.Prelude.{List, [], ◌∷◌, ℕ, ltb, length, Result, Ok, Err}
use Rattle.meaning.specs.Parents.{parents}
use Rattle.meaning.specs.Brackets.{tree_in}
use Rattle.meaning.specs.Text.{brackets_in}
use Rattle.meaning.specs.Answers.{◌at◌when◌, Outcome, refused_with, counts, came_to, settle, written, too_short}
use Rattle.text_nesting.specs.declared.TextFault.{TextFault}
use Rattle.text_nesting.specs.declared.TextFault.TheVariants.{Broken, Deeper}

-- what reading a text comes to by it: its tree's parent list, where that is not too long and there
-- is room, or code 16 or 17 at a byte
abbrev pub found_outcome : Result ℕ TextFault → (text out : List ℕ) → Outcome (List ℕ)
found_outcome (Ok to) text out =
    let ps = parents (tree_in (brackets_in text)) in
    settle out
    (2 at 0 when ltb 65535 (length ps)
    ∷ 1 at 0 when too_short ps out
    ∷ [])
    (counts (length ps) 0)
    (written ps out)
found_outcome (Err (Broken p)) text out = came_to (refused_with 16 p) out
found_outcome (Err (Deeper p)) text out = came_to (refused_with 17 p) out
