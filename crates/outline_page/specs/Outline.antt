-- What the outline program prints for the bytes that it reads (document 01, "The outline program",
-- and document 02, item 2), in lines of outline_heading/specs/Lines.antt.
use Rattle.std.specs.Prelude.{cond, List, ◌++◌, ℕ, ◌*◌, ltb, eqb, length, replicate}
use Rattle.meaning.specs.declared.Answer.{Answer}
use Rattle.meaning.specs.Answers.{refused_with}
use Rattle.meaning.specs.Blocks.{blocks_in}
use Rattle.meaning.specs.Image.{parents_in, metres_in}
use Rattle.calls.specs.Calls.{check_image, list_image}
use Rattle.outline_heading.specs.Lines.{heading, node_lines, refusal}

-- after the check and the listing of the root: the heading alone if n is over 4,000, the heading
-- and the nodes, or the refusal alone
unfoldable pub printed : List ℕ → Answer → Answer → List ℕ → List ℕ
printed bytes found listed pairs =
    let top = heading found.first found.second (blocks_in bytes) in
    cond (eqb found.code 0)
    (cond (ltb 4000 found.first) top (cond (eqb listed.code 0) (top ++ node_lines (parents_in bytes) (metres_in bytes) pairs) (refusal listed)))
    (refusal found)

-- more than 96 blocks are refused; else the root, which is node 1, is listed, with room for every
-- node
unfoldable pub outline_of : List ℕ → List ℕ
outline_of bytes =
    let found = (check_image bytes).answer in
    let listed = list_image bytes 1 (replicate (2 * found.first) 0) in
    cond (ltb 49152 (length bytes)) (refusal (refused_with 2 0)) (printed bytes found listed.answer listed.lent)
