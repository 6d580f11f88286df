-- One block of a lent image: its sums, and the image with that block's sums written (document 01,
-- "Image").
use Rattle.std.specs.Prelude.{Bool, List, [], ◌∷◌, ◌++◌, ℕ, zero, suc, ◌*◌, take, drop}
use Rattle.meaning.specs.Blocks.{sum_start, block, same}

-- the payload of block b
abbrev pub payload : List ℕ → ℕ → List ℕ
payload bytes b = take 504 (drop (512 * b) bytes)

-- the payloads of the first k blocks
unfoldable pub payloads_in : List ℕ → ℕ → List (List ℕ)
payloads_in bytes zero = []
payloads_in bytes (suc k) = payloads_in bytes k ++ (payload bytes k ∷ [])

-- does block b hold its payload's sums, as `wrong_from` asks it?
unfoldable pub right_at : List ℕ → ℕ → Bool
right_at bytes b = let x = take 512 (drop (512 * b) bytes) in same (block (sum_start b) (take 504 x)) x

-- the image with the sums of block b written after its payload
unfoldable pub with_sums : List ℕ → ℕ → List ℕ
with_sums bytes b = take (512 * b) bytes ++ (block (sum_start b) (payload bytes b) ++ drop (512 * suc b) bytes)
