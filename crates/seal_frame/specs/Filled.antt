-- What must be in the payloads of a lent image before its blocks are sealed, by words and bits.
use Rattle.std.specs.Prelude.{◌≡◌, List, [], ◌∷◌, ℕ, ◌+◌, ◌*◌, ◌<◌, length, get_or, take}
use Rattle.std.proofs.Math.Option.{Option}
use Rattle.meaning.specs.Strings.{Bit, ones}
use Rattle.meaning.specs.Image.{version_of, list_of, word_blocks, string_blocks, samples}
use Rattle.theory.specs.Layout.{word_at, sample_place, start_r0, start_s1, start_s0, start_metres, total}
use Rattle.seal_r1.specs.Passes.{Part}

-- the numbers of ones in earlier blocks, for r in blocks from block `from` on
abbrev pub Counts : List ℕ → ℕ → List Bit → Type 0
Counts bytes from r = (j : ℕ) → j < string_blocks (length r) → word_at bytes (512 * (from + j)) ≡ ones (take (4000 * j) r)

-- both strings and their samples
pub record Parts (bytes : List ℕ) (a b : List Bit) : Type 0 where
  pub first : Part bytes 1 (string_blocks (length a)) (start_s1 a b) (word_blocks (length (samples a))) a
  pub second : Part bytes (start_r0 a b) (string_blocks (length b)) (start_s0 a b) (word_blocks (length (samples b))) b

-- all payloads; after the last number of metres, if there are any, there are zeros
pub record Filled (bytes : List ℕ) (ms : Option (List ℕ)) (a b : List Bit) : Type 0 where
  pub head : (w : ℕ) → w < 126 → word_at bytes (4 * w) ≡ get_or (version_of ms ∷ length a ∷ ones a ∷ total ms a b ∷ []) w 0
  pub parts : Parts bytes a b
  pub counts1 : Counts bytes 1 a
  pub counts0 : Counts bytes (start_r0 a b) b
  pub metres : (w : ℕ) → w < 126 * word_blocks (length (list_of ms)) → word_at bytes (sample_place (start_metres a b) w) ≡ get_or (list_of ms) w 0
