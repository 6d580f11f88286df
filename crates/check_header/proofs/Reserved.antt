-- The words of the header, the reserved ones zero byte by byte.
use mathlib.Core.Path.{◌≡◌, sym, ap, ap₂, ◌∙◌}
use mathlib.Core.List.{List}
use Prim.Native.Nat.{ℕ, ◌+◌, ◌*◌, ◌/◌, ◌%◌, ◌≤◌, ◌<◌}
use native.Mathlib.Omega.{arith}
use lib.ListN.{length, get_or}
use Rattle.theory.specs.Layout.{word_at}
use Rattle.theory.specs.Stages.{Header, nodes_of, runs_of, version_in, blocks_needed}
use Rattle.image_string.specs.Parts.{ZeroBytes}
use Rattle.check_header.specs.Told.{RunsFit}
use Rattle.image_string.proofs.Zeros.{word_bytes, zero_word}

-- the reserved words of the header are zero exactly if their bytes are
pub zero-words : (bytes : List ℕ) → ZeroBytes bytes 16 504 → (w : ℕ) → 4 ≤ w → w < 126 → word_at bytes (4 * w) ≡ 0
zero-words bytes z w h g = zero_word bytes 16 504 (4 * w) z (omega arith) (omega arith)

pub words-zero : (bytes : List ℕ) → ((w : ℕ) → 4 ≤ w → w < 126 → word_at bytes (4 * w) ≡ 0) → ZeroBytes bytes 16 504
words-zero bytes z i h g =
    ap (λ j. get_or bytes j 0) (let e : i ≡ 4 * (i / 4) + i % 4 = omega arith in e)
    ∙ word_bytes bytes (4 * (i / 4)) (i % 4) (z (i / 4) (omega arith) (omega arith)) (omega arith)

-- ---- the header

module _ (bytes : List ℕ) (blocks n m : ℕ) (size : length bytes ≡ 512 * blocks) (nodes : n ≡ nodes_of bytes) (marks : m ≡ runs_of bytes) where
  pub header-all : 1 ≤ n → n ≤ 65535 → RunsFit n m → word_at bytes 12 ≡ blocks → blocks_needed (version_in bytes) n m ≡ blocks → ZeroBytes bytes 16 504 → Header bytes
  header-all some most runs count needed z = record {
    some = omega arith;
    most = omega arith;
    runs_some = omega (arith, runs.some);
    runs_most = omega (arith, runs.most);
    runs_two = λ two. omega (arith, runs.two (omega arith));
    blocks = omega arith;
    needed = let e : length bytes / 512 ≡ blocks = omega arith in e ∙ sym needed ∙ ap₂ (blocks_needed (version_in bytes)) nodes marks;
    reserved = zero-words bytes z;
  }

  pub header-runs : Header bytes → RunsFit n m
  header-runs h = record { some = omega (arith, h.runs_some); most = omega (arith, h.runs_most); two = λ two. omega (arith, h.runs_two (omega arith)) }

  pub header_needs : Header bytes → blocks_needed (version_in bytes) n m ≡ blocks
  header_needs h = ap₂ (blocks_needed (version_in bytes)) nodes marks ∙ sym h.needed ∙ omega arith
