-- The samples of a piece, one after another.
use mathlib.Core.Path.{◌≡◌}
use mathlib.Core.List.{List}
use Prim.Native.Nat.{ℕ, ◌+◌, ◌-◌, ◌*◌, ◌/◌, ◌≤◌, ◌<◌}
use native.Mathlib.Omega.{arith}
use Rattle.meaning.specs.Strings.{I, ones}
use Rattle.meaning.specs.Bytes.{bit_at, bits_from}
use Rattle.theory.specs.Layout.{sample_in}
use Rattle.bits_count.proofs.Runs.{bits_mono}
use Rattle.check_sample.specs.Words.{NamesOne}
use Rattle.check_sample.proofs.Naming.{one_more}
use Rattle.check_counts_and_samples.specs.Pieces.{PieceSampled}

-- sample number s, of a one among n bits, the first of which has position `first`, and which k ones
-- come before
abbrev pub NumberSampled : List ℕ → ℕ → ℕ → ℕ → ℕ → ℕ → ℕ → Type 0
NumberSampled bytes from at n first k s =
    (p : ℕ) → p < n → bit_at bytes (8 * at + p) ≡ I → k + ones (bits_from bytes (8 * at) p) ≡ 64 * s → sample_in bytes from s ≡ first + p

module _ (bytes : List ℕ) (from at n first k : ℕ) where
  pub number-named : (s : ℕ) → k ≤ 64 * s → NamesOne bytes at n first (64 * s + 1 - k) (sample_in bytes from s) → NumberSampled bytes from at n first k s
  number-named s h all p l e c = all p l e (omega arith)

  -- the samples before the piece
  pub none_before : (s : ℕ) → s < (k + 63) / 64 → NumberSampled bytes from at n first k s
  none_before s h p l e c = absurd (omega arith)

  pub numbers_piece : (s end : ℕ) → end ≡ k + ones (bits_from bytes (8 * at) n) → end ≤ 64 * s → ((q : ℕ) → q < s → NumberSampled bytes from at n first k q)
      → PieceSampled bytes from at n first k
  numbers_piece s end is h all p l e d =
      let there = one_more bytes at p e in
      let inside = bits_mono bytes (8 * at) (p + 1) n (omega arith) in
      let z = k + ones (bits_from bytes (8 * at) p) in
      all (z / 64) (omega arith) p l e (omega arith)
