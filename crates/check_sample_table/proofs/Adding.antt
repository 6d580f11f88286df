-- The ones before each word as the sums of those in the words before it.
use mathlib.Core.Path.{◌≡◌, ap, ◌∙◌}
use mathlib.Core.List.{List}
use Prim.Native.Nat.{ℕ, zero, suc, ◌+◌, ◌*◌, ◌≤◌, ◌<◌}
use native.Mathlib.Omega.{arith}
use lib.ListN.{length, get_or, set, length-set}
use Rattle.meaning.specs.Strings.{ones}
use Rattle.meaning.specs.Bytes.{bits_from}
use Rattle.theory.specs.Tables.{sum_to}
use Rattle.theory.proofs.Tables.{filled_more, kept_more, sum-next}
use Rattle.check_sample_table.specs.Table.{WordCounts, CountsBefore}
use Rattle.bits_count.proofs.Runs.{bits-ones-le, no_bits, ones-after}

-- the first w numbers of a table have been put in their places
abbrev pub Summed : List ℕ → List ℕ → ℕ → ℕ → Type 0
Summed t table sum w =
    (length table ≡ 63) × (sum ≡ sum_to t w) × (sum ≤ 64 * w) × ((q : ℕ) → q < w → get_or table q 0 ≡ sum_to t q) × ((q : ℕ) → w ≤ q → get_or table q 0 ≡ get_or t q 0)

module _ (t : List ℕ) (few : (w : ℕ) → w < 63 → get_or t w 0 ≤ 64) (table : List ℕ) (sum w : ℕ) (h : w < 63) (s : Summed t table sum w) where
  summed-few : get_or table w 0 ≤ 64
  summed-few = omega (arith, s.4 w (omega arith), few w h)

  pub summed_more : (next : List ℕ) (r : ℕ) → next ≡ set table w sum → r ≡ sum + get_or table w 0 → Summed t next r (w + 1)
  summed_more next r e f = rw e (
    simp length-set s.0,
    omega (arith, sum-next t w, s.1, s.4 w (omega arith)),
    omega (arith, summed-few, s.2),
    filled_more (sum_to t) table w sum (omega (arith, s.0)) s.1 s.3,
    kept_more (λ q. get_or t q 0) table w sum s.4,
  )

module _ (bytes : List ℕ) (at : ℕ) (table : List ℕ) (counts : WordCounts bytes at table) where
  sum_ones : (w : ℕ) → w ≤ 63 → sum_to table w ≡ ones (bits_from bytes (8 * at) (64 * w))
  unfolding sum_to
  sum_ones zero h = no_bits bytes (8 * at)
  sum_ones (suc w) h =
      let before = sum_ones w (omega arith) in
      let here = counts w (omega arith) in
      let after = ones-after bytes at (8 * w) 64 in
      let front = ap (λ m. ones (bits_from bytes (8 * at) m)) (let f : 8 * (8 * w) ≡ 64 * w = omega arith in f) in
      let whole = ap (λ m. ones (bits_from bytes (8 * at) m)) (let f : 8 * (8 * w) + 64 ≡ 64 * suc w = omega arith in f) in
      omega arith

  pub counts-before : (sums : List ℕ) → ((w : ℕ) → w < 63 → get_or sums w 0 ≡ sum_to table w) → CountsBefore bytes at sums
  counts-before sums e w h = e w h ∙ sum_ones w (omega arith)

  pub counts-few : (w : ℕ) → w < 63 → get_or table w 0 ≤ 64
  counts-few w h = omega (arith, counts w h, bits-ones-le bytes (8 * (at + 8 * w)) 64)
