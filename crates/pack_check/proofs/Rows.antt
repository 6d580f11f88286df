-- The rows of a pack, by what its scan found.
use Rattle.std.specs.Prelude.{Result, Ok, Err}
use Rattle.std.specs.Result.{result_and}
use mathlib.Core.Path.{◌≡◌, refl, sym, ap, ap₂, ◌∙◌}
use mathlib.Core.Bool.{false, not}
use mathlib.Core.List.{List, [], ◌∷◌}
use Prim.Native.Nat.{ℕ}
use native.Mathlib.Omega.{arith}
use borrow.Author.Tests.{lt-ltb, le-ltb}
use lib.Dec.{ltb, eqb}
use lib.ListN.{length}
use Rattle.meaning.specs.Strings.{Bit}
use Rattle.meaning.specs.Bytes.{bits_from, leftover}
use Rattle.meaning.specs.Scan.{many, place}
use Rattle.meaning.specs.Packs.{sizes}
use Rattle.meaning.specs.Answers.{Verdict, Row, ◌at◌when◌, alone, over, first_holding}
use Rattle.meaning.specs.Tests.{pack_rows}
use Rattle.theory.specs.Rows.{NoneHolds}
use Rattle.theory.proofs.Settled.{equal, first-here, first_on, first_alone}
use Rattle.theory.proofs.Codes.{not_unequal}
use Rattle.pack_scan.specs.Found.{trees, found, found_of}
use Rattle.pack_scan.specs.Numbers.{pack_row}
use Rattle.pack_scan.proofs.Telling.{found_trees, found-refused}

-- the upper row wins
pub is_over : (upper lower : Verdict) → result_and upper lower ≡ over upper lower
is_over (Ok _) lower = refl
is_over (Err r) lower = refl

module _ (bytes : List ℕ) (L k : ℕ) where
  abbrev bits : List Bit
  bits = bits_from bytes 0 L

  abbrev string : Row
  string = 4 at place many bits when ltb 0 (place many bits)

  abbrev count : Row
  count = 10 at length (sizes bits) when not (eqb (length (sizes bits)) k)

  -- the rows of codes 4 and 10, by what the scan found
  scanned : (pack : Result ℕ ℕ) → found_of pack ≡ found bits → alone (pack_row pack k) ≡ first_holding (string ∷ count ∷ [])
  scanned (Err x) e =
      let w = found-refused bits e in
      ap (λ p. Err (record { code = 4; place = p })) (sym w.0)
      ∙ sym (first-here string (count ∷ []) (lt-ltb 0 (place many bits) (omega (arith, w.0, w.1))))
  scanned (Ok n) e =
      let w = found_trees bits e in
      ap (λ j. alone (10 at j when not (eqb j k))) (sym w.1)
      ∙ sym (first_alone count)
      ∙ sym (first_on string (count ∷ []) (le-ltb 0 (place many bits) (omega (arith, w.0))))

  pub held : (pack : Result ℕ ℕ) → found_of pack ≡ found bits
      → over (alone (5 at 0 when leftover bytes L)) (alone (pack_row pack k)) ≡ first_holding (pack_rows bytes L k)
  unfolding pack_rows first_holding
  held pack e = ap (over (alone (5 at 0 when leftover bytes L))) (scanned pack e)

  pub held_trees : leftover bytes L ≡ false → {n : ℕ} → trees n ≡ found bits → n ≡ k → (Ok tt) ≡ first_holding (pack_rows bytes L k)
  held_trees clean {n} e same =
      sym (ap₂ (λ l d. over (alone (5 at 0 when l)) (alone (10 at n when d))) clean (equal n k same)) ∙ held (Ok n) e

  pub held-count : NoneHolds (pack_rows bytes L k) → length (sizes (bits_from bytes 0 L)) ≡ k
  unfolding pack_rows
  held-count n = not_unequal (length (sizes (bits_from bytes 0 L))) k n.1.1.0
