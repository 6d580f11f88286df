-- What the code of a call tells that reads bits, be they one string or a pack: its first rows are
-- the sizes, the leftover bits and the place.
use mathlib.Core.Path.{◌≡◌}
use mathlib.Core.Bool.{Bool, false}
use mathlib.Core.List.{List, [], ◌∷◌}
use Prim.Native.Nat.{ℕ, ◌≤◌, ◌<◌}
use native.Mathlib.Omega.{arith}
use borrow.Author.Tests.{ltb-true, ltb-false}
use lib.Dec.{ltb}
use lib.ListN.{take}
use Rattle.meaning.specs.Bytes.{bits_from, leftover}
use Rattle.meaning.specs.Scan.{Kind, place}
use Rattle.meaning.specs.declared.Answer.{Answer}
use Rattle.meaning.specs.Answers.{Row, ◌at◌when◌, Outcome, settle}
use Rattle.theory.specs.Rows.{NoneHolds}
use Rattle.theory.proofs.Packing.{bits-length}
use Rattle.theory.proofs.Codes.{Others, none-held, row_held}
use Rattle.theorems.proofs.Promises.{never_before}

module _ {A : Type 0} (before : A) (a : Answer) (after : A) (wrong : Bool) (kind : Kind) (bytes : List ℕ) (L : ℕ) (rest : List Row) where
  abbrev found : ℕ
  found = place kind (bits_from bytes 0 L)

  abbrev upper : List Row
  upper = 2 at 0 when wrong ∷ 5 at 0 when leftover bytes L ∷ []

  abbrev named : Row
  named = 4 at found when ltb 0 found

  abbrev comes : Outcome A
  comes = settle before (2 at 0 when wrong ∷ 5 at 0 when leftover bytes L ∷ named ∷ rest) a after

  -- code 0: none of these rows holds, and none of the rest
  pub read_done : Others 0 rest → comes.answer.code ≡ 0
      → (wrong ≡ false) × (leftover bytes L ≡ false) × (place kind (bits_from bytes 0 L) ≡ 0) × NoneHolds rest
  read_done o e =
      let h = (none-held before a after 0 (2 at 0 when wrong ∷ 5 at 0 when leftover bytes L ∷ named ∷ rest) (omega arith, (omega arith, (omega arith, o))) e).0 in
      (h.0, h.1.0, (let l = ltb-false 0 found h.1.1.0 in omega arith), h.1.1.1)

  -- code 4 names no bit among the first j, where these are the first j of bits that are accepted
  pub never_among : Others 4 rest → (a.code ≡ 4 → ⊥) → comes.answer.code ≡ 4
      → (other : List ℕ) (j : ℕ) → place kind (bits_from other 0 L) ≡ 0 → take j (bits_from other 0 L) ≡ take j (bits_from bytes 0 L) → j ≤ L
      → j < comes.answer.place
  never_among o n e other j good same l =
      let w = row_held before a after 4 upper named rest (omega arith) o n e in
      let p = ltb-true 0 found w.0 in
      let s = bits-length bytes 0 L in
      let h = never_before kind (bits_from other 0 L) (bits_from bytes 0 L) j good same (omega arith) (λ z. omega arith) in
      omega (arith, h, w.1)
