-- The rows of a parent list that is to be written, by what its check found.
use Rattle.std.specs.Prelude.{Ok, Err}
use mathlib.Core.Path.{◌≡◌, sym, ap, ◌∙◌}
use mathlib.Core.Bool.{true}
use mathlib.Core.List.{List, [], ◌∷◌}
use Prim.Native.Nat.{ℕ, ◌≤◌, ◌<◌}
use native.Mathlib.Omega.{arith}
use borrow.Author.Tests.{lt-ltb, le-ltb, ltb-false}
use lib.Dec.{ltb}
use lib.ListN.{length}
use Rattle.meaning.specs.Parents.{IsParents, bad_entry}
use Rattle.meaning.specs.Answers.{Row, ◌at◌when◌, alone, first_holding}
use Rattle.meaning.specs.Tests.{wrong_count, parent_rows}
use Rattle.theory.specs.Rows.{NoneHolds}
use Rattle.theory.proofs.Settled.{below, beyond, between, first-here, first_on, first-none, none_first}
use Rattle.theory.proofs.Codes.{not-outside}
use Rattle.parents_check.proofs.Rising.{good_parents}

-- what a list that passes keeps to
pub record Writable (ps : List ℕ) : Type 0 where
  pub some : 1 ≤ length ps
  pub most : length ps ≤ 65535
  pub good : bad_entry ps ≡ 0
  pub parents : IsParents ps

module _ (ps : List ℕ) where
  abbrev count : Row
  count = 2 at 0 when wrong_count ps

  abbrev entry : Row
  entry = 3 at bad_entry ps when ltb 0 (bad_entry ps)

  refused-count : wrong_count ps ≡ true → alone (2 at 0 when true) ≡ first_holding (parent_rows ps)
  unfolding parent_rows
  refused-count e = sym (first-here count (entry ∷ []) e)

  pub refused-few : length ps < 1 → alone (2 at 0 when true) ≡ first_holding (parent_rows ps)
  refused-few h = refused-count (below 1 65535 (length ps) h)

  pub refused_many : 65535 < length ps → alone (2 at 0 when true) ≡ first_holding (parent_rows ps)
  refused_many h = refused-count (beyond 1 65535 (length ps) h)

  pub by_entry : 1 ≤ length ps → length ps ≤ 65535 → (r : ℕ) → bad_entry ps ≡ r → 0 < r → Err (record { code = 3; place = r }) ≡ first_holding (parent_rows ps)
  unfolding parent_rows
  by_entry g h r e lt =
      ap (λ x. Err (record { code = 3; place = x })) (sym e)
      ∙ sym (first-here entry [] (lt-ltb 0 (bad_entry ps) (omega arith)))
      ∙ sym (first_on count (entry ∷ []) (between 1 65535 (length ps) g h))

  pub passes : 1 ≤ length ps → length ps ≤ 65535 → bad_entry ps ≡ 0 → (Ok tt) ≡ first_holding (parent_rows ps)
  unfolding parent_rows
  passes g h e =
      sym (first_on count (entry ∷ []) (between 1 65535 (length ps) g h) ∙ first_on entry [] (le-ltb 0 (bad_entry ps) (omega arith)) ∙ first-none)

  none_writable : NoneHolds (parent_rows ps) → Writable ps
  unfolding parent_rows
  none_writable n =
      let sized = not-outside 1 65535 (length ps) n.0 in
      let least = ltb-false 0 (bad_entry ps) n.1.0 in
      let good : bad_entry ps ≡ 0 = omega arith in
      record { some = sized.0; most = sized.1; good = good; parents = good_parents ps sized.0 good }

  pub writable : (Ok tt) ≡ first_holding (parent_rows ps) → Writable ps
  writable e = none_writable (none_first (parent_rows ps) e)
