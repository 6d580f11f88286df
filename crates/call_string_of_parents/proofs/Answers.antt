-- What each way out of the call comes to, by the rows of `meaning`.
use Rattle.std.specs.Prelude.{Ok, Err}
use mathlib.Core.Path.{◌≡◌, sym, ap, ap₂, ◌∙◌}
use mathlib.Core.List.{List}
use Prim.Native.Nat.{ℕ, ◌+◌, ◌*◌, ◌≤◌, ◌<◌}
use native.Mathlib.Omega.{arith}
use borrow.Author.Tests.{lt-ltb, le-ltb}
use lib.ListN.{length}
use Rattle.meaning.specs.Strings.{string_of}
use Rattle.meaning.specs.Bytes.{bytes_for, packed}
use Rattle.meaning.specs.declared.Answer.{Answer}
use Rattle.meaning.specs.declared.Refusal.{Refusal}
use Rattle.meaning.specs.Answers.{refused_with, counts, came_to, first_holding, written}
use Rattle.meaning.specs.Tests.{parent_rows}
use Rattle.calls.specs.Calls.{string_of_parents}
use Rattle.theory.proofs.Settled.{settle-here, settle_on, settle-none, settle-refused, settle_passed}
use Rattle.theory.proofs.Forms.{string-size}
use Rattle.theory.proofs.Packing.{packed-length}
use Rattle.parents_check.proofs.Refusing.{writable}

module _ (ps out : List ℕ) where
  pub string-refused : {r : Refusal} → Err r ≡ first_holding (parent_rows ps) → came_to (refused_with r.code r.place) out ≡ string_of_parents ps out
  unfolding string_of_parents
  string-refused e = sym (settle-refused _ _ _ _ (parent_rows ps) e)

  module _ (passed : (Ok tt) ≡ first_holding (parent_rows ps)) where
    packed-size : length (packed (string_of ps)) ≡ bytes_for (2 * length ps + 1)
    packed-size = packed-length (string_of ps) ∙ ap (λ L. bytes_for L) (string-size ps (writable ps passed).parents)

    pub string-room : length out < bytes_for (2 * length ps + 1) → came_to (refused_with 1 0) out ≡ string_of_parents ps out
    unfolding string_of_parents
    string-room l =
        sym (settle_passed _ _ _ _ (parent_rows ps) passed
        ∙ settle-here _ _ _ _ _ (lt-ltb (length out) (length (packed (string_of ps))) (omega (arith, packed-size))))

    pub string-made : {r : Answer} {l : List ℕ} → bytes_for (2 * length ps + 1) ≤ length out
        → r ≡ counts (2 * length ps + 1) 1 → l ≡ written (packed (string_of ps)) out → came_to r l ≡ string_of_parents ps out
    unfolding string_of_parents
    string-made h e f =
        ap₂ came_to (e ∙ ap (λ n. counts n 1) (sym (string-size ps (writable ps passed).parents))) f
        ∙ sym (settle_passed _ _ _ _ (parent_rows ps) passed
        ∙ settle_on _ _ _ _ _ (le-ltb (length out) (length (packed (string_of ps))) (omega (arith, packed-size)))
        ∙ settle-none _ _ _)
