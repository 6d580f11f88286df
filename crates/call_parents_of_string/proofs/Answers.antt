-- What each way out of the call comes to, by the rows of `meaning`.
use mathlib.Core.Path.{◌≡◌, sym, ap, ◌∙◌}
use mathlib.Core.Bool.{true, false, not, ◌||◌}
use mathlib.Core.List.{List}
use Prim.Native.Nat.{ℕ, ◌≤◌, ◌<◌}
use native.Mathlib.Omega.{arith}
use borrow.Author.Tests.{lt-ltb, le-ltb}
use lib.Dec.{ltb, eqb}
use lib.ListN.{length}
use Rattle.meaning.specs.Strings.{ones, parents_of}
use Rattle.meaning.specs.Bytes.{bits_from, bytes_for, leftover}
use Rattle.meaning.specs.Scan.{one, place}
use Rattle.meaning.specs.Answers.{refused_with, counts, came_to, written}
use Rattle.calls.specs.Calls.{parents_of_string}
use Rattle.theory.proofs.Settled.{or-first, or-second, or_neither, unequal, equal, settle-here, settle_on, settle-none}
use Rattle.theory.proofs.Forms.{length_before}

module _ (bytes : List ℕ) (L : ℕ) (out : List ℕ) where
  pub parents-long : 131071 < L → came_to (refused_with 2 0) out ≡ parents_of_string bytes L out
  unfolding parents_of_string
  parents-long h = sym (settle-here _ _ _ _ _ (or-first (ltb 131071 L) (not (eqb (length bytes) (bytes_for L))) (lt-ltb 131071 L h)))

  pub parents_bytes : (length bytes ≡ bytes_for L → ⊥) → came_to (refused_with 2 0) out ≡ parents_of_string bytes L out
  unfolding parents_of_string
  parents_bytes h = sym (settle-here _ _ _ _ _ (or-second (ltb 131071 L) (not (eqb (length bytes) (bytes_for L))) (unequal (length bytes) (bytes_for L) h)))

  module _ (g : L ≤ 131071) (h : length bytes ≡ bytes_for L) where
    sized : (ltb 131071 L || not (eqb (length bytes) (bytes_for L))) ≡ false
    sized = or_neither (ltb 131071 L) (not (eqb (length bytes) (bytes_for L))) (le-ltb 131071 L g) (equal (length bytes) (bytes_for L) h)

    pub parents-leftover : leftover bytes L ≡ true → came_to (refused_with 5 0) out ≡ parents_of_string bytes L out
    unfolding parents_of_string
    parents-leftover e = sym (settle_on _ _ _ _ _ sized ∙ settle-here _ _ _ _ _ e)

    module _ (clean : leftover bytes L ≡ false) where
      pub parents-refused : (r : ℕ) → place one (bits_from bytes 0 L) ≡ r → 1 ≤ r → came_to (refused_with 4 r) out ≡ parents_of_string bytes L out
      unfolding parents_of_string
      parents-refused r e l =
          ap (λ p. came_to (refused_with 4 p) out) (sym e)
          ∙ sym (settle_on _ _ _ _ _ sized ∙ settle_on _ _ _ _ _ clean ∙ settle-here _ _ _ _ _ (lt-ltb 0 (place one (bits_from bytes 0 L)) (omega arith)))

      module _ (good : place one (bits_from bytes 0 L) ≡ 0) (n : ℕ) (size : ones (bits_from bytes 0 L) ≡ n) where
        nodes : length (parents_of (bits_from bytes 0 L)) ≡ n
        unfolding parents_of
        nodes = length_before (bits_from bytes 0 L) 0 ∙ size

        pub parents-room : length out < n → came_to (refused_with 1 0) out ≡ parents_of_string bytes L out
        unfolding parents_of_string
        parents-room l =
            sym (settle_on _ _ _ _ _ sized
            ∙ settle_on _ _ _ _ _ clean
            ∙ settle_on _ _ _ _ _ (le-ltb 0 (place one (bits_from bytes 0 L)) (omega arith))
            ∙ settle-here _ _ _ _ _ (lt-ltb (length out) (length (parents_of (bits_from bytes 0 L))) (omega (arith, nodes))))

        pub parents-made : n ≤ length out → came_to (counts n 0) (written (parents_of (bits_from bytes 0 L)) out) ≡ parents_of_string bytes L out
        unfolding parents_of_string
        parents-made l =
            ap (λ k. came_to (counts k 0) (written (parents_of (bits_from bytes 0 L)) out)) (sym nodes)
            ∙ sym (settle_on _ _ _ _ _ sized
            ∙ settle_on _ _ _ _ _ clean
            ∙ settle_on _ _ _ _ _ (le-ltb 0 (place one (bits_from bytes 0 L)) (omega arith))
            ∙ settle_on _ _ _ _ _ (le-ltb (length out) (length (parents_of (bits_from bytes 0 L))) (omega (arith, nodes)))
            ∙ settle-none _ _ _)
