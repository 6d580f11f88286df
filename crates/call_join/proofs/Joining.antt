-- What each way out of joining comes to, by the rows of `meaning`.
use Rattle.std.specs.Prelude.{Ok, Err}
use mathlib.Core.Path.{◌≡◌, sym, ap, ap₂, ◌∙◌}
use mathlib.Core.Bool.{Bool, true, false}
use mathlib.Core.List.{List, [], ◌∷◌, ◌++◌}
use Prim.Native.Nat.{ℕ, ◌+◌, ◌*◌, ◌≤◌, ◌<◌}
use native.Mathlib.Omega.{arith}
use borrow.Author.Tests.{lt-ltb, le-ltb}
use lib.Dec.{ltb}
use lib.ListN.{length, length-append}
use Rattle.meaning.specs.Parents.{IsParents, bad_entry}
use Rattle.meaning.specs.Strings.{string_of}
use Rattle.meaning.specs.Bytes.{bits_from, bytes_for, packed}
use Rattle.meaning.specs.declared.Answer.{Answer}
use Rattle.meaning.specs.Answers.{Row, ◌at◌when◌, Outcome, refused_with, counts, came_to, first_holding, settle, written, too_short}
use Rattle.meaning.specs.Tests.{pack_rows}
use Rattle.calls.specs.Calls.{join_pack}
use Rattle.theory.proofs.Settled.{settle-here, settle_on, settle-none, settle-refused, settle_passed}
use Rattle.theory.proofs.Forms.{string-size}
use Rattle.theory.proofs.Packing.{bits-length, packed-length}
use Rattle.bits_append.specs.Appended.{appended}
use Rattle.meaning.specs.declared.Refusal.{Refusal}
use Rattle.table_sizes.specs.ToJoin.{JoinSized, JoinSizes}
use Rattle.table_sizes.proofs.ToJoin.{none_wrong, told_wrong}

module _ (pack : List ℕ) (L k : ℕ) (ps : List ℕ) where
  abbrev joined : List ℕ
  joined = packed (bits_from pack 0 L ++ string_of ps)

  abbrev rest : List Row
  rest = 3 at bad_entry ps when ltb 0 (bad_entry ps) ∷ 1 at 0 when too_short joined pack ∷ []

  pub join_wrong : {r : Bool} → JoinSizes r (length pack) L k (length ps) → r ≡ true → came_to (refused_with 2 0) pack ≡ join_pack pack L k ps
  unfolding join_pack
  join_wrong t e = sym (settle-here _ _ _ _ _ (told_wrong (length pack) L k (length ps) t e))

  module _ (s : JoinSized (length pack) L k (length ps)) where
    -- the rows after the sizes
    sizes_right : {o : Outcome (List ℕ)} → settle pack (pack_rows pack L k ++ rest) (counts (L + (2 * length ps + 1)) (k + 1)) (written joined pack) ≡ o → o ≡ join_pack pack L k ps
    unfolding join_pack
    sizes_right q = sym (settle_on _ _ _ _ _ (none_wrong (length pack) L k (length ps) s) ∙ q)

    pub join_refused : {r : Refusal} → Err r ≡ first_holding (pack_rows pack L k) → came_to (refused_with r.code r.place) pack ≡ join_pack pack L k ps
    join_refused e = sizes_right (settle-refused pack _ _ rest (pack_rows pack L k) e)

    module _ (held : (Ok tt) ≡ first_holding (pack_rows pack L k)) where
      -- the rows of the parent list and of the room
      last : {o : Outcome (List ℕ)} → settle pack rest (counts (L + (2 * length ps + 1)) (k + 1)) (written joined pack) ≡ o → o ≡ join_pack pack L k ps
      last q = sizes_right (settle_passed pack _ _ rest (pack_rows pack L k) held ∙ q)

      pub join_entry : {r : ℕ} → r ≡ bad_entry ps → (r ≡ 0 → ⊥) → came_to (refused_with 3 r) pack ≡ join_pack pack L k ps
      join_entry f d = ap (λ p. came_to (refused_with 3 p) pack) f ∙ last (settle-here _ _ _ _ _ (lt-ltb 0 (bad_entry ps) (omega arith)))

      module _ (f : bad_entry ps ≡ 0) (p : IsParents ps) where
        joined-size : length joined ≡ bytes_for (L + (2 * length ps + 1))
        joined-size =
            packed-length (bits_from pack 0 L ++ string_of ps)
            ∙ ap (λ n. bytes_for n) (length-append (bits_from pack 0 L) (string_of ps) ∙ ap₂ ◌+◌ (bits-length pack 0 L) (string-size ps p))

        no_entry : ltb 0 (bad_entry ps) ≡ false
        no_entry = le-ltb 0 (bad_entry ps) (omega arith)

        pub join_room : length pack < bytes_for (L + (2 * length ps + 1)) → came_to (refused_with 1 0) pack ≡ join_pack pack L k ps
        join_room l = last (settle_on _ _ _ _ _ no_entry ∙ settle-here _ _ _ _ _ (lt-ltb (length pack) (length joined) (omega (arith, joined-size))))

        pub join_done : {r : Answer} {l : List ℕ} → r ≡ counts (L + (2 * length ps + 1)) (k + 1) → l ≡ appended pack L (string_of ps)
            → bytes_for (L + (2 * length ps + 1)) ≤ length pack → came_to r l ≡ join_pack pack L k ps
        unfolding appended
        join_done e1 e2 h =
            ap₂ came_to e1 e2
            ∙ last (settle_on _ _ _ _ _ no_entry ∙ settle_on _ _ _ _ _ (le-ltb (length pack) (length joined) (omega (arith, joined-size))) ∙ settle-none _ _ _)
