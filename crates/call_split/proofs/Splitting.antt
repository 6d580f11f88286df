-- What each way out of splitting comes to, by the rows of `meaning`.
use Rattle.std.specs.Prelude.{Ok, Err}
use mathlib.Core.Path.{◌≡◌, sym, ap, ap₂, ◌∙◌}
use mathlib.Core.Bool.{Bool, true, ◌||◌}
use mathlib.Core.List.{List, [], ◌∷◌, ◌++◌}
use Prim.Native.Nat.{ℕ, ◌+◌, ◌≤◌, ◌<◌}
use native.Mathlib.Omega.{arith}
use borrow.Author.Tests.{lt-ltb, le-ltb}
use lib.ListN.{length, take, drop}
use lib.Seq.{sets, sets-eq, take_at}
use Rattle.meaning.specs.Bytes.{bits_from}
use Rattle.meaning.specs.Packs.{sizes, starts}
use Rattle.meaning.specs.declared.Answer.{Answer}
use Rattle.meaning.specs.Answers.{Row, ◌at◌when◌, Outcome, refused_with, counts, came_to, first_holding, settle, written, too_short}
use Rattle.meaning.specs.Tests.{pack_rows}
use Rattle.calls.specs.Calls.{split_pack}
use Rattle.theory.specs.Rows.{NoneHolds}
use Rattle.theory.proofs.Settled.{or-first, or-second, or_neither, settle-here, settle_on, settle-none, settle-refused, settle_passed, none_first}
use Rattle.pack_scan.proofs.Parts.{starts-length}
use Rattle.meaning.specs.declared.Refusal.{Refusal}
use Rattle.pack_check.proofs.Rows.{held-count}
use Rattle.table_sizes.specs.ToSplit.{SplitSized, SplitSizes}
use Rattle.table_sizes.proofs.ToSplit.{none_wrong, told_wrong}

-- entries that were all noted
handed_all : (new list old : List ℕ) (k : ℕ) {noted out : List ℕ} → noted ≡ sets list 0 new → length new ≡ k → k ≤ length list
    → out ≡ written (take k noted) old → out ≡ written new old
handed_all new list old k {noted} {out} e l r f =
    f ∙ ap (λ x. written x old)
    (ap (take k) (e ∙ sets-eq new list 0 (omega arith)) ∙ take_at new (drop (0 + length new) list) k l)

-- ---- the ways out

module _ (bytes : List ℕ) (L k : ℕ) (firsts sizes_out : List ℕ) where
  abbrev lent : List ℕ × List ℕ
  lent = (firsts, sizes_out)

  abbrev given : List ℕ × List ℕ
  given = (written (starts (bits_from bytes 0 L)) firsts, written (sizes (bits_from bytes 0 L)) sizes_out)

  abbrev short_firsts : Bool
  short_firsts = too_short (starts (bits_from bytes 0 L)) firsts

  abbrev short_sizes : Bool
  short_sizes = too_short (sizes (bits_from bytes 0 L)) sizes_out

  -- the row of the room
  abbrev room : List Row
  room = 1 at 0 when (short_firsts || short_sizes) ∷ []

  pub split_wrong : {r : Bool} → SplitSizes r (length bytes) L k → r ≡ true → came_to (refused_with 2 0) lent ≡ split_pack bytes L k firsts sizes_out
  unfolding split_pack
  split_wrong t e = sym (settle-here _ _ _ _ _ (told_wrong (length bytes) L k t e))

  module _ (z : SplitSized (length bytes) L k) where
    -- the rows after the sizes
    sizes_right : {o : Outcome (List ℕ × List ℕ)} → settle lent (pack_rows bytes L k ++ room) (counts L k) given ≡ o → o ≡ split_pack bytes L k firsts sizes_out
    unfolding split_pack
    sizes_right q = sym (settle_on _ _ _ _ _ (none_wrong (length bytes) L k z) ∙ q)

    pub split_refused : {r : Refusal} → Err r ≡ first_holding (pack_rows bytes L k) → came_to (refused_with r.code r.place) lent ≡ split_pack bytes L k firsts sizes_out
    split_refused e = sizes_right (settle-refused lent (counts L k) given room (pack_rows bytes L k) e)

    module _ (held : (Ok tt) ≡ first_holding (pack_rows bytes L k)) where
      none : NoneHolds (pack_rows bytes L k)
      none = none_first (pack_rows bytes L k) held

      count : length (sizes (bits_from bytes 0 L)) ≡ k
      count = held-count bytes L k none

      places : length (starts (bits_from bytes 0 L)) ≡ k
      unfolding starts
      places = starts-length (sizes (bits_from bytes 0 L)) 0 ∙ count

      last : {o : Outcome (List ℕ × List ℕ)} → settle lent room (counts L k) given ≡ o → o ≡ split_pack bytes L k firsts sizes_out
      last q = sizes_right (settle_passed lent (counts L k) given room (pack_rows bytes L k) held ∙ q)

      pub split_firsts : length firsts < k → came_to (refused_with 1 0) lent ≡ split_pack bytes L k firsts sizes_out
      split_firsts l = last (settle-here _ _ _ _ _ (or-first short_firsts short_sizes (lt-ltb (length firsts) (length (starts (bits_from bytes 0 L))) (omega (arith, places)))))

      pub split_sizes : length sizes_out < k → came_to (refused_with 1 0) lent ≡ split_pack bytes L k firsts sizes_out
      split_sizes l = last (settle-here _ _ _ _ _ (or-second short_firsts short_sizes (lt-ltb (length sizes_out) (length (sizes (bits_from bytes 0 L))) (omega (arith, count)))))

      pub split_made : k ≤ length firsts → k ≤ length sizes_out → came_to (counts L k) given ≡ split_pack bytes L k firsts sizes_out
      split_made l m =
          last (settle_on _ _ _ _ _ (or_neither short_firsts short_sizes
          (le-ltb (length firsts) (length (starts (bits_from bytes 0 L))) (omega (arith, places)))
          (le-ltb (length sizes_out) (length (sizes (bits_from bytes 0 L))) (omega (arith, count)))) ∙ settle-none _ _ _)

      -- the starts and sizes as they were noted in lists with room for all of them
      pub split_done : (zeros : List ℕ) {r : Answer} {f s noted_starts noted_sizes : List ℕ} → r ≡ counts L k → length zeros ≡ 256
          → noted_starts ≡ sets zeros 0 (starts (bits_from bytes 0 L)) → noted_sizes ≡ sets zeros 0 (sizes (bits_from bytes 0 L))
          → f ≡ written (take k noted_starts) firsts → s ≡ written (take k noted_sizes) sizes_out
          → k ≤ length firsts → k ≤ length sizes_out → came_to r (f, s) ≡ split_pack bytes L k firsts sizes_out
      split_done zeros {r} {f} {s} e q e1 e2 f1 f2 l m =
          ap₂ came_to e
          (ap₂ (λ x y. (x, y))
          (handed_all (starts (bits_from bytes 0 L)) zeros firsts k e1 places (omega (arith, z.few)) f1)
          (handed_all (sizes (bits_from bytes 0 L)) zeros sizes_out k e2 count (omega (arith, z.few)) f2))
          ∙ split_made l m
