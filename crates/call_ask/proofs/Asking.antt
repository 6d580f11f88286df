-- What asking an image comes to, from what the tests show.
use mathlib.Core.Path.{◌≡◌, sym, ap, ◌∙◌}
use mathlib.Core.Bool.{Bool, true, false, not, ◌||◌}
use mathlib.Core.List.{List, [], ◌∷◌, map}
use Prim.Native.Nat.{ℕ, ◌/◌, ◌%◌, ◌≤◌, ◌<◌}
use native.Mathlib.Omega.{arith}
use borrow.Author.Tests.{lt-ltb, le-ltb}
use lib.Dec.{ltb, eqb}
use lib.IntN.{ℤ}
use lib.ListN.{length, length-map}
use Rattle.meaning.specs.declared.Answer.{Answer}
use Rattle.meaning.specs.declared.Refusal.{Refusal}
use Rattle.meaning.specs.Answers.{Row, ◌at◌when◌, refused_with, counts, came_to, settle, written, too_short}
use Rattle.meaning.specs.Image.{present, list_of, parents_in, metres_in}
use Rattle.meaning.specs.Questions.{questions, not_allowed, answer_to}
use Rattle.meaning.specs.Tests.{wrong_size, check_rows}
use Rattle.calls.specs.Calls.{wrong_questions, ask_image}
use Rattle.std.specs.Prelude.{Ok, Err, Option, Some}
use Rattle.theory.specs.Places.{place_of}
use Rattle.theory.proofs.Places.{the_place}
use Rattle.theory.proofs.Settled.{or-first, or-second, or_neither, unequal, equal, settle-here, settle_on, settle-none}
use Rattle.theory.proofs.Stages.{parts_read}
use Rattle.image_layout.specs.declared.Layout.{Layout}
use Rattle.image_found.specs.Checked.{Checked, checked}
use Rattle.image_found.proofs.Finding.{comes_to, rows_checked, sound_known}
use Rattle.nav_metres.specs.Presence.{are_at}
use Rattle.nav_metres.proofs.Measures.{presence}
use Rattle.ask_allowed.proofs.Turns.{questions-count}

-- ---- the size of the list

pub not_threes : (qs : List ℤ) → (length qs % 3 ≡ 0 → ⊥) → wrong_questions qs ≡ true
not_threes qs h = or-first (not (eqb (length qs % 3) 0)) (ltb 256 (length qs / 3)) (unequal _ _ h)

pub too_many : (qs : List ℤ) → 256 < length qs / 3 → wrong_questions qs ≡ true
too_many qs h = or-second (not (eqb (length qs % 3) 0)) (ltb 256 (length qs / 3)) (lt-ltb _ _ h)

pub threes : (qs : List ℤ) → length qs % 3 ≡ 0 → length qs / 3 ≤ 256 → wrong_questions qs ≡ false
threes qs e l = or_neither (not (eqb (length qs % 3) 0)) (ltb 256 (length qs / 3)) (equal _ _ e) (le-ltb _ _ l)

-- ---- the call

module _ (bytes : List ℕ) (qs : List ℤ) (out : List ℕ) where
  abbrev given : List ℕ
  given = parents_in bytes

  abbrev bad : ℕ
  bad = not_allowed (length given) (present (metres_in bytes)) (questions qs) 0

  abbrev answers : List ℕ
  answers = map (answer_to given (list_of (metres_in bytes))) (questions qs)

  abbrev short : Row
  short = 1 at 0 when too_short answers out

  abbrev rest : List Row
  rest = 8 at bad when ltb 0 bad ∷ short ∷ []

  abbrev counted : Answer
  counted = counts (length answers) 0

  pub asked_size : wrong_questions qs ≡ true → came_to (refused_with 2 0) out ≡ ask_image bytes qs out
  unfolding ask_image check_rows
  asked_size e = sym (settle-here out counted (written answers out) (2 at 0 when (wrong_size bytes || wrong_questions qs)) _ (or-second (wrong_size bytes) (wrong_questions qs) e))

  module _ (right : wrong_questions qs ≡ false) where
    by_check : (c : Checked) → checked bytes ≡ c → ask_image bytes qs out ≡ comes_to out rest counted (written answers out) c
    unfolding ask_image
    by_check c e = rows_checked out rest counted (written answers out) bytes (wrong_questions qs) right ∙ ap (comes_to out rest counted (written answers out)) e

    pub asked_refused : (r : Refusal) → checked bytes ≡ Err r → came_to (refused_with r.code r.place) out ≡ ask_image bytes qs out
    asked_refused r e = sym (by_check (Err r) e)

    module _ (i : Layout) (e : checked bytes ≡ Ok i) where
      nodes_are : length given ≡ i.nodes
      nodes_are = let k = sound_known bytes i e in (parts_read bytes k.image).count ∙ ap (λ j. j.nodes) (sym k.read)

      -- the lowest question that is not allowed, by the layout's nodes
      abbrev lowest : ℕ
      lowest = not_allowed i.nodes (present (metres_in bytes)) (questions qs) 0

      bad_is : bad ≡ lowest
      bad_is = ap (λ n. not_allowed n (present (metres_in bytes)) (questions qs) 0) nodes_are

      -- and by where the layout has the metres
      pub lowest_is : (y : Option ℕ) (t : Bool) → t ≡ are_at i.metres → y ≡ place_of (not_allowed i.nodes t (questions qs) 0) → y ≡ place_of lowest
      lowest_is y t f g = g ∙ ap (λ b. place_of (not_allowed i.nodes b (questions qs) 0)) (f ∙ presence bytes i e)

      count_is : length answers ≡ length qs / 3
      count_is = length-map (questions qs) (answer_to given (list_of (metres_in bytes))) ∙ questions-count qs

      pub asked_bad : (k : ℕ) → place_of lowest ≡ Some k → came_to (refused_with 8 k) out ≡ ask_image bytes qs out
      asked_bad k h =
          let p = the_place lowest k h in
          ap (λ p. came_to (refused_with 8 p) out) (sym (bad_is ∙ p.0))
          ∙ sym (by_check (Ok i) e ∙ settle-here out counted (written answers out) (8 at bad when ltb 0 bad) (short ∷ []) (lt-ltb 0 bad (omega (arith, bad_is))))

      module _ (fine : lowest ≡ 0) where
        by_room : ask_image bytes qs out ≡ settle out (short ∷ []) counted (written answers out)
        by_room = by_check (Ok i) e ∙ settle_on out counted (written answers out) (8 at bad when ltb 0 bad) (short ∷ []) (le-ltb 0 bad (omega (arith, bad_is)))

        pub asked_short : length out < length qs / 3 → came_to (refused_with 1 0) out ≡ ask_image bytes qs out
        asked_short l = sym (by_room ∙ settle-here out counted (written answers out) short [] (lt-ltb (length out) (length answers) (omega (arith, count_is))))

        pub asked_answered : length qs / 3 ≤ length out → came_to (counts (length qs / 3) 0) (written answers out) ≡ ask_image bytes qs out
        asked_answered l =
            ap (λ k. came_to (counts k 0) (written answers out)) (sym count_is)
            ∙ sym (by_room ∙ settle_on out counted (written answers out) short [] (le-ltb (length out) (length answers) (omega (arith, count_is))) ∙ settle-none out counted (written answers out))
