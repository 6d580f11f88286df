-- A list of questions, a question a turn: which are left, and the lowest that is not allowed.
use mathlib.Core.Path.{◌≡◌, refl, sym, ap, ◌∙◌}
use mathlib.Core.Bool.{Bool, true, false, cond}
use mathlib.Core.List.{List, [], ◌∷◌}
use Prim.Native.Nat.{ℕ, suc, ◌+◌, ◌*◌, ◌/◌, ◌≤◌, ◌<◌}
use native.Mathlib.Numerals.{add-one}
use native.Mathlib.Omega.{arith}
use lib.IntN.{ℤ, pos}
use lib.ListN.{length, get_or, drop, length-drop}
use lib.Seq.{drop-cons}
use Rattle.meaning.specs.Questions.{questions, allowed, not_allowed}
use Rattle.ask_allowed.specs.Asked.{question_at}

-- ---- the questions that are left

none_left : (qs : List ℤ) → length qs < 3 → questions qs ≡ []
none_left [] l = refl
none_left (k ∷ []) l = refl
none_left (k ∷ x ∷ []) l = refl
none_left (k ∷ x ∷ z ∷ qs) l = absurd (omega arith)

pub questions-count : (qs : List ℤ) → length (questions qs) ≡ length qs / 3
questions-count [] = refl
questions-count (k ∷ []) = refl
questions-count (k ∷ x ∷ []) = refl
questions-count (k ∷ x ∷ z ∷ qs) = omega (arith, questions-count qs)

module _ (qs : List ℤ) (i : ℕ) where
  -- none after the last
  pub questions-end : length qs < 3 * i + 3 → questions (drop (3 * i) qs) ≡ []
  questions-end l = none_left (drop (3 * i) qs) (omega (arith, length-drop (3 * i) qs))

  -- and else this one first
  pub questions-next : 3 * i + 3 ≤ length qs → questions (drop (3 * i) qs) ≡ question_at qs i ∷ questions (drop (3 * (i + 1)) qs)
  questions-next l =
      let e : suc (3 * i) ≡ 3 * i + 1 = omega arith in
      let f : suc (3 * i + 1) ≡ 3 * i + 2 = omega arith in
      let g : suc (3 * i + 2) ≡ 3 * (i + 1) = omega arith in
      ap questions (drop-cons qs (3 * i) (pos 0) (omega arith)
      ∙ ap (λ r. get_or qs (3 * i) (pos 0) ∷ r) (ap (λ j. drop j qs) e ∙ drop-cons qs (3 * i + 1) (pos 0) (omega arith)
      ∙ ap (λ r. get_or qs (3 * i + 1) (pos 0) ∷ r) (ap (λ j. drop j qs) f ∙ drop-cons qs (3 * i + 2) (pos 0) (omega arith)
      ∙ ap (λ r. get_or qs (3 * i + 2) (pos 0) ∷ r) (ap (λ j. drop j qs) g))))

-- ---- the lowest that is not allowed

module _ (n : ℕ) (metres : Bool) (qs : List ℤ) (i : ℕ) where
  pub bad-end : length qs < 3 * i + 3 → not_allowed n metres (questions (drop (3 * i) qs)) i ≡ 0
  unfolding not_allowed
  bad-end l = ap (λ r. not_allowed n metres r i) (questions-end qs i l)

  module _ (l : 3 * i + 3 ≤ length qs) where
    bad-step : not_allowed n metres (questions (drop (3 * i) qs)) i ≡ cond (allowed n metres (question_at qs i)) (not_allowed n metres (questions (drop (3 * (i + 1)) qs)) (suc i)) (suc i)
    unfolding not_allowed
    bad-step = ap (λ r. not_allowed n metres r i) (questions-next qs i l)

    pub bad-here : allowed n metres (question_at qs i) ≡ false → not_allowed n metres (questions (drop (3 * i) qs)) i ≡ i + 1
    bad-here e = bad-step ∙ ap (λ t. cond t (not_allowed n metres (questions (drop (3 * (i + 1)) qs)) (suc i)) (suc i)) e ∙ sym (add-one i)

    pub bad-next : allowed n metres (question_at qs i) ≡ true → not_allowed n metres (questions (drop (3 * i) qs)) i ≡ not_allowed n metres (questions (drop (3 * (i + 1)) qs)) (i + 1)
    bad-next e =
        bad-step
        ∙ ap (λ t. cond t (not_allowed n metres (questions (drop (3 * (i + 1)) qs)) (suc i)) (suc i)) e
        ∙ ap (not_allowed n metres (questions (drop (3 * (i + 1)) qs))) (sym (add-one i))

    pub all-allowed : not_allowed n metres (questions (drop (3 * i) qs)) i ≡ 0 → allowed n metres (question_at qs i) ≡ true
    all-allowed e = go (allowed n metres (question_at qs i)) refl
      where
        go : (t : Bool) → allowed n metres (question_at qs i) ≡ t → t ≡ true
        go true f = refl
        go false f = absurd (omega (arith, bad-here f))
