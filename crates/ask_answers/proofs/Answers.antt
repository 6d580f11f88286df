-- What the loop that writes the answers keeps.
use mathlib.Core.Path.{◌≡◌, sym, ap, ap₂, ◌∙◌}
use mathlib.Core.Bool.{Bool, true}
use mathlib.Core.List.{List, [], ◌∷◌, ◌++◌, map}
use Prim.Native.Nat.{ℕ, suc, ◌+◌, ◌*◌, ◌≤◌, ◌<◌}
use native.Mathlib.Numerals.{add-one}
use native.Mathlib.Omega.{arith}
use lib.IntN.{ℤ}
use lib.ListN.{length, take, drop, set, take-append-drop, length-set}
use lib.Seq.{take-suc-set, drop-set-lt, drop-drop, append_snoc}
use Rattle.meaning.specs.Answers.{written}
use Rattle.meaning.specs.Questions.{questions, allowed, not_allowed, answer_to}
use Rattle.ask_allowed.specs.Asked.{question_at}
use Rattle.ask_allowed.proofs.Turns.{questions-end, questions-next, bad-next, all-allowed}

module _ (ps ms : List ℕ) (n : ℕ) (metres : Bool) (qs : List ℤ) where
  -- what is to be written, where the questions before number i have their answers
  abbrev pub to_come : List ℕ → ℕ → List ℕ
  to_come out i = take i out ++ written (map (answer_to ps ms) (questions (drop (3 * i) qs))) (drop i out)

  pub record Answered (old out : List ℕ) (i : ℕ) : Type 0 where
    pub at : 3 * i ≤ length qs
    pub room : length out ≡ length old
    pub fine : not_allowed n metres (questions (drop (3 * i) qs)) i ≡ 0
    pub made : to_come out i ≡ written (map (answer_to ps ms) (questions qs)) old

  module _ (old out : List ℕ) (i : ℕ) (h : Answered old out i) where
    pub answered-last : length qs < 3 * i + 3 → out ≡ written (map (answer_to ps ms) (questions qs)) old
    answered-last l = sym (ap (λ r. take i out ++ written (map (answer_to ps ms) r) (drop i out)) (questions-end qs i l) ∙ take-append-drop i out) ∙ h.made

    module _ (l : 3 * i + 3 ≤ length qs) where
      pub answered-allowed : allowed n metres (question_at qs i) ≡ true
      answered-allowed = all-allowed n metres qs i l h.fine

      pub answered-next : i < length old → (a : ℕ) → a ≡ answer_to ps ms (question_at qs i) → Answered old (set out i a) (i + 1)
      answered-next m a e = record {
        at = omega arith;
        room = length-set out i a ∙ h.room;
        fine = sym (bad-next n metres qs i l answered-allowed) ∙ h.fine;
        made = ap₂ ◌++◌ front behind ∙ append_snoc (take i out) a (left ++ drop (suc (length left)) (drop i out)) ∙ sym here ∙ h.made;
      }
        where
          left : List ℕ
          left = map (answer_to ps ms) (questions (drop (3 * (i + 1)) qs))

          front : take (i + 1) (set out i a) ≡ take i out ++ (a ∷ [])
          front = ap (λ j. take j (set out i a)) (add-one i) ∙ take-suc-set out i a (omega (arith, h.room))

          behind : written left (drop (i + 1) (set out i a)) ≡ left ++ drop (suc (length left)) (drop i out)
          behind =
              let f : i + 1 + length left ≡ i + suc (length left) = omega arith in
              ap (λ r. left ++ r)
              (ap (drop (length left)) (drop-set-lt (i + 1) out i a (omega arith)) ∙ drop-drop (length left) (i + 1) out ∙ ap (λ j. drop j out) f
              ∙ sym (drop-drop (suc (length left)) i out))

          here : to_come out i ≡ take i out ++ a ∷ (left ++ drop (suc (length left)) (drop i out))
          here =
              ap (λ r. take i out ++ written (map (answer_to ps ms) r) (drop i out)) (questions-next qs i l)
              ∙ ap (λ b. take i out ++ b ∷ (left ++ drop (suc (length left)) (drop i out))) (sym e)
