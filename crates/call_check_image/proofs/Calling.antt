-- What the call that checks an image comes to, from what the check found.
use Rattle.std.specs.Prelude.{Ok, Err}
use mathlib.Core.Path.{◌≡◌, refl, sym, ap, ap₂, ◌∙◌}
use mathlib.Core.Bool.{false}
use mathlib.Core.List.{List, []}
use Prim.Native.Nat.{ℕ}
use lib.ListN.{length}
use Rattle.meaning.specs.declared.Answer.{Answer}
use Rattle.meaning.specs.Answers.{counts, came_to}
use Rattle.meaning.specs.Strings.{ones, R1, string_of}
use Rattle.meaning.specs.Image.{parents_in}
use Rattle.meaning.specs.Tests.{check_rows}
use Rattle.calls.specs.Calls.{check_image}
use Rattle.theory.proofs.Settled.{settle-none}
use Rattle.theory.proofs.Stages.{parts_read}
use Rattle.image_found.specs.Checked.{Checked, answered, checked}
use Rattle.image_found.proofs.Finding.{comes_to, rows_checked, sound_known}

pub image-answered : (bytes : List ℕ) → came_to (answered (checked bytes)) tt ≡ check_image bytes
unfolding check_image check_rows
image-answered bytes = sym (rows_checked tt [] counted tt bytes false refl ∙ by_found (checked bytes) refl)
  where
    counted : Answer
    counted = let ps = parents_in bytes in counts (length ps) (ones (R1 (string_of ps)))

    by_found : (c : Checked) → checked bytes ≡ c → comes_to {A = Unit} tt [] counted tt c ≡ came_to (answered c) tt
    by_found (Err r) e = refl
    by_found (Ok i) e =
        let k = sound_known bytes i e in
        let p = parts_read bytes k.image in
        settle-none tt counted tt ∙ ap (λ a. came_to a tt) (ap₂ counts p.count p.marks ∙ ap (λ j. counts j.nodes j.runs) (sym k.read))
