-- One question of a list of numbers.
use Rattle.std.specs.Prelude.{List, ℕ, ◌+◌, ◌*◌, ℤ, pos, get_or}
use Rattle.meaning.specs.Questions.{Question}

-- question number i, from 0
abbrev pub question_at : List ℤ → ℕ → Question
question_at qs i = record { kind = get_or qs (3 * i) (pos 0); node = get_or qs (3 * i + 1) (pos 0); argument = get_or qs (3 * i + 2) (pos 0) }
