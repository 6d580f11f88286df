-- Text, as the list of its characters' numbers.
use Rattle.std.specs.Prelude.{cond, List, ◌++◌, [] as []ᴸ, ◌∷◌ as ◌∷ᴸ◌, ℕ, zero, suc, ◌+◌, ◌/◌, ◌%◌, ◌≡◌, ltb, length, ◌≤◌}
use Prim.Native.Char.{code}
use Prim.Native.String.{String, [], ◌∷◌}
use Rattle.std.proofs.lemmas.List.Edits.{sets}
use Rattle.outline_text.specs.declared.Page.{Page}

abbrev pub ascii : String → List ℕ
ascii [] = []ᴸ
ascii (c ∷ s) = code c ∷ᴸ ascii s

-- the last digit of n
abbrev pub unit : ℕ → List ℕ
unit n = (48 + n % 10) ∷ᴸ []ᴸ

-- the decimal digits of n, at most f of them: those of n / 10, unless that is 0, and then the last
unfoldable pub digits : ℕ → ℕ → List ℕ
digits zero n = []ᴸ
digits (suc f) n = cond (ltb n 10) (unit n) (digits f (n / 10) ++ unit n)

-- n in decimal: it has no more digits than n + 1
unfoldable pub decimal : ℕ → List ℕ
decimal n = digits (n + 1) n

-- the page has room for the bytes
abbrev pub Room : List ℕ → Page → Type 0
Room bytes page = page.at + length bytes ≤ length page.text.now

-- the page, which is the same lent buffer, holds the bytes from the place before to the place
-- after, and else what it held
pub record Writes (bytes : List ℕ) (before after : Page) : Type 0 where
  pub same_text : after.text.ghost_name ≡ before.text.ghost_name
  pub text : after.text.now ≡ sets before.text.now before.at bytes
  pub place : after.at ≡ before.at + length bytes
  pub fits : after.at ≤ length after.text.now
