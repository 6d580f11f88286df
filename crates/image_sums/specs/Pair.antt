-- s and t as the two numbers of `sums`.
use Rattle.std.specs.Prelude.{ℕ, List, [], ◌∷◌}
use Rattle.image_sums.specs.declared.Sums.{Sums}

abbrev pub sums_of : Sums → List ℕ
sums_of r = r.s ∷ r.t ∷ []
