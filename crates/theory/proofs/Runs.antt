-- R1 and R0 bit by bit: a bit becomes 1 where its run ends, and 0 where it goes on.
use mathlib.Core.Path.{◌≡◌, refl, ap, ap₂, ◌∙◌}
use mathlib.Core.List.{List, [], ◌∷◌}
use Prim.Native.Nat.{suc}
use lib.ListN.{length}
use Rattle.meaning.specs.Strings.{Bit, O, I, ones, zeros, Run, run, lead, runs, marks, R1, R0}

-- does a run of bits b end before bs?
abbrev pub ends : Bit → List Bit → Bit
ends b [] = I
ends O (O ∷ bs) = O
ends O (I ∷ bs) = I
ends I (O ∷ bs) = I
ends I (I ∷ bs) = O

abbrev pub ends1 : List Bit → List Bit
ends1 [] = []
ends1 (I ∷ bs) = ends I bs ∷ ends1 bs
ends1 (O ∷ bs) = ends1 bs

abbrev pub ends0 : List Bit → List Bit
ends0 [] = []
ends0 (O ∷ bs) = ends O bs ∷ ends0 bs
ends0 (I ∷ bs) = ends0 bs

-- what a bit b before some runs becomes
abbrev first : Bit → List Run → Bit
first b [] = I
first O (run O l ∷ rs) = O
first O (run I l ∷ rs) = I
first I (run O l ∷ rs) = I
first I (run I l ∷ rs) = O

lead-first : (b x : Bit) (rs : List Run) (bs : List Bit) → first b (lead x rs) ≡ ends b (x ∷ bs)
lead-first O O [] bs = refl
lead-first O O (run O l ∷ rs) bs = refl
lead-first O O (run I l ∷ rs) bs = refl
lead-first O I [] bs = refl
lead-first O I (run O l ∷ rs) bs = refl
lead-first O I (run I l ∷ rs) bs = refl
lead-first I O [] bs = refl
lead-first I O (run O l ∷ rs) bs = refl
lead-first I O (run I l ∷ rs) bs = refl
lead-first I I [] bs = refl
lead-first I I (run O l ∷ rs) bs = refl
lead-first I I (run I l ∷ rs) bs = refl

first_ends : (b : Bit) (bs : List Bit) → first b (runs bs) ≡ ends b bs
first_ends b [] = refl
first_ends b (x ∷ bs) = lead-first b x (runs bs) bs

lead-same : (b : Bit) (rs : List Run) → marks b (lead b rs) ≡ first b rs ∷ marks b rs
lead-same O [] = refl
lead-same O (run O l ∷ rs) = refl
lead-same O (run I l ∷ rs) = refl
lead-same I [] = refl
lead-same I (run O l ∷ rs) = refl
lead-same I (run I l ∷ rs) = refl

lead_other1 : (rs : List Run) → marks I (lead O rs) ≡ marks I rs
lead_other1 [] = refl
lead_other1 (run O l ∷ rs) = refl
lead_other1 (run I l ∷ rs) = refl

lead_other0 : (rs : List Run) → marks O (lead I rs) ≡ marks O rs
lead_other0 [] = refl
lead_other0 (run O l ∷ rs) = refl
lead_other0 (run I l ∷ rs) = refl

pub R1-bits : (bs : List Bit) → R1 bs ≡ ends1 bs
unfolding R1
R1-bits [] = refl
R1-bits (I ∷ bs) = lead-same I (runs bs) ∙ ap₂ ◌∷◌ (first_ends I bs) (R1-bits bs)
R1-bits (O ∷ bs) = lead_other1 (runs bs) ∙ R1-bits bs

pub R0-bits : (bs : List Bit) → R0 bs ≡ ends0 bs
unfolding R0
R0-bits [] = refl
R0-bits (O ∷ bs) = lead-same O (runs bs) ∙ ap₂ ◌∷◌ (first_ends O bs) (R0-bits bs)
R0-bits (I ∷ bs) = lead_other0 (runs bs) ∙ R0-bits bs

-- ---- how long they are

ends1-length : (bs : List Bit) → length (ends1 bs) ≡ ones bs
ends1-length [] = refl
ends1-length (I ∷ bs) = ap suc (ends1-length bs)
ends1-length (O ∷ bs) = ends1-length bs

ends0-length : (bs : List Bit) → length (ends0 bs) ≡ zeros bs
ends0-length [] = refl
ends0-length (O ∷ bs) = ap suc (ends0-length bs)
ends0-length (I ∷ bs) = ends0-length bs

pub R1-length : (bs : List Bit) → length (R1 bs) ≡ ones bs
R1-length bs = ap length (R1-bits bs) ∙ ends1-length bs

pub R0-length : (bs : List Bit) → length (R0 bs) ≡ zeros bs
R0-length bs = ap length (R0-bits bs) ∙ ends0-length bs
