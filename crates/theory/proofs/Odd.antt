-- T5: with the number of trees known, an odd number of changed bits always shows.
use mathlib.Core.Path.{◌≡◌, refl}
use mathlib.Core.List.{List, [], ◌∷◌, ◌++◌}
use Prim.Native.Nat.{ℕ, zero, suc, ◌+◌, ◌*◌}
use native.Mathlib.Omega.{arith}
use lib.ListN.{length}
use Rattle.meaning.specs.Trees.{Tree, degrees}
use Rattle.meaning.specs.Strings.{Bit, O, I, unary, lbs, strings, ones, zeros}
use Rattle.theory.specs.Changes.{changed}
use Rattle.theory.proofs.Bits.{Over, string_of_tree}

over-counts : (c : ℕ) (bs : List Bit) → Over c bs → zeros bs ≡ ones bs + c
over-counts zero [] h = refl
over-counts zero (b ∷ bs) h = absurd h
over-counts (suc c) [] h = absurd h
over-counts (suc c) (I ∷ bs) h = omega (arith, over-counts (suc (suc c)) bs h)
over-counts (suc c) (O ∷ bs) h = omega (arith, over-counts c bs h)

pub ones-append : (xs ys : List Bit) → ones (xs ++ ys) ≡ ones xs + ones ys
ones-append [] ys = omega arith
ones-append (O ∷ xs) ys = ones-append xs ys
ones-append (I ∷ xs) ys = omega (arith, ones-append xs ys)

zeros-append : (xs ys : List Bit) → zeros (xs ++ ys) ≡ zeros xs + zeros ys
zeros-append [] ys = omega arith
zeros-append (I ∷ xs) ys = zeros-append xs ys
zeros-append (O ∷ xs) ys = omega (arith, zeros-append xs ys)

pub both : (bs : List Bit) → length bs ≡ zeros bs + ones bs
both [] = refl
both (O ∷ bs) = omega (arith, both bs)
both (I ∷ bs) = omega (arith, both bs)

-- a tree's string has one zero more than ones, and k trees' strings have k more
pub tree-counts : (t : Tree) → zeros (lbs t) ≡ suc (ones (lbs t))
unfolding lbs
tree-counts t = omega (arith, over-counts 1 (unary (degrees t)) (string_of_tree t))

pub strings-counts : (ts : List Tree) → zeros (strings ts) ≡ ones (strings ts) + length ts
strings-counts [] = refl
strings-counts (t ∷ ts) =
    omega (arith, zeros-append (lbs t) (strings ts), ones-append (lbs t) (strings ts), tree-counts t, strings-counts ts)

-- changes and ones add up to an even number
even_sum : (xs ys : List Bit) → length xs ≡ length ys → (m : ℕ) × (changed xs ys + (ones xs + ones ys) ≡ 2 * m)
even_sum [] [] e = (0, refl)
even_sum [] (y ∷ ys) e = absurd (omega arith)
even_sum (x ∷ xs) [] e = absurd (omega arith)
even_sum (O ∷ xs) (O ∷ ys) e = even_sum xs ys (omega arith)
even_sum (I ∷ xs) (I ∷ ys) e = let r = even_sum xs ys (omega arith) in (suc r.0, omega (arith, r.1))
even_sum (O ∷ xs) (I ∷ ys) e = let r = even_sum xs ys (omega arith) in (suc r.0, omega (arith, r.1))
even_sum (I ∷ xs) (O ∷ ys) e = let r = even_sum xs ys (omega arith) in (suc r.0, omega (arith, r.1))

odd_even : (a b : ℕ) → 2 * a + 1 ≡ 2 * b → ⊥
odd_even zero zero e = omega arith
odd_even zero (suc b) e = omega arith
odd_even (suc a) zero e = omega arith
odd_even (suc a) (suc b) e = odd_even a b (omega arith)

-- T5
pub never_odd : (ts us : List Tree) → length (strings ts) ≡ length (strings us) → length ts ≡ length us
    → (m : ℕ) → changed (strings ts) (strings us) ≡ 2 * m + 1 → ⊥
never_odd ts us l k m o =
    let r = even_sum (strings ts) (strings us) l in
    odd_even (m + ones (strings ts)) r.0 (omega (arith, r.1, both (strings ts), both (strings us), strings-counts ts, strings-counts us))
