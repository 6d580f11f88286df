-- What the scan of a pack tells of its place and its sizes.
use mathlib.Core.Path.{◌≡◌, refl, sym, ap, ◌∙◌}
use mathlib.Core.Bool.{Bool, true, false, cond}
use mathlib.Core.List.{List}
use Prim.Native.Nat.{ℕ, ◌≤◌}
use native.Mathlib.Omega.{arith}
use borrow.Author.Tests.{eqb-true, eqb-false}
use lib.Dec.{eqb}
use lib.ListN.{length}
use Rattle.meaning.specs.Strings.{Bit}
use Rattle.meaning.specs.Scan.{many, place}
use Rattle.meaning.specs.Packs.{sizes}
use Rattle.pack_scan.specs.Found.{trees, refused, found}

clash : {X : Type 0} {j x : ℕ} → trees j ≡ refused x → X
clash e = let z : ◌≡◌ {A = ℕ} 0 1 = cc in absurd (omega arith)

pub found_trees : (bs : List Bit) {j : ℕ} → trees j ≡ found bs → (place many bs ≡ 0) × (length (sizes bs) ≡ j)
unfolding found
found_trees bs {j} e = go (eqb (place many bs) 0) refl
  where
    go : (t : Bool) → eqb (place many bs) 0 ≡ t → (place many bs ≡ 0) × (length (sizes bs) ≡ j)
    go true f = (eqb-true (place many bs) 0 f, (let q : trees j ≡ trees (length (sizes bs)) = e ∙ ap (λ t. cond t (trees (length (sizes bs))) (refused (place many bs))) f in cc))
    go false f = clash (e ∙ ap (λ t. cond t (trees (length (sizes bs))) (refused (place many bs))) f)

pub found-refused : (bs : List Bit) {x : ℕ} → refused x ≡ found bs → (place many bs ≡ x) × (1 ≤ x)
unfolding found
found-refused bs {x} e = go (eqb (place many bs) 0) refl
  where
    go : (t : Bool) → eqb (place many bs) 0 ≡ t → (place many bs ≡ x) × (1 ≤ x)
    go true f = clash (sym (e ∙ ap (λ t. cond t (trees (length (sizes bs))) (refused (place many bs))) f))
    go false f =
        let q : refused x ≡ refused (place many bs) = e ∙ ap (λ t. cond t (trees (length (sizes bs))) (refused (place many bs))) f in
        let p : place many bs ≡ x = cc in
        let n : place many bs ≡ 0 → ⊥ = eqb-false (place many bs) 0 f in
        (p, omega arith)
