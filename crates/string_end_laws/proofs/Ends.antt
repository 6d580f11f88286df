-- What the end of a tree says of the reading of its bits: where they are refused, which trees they
-- hold, and how far the tree reaches.
use mathlib.Core.Path.{◌≡◌, refl, sym, ap, ap₂, ◌∙◌}
use mathlib.Core.List.{List, [], ◌∷◌}
use mathlib.Core.Option.{none, some}
use Prim.Native.Nat.{ℕ, zero, suc, ◌+◌, ◌-◌, ◌*◌, ◌≤◌, ◌<◌}
use native.Mathlib.Omega.{arith}
use lib.ListN.{length, take, drop, drop_of_length-le}
use lib.Seq.{take_all, drop-cons}
use Rattle.meaning.specs.Strings.{Bit, O, I, ones}
use Rattle.meaning.specs.Scan.{Kind, one, many, closed, begun, inside, begin, refusal, place}
use Rattle.meaning.specs.Packs.{note_size, sizes_from}
use Rattle.theory.proofs.Scan.{refusal-none}
use Rattle.string_end_laws.specs.Ends.{over, refused, inside_end, tree_end}

-- ---- two ends that are equal

over-next : {q s r t : ℕ} → over q s ≡ over r t → q ≡ r
over-next e = cc

over-size : {q s r t : ℕ} → over q s ≡ over r t → s ≡ t
over-size e = cc

refused-place : {p q : ℕ} → refused p ≡ refused q → p ≡ q
refused-place e = cc

not-over : {p q s : ℕ} → refused p ≡ over q s → ⊥
not-over e = let z : ◌≡◌ {A = ℕ} 0 1 = cc in omega arith

not-refused : {p q s : ℕ} → over q s ≡ refused p → ⊥
not-refused e = let z : ◌≡◌ {A = ℕ} 0 1 = cc in omega arith

-- ---- the first bits taken and the rest, by how many bits were read before and after

drop-one : (b : Bit) (bs : List Bit) (i q : ℕ) → i < q → drop (q - i) (b ∷ bs) ≡ drop (q - suc i) bs
drop-one b bs i q h = ap (λ v. drop v (b ∷ bs)) (let e : q - i ≡ suc (q - suc i) = omega arith in e)

drop_here : (b : Bit) (bs : List Bit) (i q : ℕ) → suc i ≡ q → drop (q - i) (b ∷ bs) ≡ bs
drop_here b bs i q h = ap (λ v. drop v (b ∷ bs)) (let e : q - i ≡ 1 = omega arith in e)

take-one : (b : Bit) (bs : List Bit) (i q : ℕ) → i < q → take (q - i) (b ∷ bs) ≡ b ∷ take (q - suc i) bs
take-one b bs i q h = ap (λ v. take v (b ∷ bs)) (let e : q - i ≡ suc (q - suc i) = omega arith in e)

take-here : (b : Bit) (bs : List Bit) (i q : ℕ) → suc i ≡ q → take (q - i) (b ∷ bs) ≡ b ∷ []
take-here b bs i q h = ap (λ v. take v (b ∷ bs)) (let e : q - i ≡ 1 = omega arith in e)

-- ---- inside a tree

inside_within : (bs : List Bit) (i p m : ℕ) {q s : ℕ} → inside_end bs i p m ≡ over q s → (i < q) × (q ≤ i + length bs)
unfolding inside_end
inside_within [] i p m e = absurd (not-over e)
inside_within (O ∷ bs) i zero m e = let a = over-next e in (omega arith, omega arith)
inside_within (O ∷ bs) i (suc p) m e = let r = inside_within bs (suc i) p m e in (omega arith, omega arith)
inside_within (I ∷ bs) i p zero e = absurd (not-over e)
inside_within (I ∷ bs) i p (suc m) e = let r = inside_within bs (suc i) (suc p) m e in (omega arith, omega arith)

-- each node more takes two bits more
inside_sized : (bs : List Bit) (i p m : ℕ) {q s : ℕ} → m ≤ 65535 → inside_end bs i p m ≡ over q s
    → (65535 ≤ s + m) × (s ≤ 65535) × (q + 2 * (65535 - m) ≡ i + p + 1 + 2 * s)
unfolding inside_end
inside_sized [] i p m h e = absurd (not-over e)
inside_sized (O ∷ bs) i zero m h e = let a = over-next e in let b = over-size e in (omega arith, omega arith, omega arith)
inside_sized (O ∷ bs) i (suc p) m h e = let r = inside_sized bs (suc i) p m h e in (omega arith, omega arith, omega arith)
inside_sized (I ∷ bs) i p zero h e = absurd (not-over e)
inside_sized (I ∷ bs) i p (suc m) h e = let r = inside_sized bs (suc i) (suc p) m (omega arith) e in (omega arith, omega arith, omega arith)

inside_refused_within : (bs : List Bit) (i p m : ℕ) {x : ℕ} → inside_end bs i p m ≡ refused x → (i < x) × (x ≤ suc (i + length bs))
unfolding inside_end
inside_refused_within [] i p m e = let a = refused-place e in (omega arith, omega arith)
inside_refused_within (O ∷ bs) i zero m e = absurd (not-refused e)
inside_refused_within (O ∷ bs) i (suc p) m e = let r = inside_refused_within bs (suc i) p m e in (omega arith, omega arith)
inside_refused_within (I ∷ bs) i p zero e = let a = refused-place e in (omega arith, omega arith)
inside_refused_within (I ∷ bs) i p (suc m) e = let r = inside_refused_within bs (suc i) (suc p) m e in (omega arith, omega arith)

inside_ones : (bs : List Bit) (i p m : ℕ) {q s : ℕ} → m ≤ 65535 → inside_end bs i p m ≡ over q s → ones (take (q - i) bs) + (65535 - m) ≡ s
unfolding inside_end
inside_ones [] i p m h e = absurd (not-over e)
inside_ones (O ∷ bs) i zero m {q} h e =
    ap (λ r. ones r + (65535 - m)) (take-here O bs i q (over-next e)) ∙ (let b : 0 + (65535 - m) ≡ 65535 - m = omega arith in b) ∙ over-size e
inside_ones (O ∷ bs) i (suc p) m {q} h e =
    ap (λ r. ones r + (65535 - m)) (take-one O bs i q (let w = inside_within bs (suc i) p m e in omega arith)) ∙ inside_ones bs (suc i) p m h e
inside_ones (I ∷ bs) i p zero h e = absurd (not-over e)
inside_ones (I ∷ bs) i p (suc m) {q} h e =
    let r = inside_ones bs (suc i) (suc p) m (omega arith) e in
    ap (λ r. ones r + (65535 - suc m)) (take-one I bs i q (let w = inside_within bs (suc i) (suc p) m e in omega arith)) ∙ omega arith

inside_refused : (kind : Kind) (k : ℕ) (bs : List Bit) (i p m : ℕ) {x : ℕ} → inside_end bs i p m ≡ refused x → refusal kind bs i (some (inside k p m)) ≡ x
unfolding inside_end refusal
inside_refused kind k [] i p m e = refused-place e
inside_refused kind k (O ∷ bs) i zero m e = absurd (not-refused e)
inside_refused kind k (O ∷ bs) i (suc p) m e = inside_refused kind k bs (suc i) p m e
inside_refused kind k (I ∷ bs) i p zero e = refusal-none kind bs (suc i) ∙ refused-place e
inside_refused kind k (I ∷ bs) i p (suc m) e = inside_refused kind k bs (suc i) (suc p) m e

inside_over : (kind : Kind) (k : ℕ) (bs : List Bit) (i p m : ℕ) {q s : ℕ} → inside_end bs i p m ≡ over q s
    → refusal kind bs i (some (inside k p m)) ≡ refusal kind (drop (q - i) bs) q (some (closed (suc k)))
unfolding inside_end refusal
inside_over kind k [] i p m e = absurd (not-over e)
inside_over kind k (O ∷ bs) i zero m {q} e =
    ap₂ (λ r v. refusal kind r v (some (closed (suc k)))) (sym (drop_here O bs i q (over-next e))) (over-next e)
inside_over kind k (O ∷ bs) i (suc p) m {q} e =
    inside_over kind k bs (suc i) p m e
    ∙ ap (λ r. refusal kind r q (some (closed (suc k)))) (sym (drop-one O bs i q (let w = inside_within bs (suc i) p m e in omega arith)))
inside_over kind k (I ∷ bs) i p zero e = absurd (not-over e)
inside_over kind k (I ∷ bs) i p (suc m) {q} e =
    inside_over kind k bs (suc i) (suc p) m e
    ∙ ap (λ r. refusal kind r q (some (closed (suc k)))) (sym (drop-one I bs i q (let w = inside_within bs (suc i) (suc p) m e in omega arith)))

-- a one is never the end of a tree
note_one : (k p m : ℕ) (rest : List ℕ) → note_size (inside k p m) I rest ≡ rest
note_one k zero m rest = refl
note_one k (suc p) m rest = refl

inside_sizes : (k : ℕ) (bs : List Bit) (i p m : ℕ) {q s : ℕ} → inside_end bs i p m ≡ over q s
    → sizes_from bs (some (inside k p m)) ≡ s ∷ sizes_from (drop (q - i) bs) (some (closed (suc k)))
unfolding inside_end sizes_from
inside_sizes k [] i p m e = absurd (not-over e)
inside_sizes k (O ∷ bs) i zero m {q} e =
    ap₂ (λ v r. v ∷ sizes_from r (some (closed (suc k)))) (over-size e) (sym (drop_here O bs i q (over-next e)))
inside_sizes k (O ∷ bs) i (suc p) m {q} {s} e =
    inside_sizes k bs (suc i) p m e
    ∙ ap (λ r. s ∷ sizes_from r (some (closed (suc k)))) (sym (drop-one O bs i q (let w = inside_within bs (suc i) p m e in omega arith)))
inside_sizes k (I ∷ bs) i p zero e = absurd (not-over e)
inside_sizes k (I ∷ bs) i p (suc m) {q} {s} e =
    note_one k p (suc m) (sizes_from bs (some (inside k (suc p) m)))
    ∙ inside_sizes k bs (suc i) (suc p) m e
    ∙ ap (λ r. s ∷ sizes_from r (some (closed (suc k)))) (sym (drop-one I bs i q (let w = inside_within bs (suc i) (suc p) m e in omega arith)))

-- where the bits are refused no size is noted, nor after it
none-sized : (bs : List Bit) → sizes_from bs none ≡ []
unfolding sizes_from
none-sized [] = refl
none-sized (b ∷ bs) = refl

inside_unsized : (k : ℕ) (bs : List Bit) (i p m : ℕ) {x : ℕ} → inside_end bs i p m ≡ refused x → sizes_from bs (some (inside k p m)) ≡ []
unfolding inside_end sizes_from
inside_unsized k [] i p m e = refl
inside_unsized k (O ∷ bs) i zero m e = absurd (not-refused e)
inside_unsized k (O ∷ bs) i (suc p) m e = inside_unsized k bs (suc i) p m e
inside_unsized k (I ∷ bs) i p zero e = note_one k p zero (sizes_from bs none) ∙ none-sized bs
inside_unsized k (I ∷ bs) i p (suc m) e =
    note_one k p (suc m) (sizes_from bs (some (inside k (suc p) m))) ∙ inside_unsized k bs (suc i) (suc p) m e

-- ---- a tree: how far it reaches

pub over-within : (bs : List Bit) (i : ℕ) {q s : ℕ} → tree_end bs i ≡ over q s
    → (i < q) × (q ≤ i + length bs) × (1 ≤ s) × (s ≤ 65535) × (q ≡ i + (2 * s + 1))
unfolding tree_end
over-within [] i e = absurd (not-over e)
over-within (O ∷ bs) i e = absurd (not-over e)
over-within (I ∷ []) i e = absurd (not-over e)
over-within (I ∷ I ∷ bs) i e = absurd (not-over e)
over-within (I ∷ O ∷ bs) i e =
    let w = inside_within bs (suc (suc i)) 0 65534 e in
    let z = inside_sized bs (suc (suc i)) 0 65534 (omega arith) e in
    (omega arith, omega arith, omega arith, omega arith, omega arith)

pub refused-within : (bs : List Bit) (i : ℕ) {x : ℕ} → tree_end bs i ≡ refused x → (i < x) × (x ≤ suc (i + length bs))
unfolding tree_end
refused-within [] i e = let a = refused-place e in (omega arith, omega arith)
refused-within (O ∷ bs) i e = let a = refused-place e in (omega arith, omega arith)
refused-within (I ∷ []) i e = let a = refused-place e in (omega arith, omega arith)
refused-within (I ∷ I ∷ bs) i e = let a = refused-place e in (omega arith, omega arith)
refused-within (I ∷ O ∷ bs) i e = let r = inside_refused_within bs (suc (suc i)) 0 65534 e in (omega arith, omega arith)

-- a tree has as many nodes as its string has ones
pub over_ones : (bs : List Bit) (i : ℕ) {q s : ℕ} → tree_end bs i ≡ over q s → ones (take (q - i) bs) ≡ s
unfolding tree_end
over_ones [] i e = absurd (not-over e)
over_ones (O ∷ bs) i e = absurd (not-over e)
over_ones (I ∷ []) i e = absurd (not-over e)
over_ones (I ∷ I ∷ bs) i e = absurd (not-over e)
over_ones (I ∷ O ∷ bs) i {q} e =
    let w = inside_within bs (suc (suc i)) 0 65534 e in
    let r = inside_ones bs (suc (suc i)) 0 65534 (omega arith) e in
    ap ones (take-one I (O ∷ bs) i q (omega arith)) ∙ ap (λ r. suc (ones r)) (take-one O bs (suc i) q (omega arith)) ∙ omega arith

-- ---- a tree: what it says of the reading, where a tree may begin

begins : (kind : Kind) (k : ℕ) → begin kind k ≡ some (begun k) → (bs : List Bit) (i : ℕ)
    → refusal kind (I ∷ bs) i (some (closed k)) ≡ refusal kind bs (suc i) (some (begun k))
unfolding refusal
begins kind k b bs i = ap (refusal kind bs (suc i)) b

tree-refused : (kind : Kind) (k : ℕ) → begin kind k ≡ some (begun k) → (bs : List Bit) (i : ℕ) {x : ℕ} → 1 ≤ length bs
    → tree_end bs i ≡ refused x → refusal kind bs i (some (closed k)) ≡ x
unfolding tree_end refusal
tree-refused kind k b [] i h e = absurd (omega arith)
tree-refused kind k b (O ∷ bs) i h e = refusal-none kind bs (suc i) ∙ refused-place e
tree-refused kind k b (I ∷ []) i h e = begins kind k b [] i ∙ refused-place e
tree-refused kind k b (I ∷ I ∷ bs) i h e = begins kind k b (I ∷ bs) i ∙ refusal-none kind bs (suc (suc i)) ∙ refused-place e
tree-refused kind k b (I ∷ O ∷ bs) i h e = begins kind k b (O ∷ bs) i ∙ inside_refused kind k bs (suc (suc i)) 0 65534 e

tree_over : (kind : Kind) (k : ℕ) → begin kind k ≡ some (begun k) → (bs : List Bit) (i : ℕ) {q s : ℕ} → tree_end bs i ≡ over q s
    → refusal kind bs i (some (closed k)) ≡ refusal kind (drop (q - i) bs) q (some (closed (suc k)))
unfolding tree_end refusal
tree_over kind k b [] i e = absurd (not-over e)
tree_over kind k b (O ∷ bs) i e = absurd (not-over e)
tree_over kind k b (I ∷ []) i e = absurd (not-over e)
tree_over kind k b (I ∷ I ∷ bs) i e = absurd (not-over e)
tree_over kind k b (I ∷ O ∷ bs) i {q} e =
    let w = inside_within bs (suc (suc i)) 0 65534 e in
    begins kind k b (O ∷ bs) i
    ∙ inside_over kind k bs (suc (suc i)) 0 65534 e
    ∙ ap (λ r. refusal kind r q (some (closed (suc k)))) (sym (drop-one I (O ∷ bs) i q (omega arith) ∙ drop-one O bs (suc i) q (omega arith)))

-- ---- in a pack

pub many_refused : (k : ℕ) (bs : List Bit) (i : ℕ) {x : ℕ} → 1 ≤ length bs → tree_end bs i ≡ refused x → refusal many bs i (some (closed k)) ≡ x
many_refused k bs i h e = tree-refused many k refl bs i h e

pub many_over : (k : ℕ) (bs : List Bit) (i : ℕ) {q s : ℕ} → tree_end bs i ≡ over q s
    → refusal many bs i (some (closed k)) ≡ refusal many (drop (q - i) bs) q (some (closed (suc k)))
many_over k bs i e = tree_over many k refl bs i e

pub sizes-over : (k : ℕ) (bs : List Bit) (i : ℕ) {q s : ℕ} → tree_end bs i ≡ over q s
    → sizes_from bs (some (closed k)) ≡ s ∷ sizes_from (drop (q - i) bs) (some (closed (suc k)))
unfolding tree_end sizes_from
sizes-over k [] i e = absurd (not-over e)
sizes-over k (O ∷ bs) i e = absurd (not-over e)
sizes-over k (I ∷ []) i e = absurd (not-over e)
sizes-over k (I ∷ I ∷ bs) i e = absurd (not-over e)
sizes-over k (I ∷ O ∷ bs) i {q} {s} e =
    let w = inside_within bs (suc (suc i)) 0 65534 e in
    inside_sizes k bs (suc (suc i)) 0 65534 e
    ∙ ap (λ r. s ∷ sizes_from r (some (closed (suc k)))) (sym (drop-one I (O ∷ bs) i q (omega arith) ∙ drop-one O bs (suc i) q (omega arith)))

pub sizes-refused : (k : ℕ) (bs : List Bit) (i : ℕ) {x : ℕ} → tree_end bs i ≡ refused x → sizes_from bs (some (closed k)) ≡ []
unfolding tree_end sizes_from
sizes-refused k [] i e = refl
sizes-refused k (O ∷ bs) i e = none-sized bs
sizes-refused k (I ∷ []) i e = refl
sizes-refused k (I ∷ I ∷ bs) i e = none-sized bs
sizes-refused k (I ∷ O ∷ bs) i e = inside_unsized k bs (suc (suc i)) 0 65534 e

-- ---- one tree

pub one-refused : (bs : List Bit) {x : ℕ} → tree_end bs 0 ≡ refused x → place one bs ≡ x
unfolding place tree_end refusal
one-refused [] e = refused-place e
one-refused (b ∷ bs) e = tree-refused one 0 refl (b ∷ bs) 0 (omega arith) e

one-over : (bs : List Bit) {q s : ℕ} → tree_end bs 0 ≡ over q s → place one bs ≡ refusal one (drop q bs) q (some (closed 1))
unfolding place
one-over bs {q} e =
    tree_over one 0 refl bs 0 e ∙ ap (λ v. refusal one (drop v bs) q (some (closed 1))) (let z : q - 0 ≡ q = omega arith in z)

pub one-whole : (bs : List Bit) {q s : ℕ} → tree_end bs 0 ≡ over q s → q ≡ length bs → (place one bs ≡ 0) × (ones bs ≡ s)
unfolding refusal
one-whole bs {q} e h = (
  one-over bs e ∙ ap (λ r. refusal one r q (some (closed 1))) (drop_of_length-le bs {i = q} (omega arith)),
  ap ones (sym (take_all (q - 0) bs (omega arith))) ∙ over_ones bs 0 e,
)

-- nothing may follow the one tree
after_one : (b : Bit) (bs : List Bit) (i k : ℕ) → refusal one (b ∷ bs) i (some (closed (suc k))) ≡ suc i
unfolding refusal
after_one O bs i k = refusal-none one bs (suc i)
after_one I bs i k = refusal-none one bs (suc i)

pub one-past : (bs : List Bit) {q s : ℕ} → tree_end bs 0 ≡ over q s → q < length bs → place one bs ≡ suc q
one-past bs {q} e h = one-over bs e ∙ ap (λ r. refusal one r q (some (closed 1))) (drop-cons bs q O h) ∙ after_one _ _ q 0
