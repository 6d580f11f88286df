-- Tree after tree: what the loops over the trees of a pack keep.
use mathlib.Core.Path.{◌≡◌, refl, sym, ap, ap₂, ◌∙◌}
use mathlib.Core.Bool.{cond}
use mathlib.Core.List.{List, [], ◌∷◌}
use mathlib.Core.Option.{some}
use Prim.Native.Nat.{ℕ, suc, ◌+◌, ◌-◌, ◌*◌, ◌≤◌, ◌<◌}
use native.Mathlib.Numerals.{add-one}
use native.Mathlib.Omega.{arith}
use borrow.Author.Tests.{eq-eqb, ne_eqb}
use lib.ListN.{length, drop, set}
use lib.Seq.{sets, length-sets}
use Rattle.meaning.specs.Strings.{Bit}
use Rattle.meaning.specs.Bytes.{bits_from}
use Rattle.meaning.specs.Scan.{many, closed, refusal, place}
use Rattle.meaning.specs.Packs.{sizes_from, sizes, starts_from, starts}
use Rattle.theory.proofs.Packing.{bits-length, rest-nil, rest-drop}
use Rattle.string_end_laws.specs.Ends.{over, refused, tree_end}
use Rattle.string_end.specs.Ends.{end_of}
use Rattle.string_end.specs.declared.TreeEnd.{TreeEnd}
use Rattle.std.specs.Prelude.{Result, Ok, Err}
use Rattle.string_end_laws.proofs.Ends.{over-within, refused-within, many_refused, many_over, sizes-over, sizes-refused}
use Rattle.pack_scan.specs.Found as F
use Rattle.pack_scan.specs.Found.{found}

module _ (b : List ℕ) (n : ℕ) where
  unfoldable pub after : ℕ → List Bit
  after p = bits_from b p (n - p)

  whole : after 0 ≡ bits_from b 0 n
  unfolding after
  whole = ap (bits_from b 0) (let e : n - 0 ≡ n = omega arith in e)

  after-length : (p : ℕ) → length (after p) ≡ n - p
  unfolding after
  after-length p = bits-length b p (n - p)

  -- the rest after a tree that is over
  next-after : (p q : ℕ) → p ≤ q → q ≤ n → drop (q - p) (after p) ≡ after q
  unfolding after
  next-after p q g h = rest-drop b p q n g h

  -- what is told of the end of the next tree
  module _ (p : ℕ) (end : Result TreeEnd ℕ) (found : end_of end ≡ tree_end (bits_from b p (n - p)) p) where
    pub told_over : {tree : TreeEnd} → end ≡ Ok tree → tree_end (after p) p ≡ over tree.next tree.size
    unfolding after
    told_over e = sym found ∙ ap end_of e

    pub told_refused : {x : ℕ} → end ≡ Err x → tree_end (after p) p ≡ refused x
    unfolding after
    told_refused e = sym found ∙ ap end_of e

  -- ---- counting

  -- after k trees, which end at bit p
  pub record Scanned (p k : ℕ) : Type 0 where
    pub at : p ≤ n
    pub few : k ≤ p
    pub place : place many (bits_from b 0 n) ≡ refusal many (after p) p (some (closed k))
    pub sizes : length (sizes (bits_from b 0 n)) ≡ k + length (sizes_from (after p) (some (closed k)))

  pub scanned_first : Scanned 0 0
  unfolding Rattle.meaning.specs.Scan.place Rattle.meaning.specs.Packs.sizes
  scanned_first = record {
    at = omega arith;
    few = omega arith;
    place = ap (λ r. refusal many r 0 (some (closed 0))) (sym whole);
    sizes = ap (λ r. length (sizes_from r (some (closed 0)))) (sym whole) ∙ omega arith;
  }

  module _ (p k : ℕ) (s : Scanned p k) (l : p < n) where
    pub next-at : {q z : ℕ} → tree_end (after p) p ≡ over q z → (p < q) × (q ≤ n) × (z ≤ 65535) × (q ≡ p + (2 * z + 1))
    next-at e = let w = over-within (after p) p e in (w.0, omega (arith, w.1, after-length p), w.3, w.4)

    pub scanned_next : {q z : ℕ} → tree_end (after p) p ≡ over q z → Scanned q (k + 1)
    scanned_next {q} {z} e =
        let w = next-at e in
        let d = next-after p q (omega (arith, w.0)) w.1 in
        record {
          at = w.1;
          few = omega (arith, s.few, w.0);
          place = s.place ∙ many_over k (after p) p e ∙ ap₂ (λ r j. refusal many r q (some (closed j))) d (sym (add-one k));
          sizes = s.sizes
              ∙ ap (λ r. k + length r) (sizes-over k (after p) p e)
              ∙ ap (λ r. k + suc (length (sizes_from r (some (closed (suc k)))))) d
              ∙ ap (λ j. k + suc (length (sizes_from (after q) (some (closed j))))) (sym (add-one k))
              ∙ omega arith;
        }

    refused-place : {x : ℕ} → tree_end (after p) p ≡ refused x → place many (bits_from b 0 n) ≡ x
    refused-place e = s.place ∙ many_refused k (after p) p (omega (arith, after-length p)) e

    pub refused-at : {x : ℕ} → tree_end (after p) p ≡ refused x → (1 ≤ x) × (x ≤ n + 1)
    refused-at e = let w = refused-within (after p) p e in (omega (arith, w.0), omega (arith, w.1, after-length p))

    pub scanned_refused : {x : ℕ} → tree_end (after p) p ≡ refused x → F.refused x ≡ found (bits_from b 0 n)
    unfolding found
    scanned_refused {x} e =
        let bs = bits_from b 0 n in
        let f = refused-place e in
        ap F.refused (sym f) ∙ sym (ap (λ t. cond t (F.trees (length (sizes bs))) (F.refused (place many bs))) (ne_eqb (place many bs) 0 (omega (arith, (refused-at e).0))))

  pub scanned_last : (p k : ℕ) → Scanned p k → n ≤ p → F.trees k ≡ found (bits_from b 0 n)
  unfolding found after refusal sizes_from
  scanned_last p k s l =
      let bs = bits_from b 0 n in
      let r : after p ≡ [] = rest-nil b p n l in
      let f : place many bs ≡ 0 = s.place ∙ ap (λ x. refusal many x p (some (closed k))) r in
      let g : length (sizes bs) ≡ k = s.sizes ∙ ap (λ x. k + length (sizes_from x (some (closed k)))) r ∙ omega arith in
      ap F.trees (sym g) ∙ sym (ap (λ t. cond t (F.trees (length (sizes bs))) (F.refused (place many bs))) (eq-eqb (place many bs) 0 f))

-- ---- noting

pub starts-length : (ns : List ℕ) (p : ℕ) → length (starts_from ns p) ≡ length ns
unfolding starts_from
starts-length [] p = refl
starts-length (s ∷ ns) p = ap suc (starts-length ns (p + (2 * s + 1)))

module _ (b : List ℕ) (n : ℕ) (first size : List ℕ) where
  -- after k trees, which end at bit p: with what is to come, all the starts and sizes are noted
  pub record Noted (p k : ℕ) (out_first out_size : List ℕ) : Type 0 where
    pub scanned : Scanned b n p k
    pub firsts : sets out_first k (starts_from (sizes_from (after b n p) (some (closed k))) p) ≡ sets first 0 (starts (bits_from b 0 n))
    pub sizes : sets out_size k (sizes_from (after b n p) (some (closed k))) ≡ sets size 0 (sizes (bits_from b 0 n))

  pub noted_first : Noted 0 0 first size
  unfolding starts Rattle.meaning.specs.Packs.sizes
  noted_first = record {
    scanned = scanned_first b n;
    firsts = ap (λ r. sets first 0 (starts_from (sizes_from r (some (closed 0))) 0)) (whole b n);
    sizes = ap (λ r. sets size 0 (sizes_from r (some (closed 0)))) (whole b n);
  }

  module _ (p k : ℕ) (out_first out_size : List ℕ) (h : Noted p k out_first out_size) where
    pub noted_lengths : (length out_first ≡ length first) × (length out_size ≡ length size)
    noted_lengths = (
      sym (length-sets out_first k (starts_from (sizes_from (after b n p) (some (closed k))) p)) ∙ ap length h.firsts ∙ length-sets first 0 (starts (bits_from b 0 n)),
      sym (length-sets out_size k (sizes_from (after b n p) (some (closed k)))) ∙ ap length h.sizes ∙ length-sets size 0 (Rattle.meaning.specs.Packs.sizes (bits_from b 0 n)),
    )

    -- where no tree is to come
    none_left : sizes_from (after b n p) (some (closed k)) ≡ [] → (out_first ≡ sets first 0 (starts (bits_from b 0 n))) × (out_size ≡ sets size 0 (Rattle.meaning.specs.Packs.sizes (bits_from b 0 n)))
    unfolding starts_from
    none_left e = (
      ap (λ r. sets out_first k (starts_from r p)) (sym e) ∙ h.firsts,
      ap (λ r. sets out_size k r) (sym e) ∙ h.sizes,
    )

    pub noted_last : n ≤ p → (out_first ≡ sets first 0 (starts (bits_from b 0 n))) × (out_size ≡ sets size 0 (Rattle.meaning.specs.Packs.sizes (bits_from b 0 n)))
    unfolding after sizes_from
    noted_last l = none_left (ap (λ r. sizes_from r (some (closed k))) (rest-nil b p n l))

    pub noted_refused : {x : ℕ} → tree_end (after b n p) p ≡ refused x
        → (out_first ≡ sets first 0 (starts (bits_from b 0 n))) × (out_size ≡ sets size 0 (Rattle.meaning.specs.Packs.sizes (bits_from b 0 n)))
    noted_refused e = none_left (sizes-refused k (after b n p) p e)

    pub noted_next : p < n → {q z : ℕ} → tree_end (after b n p) p ≡ over q z
        → {f s : List ℕ} → f ≡ set out_first k (p + 1) → s ≡ set out_size k z → Noted q (k + 1) f s
    unfolding starts_from
    noted_next l {q} {z} e {f} {s} ef es =
        let w = next-at b n p k h.scanned l e in
        let ns = sizes_from (after b n q) (some (closed (suc k))) in
        let here : sizes_from (after b n p) (some (closed k)) ≡ z ∷ ns =
        sizes-over k (after b n p) p e ∙ ap (λ r. z ∷ sizes_from r (some (closed (suc k)))) (next-after b n p q (omega (arith, w.0)) w.1) in
        record {
          scanned = scanned_next b n p k h.scanned l e;
          firsts = ap (λ r. sets r (k + 1) (starts_from (sizes_from (after b n q) (some (closed (k + 1)))) q)) ef
              ∙ ap₂ (λ i j. sets (set out_first k i) j (starts_from (sizes_from (after b n q) (some (closed j))) q)) (add-one p) (add-one k)
              ∙ ap (λ r. sets (set out_first k (suc p)) (suc k) (starts_from ns r)) w.3
              ∙ ap (λ r. sets out_first k (starts_from r p)) (sym here)
              ∙ h.firsts;
          sizes = ap₂ (λ r j. sets r j (sizes_from (after b n q) (some (closed j)))) es (add-one k)
              ∙ ap (λ r. sets out_size k r) (sym here)
              ∙ h.sizes;
        }
