-- What the loop that writes a string keeps: zeros all over, and the ones of the entries passed set
-- among them.
use mathlib.Core.Path.{◌≡◌, refl, sym, ap, ap₂, ◌∙◌, subst}
use mathlib.Core.List.{List, [], ◌∷◌, ◌++◌, append_assoc}
use Prim.Native.Nat.{ℕ, zero, suc, ◌+◌, ◌-◌, ◌*◌, ◌≤◌, ◌<◌}
use native.Mathlib.Numerals.{add-one}
use native.Mathlib.Omega.{arith}
use lib.ListN.{length, get_or, take, drop, set, replicate, length-append, length-replicate, drop_of_length-le}
use lib.Seq.{set_split, take-append-add, drop-append-add, drop-cons}
use Rattle.meaning.specs.Strings.{Bit, O, I, string_from, string_of}
use Rattle.meaning.specs.Parents.{IsParents}
use Rattle.theory.specs.Layout.{AreBytes}
use Rattle.theory.proofs.Forms.{string-size}
use Rattle.bits_append.specs.Appended.{appended}
use Rattle.bits_byte.specs.Lit.{lit}
use Rattle.bits_append.proofs.Appending.{lit-length, lit-appended, appended-over}
use Rattle.parents_check.proofs.Rising.{Rising, parents_rising}

-- ---- a one set in a run of zeros

take-run : (d m : ℕ) → d ≤ m → take d (replicate m O) ≡ replicate d O
take-run zero m h = refl
take-run (suc d) zero h = absurd (omega arith)
take-run (suc d) (suc m) h = ap (λ r. O ∷ r) (take-run d m (omega arith))

drop-run : (d m : ℕ) → drop d (replicate m O) ≡ replicate (m - d) O
drop-run zero m = ap (λ k. replicate k O) (let e : m ≡ m - 0 = omega arith in e)
drop-run (suc d) zero = ap (λ k. replicate k O) (let e : 0 ≡ 0 - suc d = omega arith in e)
drop-run (suc d) (suc m) = drop-run d m ∙ ap (λ k. replicate k O) (let e : m - d ≡ suc m - suc d = omega arith in e)

set_in_run : (w : List Bit) (m d : ℕ) → d < m → set (w ++ replicate m O) (length w + d) I ≡ (w ++ (replicate d O ++ I ∷ [])) ++ replicate (m - suc d) O
set_in_run w m d h =
    let l = length-append w (replicate m O) in
    let k = length-replicate m O in
    set_split (w ++ replicate m O) (length w + d) I (omega arith)
    ∙ ap₂ (λ a b. a ++ I ∷ b)
    (take-append-add w (replicate m O) d ∙ ap (λ r. w ++ r) (take-run d m (omega arith)))
    (ap (λ j. drop j (w ++ replicate m O)) (let e : suc (length w + d) ≡ length w + suc d = omega arith in e) ∙ drop-append-add w (replicate m O) (suc d) ∙ drop-run (suc d) m)
    ∙ sym cut
  where
    cut : (w ++ (replicate d O ++ I ∷ [])) ++ replicate (m - suc d) O ≡ (w ++ replicate d O) ++ I ∷ replicate (m - suc d) O
    cut = append_assoc w (replicate d O ++ I ∷ []) _ ∙ ap (λ r. w ++ r) (append_assoc (replicate d O) (I ∷ []) _) ∙ sym (append_assoc w (replicate d O) _)

-- ---- the loop

module _ (ps : List ℕ) (from : ℕ) (old : List ℕ) where
  -- zeros after what is done, to the end of the string
  unfoldable pub blanks : List Bit → List Bit
  blanks done = done ++ replicate (2 * length ps + 1 - length done) O

  -- after i entries, of which the last was z, the string is done so far, and the rest is still zero
  pub record Marked (out : List ℕ) (i : ℕ) : Type 0 where
    pub done : List Bit
    pub last : ℕ
    pub size : length done ≡ last + i
    pub low : last ≤ length ps
    pub left : i ≤ length ps
    pub rising : Rising (length ps) last (drop i ps)
    pub string : done ++ string_from (drop i ps) last (length ps + 1) ≡ string_of ps
    pub kept : length out ≡ length old
    pub is : out ≡ appended old from (blanks done)

  -- at first there are only zeros: `old` is the buffer that they were written into
  pub marked_first : (before : List ℕ) → IsParents ps → old ≡ appended before from (replicate (2 * length ps + 1) O) → Marked old 0
  unfolding blanks string_of
  marked_first before h e =
      let zs = replicate (2 * length ps + 1) O in
      record {
        done = [];
        last = 0;
        size = refl;
        low = omega arith;
        left = omega arith;
        rising = parents_rising ps h;
        string = refl;
        kept = refl;
        is = e
            ∙ sym (appended-over before from zs zs refl)
            ∙ ap₂ (λ l k. appended l from (replicate k O)) (sym e) (let z : 2 * length ps + 1 ≡ 2 * length ps + 1 - 0 = omega arith in z);
      }

  module _ (out : List ℕ) (i : ℕ) (m : Marked out i) (l : i < length ps) where
    p : ℕ
    p = get_or ps i 0

    here : (m.last ≤ p) × (p ≤ length ps) × Rising (length ps) p (drop (suc i) ps)
    unfolding p
    here = subst (Rising (length ps) m.last) (drop-cons ps i 0 l) m.rising

    -- the entry is a place in the string
    pub entry-le : get_or ps i 0 ≤ length ps
    unfolding p
    entry-le = here.1

    lit_next : AreBytes old → from + (2 * length ps + 1) ≤ 8 * length old → Marked (lit out (from + i + get_or ps i 0)) (i + 1)
    unfolding p blanks
    lit_next b room =
        let w = m.done in
        let d = p - m.last in
        let k = 2 * length ps + 1 - length w in
        let lw = m.size in
        let lr = length-append w (replicate k O) in
        let lk = length-replicate k O in
        let w' = w ++ (replicate d O ++ I ∷ []) in
        let lw' : length w' ≡ length w + suc d =
        length-append w (replicate d O ++ I ∷ []) ∙ ap (λ j. length w + j) (length-append (replicate d O) (I ∷ []) ∙ ap (λ j. j + 1) (length-replicate d O) ∙ add-one d) in
        record {
          done = w';
          last = p;
          size = omega (arith, here.0);
          low = here.1;
          left = omega arith;
          rising = subst (λ j. Rising (length ps) p (drop j ps)) (sym (add-one i)) here.2;
          string = ap (λ j. w' ++ string_from (drop j ps) p (length ps + 1)) (add-one i)
              ∙ append_assoc w (replicate d O ++ I ∷ []) _
              ∙ ap (λ r. w ++ r) (append_assoc (replicate d O) (I ∷ []) _)
              ∙ ap (λ r. w ++ string_from r m.last (length ps + 1)) (sym (drop-cons ps i 0 l))
              ∙ m.string;
          kept = lit-length out (from + i + p) ∙ m.kept;
          is = ap₂ lit m.is (let e : from + i + p ≡ from + (length w + d) = omega (arith, here.0) in e)
              ∙ lit-appended old from (w ++ replicate k O) (length w + d) b (omega (arith, here.1)) (omega (arith, here.1))
              ∙ ap (appended old from) (set_in_run w k d (omega (arith, here.1)) ∙ ap (λ j. w' ++ replicate j O) (let e : k - suc d ≡ 2 * length ps + 1 - length w' = omega (arith, here.1) in e));
        }

    pub marked_next : (new : List ℕ) (w : ℕ) → new ≡ lit out (from + i + w) → w ≡ get_or ps i 0 → AreBytes old → from + (2 * length ps + 1) ≤ 8 * length old → Marked new (i + 1)
    marked_next new w e f b room = subst (λ x. Marked x (i + 1)) (sym (e ∙ ap (λ v. lit out (from + i + v)) f)) (lit_next b room)

  pub marked_last : (before out : List ℕ) (i : ℕ) → IsParents ps → old ≡ appended before from (replicate (2 * length ps + 1) O)
      → Marked out i → length ps ≤ i → out ≡ appended before from (string_of ps)
  unfolding blanks
  marked_last before out i h e m l =
      let zs = replicate (2 * length ps + 1) O in
      m.is
      ∙ ap (appended old from)
      (ap (λ k. m.done ++ replicate k O) (let z : 2 * length ps + 1 - length m.done ≡ length ps + 1 - m.last = omega (arith, m.size, m.left) in z)
      ∙ ap (λ r. m.done ++ string_from r m.last (length ps + 1)) (sym (drop_of_length-le ps l))
      ∙ m.string)
      ∙ ap (λ r. appended r from (string_of ps)) e
      ∙ appended-over before from zs (string_of ps) (length-replicate (2 * length ps + 1) O ∙ sym (string-size ps h))
