-- R0 put entry by entry: what the loop keeps. The byte at hand is not yet in the image, so it is
-- the image with that byte put which has the bits.
use mathlib.Core.Path.{◌≡◌, refl, sym, ap, ap₂, ◌∙◌, subst}
use mathlib.Core.Logic.{◌↔◌, ◌⊎◌, inl, inr, ⊎_elim}
use mathlib.Core.List.{List}
use Prim.Native.Nat.{ℕ, zero, suc, ◌+◌, ◌-◌, ◌*◌, ◌/◌, ◌%◌, ◌^◌, ◌≤◌, ◌<◌}
use native.Mathlib.Decide.{dec_lt, ℕ_discrete}
use native.Mathlib.Omega.{arith}
use lib.Bits.{bit_or}
use lib.ListN.{length, get_or, set, length-set, get_or-eq_default}
use lib.Seq.{get_or-set_same, set-get_or, set-set}
use Rattle.meaning.specs.Parents.{IsParents}
use Rattle.meaning.specs.Strings.{Bit, O, I, R0, string_of}
use Rattle.meaning.specs.Bytes.{bit_at}
use Rattle.meaning.specs.Image.{string_blocks}
use Rattle.theory.specs.Layout.{bit_place}
use Rattle.bits_byte.specs.Lit.{lit}
use Rattle.bits_append.proofs.Appending.{lit-length, lit-same, lit-other}
use Rattle.seal_r1_bits.proofs.Lists.{never, Entry, R0-bit}
use Rattle.seal_r1_bits.proofs.Entries.{sizes}
use Rattle.seal_r1.specs.Passes.{Blank, Outside, byte_place, R0Written}
use Rattle.seal_r1.proofs.Placing.{earlier, bit-zero, lit_byte}

same_bit : (a b : Bit) → (a ≡ I → b ≡ I) → (b ≡ I → a ≡ I) → a ≡ b
same_bit O O f g = refl
same_bit O I f g = g refl
same_bit I O f g = sym (f refl)
same_bit I I f g = refl

-- a later entry is at least 1 and at most its index
pub later-entry : (ps : List ℕ) → IsParents ps → (i : ℕ) → 1 ≤ i → i < length ps → (1 ≤ get_or ps i 0) × (get_or ps i 0 ≤ i)
later-entry ps h zero l m = absurd (omega arith)
later-entry ps h (suc i) l m = let u = h.rule (suc (suc i)) (omega arith) (omega arith) in (u.0, u.1)

first_entry : (ps : List ℕ) → IsParents ps → get_or ps 0 0 ≡ 0
first_entry ps h = h.rule 1 (omega arith) h.some

-- x is one of the entries before entry i, but for the first
abbrev Passed : List ℕ → ℕ → ℕ → Type 0
Passed ps i x = (t : ℕ) × (1 ≤ t) × (t < i) × (get_or ps t 0 ≡ x)

-- ---- the image with the byte put

pub record Lit (ps old out : List ℕ) (zeros i : ℕ) : Type 0 where
  pub bits : (y : ℕ) → y < 4000 * string_blocks (length ps + 1) → (bit_at out (bit_place zeros y) ≡ I) ↔ Passed ps i (y + 1)
  pub apart : (q : ℕ) → Outside zeros (string_blocks (length ps + 1)) q → get_or out q 0 ≡ get_or old q 0
  pub kept : length out ≡ length old

lit-first : (ps old : List ℕ) (zeros : ℕ) → Blank old zeros (string_blocks (length ps + 1)) → Lit ps old old zeros 1
lit-first ps old zeros h = record {
  bits = λ y l. (λ b. never (sym b ∙ bit-zero old (bit_place zeros y) (h (bit_place zeros y / 8) (omega arith) (omega arith))), λ p. absurd (omega (arith, p.1, p.2)));
  apart = λ q a. refl;
  kept = refl;
}

module _ (ps old out : List ℕ) (zeros i : ℕ) (are : IsParents ps) (n : Lit ps old out zeros i) (room : 512 * (zeros + string_blocks (length ps + 1)) ≤ length old) where
  module _ (x : ℕ) (low : 1 ≤ i) (l : i < length ps) (e : x ≡ get_or ps i 0 - 1) where
    inside : x < length ps
    inside = omega (arith, (later-entry ps are i low l).1)

    is : get_or ps i 0 ≡ x + 1
    is = omega (arith, (later-entry ps are i low l).0)

    lit-bit : (y : ℕ) → y < 4000 * string_blocks (length ps + 1) → (bit_at (lit out (bit_place zeros x)) (bit_place zeros y) ≡ I) ↔ Passed ps (i + 1) (y + 1)
    lit-bit y m = elim (ℕ_discrete y x) [
      | yes f ↦ (
        λ b. (i, low, omega arith, is ∙ ap (λ j. j + 1) (sym f)),
        λ p. ap (λ j. bit_at (lit out (bit_place zeros x)) (bit_place zeros j)) f ∙ lit-same out (bit_place zeros x) (let w = inside in omega (arith, n.kept)),
      )
      | no f ↦
          let same : bit_at (lit out (bit_place zeros x)) (bit_place zeros y) ≡ bit_at out (bit_place zeros y) =
          lit-other out (bit_place zeros x) (bit_place zeros y) (λ g. f (omega arith)) in (
            λ b. up ((n.bits y m).0 (sym same ∙ b)),
            λ p. same ∙ (n.bits y m).1 (down f p.0 p.1 p.2 p.3),
          )
    ]
      where
        up : Passed ps i (y + 1) → Passed ps (i + 1) (y + 1)
        up p = (p.0, p.1, omega (arith, p.2), p.3)

        down : (y ≡ x → ⊥) → (t : ℕ) → 1 ≤ t → t < i + 1 → get_or ps t 0 ≡ y + 1 → Passed ps i (y + 1)
        down f t a b g = elim (ℕ_discrete t i) [
          | yes h ↦ absurd (f (omega (arith, sym g ∙ ap (λ j. get_or ps j 0) h ∙ is)))
          | no h ↦ (t, a, earlier t i b h, g)
        ]

    lit_next : Lit ps old (lit out (bit_place zeros x)) zeros (i + 1)
    lit_next = record {
      bits = lit-bit;
      apart = λ q h. let w = inside in lit_byte out (bit_place zeros x) q (λ f. h (omega arith) (omega arith)) ∙ n.apart q h;
      kept = lit-length out (bit_place zeros x) ∙ n.kept;
    }

  -- the last bit, after all entries
  module _ (l : i ≡ length ps) where
    to_entry : (y : ℕ) → Passed ps i (y + 1) → Entry (y + 1) ps
    to_entry y p = (p.0, omega (arith, p.2), p.3)

    from-entry : (y : ℕ) → Entry (y + 1) ps → Passed ps i (y + 1)
    from-entry y m = later m.0 m.1 m.2
      where
        later : (t : ℕ) → t < length ps → get_or ps t 0 ≡ y + 1 → Passed ps i (y + 1)
        later zero a b = absurd (omega (arith, first_entry ps are))
        later (suc t) a b = (suc t, omega arith, omega arith, b)

    at_most : (y : ℕ) → Passed ps i (y + 1) → y < length ps
    at_most y p = omega (arith, p.3, p.2, (later-entry ps are p.0 p.1 (omega (arith, p.2))).1)

    in_string_lem : (y : ℕ) → y ≤ length ps → (get_or (R0 (string_of ps)) y O ≡ I) ↔ ((y + 1 ≡ length ps + 1) ⊎ Entry (y + 1) ps)
    in_string_lem y h =
        let u = R0-bit ps are (y + 1) (omega arith) (omega arith) in
        let e : get_or (R0 (string_of ps)) (y + 1 - 1) O ≡ get_or (R0 (string_of ps)) y O = ap (λ j. get_or (R0 (string_of ps)) j O) (let f : y + 1 - 1 ≡ y = omega arith in f) in
        (λ b. u.0 (e ∙ b), λ s. sym e ∙ u.1 s)

    last_bit : (y : ℕ) → y < 4000 * string_blocks (length ps + 1) → bit_at (lit out (bit_place zeros (length ps))) (bit_place zeros y) ≡ get_or (R0 (string_of ps)) y O
    last_bit y h = elim (ℕ_discrete y (length ps)) [
      | yes f ↦ ap (λ j. bit_at (lit out (bit_place zeros (length ps))) (bit_place zeros j)) f
          ∙ lit-same out (bit_place zeros (length ps)) (omega (arith, n.kept)) ∙ sym ((in_string_lem y (omega arith)).1 (inl (omega arith)))
      | no f ↦ lit-other out (bit_place zeros (length ps)) (bit_place zeros y) (λ g. f (omega arith))
          ∙ same_bit (bit_at out (bit_place zeros y)) (get_or (R0 (string_of ps)) y O)
          (λ b. let p = (n.bits y h).0 b in (in_string_lem y (omega (arith, at_most y p))).1 (inr (to_entry y p)))
          (λ b. elim (dec_lt (length ps) y) [
            | yes g ↦ never (sym b ∙ get_or-eq_default (R0 (string_of ps)) O (omega (arith, (sizes ps are).long0)))
            | no g ↦ ⊎_elim (λ v. absurd (f (omega arith))) (λ m. (n.bits y h).1 (from-entry y m)) ((in_string_lem y (omega arith)).0 b)
          ])
    ]

    lit-last : (new : List ℕ) → new ≡ lit out (bit_place zeros (length ps)) → R0Written old new ps zeros
    lit-last new e = subst (λ s. R0Written old s ps zeros) (sym e) (record {
      bits = last_bit;
      apart = λ q h. lit_byte out (bit_place zeros (length ps)) q (λ f. h (omega arith) (omega arith)) ∙ n.apart q h;
    })

-- ---- the byte at hand

module _ (out : List ℕ) (zeros c byte x : ℕ) where
  -- another byte is taken up
  taken_up : set out (byte_place zeros (x / 8)) (bit_or (get_or out (byte_place zeros (x / 8)) 0) (128 / 2 ^ (x % 8))) ≡ lit out (bit_place zeros x)
  unfolding lit
  taken_up =
      ap₂ (λ p j. set out p (bit_or (get_or out p 0) (128 / 2 ^ j)))
      (let f : byte_place zeros (x / 8) ≡ bit_place zeros x / 8 = omega arith in f) (let g : x % 8 ≡ bit_place zeros x % 8 = omega arith in g)

  -- the byte at hand is the one to be changed
  at_hand : x / 8 ≡ c → byte_place zeros c < length out → set out (byte_place zeros c) (bit_or byte (128 / 2 ^ (x % 8))) ≡ lit (set out (byte_place zeros c) byte) (bit_place zeros x)
  unfolding lit
  at_hand e h =
      let put = set out (byte_place zeros c) byte in
      sym (set-set out (byte_place zeros c) byte (bit_or byte (128 / 2 ^ (x % 8))))
      ∙ ap (λ v. set put (byte_place zeros c) (bit_or v (128 / 2 ^ (x % 8)))) (sym (get_or-set_same out (byte_place zeros c) byte 0 h))
      ∙ ap₂ (λ p j. set put p (bit_or (get_or put p 0) (128 / 2 ^ j)))
      (let f : byte_place zeros c ≡ bit_place zeros x / 8 = omega arith in f) (let g : x % 8 ≡ bit_place zeros x % 8 = omega arith in g)

pub record Gapping (ps old out : List ℕ) (zeros c byte i : ℕ) : Type 0 where
  pub low : 1 ≤ i
  pub left : i ≤ length ps
  pub within : 8 * c ≤ length ps
  pub lits : Lit ps old (set out (byte_place zeros c) byte) zeros i
  pub kept : length out ≡ length old

pub gapping_first : (ps old : List ℕ) (zeros : ℕ) → 1 ≤ length ps → Blank old zeros (string_blocks (length ps + 1)) → Gapping ps old old zeros 0 0 1
gapping_first ps old zeros some h = record {
  low = omega arith;
  left = some;
  within = omega arith;
  lits = subst (λ s. Lit ps old s zeros 1)
      (sym (ap (set old (byte_place zeros 0)) (sym (h (byte_place zeros 0) (omega arith) (omega arith))) ∙ set-get_or old (byte_place zeros 0) 0))
      (lit-first ps old zeros h);
  kept = refl;
}

module _ (ps old out : List ℕ) (zeros c byte i : ℕ) (are : IsParents ps) (n : Gapping ps old out zeros c byte i)
    (room : 512 * (zeros + string_blocks (length ps + 1)) ≤ length old) where
  pub gapping_low : i < length ps → (1 ≤ get_or ps i 0) × (get_or ps i 0 ≤ i)
  gapping_low l = later-entry ps are i n.low l

  module _ (x : ℕ) (l : i < length ps) (e : x ≡ get_or ps i 0 - 1) where
    -- the byte at hand is put, and another taken up
    pub gapping_other : (new : List ℕ) (d v : ℕ) → new ≡ set out (byte_place zeros c) byte → d ≡ x / 8
        → v ≡ bit_or (get_or new (byte_place zeros d) 0) (128 / 2 ^ (x % 8)) → Gapping ps old new zeros d v (i + 1)
    gapping_other new d v f g h =
        let put = set out (byte_place zeros c) byte in
        let here : set new (byte_place zeros d) v ≡ lit put (bit_place zeros x) =
        ap (set new (byte_place zeros d)) h
        ∙ ap₂ (λ s j. set s (byte_place zeros j) (bit_or (get_or s (byte_place zeros j) 0) (128 / 2 ^ (x % 8)))) f g
        ∙ taken_up put zeros c byte x in
        record {
          low = omega arith;
          left = omega arith;
          within = omega (arith, (later-entry ps are i n.low l).1, g);
          lits = subst (λ s. Lit ps old s zeros (i + 1)) (sym here) (lit_next ps old put zeros i are n.lits room x n.low l e);
          kept = ap length f ∙ length-set out (byte_place zeros c) byte ∙ n.kept;
        }

    pub gapping_same : (new : List ℕ) (d v : ℕ) → x / 8 ≡ c → new ≡ out → d ≡ c → v ≡ bit_or byte (128 / 2 ^ (x % 8)) → Gapping ps old new zeros d v (i + 1)
    gapping_same new d v s f g h =
        let put = set out (byte_place zeros c) byte in
        let here : set new (byte_place zeros d) v ≡ lit put (bit_place zeros x) =
        ap (set new (byte_place zeros d)) h
        ∙ ap₂ (λ y j. set y (byte_place zeros j) (bit_or byte (128 / 2 ^ (x % 8)))) f g
        ∙ at_hand out zeros c byte x s (let w = n.within in omega (arith, n.kept)) in
        record {
          low = omega arith;
          left = omega arith;
          within = omega (arith, n.within, g);
          lits = subst (λ y. Lit ps old y zeros (i + 1)) (sym here) (lit_next ps old put zeros i are n.lits room x n.low l e);
          kept = ap length f ∙ n.kept;
        }

  pub gapping_last : length ps ≤ i → (put new : List ℕ) → put ≡ set out (byte_place zeros c) byte → new ≡ lit put (bit_place zeros (length ps)) → R0Written old new ps zeros
  gapping_last l put new f g =
      lit-last ps old (set out (byte_place zeros c) byte) zeros i are n.lits room (let w = n.left in omega arith) new
      (g ∙ ap (λ s. lit s (bit_place zeros (length ps))) f)
