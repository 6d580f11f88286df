-- Numbers spread over bits, from the first to the last: what a bit and a piece of the bits add.
use mathlib.Core.Path.{◌≡◌, refl, sym, ap, ap₂, ◌∙◌, subst}
use mathlib.Core.List.{List, [], ◌∷◌, ◌++◌, append_assoc, append-nil}
use Prim.Native.Nat.{ℕ, suc, ◌+◌, ◌-◌, ◌≤◌, ◌<◌}
use native.Mathlib.Numerals.{add-one}
use native.Mathlib.Omega.{arith}
use lib.ListN.{length, get_or, take, drop, set, length-append, length-drop, take-append-drop}
use lib.Seq.{append_snoc, set_split, get_or-drop, drop-drop, take_at, drop_at, take_all, length-take-le}
use Rattle.meaning.specs.Strings.{Bit, O, I, ones}
use Rattle.meaning.specs.Bytes.{value}
use Rattle.theory.proofs.Odd.{ones-append}
use Rattle.theory.proofs.Payloads.{ones-le}
use Rattle.unseal_parents.specs.Spread.{spread, SpreadOut}
use Rattle.unseal_byte.proofs.Pieces.{front_more, piece_length, ones_parts}

pub spread-append : (xs ys : List Bit) (zs : List ℕ) → spread (xs ++ ys) zs ≡ spread xs zs ++ spread ys (drop (ones xs) zs)
unfolding spread
spread-append [] ys zs = refl
spread-append (O ∷ xs) ys zs = ap (λ r. get_or zs 0 0 ∷ r) (spread-append xs ys zs)
spread-append (I ∷ xs) ys zs =
    ap (λ r. get_or zs 0 0 ∷ r)
    (spread-append xs ys (drop 1 zs) ∙ ap (λ l. spread xs (drop 1 zs) ++ spread ys l) (drop-drop (ones xs) 1 zs ∙ ap (λ n. drop n zs) (let e : 1 + ones xs ≡ suc (ones xs) = omega arith in e)))

pub spread-length : (xs : List Bit) (zs : List ℕ) → length (spread xs zs) ≡ length xs
unfolding spread
spread-length [] zs = refl
spread-length (O ∷ xs) zs = ap suc (spread-length xs zs)
spread-length (I ∷ xs) zs = ap suc (spread-length xs (drop 1 zs))

-- ---- a bit

pub spread-bit : (x : Bit) (i p : ℕ) (old : List ℕ) (v : ℕ) → v ≡ value x → i < length old → SpreadOut (x ∷ []) i p old (set old i (get_or old p 0)) (p + v)
unfolding value spread
spread-bit x i p old v e room = record {
  count = ap (λ n. p + n) (e ∙ one_bit x);
  made = set_split old i (get_or old p 0) room
      ∙ sym (append_snoc (take i old) (get_or old p 0) (drop (suc i) old))
      ∙ ap₂ (λ l m. take i old ++ l ++ drop m old) (sym (one_number x)) (sym (add-one i));
}
  where
    one_bit : (y : Bit) → value y ≡ ones (y ∷ [])
    one_bit O = refl
    one_bit I = refl

    here : get_or (drop p old) 0 0 ≡ get_or old p 0
    here = get_or-drop p old 0 0 ∙ ap (λ n. get_or old n 0) (let e : p + 0 ≡ p = omega arith in e)

    one_number : (y : Bit) → spread (y ∷ []) (drop p old) ≡ get_or old p 0 ∷ []
    one_number O = ap (λ n. n ∷ []) here
    one_number I = ap (λ n. n ∷ []) here

-- ---- piece by piece

-- the first j bits have their numbers, and those to come are after what is written
pub record Up (all : List Bit) (i p : ℕ) (old : List ℕ) (j : ℕ) (out : List ℕ) (from : ℕ) : Type 0 where
  pub size : length out ≡ length old
  pub wide : i + length all ≤ p + ones all
  pub room : p + ones all < length old
  pub next : from < length old
  pub out_to : SpreadOut (take j all) i p old out from

pub up_first : (all : List Bit) (i p : ℕ) (old : List ℕ) → i + length all ≤ p + ones all → p + ones all < length old → Up all i p old 0 old p
unfolding spread
up_first all i p old wide room = record {
  size = refl;
  wide = wide;
  room = room;
  next = omega arith;
  out_to = record {
    count = omega arith;
    made = sym (take-append-drop i old) ∙ ap₂ (λ l n. l ++ drop n old) (sym (append-nil (take i old))) (let e : i ≡ i + 0 = omega arith in e);
  };
}

behind : (all : List Bit) (i p j : ℕ) → i + length all ≤ p + ones all → j ≤ length all → i + j ≤ p + ones (take j all)
behind all i p j h g = omega (arith, ones_parts all j, ones-le (drop j all), length-drop j all)

module _ (all new : List Bit) (i p : ℕ) (old : List ℕ) (j s t : ℕ) (f : t ≡ j + s) (e : take s (drop j all) ≡ new) (g : t ≤ length all)
    (mid : List ℕ) (q : ℕ) (h : Up all i p old j mid q) where
  taken : length (take j all) ≡ j
  taken = length-take-le j all (omega arith)

  front : take t all ≡ take j all ++ new
  front = ap (λ n. take n all) f ∙ front_more all new j s e

  counted : ones (take t all) ≡ ones (take j all) + ones new
  counted = ap (λ l. ones l) front ∙ ones-append (take j all) new

  pub up-behind : i + j + s ≤ q + ones new
  up-behind = omega (arith, behind all i p t h.wide g, counted, h.out_to.count)

  pub up_room : q + ones new < length mid
  up_room = omega (arith, counted, h.out_to.count, h.room, h.size, ones_parts all t)

  -- what is written so far
  abbrev sofar : List ℕ
  sofar = take i old ++ spread (take j all) (drop p old)

  mid_is : mid ≡ sofar ++ drop (i + j) old
  mid_is = h.out_to.made ∙ ap (λ n. sofar ++ drop (i + n) old) taken

  sofar-length : length sofar ≡ i + j
  sofar-length =
      length-append (take i old) (spread (take j all) (drop p old))
      ∙ omega (arith, length-take-le i old (omega (arith, h.wide, h.room)), spread-length (take j all) (drop p old), taken)

  kept : (m : ℕ) → drop (i + j + m) mid ≡ drop (i + j + m) old
  kept m =
      sym (drop-drop m (i + j) mid)
      ∙ ap (drop m) (ap (drop (i + j)) mid_is ∙ drop_at sofar (drop (i + j) old) (i + j) sofar-length)
      ∙ drop-drop m (i + j) old

  numbers : drop q mid ≡ drop (ones (take j all)) (drop p old)
  numbers =
      let m = q - (i + j) in
      let c : q ≡ i + j + m = omega (arith, h.out_to.count, behind all i p j h.wide (omega arith)) in
      ap (λ n. drop n mid) c ∙ kept m ∙ ap (λ n. drop n old) (sym c ∙ h.out_to.count) ∙ sym (drop-drop (ones (take j all)) p old)

  end : drop (i + j + length new) mid ≡ drop (i + length (take t all)) old
  end =
      kept (length new)
      ∙ ap (λ n. drop n old) (let c : i + j + length new ≡ i + length (take t all) = omega (arith, piece_length all new j s e (omega arith), length-take-le t all g) in c)

  pub up_next : (out : List ℕ) (r : ℕ) → length out ≡ length mid → SpreadOut new (i + j) q mid out r → Up all i p old t out r
  up_next out r l k = record {
    size = l ∙ h.size;
    wide = h.wide;
    room = h.room;
    next = omega (arith, k.count, up_room, h.size);
    out_to = record {
      count = k.count ∙ omega (arith, counted, h.out_to.count);
      made = k.made
          ∙ ap₂ (λ a c. a ++ spread new c ++ drop (i + j + length new) mid) (ap (take (i + j)) mid_is ∙ take_at sofar (drop (i + j) old) (i + j) sofar-length) numbers
          ∙ ap₂ ◌++◌
          (append_assoc (take i old) (spread (take j all) (drop p old)) (spread new (drop (ones (take j all)) (drop p old)))
          ∙ ap (λ l. take i old ++ l) (sym (spread-append (take j all) new (drop p old)) ∙ ap (λ l. spread l (drop p old)) (sym front)))
          end;
    };
  }

pub up_done : (all : List Bit) (i p : ℕ) (old : List ℕ) (j : ℕ) (out : List ℕ) (from : ℕ) → length all ≤ j → Up all i p old j out from → SpreadOut all i p old out from
up_done all i p old j out from l h = subst (λ bs. SpreadOut bs i p old out from) (take_all j all l) h.out_to

-- bits of a string from its beginning
pub spread_at : (bits : List Bit) (j p : ℕ) (old out : List ℕ) (r : ℕ) → SpreadOut bits j p old out r → SpreadOut bits (0 + j) p old out r
spread_at bits j p old out r h = subst (λ n. SpreadOut bits n p old out r) (let e : j ≡ 0 + j = omega arith in e) h
