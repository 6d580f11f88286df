-- The promises of specs/Promises.antt.
use mathlib.Core.Path.{◌≡◌, refl, sym, ap, ap₂, ◌∙◌, subst}
use mathlib.Core.Bool.{Bool, false, cond, not, ◌||◌}
use mathlib.Core.List.{List, [], ◌∷◌, ◌++◌, append-nil, append_assoc}
use Prim.Native.Nat.{ℕ, zero, suc, ◌+◌, ◌-◌, ◌*◌, ◌/◌, ◌%◌, ◌^◌, ◌≤◌, ◌<◌}
use native.Mathlib.Decide.{dec_lt}
use native.Mathlib.Omega.{arith}
use borrow.Author.Tests.{ltb-false, eq-eqb}
use lib.Dec.{ltb, eqb}
use lib.ListN.{length, get_or, take, drop, length-append, get_or-eq_default}
use lib.Seq.{length-take-le, get_or-take, drop_at, append_snoc}
use Rattle.meaning.specs.Trees.{Tree, nodes}
use Rattle.meaning.specs.Parents.{parents}
use Rattle.meaning.specs.Strings.{Bit, O, lbs, strings, string_of}
use Rattle.meaning.specs.Bytes.{bit, bit_at, bits_from, bytes_for, leftover, packed}
use Rattle.meaning.specs.Scan.{many, Small, place}
use Rattle.meaning.specs.Packs.{starts_of, sizes_of, sizes, starts}
use Rattle.meaning.specs.declared.Answer.{Answer}
use Rattle.meaning.specs.Answers.{Row, ◌at◌when◌, counts, came_to, alone, over, settle, written, too_short}
use Rattle.meaning.specs.Tests.{wrong_count, wrong_to_split, wrong_to_join, pack_rows}
use Rattle.calls.specs.Calls.{parents_of_string, split_pack, join_pack}
use Rattle.theory.specs.Rows.{NoneHolds}
use Rattle.theory.specs.Layout.{AreBytes}
use Rattle.theory.specs.Changes.{changed}
use Rattle.theory.proofs.Settled.{first_alone, settle_on, settle-append}
use Rattle.theory.proofs.Codes.{neither, not_unequal, listed-tree, Others}
use Rattle.theory.proofs.Parents.{parents_are}
use Rattle.theory.proofs.Lowest.{parents-bad_entry}
use Rattle.theory.proofs.Forms.{length-parents, string-parents}
use Rattle.theory.proofs.Digits.{same_bits_lem, take_bytes}
use Rattle.theory.proofs.Packing.{bits-length, bits_at, leftover-bits, bits-leftover, packed-length, packed_bytes, packed-bit, packed-leftover, packed_read, read_packed}
use Rattle.theory.proofs.Packs.{string-length, sizes_are, starts_are, found_is, part_is}
use Rattle.theorems.proofs.Promises.{pack_accepted, odd_changes}
use Rattle.table_sizes.specs.ToSplit as ToSplit
use Rattle.table_sizes.specs.ToJoin as ToJoin
use Rattle.table_sizes.proofs.ToSplit as SplitLaws
use Rattle.table_sizes.proofs.ToJoin as JoinLaws
use Rattle.bits_append.specs.Appended.{appended}
use Rattle.bits_append.proofs.Appending.{appended-length, appended_bytes, appended-new, appended_read}
use Rattle.string_promises.proofs.Reading.{read_done, never_among}
use Rattle.string_promises.proofs.Promises.{tree_read}
use Rattle.pack_scan.specs.Found.{trees, refused, found}
use Rattle.pack_scan.proofs.Parts.{starts-length}
use Rattle.pack_check.proofs.Rows.{held, held_trees}
use Rattle.pack_scan.specs.Numbers.{pack_row}
use Rattle.call_split.proofs.Splitting.{split_made}
use Rattle.call_join.proofs.Joining.{join_done}
use Rattle.pack_promises.specs.Promises.{HoldsPack, longer, RoomToJoin, join_all}
use Rattle.pack_promises.specs.Promises as P

-- ---- trees one after the other

strings-append : (ts us : List Tree) → strings (ts ++ us) ≡ strings ts ++ strings us
strings-append [] us = refl
strings-append (t ∷ ts) us = ap (λ r. lbs t ++ r) (strings-append ts us) ∙ sym (append_assoc (lbs t) (strings ts) (strings us))

strings_snoc : (ts : List Tree) (t : Tree) → strings (ts ++ t ∷ []) ≡ strings ts ++ lbs t
strings_snoc ts t = strings-append ts (t ∷ []) ∙ ap (λ r. strings ts ++ r) (append-nil (lbs t))

small_snoc : (ts : List Tree) (t : Tree) → Small ts → nodes t ≤ 65535 → Small (ts ++ t ∷ [])
small_snoc [] t s h = (h, tt)
small_snoc (u ∷ ts) t s h = (s.0, small_snoc ts t s.1 h)

size-at : (ts : List Tree) (j : ℕ) (other : Tree) → Small ts → j < length ts
    → (nodes (get_or ts j other) ≤ 65535) × (get_or (sizes_of ts) j 0 ≡ nodes (get_or ts j other))
size-at [] j other s h = absurd (omega arith)
size-at (t ∷ ts) zero other s h = (s.0, refl)
size-at (t ∷ ts) (suc j) other s h = size-at ts j other s.1 (omega arith)

starts-count : (bs : List Bit) → length (starts bs) ≡ length (sizes bs)
unfolding starts
starts-count bs = starts-length (sizes bs) 0

-- what a scan of their strings finds
all_found : (ts : List Tree) → Small ts → (bs : List Bit) → bs ≡ strings ts → trees (length ts) ≡ found bs
unfolding found
all_found ts s bs e =
    ap trees (sym (found_is ts s)) ∙ ap (λ x. trees (length (sizes x))) (sym e)
    ∙ sym (ap (λ b. cond b (trees (length (sizes bs))) (refused (place many bs))) (eq-eqb (place many bs) 0 ((pack_accepted bs).1 (ts, s, sym e))))

-- ---- splitting

pub split_gives_trees : P.SplitGivesTrees
split_gives_trees ts firsts sizes_out f room room_sizes =
    let bits = strings ts in
    let bytes = packed bits in
    let L = length bits in
    sym (split_made bytes L (length ts) firsts sizes_out (record { short = f.short; exact = packed-length bits; few = f.few })
    (held_trees bytes L (length ts) (packed-leftover bits) (all_found ts f.small (bits_from bytes 0 L) (packed_read bits)) refl) room room_sizes)
    ∙ ap₂ (λ a b. came_to (counts L (length ts)) (written a firsts, written b sizes_out))
    (ap starts (packed_read bits) ∙ starts_are ts f.small)
    (ap sizes (packed_read bits) ∙ sizes_are ts f.small)

pub parts_give_trees : P.PartsGiveTrees
parts_give_trees ts j other out s h room =
    let u = get_or ts j other in
    let w = size-at ts j other s h in
    let L = 2 * get_or (sizes_of ts) j 0 + 1 in
    let part : take L (drop (get_or (starts_of ts 0) j 0 - 1) (strings ts)) ≡ lbs u
    = ap₂ (λ ns ps. take (2 * get_or ns j 0 + 1) (drop (get_or ps j 0 - 1) (strings ts))) (sym (sizes_are ts s)) (sym (starts_are ts s)) ∙ part_is ts j other s h in
    ap₂ (λ bs n. parents_of_string (packed bs) (2 * n + 1) out) part w.1
    ∙ tree_read u out w.0 room

-- ---- code 0

-- of a call whose first rows are its sizes and those of a pack
record Done (wrong : Bool) (bytes : List ℕ) (L k : ℕ) (rest : List Row) : Type 0 where
  right : wrong ≡ false
  clean : leftover bytes L ≡ false
  good : place many (bits_from bytes 0 L) ≡ 0
  count : length (sizes (bits_from bytes 0 L)) ≡ k
  others : NoneHolds rest

pack_done : {A : Type 0} (before : A) (a : Answer) (after : A) (wrong : Bool) (bytes : List ℕ) (L k : ℕ) (rest : List Row) → Others 0 rest
    → (settle before (2 at 0 when wrong ∷ pack_rows bytes L k ++ rest) a after).answer.code ≡ 0 → Done wrong bytes L k rest
unfolding pack_rows
pack_done before a after wrong bytes L k rest o e =
    let n = length (sizes (bits_from bytes 0 L)) in
    let h = read_done before a after wrong many bytes L (10 at n when not (eqb n k) ∷ rest) (omega arith, o) e in
    record { right = h.0; clean = h.1; good = h.2; count = not_unequal n k h.3.0; others = h.3.1 }

-- the trees of such a pack
record Read (bytes : List ℕ) (L k : ℕ) : Type 0 where
  trees : List Tree
  small : Small trees
  same : strings trees ≡ bits_from bytes 0 L
  bits : L ≡ length (strings trees)
  count : k ≡ length trees

trees_of : {wrong : Bool} {bytes : List ℕ} {L k : ℕ} {rest : List Row} → Done wrong bytes L k rest → Read bytes L k
trees_of {wrong} {bytes} {L} {k} d =
    let w = (pack_accepted (bits_from bytes 0 L)).0 d.good in
    record {
      trees = w.0;
      small = w.1;
      same = w.2;
      bits = sym (bits-length bytes 0 L) ∙ ap length (sym w.2);
      count = sym d.count ∙ ap (λ bs. length (sizes bs)) (sym w.2) ∙ found_is w.0 w.1;
    }

pub pack_accepted_exactly : P.PackAcceptedExactly
unfolding split_pack pack_rows wrong_to_split
pack_accepted_exactly bytes L k firsts sizes_out b = (
  λ e.
      let bits = bits_from bytes 0 L in
      let d = pack_done (firsts, sizes_out) _ _ _ bytes L k _ (omega arith) e in
      let r = trees_of d in
      let few = neither (ltb 131071 L || not (eqb (length bytes) (bytes_for L))) (ltb 256 k) d.right in
      let size = neither (ltb 131071 L) (not (eqb (length bytes) (bytes_for L))) few.0 in
      let room = neither (too_short (starts bits) firsts) (too_short (sizes bits) sizes_out) d.others.0 in (
        r.trees,
        record { small = r.small; few = omega (arith, ltb-false 256 k few.1, r.count); short = omega (arith, ltb-false 131071 L size.0, r.bits) },
        ap packed r.same ∙ read_packed bytes L b (not_unequal (length bytes) (bytes_for L) size.1) d.clean,
        r.bits,
        r.count,
        omega (arith, ltb-false (length firsts) (length (starts bits)) room.0, starts-count bits, d.count),
        omega (arith, ltb-false (length sizes_out) (length (sizes bits)) room.1, d.count),
      ),
  λ w.
      let ts = w.0 in
      ap (λ xs. (split_pack xs L k firsts sizes_out).answer.code) (sym w.2)
      ∙ ap₂ (λ l n. (split_pack (packed (strings ts)) l n firsts sizes_out).answer.code) w.3 w.4
      ∙ ap (λ o. o.answer.code) (split_gives_trees ts firsts sizes_out w.1 (omega (arith, w.4, w.5)) (omega (arith, w.4, w.6))),
)

-- ---- joining

module _ (pack : List ℕ) (ts : List Tree) (t : Tree) (h : HoldsPack pack ts) (r : RoomToJoin pack ts t) where
  abbrev L : ℕ
  L = length (strings ts)

  abbrev new : List ℕ
  new = appended pack L (lbs t)

  joined : join_pack pack L (length ts) (parents t) ≡ came_to (counts (longer ts t) (length ts + 1)) new
  joined =
      let n = length-parents t in
      let p = parents_are t in
      sym (join_done pack L (length ts) (parents t)
      (record { some = p.some; most = omega arith; bytes = h.room; room = r.few; fits = omega arith })
      (held_trees pack L (length ts) h.clean (all_found ts h.fits.small (bits_from pack 0 L) h.same) refl) (parents-bad_entry (parents t) p) p
      (ap (λ n. counts (L + (2 * n + 1)) (length ts + 1)) (sym n)) (ap (appended pack L) (sym (string-parents t))) (omega arith))

  longer_is : longer ts t ≡ length (strings (ts ++ t ∷ []))
  longer_is = omega (arith, ap length (strings_snoc ts t), length-append (strings ts) (lbs t), string-length t)

  -- the new leftover bits are zero
  new_clean : leftover new (longer ts t) ≡ false
  new_clean =
      let l = string-length t in
      bits-leftover new (longer ts t)
      (λ p from to. appended-new pack L (lbs t) p (omega arith) (omega arith) ∙ get_or-eq_default (lbs t) O (omega arith))

  new-same : bits_from new 0 (longer ts t) ≡ strings (ts ++ t ∷ [])
  new-same =
      ap (λ n. bits_from new 0 (L + n)) (sym (string-length t))
      ∙ appended_read pack L (lbs t) ∙ ap (λ r. r ++ lbs t) h.same ∙ sym (strings_snoc ts t)

  new-length : length new ≡ length pack
  new-length = appended-length pack L (lbs t) (omega (arith, string-length t, r.room))

  new_holds : HoldsPack new (ts ++ t ∷ [])
  new_holds =
      let l = longer_is in
      record {
        fits = record { small = small_snoc ts t h.fits.small r.small; few = omega (arith, length-append ts (t ∷ []), r.few); short = omega (arith, r.short) };
        room = omega (arith, new-length, r.room);
        same = ap (bits_from new 0) (sym l) ∙ new-same;
        clean = ap (leftover new) (sym l) ∙ new_clean;
      }

  -- bytes after the new last one stay
  new-rest : drop (bytes_for (longer ts t)) new ≡ drop (bytes_for (longer ts t)) pack
  unfolding appended
  new-rest =
      let front = bits_from pack 0 L ++ lbs t in
      let n : length (packed front) ≡ bytes_for (longer ts t)
      = packed-length front ∙ ap (λ k. bytes_for k) (length-append (bits_from pack 0 L) (lbs t) ∙ ap₂ ◌+◌ (bits-length pack 0 L) (string-length t)) in
      drop_at (packed front) (drop (length (packed front)) pack) (bytes_for (longer ts t)) n ∙ ap (λ k. drop k pack) n

pub join_adds_tree : P.JoinAddsTree
join_adds_tree pack ts t h r =
    let j = joined pack ts t h r in (
      ap (λ o. o.answer) j,
      subst (λ o. HoldsPack o.lent (ts ++ t ∷ [])) (sym j) (new_holds pack ts t h r),
      longer_is pack ts t h r,
      ap (λ o. length o.lent) j ∙ new-length pack ts t h r,
      ap (λ o. drop (bytes_for (longer ts t)) o.lent) j ∙ new-rest pack ts t h r,
      λ b. subst (λ o. AreBytes o.lent) (sym j) (appended_bytes pack (length (strings ts)) (lbs t) b),
    )

pub joined_exactly : P.JoinedExactly
unfolding join_pack pack_rows wrong_to_join
joined_exactly pack L k ps = (
  λ e.
      let bits = bits_from pack 0 L in
      let d = pack_done pack _ _ _ pack L k _ (omega arith) e in
      let r = trees_of d in
      let ts = r.trees in
      let l = r.bits in
      let c = r.count in
      let fits = neither (wrong_count ps || ltb 131071 L || ltb (length pack) (bytes_for L) || ltb 255 k) (ltb 131071 (L + (2 * length ps + 1))) d.right in
      let few = neither (wrong_count ps || ltb 131071 L || ltb (length pack) (bytes_for L)) (ltb 255 k) fits.0 in
      let bytes = neither (wrong_count ps || ltb 131071 L) (ltb (length pack) (bytes_for L)) few.0 in
      let w = listed-tree ps (neither (wrong_count ps) (ltb 131071 L) bytes.0).0 d.others.0 in
      let t = w.0 in
      let n : length ps ≡ nodes t = ap length (sym w.2) ∙ length-parents t in
      let joined_bits : length (bits ++ string_of ps) ≡ longer ts t
      = length-append bits (string_of ps) ∙ ap₂ ◌+◌ (ap length (sym r.same)) (ap length (ap string_of (sym w.2) ∙ string-parents t) ∙ string-length t) in
      let size = packed-length (bits ++ string_of ps) ∙ ap (λ m. bytes_for m) joined_bits in
      let most_trees = ltb-false 255 k few.1 in
      let most_bits = ltb-false 131071 (L + (2 * length ps + 1)) fits.1 in
      let old = ltb-false (length pack) (bytes_for L) bytes.1 in
      let new = ltb-false (length pack) (length (packed (bits ++ string_of ps))) d.others.1.0 in (
        ts,
        t,
        record {
          fits = record { small = r.small; few = omega arith; short = omega arith };
          room = omega arith;
          same = ap (bits_from pack 0) (sym l) ∙ sym r.same;
          clean = ap (leftover pack) (sym l) ∙ d.clean;
        },
        record { small = w.1; few = omega arith; short = omega arith; room = omega arith },
        l,
        c,
        w.2,
      ),
  λ w.
      ap (λ qs. (join_pack pack L k qs).answer.code) (sym w.6)
      ∙ ap₂ (λ l n. (join_pack pack l n (parents w.1)).answer.code) w.4 w.5
      ∙ ap (λ o. o.answer.code) (joined pack w.0 w.1 w.2 w.3),
)

-- ---- joining one by one

-- a buffer holds a pack of no trees
holds_none : (pack : List ℕ) → HoldsPack pack []
unfolding bits_from
holds_none pack = record {
  fits = record { small = tt; few = omega arith; short = omega arith };
  room = omega arith;
  same = refl;
  clean = bits-leftover pack 0 (λ p from to. absurd (omega arith));
}

holds_all : (us : List Tree) (pack : List ℕ) (ts : List Tree) → HoldsPack pack ts → AreBytes pack → Small us
    → length (ts ++ us) ≤ 256 → length (strings (ts ++ us)) ≤ 131071 → bytes_for (length (strings (ts ++ us))) ≤ length pack
    → HoldsPack (join_all pack ts us) (ts ++ us) × AreBytes (join_all pack ts us)
unfolding join_all
holds_all [] pack ts h b s few short room = (subst (HoldsPack pack) (sym (append-nil ts)) h, b)
holds_all (u ∷ us) pack ts h b s few short room =
    let e : (ts ++ u ∷ []) ++ us ≡ ts ++ u ∷ us = append_snoc ts u us in
    let m = ap length (strings-append ts (u ∷ us)) in
    let m1 = length-append (strings ts) (strings (u ∷ us)) in
    let m2 = length-append (lbs u) (strings us) in
    let l = string-length u in
    let n = length-append ts (u ∷ us) in
    let w = join_adds_tree pack ts u h (record { small = s.0; few = omega arith; short = omega arith; room = omega arith }) in
    let f = ap length e in
    let g = ap (λ x. length (strings x)) e in
    subst (λ vs. HoldsPack (join_all pack ts (u ∷ us)) vs × AreBytes (join_all pack ts (u ∷ us))) e
    (holds_all us (join_pack pack (length (strings ts)) (length ts) (parents u)).lent (ts ++ u ∷ []) w.1 (w.5 b) s.1
    (omega arith) (omega arith) (omega (arith, w.3)))

-- the first m bytes have the same bits
take-bit : (bytes : List ℕ) (m p : ℕ) → p < 8 * m → bit_at (take m bytes) p ≡ bit_at bytes p
unfolding bit_at
take-bit bytes m p h = ap (λ b. bit (b / 2 ^ (7 - p % 8) % 2)) (get_or-take m bytes (p / 8) 0 (omega arith))

-- a bit of a buffer that holds a pack, up to the end of the pack's last byte
held-bit : (pack : List ℕ) (ts : List Tree) → HoldsPack pack ts → (p : ℕ) → p < 8 * bytes_for (length (strings ts)) → bit_at pack p ≡ get_or (strings ts) p O
held-bit pack ts h p to =
    let L = length (strings ts) in
    elim (dec_lt p L) [
      | yes l ↦ ap (bit_at pack) (let e : p ≡ 0 + p = omega arith in e) ∙ sym (bits_at pack 0 L p l) ∙ ap (λ bs. get_or bs p O) h.same
      | no l ↦ leftover-bits pack L h.clean p (omega arith) to ∙ sym (get_or-eq_default (strings ts) O (omega arith))
    ]

-- its first bytes are those of the trees' strings
front-packed : (pack : List ℕ) (ts : List Tree) → HoldsPack pack ts → AreBytes pack → take (bytes_for (length (strings ts))) pack ≡ packed (strings ts)
front-packed pack ts h b =
    let m = bytes_for (length (strings ts)) in
    let l : length (take m pack) ≡ m = length-take-le m pack h.room in
    same_bits_lem (take m pack) (packed (strings ts)) (take_bytes m pack b) (packed_bytes (strings ts)) (l ∙ sym (packed-length (strings ts)))
    (λ p to. take-bit pack m p (omega arith) ∙ held-bit pack ts h p (omega arith) ∙ sym (packed-bit (strings ts) p (omega arith)))

pub join_then_split : P.JoinThenSplit
join_then_split ts pack firsts sizes_out f b room room_firsts room_sizes =
    let L = length (strings ts) in
    let h = holds_all ts pack [] (holds_none pack) b f.small f.few f.short room in
    let e = front-packed (join_all pack [] ts) ts h.0 h.1 in
    (e, ap (λ bytes. split_pack bytes L (length ts) firsts sizes_out) e ∙ split_gives_trees ts firsts sizes_out f room_firsts room_sizes)

-- ---- by what is found

pub split_by_held : P.SplitByHeld
unfolding split_pack
split_by_held bytes L k firsts sizes_out z =
    settle_on _ _ _ _ _ (SplitLaws.none_wrong (length bytes) L k z) ∙ settle-append (firsts, sizes_out) _ _ (pack_rows bytes L k) _

pub join_by_held : P.JoinByHeld
unfolding join_pack
join_by_held pack L k ps z =
    settle_on _ _ _ _ _ (JoinLaws.none_wrong (length pack) L k (length ps) z) ∙ settle-append pack _ _ (pack_rows pack L k) _

pub held_by_scan : P.HeldByScan
held_by_scan bytes L k scan clean e =
    sym (held bytes L k scan e) ∙ ap (λ l. over (alone (5 at 0 when l)) (alone (pack_row scan k))) clean ∙ sym (first_alone (pack_row scan k))

-- ---- damage

odd : {v w : Bool} {a b : List ℕ} {L k : ℕ} {rs ss : List Row} → Done v a L k rs → Done w b L k ss → (m : ℕ) → changed (bits_from a 0 L) (bits_from b 0 L) ≡ 2 * m + 1 → ⊥
odd {v} {w} {a} {b} {L} {k} d e =
    odd_changes (bits_from a 0 L) (bits_from b 0 L) k (bits-length a 0 L ∙ sym (bits-length b 0 L)) d.good d.count e.good e.count

pub odd_never_split : P.OddNeverSplit
unfolding split_pack pack_rows
odd_never_split a b L k firsts sizes_out firsts' sizes_out' e f =
    odd (pack_done (firsts, sizes_out) _ _ _ a L k _ (omega arith) e) (pack_done (firsts', sizes_out') _ _ _ b L k _ (omega arith) f)

pub odd_never_joined : P.OddNeverJoined
unfolding split_pack join_pack pack_rows
odd_never_joined a b L k firsts sizes_out ps e f =
    odd (pack_done (firsts, sizes_out) _ _ _ a L k _ (omega arith) e) (pack_done b _ _ _ b L k _ (omega arith) f)

pub never_named_before : P.NeverNamedBefore
unfolding split_pack pack_rows
never_named_before a b L k k' firsts sizes_out firsts' sizes_out' j e f same l =
    never_among (firsts', sizes_out') _ _ _ many b L _ (omega arith) (omega arith) f a j (pack_done (firsts, sizes_out) _ _ _ a L k _ (omega arith) e).good same l

pub join_never_before : P.JoinNeverNamesBefore
unfolding split_pack join_pack pack_rows
join_never_before a b L k k' firsts sizes_out ps j e f same l =
    never_among b _ _ _ many b L _ (omega arith) (omega arith) f a j (pack_done (firsts, sizes_out) _ _ _ a L k _ (omega arith) e).good same l
