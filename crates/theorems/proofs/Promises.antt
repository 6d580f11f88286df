-- The promises of specs/Promises.antt, each from the laws of `theory`.
use mathlib.Core.Path.{◌≡◌, refl, sym, ap, ap₂, ◌∙◌, subst}
use mathlib.Core.List.{List, [], ◌∷◌, append-nil}
use mathlib.Core.Logic.{◌↔◌, ◌⊎◌, inl, inr}
use Prim.Native.Nat.{ℕ, zero, suc, ◌+◌, ◌-◌, ◌≤◌}
use native.Mathlib.Numerals.{add-one}
use native.Mathlib.Omega.{arith}
use lib.IntN.{ℤ, pos, negsuc}
use lib.ListN.{length, get_or}
use Rattle.meaning.specs.Trees.{Tree, nodes}
use Rattle.meaning.specs.Parents.{parents, entry, IsParents, Lowest, bad_entry}
use Rattle.meaning.specs.Strings.{R1, O, I, lbs, strings, R0, parents_of}
use Rattle.meaning.specs.Scan.{one, many, Small, Good, place}
use Rattle.meaning.specs.Packs.{sizes}
use Rattle.meaning.specs.Questions.{rank, child, sibling, children_of, siblings_of, place_of, answer}
use Rattle.theory.specs.Changes.{changed}
use Rattle.theory.specs.Rank.{ones_before}
use Rattle.meaning.specs.Blocks.{blocks_in}
use Rattle.meaning.specs.Image.{image_of_string, image}
use Rattle.theory.specs.Layout.{total}
use Rattle.theorems.specs.Promises as P
use Rattle.theory.proofs.Settled.{settled}
use Rattle.theory.proofs.Levels.{level_law}
use Rattle.theory.proofs.Bits.{prefix_free, strings_injective}
use Rattle.theory.proofs.Parents.{parents_are, are_parents, parents_injective}
use Rattle.theory.proofs.Lowest.{bad_entry_is, no_bad, parents-bad_entry}
use Rattle.theory.proofs.Scan.{nodes-ones, place_good, good_place, place_is, place_unique, not-before}
use Rattle.theory.proofs.Odd.{tree-counts, never_odd}
use Rattle.theory.proofs.Navigate.{children_are, counted, parents-bits, parent_is, ones_before_is}
use Rattle.theory.proofs.Answers.{root_rank, other_rank, child_there, leaf_is, next_is}
use Rattle.theory.proofs.Forms.{length-parents, length-R1, length-R0, string-parents, string_parts, parts_injective, marks-count, marks-same}
use Rattle.theory.proofs.Addresses.{lo-step, degree-at, children-nodes, is_child_lem, number_unique}
use Rattle.theory.proofs.OwnAnswers.{root_sibling, own_answer}
use Rattle.theory.proofs.Depths.{not-deep, deep_none, listing-whole, first-deep}
use Rattle.theory.proofs.ByStrings.{answers_by_strings}
use Rattle.theory.proofs.Payloads.{sample_at}
use Rattle.theory.proofs.TreeImages.{parents_in_lem, metres_in_lem, image_injective, is_image_lem, image_laid, total_of, image-size, image_checks, image_least, image_most, image_most_alone}
use Rattle.theory.proofs.Packing.{packed-length, packed-leftover, packed_read, read_packed}
use Rattle.theory.proofs.Packs.{starts_are, sizes_are, found_is, part_is}

pub upper_row_wins : P.UpperRowWins
upper_row_wins A before rows a after = settled before a after rows

pub level_order_lem : P.LevelOrder
level_order_lem t = level_law t

-- ---- parent lists

pub parent_lists : P.ParentLists
parent_lists ps = (λ h. are_parents ps h, λ w. subst IsParents w.1 (parents_are w.0))

pub one_tree : P.OneTree
one_tree t u e = parents_injective t u e

pub lowest_entry : P.LowestEntry
lowest_entry ps l = ((λ e. no_bad ps l e, λ h. parents-bad_entry ps h), λ n. low n (bad_entry_is ps l))
  where
    low : (bad_entry ps ≡ 0 → ⊥) → ((bad_entry ps ≡ 0) × IsParents ps) ⊎ Lowest ps (bad_entry ps) → Lowest ps (bad_entry ps)
    low n (inl v) = absurd (n v.0)
    low n (inr v) = v

-- ---- strings

pub string_counts : P.StringCounts
string_counts t =
    (sym (nodes-ones t), omega (arith, nodes-ones t, tree-counts t), length-parents t)

pub string_back : P.StringBack
unfolding parents_of
string_back t = (string-parents t, sym (parents-bits t))

pub string_accepted : P.StringAccepted
string_accepted bs = (
  λ e. alone (place_good one bs e),
  λ w. good_place one bs (record {
    trees = w.0 ∷ [];
    small = (w.1, tt);
    as_many = refl;
    same = append-nil (lbs w.0) ∙ w.2;
  }),
)
  where
    single : (ts : List Tree) → length ts ≡ 1 → Small ts → strings ts ≡ bs → (t : Tree) × (nodes t ≤ 65535) × (lbs t ≡ bs)
    single [] c l e = absurd (omega arith)
    single (t ∷ []) c l e = (t, l.0, sym (append-nil (lbs t)) ∙ e)
    single (t ∷ u ∷ ts) c l e = absurd (omega arith)

    alone : Good one bs → (t : Tree) × (nodes t ≤ 65535) × (lbs t ≡ bs)
    alone g = single g.trees g.as_many g.small g.same

pub pack_accepted : P.PackAccepted
pack_accepted bs = (
  λ e. let g = place_good many bs e in (g.trees, g.small, g.same),
  λ w. good_place many bs (record { trees = w.0; small = w.1; as_many = tt; same = w.2 }),
)

pub refused_there : P.RefusedThere
refused_there kind bs n = let h = place_is kind bs n in (h, λ p q. place_unique kind bs p (place kind bs) q h)

pub bytes_back : P.BytesBack
bytes_back bs = (packed-length bs, packed-leftover bs, packed_read bs)

pub one_bytes : P.OneBytes
one_bytes bytes L b l e = read_packed bytes L b l e

-- ---- parts

pub part_counts : P.PartCounts
part_counts t = (
  length-R1 t,
  omega (arith, length-R0 t),
  omega (arith, marks-count t),
  omega (arith, marks-count t, marks-same t),
)

pub parts_back : P.PartsBack
parts_back t = (string_parts t, λ u e f. parts_injective t u e f)

-- ---- what the strings give

pub parent_by_strings : P.ParentByStrings
parent_by_strings t i h l = parent_is t i h (omega (arith, nodes-ones t))

pub ones_by_strings : P.OnesByStrings
ones_by_strings t z h l = ones_before_is t z h (omega (arith, nodes-ones t, tree-counts t))

pub children_by_strings : P.ChildrenByStrings
children_by_strings t x =
    let lo = ones_before (lbs t) in
    children_are t x
    ∙ counted (1 + lo x) (lo x + 1) (lo (suc x) - lo x) (lo (x + 1) - lo x) (omega arith) (ap (λ z. lo z - lo x) (sym (add-one x)))

pub leaf_by_strings : P.LeafByStrings
leaf_by_strings t zero h l = absurd (omega arith)
leaf_by_strings t (suc i) h l =
    subst (λ j. (get_or (R0 (lbs t)) j I ≡ O) ↔ (length (children_of (parents t) (suc i)) ≡ 0)) (let e : i ≡ suc i - 1 = omega arith in e)
    (leaf_is t i (omega (arith, nodes-ones t)))

pub next_by_strings : P.NextByStrings
next_by_strings t x h l = next_is t x h (omega (arith, nodes-ones t))

pub all_by_strings : P.AnswersByStrings
all_by_strings t kind x g h z = answers_by_strings t kind x g h z

-- ---- the tree's own answers

pub one_number : P.OneNumber
one_number t a x y n m = number_unique t n m

pub own_children : P.OwnChildren
own_children t x g h = children-nodes t x g h

pub own_parent : P.OwnParent
unfolding siblings_of
own_parent t x g h =
    let c = is_child_lem t x g h in
    (c.from, c.before, c.address, ap length c.address, children-nodes t (entry (parents t) x) c.from (omega (arith, c.before)))

pub own-answers : P.OwnAnswer
own-answers t kind x g h z = own_answer t kind x g h z

pub root_has_no_rank : P.RootHasNoRank
unfolding answer
root_has_no_rank t x g h = (λ e. root_only x g h e, λ e. ap (λ y. answer (parents t) rank y (pos 0)) e ∙ root_rank (parents t))
  where
    root_only : (y : ℕ) → 1 ≤ y → y ≤ nodes t → answer (parents t) rank y (pos 0) ≡ 0 → y ≡ 1
    root_only zero g h e = absurd (omega arith)
    root_only (suc zero) g h e = refl
    root_only (suc (suc k)) g h e =
        let two : 2 ≤ suc (suc k) = omega arith in
        absurd (omega (arith, other_rank (parents t) (suc (suc k)) two, (is_child_lem t (suc (suc k)) two h).some))

pub others_keep_their_rank : P.OthersKeepTheirRank
unfolding answer
others_keep_their_rank t x g h =
    let p = entry (parents t) x in
    let c = is_child_lem t x g h in
    let same = other_rank (parents t) x g in
    let m : p ≤ nodes t = omega (arith, c.before) in
    let place = place_of (parents t) x in (
      same,
      omega (arith, c.some),
      omega (arith, c.room, degree-at t p c.from m),
      ap (λ k. answer (parents t) child p (pos k)) same
          ∙ child_there t p place c.some (omega (arith, lo-step t p c.from m, c.room))
          ∙ c.place,
    )

pub root_stays_alone : P.RootStaysAlone
unfolding answer
root_stays_alone t = (root_sibling t (pos 1), root_sibling t (negsuc 0), root_sibling t (pos 0), elsewhere)
  where
    elsewhere : (z : ℤ) → (z ≡ pos 0 → ⊥) → answer (parents t) sibling 1 z ≡ 0
    elsewhere (pos zero) other = absurd (other refl)
    elsewhere (pos (suc k)) other = root_sibling t (pos (suc k))
    elsewhere (negsuc k) other = root_sibling t (negsuc k)

pub own_listing : P.OwnListing
own_listing t x g h = ((λ e. not-deep t x g h e, λ a. deep_none t x g h a), λ e. listing-whole t x g h e, λ n. first-deep t x g h n)

-- ---- images

pub image_accepted : P.ImageAccepted
image_accepted bytes = is_image_lem bytes

pub image_back : P.ImageBack
unfolding image
image_back c h = (ap (image_of_string c.metres) (string-parents c.tree), parents_in_lem c h, metres_in_lem c h, λ d g e. image_injective c d h g e)

pub image-has-blocks : P.ImageBlocks
image-has-blocks c h =
    let n : blocks_in (image c) ≡ total_of c = omega (arith, image-size c) in
    (omega (arith, image-size c), omega (arith, image_least c), omega (arith, image_most c h), λ e. omega (arith, image_most_alone c h e), image_checks c)

pub image_is_laid : P.ImageLaid
image_is_laid bytes b = image_laid bytes b

pub samples_are : P.SamplesAre
samples_are bs j h = sample_at bs j h

-- ---- packs

pub none_begins : P.NoneBegins
none_begins t u rest e = prefix_free t u rest e

pub one_list : P.OneList
one_list ts us e = strings_injective ts us e

pub starts_and_sizes : P.StartsAndSizes
starts_and_sizes ts l = (starts_are ts l, sizes_are ts l, found_is ts l)

pub parts_of_pack : P.PartsOfPack
parts_of_pack ts j other l h = part_is ts j other l h

pub odd_changes : P.OddChanges
odd_changes as' bs k l ga ka gb kb m o =
    let a = place_good many as' ga in
    let b = place_good many bs gb in
    let na : length a.trees ≡ k = sym (found_is a.trees a.small) ∙ ap (λ r. length (sizes r)) a.same ∙ ka in
    let nb : length b.trees ≡ k = sym (found_is b.trees b.small) ∙ ap (λ r. length (sizes r)) b.same ∙ kb in
    never_odd a.trees b.trees (ap length a.same ∙ l ∙ sym (ap length b.same)) (na ∙ sym nb) m
    (ap₂ changed a.same b.same ∙ o)

pub never_before : P.NeverBefore
never_before kind as' bs j g e l n = not-before kind as' bs j (place kind bs) (place_good kind as' g) e l (place_is kind bs n)
