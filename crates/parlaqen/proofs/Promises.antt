-- The promises are kept.
use mathlib.Core.Path.{◌≡◌, refl, sym, ap, ◌∙◌, subst}
use mathlib.Core.Bool.{Bool, true, false, cond}
use mathlib.Core.List.{List, [], ◌∷◌}
use mathlib.Core.Option.{Option, none, some}
use mathlib.Core.Logic.{◌⊎◌, inl, inr}
use Prim.Native.Nat.{ℕ}
use Rattle.meaning.specs.declared.Answer.{Answer}
use Rattle.meaning.specs.Parents.{bad_entry}
use Rattle.meaning.specs.Answers.{Row, Outcome, counts, refused_with, came_to, settle}
use Rattle.calls.specs.Calls.{plq_string_of_parents, plq_parents_of_string, plq_image_of_parents, plq_image_with_metres, plq_parents_of_image, plq_metres_of_image, plq_check_image}
use Rattle.calls.specs.Calls.{ask, list, split, join, plq_parents_of_text, plq_text_of_parents, does}
use Rattle.meaning.specs.Tests.{parent_rows, check_rows, pack_rows}
use Rattle.calls.specs.Calls.{string_of_parents, parents_of_string, seal_parents, image_of_parents, image_with_metres}
use Rattle.calls.specs.Calls.{check_image, parents_of_image, metres_of_image, ask_image, list_image, split_pack, join_pack}
use Rattle.calls.specs.Calls.{parents_of_text, text_of_parents}
use Rattle.theory.proofs.Settled.{settle-here, settle_on, settle-none}
use Rattle.theorems.proofs.Promises as Theory
use Rattle.string_promises.proofs.Promises as Strings
use Rattle.pack_promises.proofs.Promises as Packs
use Rattle.image_promises.proofs.Promises as Images
use Rattle.image_promises.proofs.NoMetres as NoMetres
use Rattle.image_promises.proofs.Root as Root
use Rattle.image_promises.proofs.Faults as Faults
use Rattle.image_promises.proofs.FaultyBlocks as Blocks
use Rattle.text_promises.proofs.Promises as Texts
use Rattle.outline_page.proofs.Promises as Outline
use Rattle.parlaqen.specs.Promises as P
use Rattle.parlaqen.specs.Promises.{OneOf}

-- ---- done or refused

-- the codes and places of rows
abbrev placed : List Row → List (ℕ × ℕ)
placed [] = []
placed (r ∷ rs) = (r.code, r.place) ∷ placed rs

-- code and place 0, or one of these with nothing written
abbrev Either : {A : Type 0} → A → List (ℕ × ℕ) → Answer → A → Type 0
Either before es a after =
    ((a.code ≡ 0) × (a.place ≡ 0)) ⊎ (OneOf a.code a.place es × (a.first ≡ 0) × (a.second ≡ 0) × (after ≡ before))

record Settled {A : Type 0} (before : A) (es : List (ℕ × ℕ)) (o : Outcome A) : Type 0 where
  is : Either before es o.answer o.lent

refused-or : {A : Type 0} (before : A) (r : Row) (es : List (ℕ × ℕ)) (rest : Outcome A) (b : Bool) → Either before es rest.answer rest.lent
    → Settled before ((r.code, r.place) ∷ es) (cond b (came_to (refused_with r.code r.place) before) rest)
refused-or before r es rest true w = record { is = inr (inl (refl, refl), refl, refl, refl) }
refused-or before r es rest false (inl w) = record { is = inl w }
refused-or before r es rest false (inr w) = record { is = inr (inr w.0, w.1, w.2, w.3) }

by_row : {A : Type 0} (before : A) (a : Answer) (after : A) (r : Row) (rs : List Row)
    → settle before (r ∷ rs) a after ≡ cond r.holds (came_to (refused_with r.code r.place) before) (settle before rs a after)
by_row before a after r rs = go r.holds refl
  where
    go : (b : Bool) → r.holds ≡ b → settle before (r ∷ rs) a after ≡ cond b (came_to (refused_with r.code r.place) before) (settle before rs a after)
    go true e = settle-here before a after r rs e
    go false e = settle_on before a after r rs e

settle-placed : {A : Type 0} (before : A) (first second : ℕ) (after : A) (rs : List Row)
    → Settled before (placed rs) (settle before rs (counts first second) after)
settle-placed before first second after [] =
    subst (Settled before []) (sym (settle-none before (counts first second) after)) (record { is = inl (refl, refl) })
settle-placed before first second after (r ∷ rs) =
    subst (Settled before (placed (r ∷ rs))) (sym (by_row before (counts first second) after r rs))
    (refused-or before r (placed rs) (settle before rs (counts first second) after) r.holds (settle-placed before first second after rs).is)

-- with the lent lists as a list of them
settled : {A : Type 0} (before : A) (lists : A → List (List ℕ)) (es : List (ℕ × ℕ)) (o : Outcome A) → Settled before es o
    → Either (lists before) es o.answer (lists o.lent)
settled before lists es o w = go w.is
  where
    go : Either before es o.answer o.lent → Either (lists before) es o.answer (lists o.lent)
    go (inl d) = inl d
    go (inr r) = inr (r.0, r.1, r.2, ap lists r.3)

-- sealing has two rows of code 2, for its two lists
once : {A : Type 0} (before : A) (e : ℕ × ℕ) (es : List (ℕ × ℕ)) (a : Answer) (after : A) → Either before (e ∷ e ∷ es) a after → Either before (e ∷ es) a after
once before e es a after (inl d) = inl d
once before e es a after (inr r) = inr (merged r.0, r.1, r.2, r.3)
  where
    merged : OneOf a.code a.place (e ∷ e ∷ es) → OneOf a.code a.place (e ∷ es)
    merged (inl here) = inl here
    merged (inr rest) = rest

sealed : (ms : Option (List ℕ)) (ps out : List ℕ)
    → let o = seal_parents ms ps out in
    Either (out ∷ []) ((2, 0) ∷ (3, bad_entry ps) ∷ (1, 0) ∷ []) o.answer (o.lent ∷ [])
unfolding seal_parents parent_rows
sealed ms ps out =
    let o = seal_parents ms ps out in
    once (out ∷ []) (2, 0) ((3, bad_entry ps) ∷ (1, 0) ∷ []) o.answer (o.lent ∷ []) (settled out (λ x. x ∷ []) _ o (settle-placed _ _ _ _ _))

done_or_refused : P.DoneOrRefused
unfolding does string_of_parents parents_of_string seal_parents image_of_parents image_with_metres parent_rows check_rows
    pack_rows check_image parents_of_image metres_of_image ask_image list_image split_pack join_pack
    parents_of_text text_of_parents
done_or_refused (plq_string_of_parents ps out) = settled out (λ x. x ∷ []) _ (string_of_parents ps out) (settle-placed _ _ _ _ _)
done_or_refused (plq_parents_of_string bytes L out) = settled out (λ x. x ∷ []) _ (parents_of_string bytes L out) (settle-placed _ _ _ _ _)
done_or_refused (plq_image_of_parents ps out) = sealed none ps out
done_or_refused (plq_image_with_metres ps ms out) = sealed (some ms) ps out
done_or_refused (plq_parents_of_image image out) = settled out (λ x. x ∷ []) _ (parents_of_image image out) (settle-placed _ _ _ _ _)
done_or_refused (plq_metres_of_image image out) = settled out (λ x. x ∷ []) _ (metres_of_image image out) (settle-placed _ _ _ _ _)
done_or_refused (plq_check_image image) = settled tt (λ x. []) _ (check_image image) (settle-placed _ _ _ _ _)
done_or_refused (ask image qs out) = settled out (λ x. x ∷ []) _ (ask_image image qs out) (settle-placed _ _ _ _ _)
done_or_refused (list image x out) = settled out (λ x. x ∷ []) _ (list_image image x out) (settle-placed _ _ _ _ _)
done_or_refused (split bytes L k starts sizes) =
    settled (starts, sizes) (λ x. x.0 ∷ x.1 ∷ []) _ (split_pack bytes L k starts sizes) (settle-placed _ _ _ _ _)
done_or_refused (join pack L k ps) = settled pack (λ x. x ∷ []) _ (join_pack pack L k ps) (settle-placed _ _ _ _ _)
done_or_refused (plq_parents_of_text text out) = settled out (λ x. x ∷ []) _ (parents_of_text text out) (settle-placed _ _ _ _ _)
done_or_refused (plq_text_of_parents ps out) = settled out (λ x. x ∷ []) _ (text_of_parents ps out) (settle-placed _ _ _ _ _)

-- ---- one outcome

one_outcome : P.OneOutcome
one_outcome A o a b x y e f = let q = e ∙ sym f in (ap (λ w. w.answer) q, ap (λ w. w.lent) q)

-- ---- all of them

pub kept : P.Promises
kept = record {
  done_or_refused = done_or_refused;
  upper_row_wins = Theory.upper_row_wins;
  one_outcome = one_outcome;
  level_order_lem = Theory.level_order_lem;
  one_number = Theory.one_number;
  parent_lists = Theory.parent_lists;
  one_tree = Theory.one_tree;
  lowest_entry = Theory.lowest_entry;
  list_written = Strings.list_written_exactly;
  list_sealed = Images.list_sealed_exactly;
  list_joined = Packs.joined_exactly;
  string_counts = Theory.string_counts;
  bytes_back = Theory.bytes_back;
  one_bytes = Theory.one_bytes;
  string_back = Theory.string_back;
  written_then_read = Strings.written_then_read;
  read_then_written = Strings.read_then_written;
  bits_accepted = Theory.string_accepted;
  string_accepted = Strings.string_accepted_exactly;
  refused_there = Theory.refused_there;
  part_counts = Theory.part_counts;
  parts_back = Theory.parts_back;
  parent_by_strings = Theory.parent_by_strings;
  ones_by_strings = Theory.ones_by_strings;
  children_by_strings = Theory.children_by_strings;
  leaf_by_strings = Theory.leaf_by_strings;
  next_by_strings = Theory.next_by_strings;
  answers_by_strings = Theory.all_by_strings;
  image_blocks = Theory.image-has-blocks;
  image_laid = Theory.image_is_laid;
  samples_are = Theory.samples_are;
  sealed_of_tree = Images.sealed_of_tree;
  image_back = Theory.image_back;
  sealed_then_read = Images.sealed_then_read;
  bytes_accepted = Theory.image_accepted;
  image_accepted = Images.image_accepted_exactly;
  image_read = Images.image_read_exactly;
  checked_of_tree = Images.checked_of_tree;
  accepted_is_sealed = Images.accepted_is_sealed;
  one_image_per_content = Images.one_image_per_content;
  metres_read_lem = Images.metres_read_exactly;
  other_length = Images.other_length;
  no_metres_is_not_zero = NoMetres.no_metres_is_not_zero;
  version_one_stays = NoMetres.version_one_stays;
  checked_first = Images.checked_first;
  version_named = Faults.version_named;
  header_named = Faults.header_named;
  strings_named = Faults.strings_named;
  metres_never_wrong = Faults.metres_never_wrong;
  counts_named = Blocks.counts_named;
  samples_named = Blocks.samples_named;
  one_of_five = Faults.one_of_five;
  own_children = Theory.own_children;
  own_parent = Theory.own_parent;
  own_answer = Theory.own-answers;
  asked_of_content = Images.asked_of_content;
  root_has_no_rank = Theory.root_has_no_rank;
  others_keep_their_rank = Theory.others_keep_their_rank;
  root_asked = Root.root_asked;
  root_stays_alone = Theory.root_stays_alone;
  root_asked_alone = Root.root_asked_alone;
  asked_exactly = Images.asked_exactly;
  allowed_exactly = Images.allowed_exactly;
  own_listing = Theory.own_listing;
  listed_of_tree = Images.listed_of_tree;
  listed_exactly = Images.listed_exactly;
  too_deep_is_named = Images.too_deep_is_named;
  levels_are_depths = Texts.levels_are_depths;
  brackets_of_one_tree = Texts.brackets_of_one_tree;
  text_written_then_read = Texts.text_written_then_read;
  text_read_then_written = Texts.text_read_then_written;
  text_accepted = Texts.text_accepted_exactly;
  text_gives_its_tree = Texts.text_gives_its_tree;
  text_written = Texts.text_written_exactly;
  text_refused_there = Texts.text_refused_there;
  text_broken_there = Texts.text_broken_there;
  text_too_nested_there = Texts.text_too_nested_there;
  text_too_long = Texts.text_too_long;
  text_too_many_nodes = Texts.text_too_many_nodes;
  text_too_deep_is_named = Texts.text_too_deep_is_named;
  one_list = Theory.one_list;
  none_begins = Theory.none_begins;
  pack_bits_accepted = Theory.pack_accepted;
  pack_accepted = Packs.pack_accepted_exactly;
  starts_and_sizes = Theory.starts_and_sizes;
  split_gives_trees = Packs.split_gives_trees;
  parts_of_pack = Theory.parts_of_pack;
  parts_give_trees = Packs.parts_give_trees;
  join_adds_tree = Packs.join_adds_tree;
  join_then_split = Packs.join_then_split;
  odd_changes = Theory.odd_changes;
  odd_never_split = Packs.odd_never_split;
  odd_never_joined = Packs.odd_never_joined;
  odd_never_read = Strings.odd_never_read;
  never_before = Theory.never_before;
  string_never_before = Strings.never_named_before;
  pack_never_before = Packs.never_named_before;
  join_never_before = Packs.join_never_before;
  checked_by_found = Images.checked_by_found;
  refused_by_fault = Faults.refused_by_fault;
  read_by_end = Strings.read_by_end;
  split_by_held = Packs.split_by_held;
  join_by_held = Packs.join_by_held;
  held_by_scan = Packs.held_by_scan;
  listed_by_measure = Images.listed_by_measure;
  text_by_found = Texts.text_by_found;
  each_node_has_its_line = Outline.each_node_has_its_line;
  only_the_heading = Outline.only_the_heading;
  short_without_metres = Outline.short_without_metres;
  only_the_refusal = Outline.only_the_refusal;
  only_the_first_too_deep = Outline.only_the_first_too_deep;
  too_many_bytes = Outline.too_many_bytes;
  no_more_is_read = Outline.no_more_is_read;
  tree_t_lem = Outline.tree_t_lem;
  tree_t_with_metres = Outline.tree_t_with_metres;
}
