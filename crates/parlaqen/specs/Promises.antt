-- What the store promises, in the order of the customer's demands. Each name is a statement about
-- the thirteen calls as functions of what is lent (calls/specs/Calls.antt); the contract of each
-- exported call is an equation with its function, so what is said here is said of the code.
-- `Promises`, at the end, is all of them, with those of the theory, of strings, packs, images and
-- texts, and of the outline; proofs/Promises.antt keeps it.
use Rattle.std.specs.Prelude.{◌≡◌, List, [], ◌∷◌, ◌⊎◌, ℕ, length}
use Rattle.meaning.specs.declared.Answer.{Answer}
use Rattle.meaning.specs.Parents.{bad_entry}
use Rattle.meaning.specs.Bytes.{bits_from}
use Rattle.meaning.specs.Scan.{one, many, place}
use Rattle.meaning.specs.Packs.{sizes}
use Rattle.meaning.specs.Blocks.{wrong_block}
use Rattle.meaning.specs.Image.{present, parents_in, metres_in}
use Rattle.meaning.specs.Faults.{wrong_kept, wrong_sample}
use Rattle.meaning.specs.Questions.{questions, not_allowed}
use Rattle.meaning.specs.Listing.{listing, deep}
use Rattle.meaning.specs.Text.{read_text, broken_at, deeper_at}
use Rattle.meaning.specs.Answers.{Outcome, came_to}
use Rattle.calls.specs.Calls.{Call, plq_string_of_parents, plq_parents_of_string, plq_image_of_parents, plq_image_with_metres, plq_parents_of_image, plq_metres_of_image, plq_check_image}
use Rattle.calls.specs.Calls.{ask, list, split, join, plq_parents_of_text, plq_text_of_parents, does}
use Rattle.theorems.specs.Promises as Theory
use Rattle.string_promises.specs.Promises as Strings
use Rattle.pack_promises.specs.Promises as Packs
use Rattle.image_promises.specs.Promises as Images
use Rattle.image_promises.specs.Faults as Faults
use Rattle.text_promises.specs.Promises as Texts
use Rattle.outline_page.specs.Promises as Outline

-- ---- Demand 1. A `Call` is one of the thirteen with its inputs, whatever they are; `does` is what
-- it comes to.

-- the refusals that the documents' table has for a call: each code with its place
abbrev pub listed : Call → List (ℕ × ℕ)
listed (plq_string_of_parents ps out) = (2, 0) ∷ (3, bad_entry ps) ∷ (1, 0) ∷ []
listed (plq_parents_of_string bytes L out) = (2, 0) ∷ (5, 0) ∷ (4, place one (bits_from bytes 0 L)) ∷ (1, 0) ∷ []
listed (plq_image_of_parents ps out) = (2, 0) ∷ (3, bad_entry ps) ∷ (1, 0) ∷ []
listed (plq_image_with_metres ps ms out) = (2, 0) ∷ (3, bad_entry ps) ∷ (1, 0) ∷ []
listed (plq_parents_of_image image out) = (2, 0) ∷ (6, wrong_block image) ∷ (11, 0) ∷ (12, 0) ∷ (13, 1) ∷ (14, wrong_kept image) ∷ (15, wrong_sample image) ∷ (1, 0) ∷ []
listed (plq_metres_of_image image out) =
    (2, 0) ∷ (6, wrong_block image) ∷ (11, 0) ∷ (12, 0) ∷ (13, 1) ∷ (14, wrong_kept image) ∷ (15, wrong_sample image)
    ∷ (8, 1) ∷ (1, 0) ∷ []
listed (plq_check_image image) = (2, 0) ∷ (6, wrong_block image) ∷ (11, 0) ∷ (12, 0) ∷ (13, 1) ∷ (14, wrong_kept image) ∷ (15, wrong_sample image) ∷ []
listed (ask image qs out) =
    (2, 0) ∷ (6, wrong_block image) ∷ (11, 0) ∷ (12, 0) ∷ (13, 1) ∷ (14, wrong_kept image) ∷ (15, wrong_sample image)
    ∷ (8, not_allowed (length (parents_in image)) (present (metres_in image)) (questions qs) 0) ∷ (1, 0) ∷ []
listed (list image x out) =
    (2, 0) ∷ (6, wrong_block image) ∷ (11, 0) ∷ (12, 0) ∷ (13, 1) ∷ (14, wrong_kept image) ∷ (15, wrong_sample image)
    ∷ (8, 1) ∷ (9, deep (listing 65 (parents_in image) x 0)) ∷ (1, 0) ∷ []
listed (split bytes L k starts sizes') = (2, 0) ∷ (5, 0) ∷ (4, place many (bits_from bytes 0 L)) ∷ (10, length (sizes (bits_from bytes 0 L))) ∷ (1, 0) ∷ []
listed (join pack L k ps) = (2, 0) ∷ (5, 0) ∷ (4, place many (bits_from pack 0 L)) ∷ (10, length (sizes (bits_from pack 0 L))) ∷ (3, bad_entry ps) ∷ (1, 0) ∷ []
listed (plq_parents_of_text text out) = (2, 0) ∷ (16, broken_at (read_text text)) ∷ (17, deeper_at (read_text text)) ∷ (2, 0) ∷ (1, 0) ∷ []
listed (plq_text_of_parents ps out) = (2, 0) ∷ (3, bad_entry ps) ∷ (9, deep (listing 65 ps 1 0)) ∷ (1, 0) ∷ []

-- the lent lists that a call may write, as they are before it
abbrev pub lent_to : Call → List (List ℕ)
lent_to (plq_string_of_parents ps out) = out ∷ []
lent_to (plq_parents_of_string bytes L out) = out ∷ []
lent_to (plq_image_of_parents ps out) = out ∷ []
lent_to (plq_image_with_metres ps ms out) = out ∷ []
lent_to (plq_parents_of_image image out) = out ∷ []
lent_to (plq_metres_of_image image out) = out ∷ []
lent_to (plq_check_image image) = []
lent_to (ask image qs out) = out ∷ []
lent_to (list image x out) = out ∷ []
lent_to (split bytes L k starts sizes') = starts ∷ sizes' ∷ []
lent_to (join pack L k ps) = pack ∷ []
lent_to (plq_parents_of_text text out) = out ∷ []
lent_to (plq_text_of_parents ps out) = out ∷ []

abbrev pub OneOf : ℕ → ℕ → List (ℕ × ℕ) → Type 0
OneOf code place [] = ⊥
OneOf code place (r ∷ rs) = ((code ≡ r.0) × (place ≡ r.1)) ⊎ OneOf code place rs

-- every call is done, with code 0 and place 0, or refuses by a listed code with its place, counts
-- 0, and every lent list as it was
abbrev pub DoneOrRefused : Type 0
DoneOrRefused = (c : Call) → let r = does c in
    ((r.answer.code ≡ 0) × (r.answer.place ≡ 0))
    ⊎ (OneOf r.answer.code r.answer.place (listed c) × (r.answer.first ≡ 0) × (r.answer.second ≡ 0) × (r.lent ≡ lent_to c))

-- what a contract says leaves one answer and one content of every lent list, refused or not
abbrev pub OneOutcome : Type 1
OneOutcome = (A : Type 0) (o : Outcome A) (a b : Answer) (x y : A) → came_to a x ≡ o → came_to b y ≡ o → (a ≡ b) × (x ≡ y)

-- ---- All of them.

pub record Promises : Type 1 where
  -- Demand 1. Every public call takes whatever it is handed, ends, and refuses by a listed number
  -- with a place; a refused call changes no byte
  pub done_or_refused : DoneOrRefused
  -- where several rows of the table hold, the upper one wins
  pub upper_row_wins : Theory.UpperRowWins
  -- one answer, and one content of every lent list, for any input
  pub one_outcome : OneOutcome
  -- Demand 2. Nodes are numbered in level order, and a node has one number
  pub level_order_lem : Theory.LevelOrder
  pub one_number : Theory.OneNumber
  -- a list of numbers is a tree exactly if it keeps the rule; the tree is one
  pub parent_lists : Theory.ParentLists
  pub one_tree : Theory.OneTree
  -- code 3 names the lowest offending entry
  pub lowest_entry : Theory.LowestEntry
  -- each call that takes a parent list accepts it exactly if some tree has it
  pub list_written : Strings.ListWrittenExactly
  pub list_sealed : Images.ListSealedExactly
  pub list_joined : Packs.JoinedExactly
  -- a tree string has n ones and n + 1 zeros
  pub string_counts : Theory.StringCounts
  -- L bits take L / 8 bytes rounded up, with leftover bits zero, and no other bytes have them
  pub bytes_back : Theory.BytesBack
  pub one_bytes : Theory.OneBytes
  -- any tree comes back the same from its string
  pub string_back : Theory.StringBack
  pub written_then_read : Strings.WrittenThenRead
  pub read_then_written : Strings.ReadThenWritten
  -- bits are accepted exactly if some tree gives them
  pub bits_accepted : Theory.StringAccepted
  pub string_accepted : Strings.StringAcceptedExactly
  -- code 4 names the first p whose first p bits begin no string; L + 1 if there is no such p
  pub refused_there : Theory.RefusedThere
  -- R1 has n bits, R0 n + 1; both have m ones, where m is one more than the number of nodes with
  -- children
  pub part_counts : Theory.PartCounts
  -- and they give the tree back
  pub parts_back : Theory.PartsBack
  -- what the strings give: the parent, the ones before the z-th zero, children, leaves, the next
  -- sibling, and so all ten kinds
  pub parent_by_strings : Theory.ParentByStrings
  pub ones_by_strings : Theory.OnesByStrings
  pub children_by_strings : Theory.ChildrenByStrings
  pub leaf_by_strings : Theory.LeafByStrings
  pub next_by_strings : Theory.NextByStrings
  pub answers_by_strings : Theory.AnswersByStrings
  -- an image is 5 to 574 whole blocks that all check, laid out as the documents have it; sample j
  -- is the position of one number 64 j + 1
  pub image_blocks : Theory.ImageBlocks
  pub image_laid : Theory.ImageLaid
  pub samples_are : Theory.SamplesAre
  -- the counts of an image made are n and m
  pub sealed_of_tree : Images.SealedOfTree
  -- any tree comes back the same from its image, and its metres, if it has any
  pub image_back : Theory.ImageBack
  pub sealed_then_read : Images.SealedThenRead
  -- an image is accepted exactly if some tree gives it, with metres or without
  pub bytes_accepted : Theory.ImageAccepted
  pub image_accepted : Images.ImageAcceptedExactly
  pub image_read : Images.ImageReadExactly
  -- the counts of an image checked are n and m
  pub checked_of_tree : Images.CheckedOfTree
  -- two trees never give one image, nor a tree with other metres or without
  pub accepted_is_sealed : Images.AcceptedIsSealed
  pub one_image_per_content : Images.OneImagePerContent
  -- document 02, item 2: metres are read back exactly from a tree's image with metres, n and 0 as
  -- counts
  pub metres_read_lem : Images.MetresReadExactly
  -- code 2 for a list of metres whose length is not n
  pub other_length : Images.OtherLength
  -- an image of version 1 shows no metres, which is not 0 metres: reading them back, and question
  -- 11, are code 8
  pub no_metres_is_not_zero : Images.NoMetresIsNotZero
  -- and it stays what it was, byte for byte
  pub version_one_stays : Images.VersionOneStays
  -- every public reading of an image makes the whole check first
  pub checked_first : Images.CheckedFirst
  -- document 02, item 1: what the refusal of an image names whose size and sums are right. 11: a
  -- version other than 1 and 2
  pub version_named : Faults.VersionNamed
  -- 12: header numbers, taken together, or a reserved word that no tree of this image length has
  pub header_named : Faults.HeaderNamed
  -- 13: strings that no tree with this n and m gives; the place is the first R1 block
  pub strings_named : Faults.StringsNamed
  -- metres are never wrong
  pub metres_never_wrong : Faults.MetresNeverWrong
  -- 14: a wrong count of earlier ones or unused payload not zero, with the lowest such block
  pub counts_named : Faults.CountsNamed
  -- 15: wrong samples, with the lowest such block
  pub samples_named : Faults.SamplesNamed
  -- one of the five, all where 7 was
  pub one_of_five : Faults.OneOfFive
  -- each navigation answer is the one the tree itself gives, and question 11 gives a node's metres
  pub own_children : Theory.OwnChildren
  pub own_parent : Theory.OwnParent
  pub own_answer : Theory.OwnAnswer
  pub asked_of_content : Images.AskedOfContent
  -- document 02, item 3: kind 7 on the root answers 0, and every other node keeps its rank
  pub root_has_no_rank : Theory.RootHasNoRank
  pub others_keep_their_rank : Theory.OthersKeepTheirRank
  pub root_asked : Images.RootAsked
  -- kinds 4, 5 and 10 keep their answers
  pub root_stays_alone : Theory.RootStaysAlone
  pub root_asked_alone : Images.RootAskedAlone
  -- questions are answered exactly if a tree's image is asked, in threes, 256 at most, and kind,
  -- node and argument of each are allowed
  pub asked_exactly : Images.AskedExactly
  pub allowed_exactly : Images.AllowedExactly
  -- the listing is the tree's own depth-first order, with depths
  pub own_listing : Theory.OwnListing
  pub listed_of_tree : Images.ListedOfTree
  -- a node is listed exactly if it is one of a tree's image, and no depth would be 64 or more
  pub listed_exactly : Images.ListedExactly
  -- code 9 names the first node in listing order at depth 64
  pub too_deep_is_named : Images.TooDeepIsNamed
  -- document 02, item 4: any tree of at most 64 levels comes back the same from its text; writing,
  -- then reading, gives the tree, and reading, then writing, the text without blanks
  pub levels_are_depths : Texts.LevelsAreDepths
  pub brackets_of_one_tree : Texts.BracketsOfOneTree
  pub text_written_then_read : Texts.TextWrittenThenRead
  pub text_read_then_written : Texts.TextReadThenWritten
  -- a text is accepted exactly if it is one tree within the limits, and gives that tree
  pub text_accepted : Texts.TextAcceptedExactly
  pub text_gives_its_tree : Texts.TextGivesItsTree
  pub text_written : Texts.TextWrittenExactly
  -- 16: no tree of any depth or size, at the first byte at which it cannot be continued; 17: a 65th
  -- level, at its byte; the earlier byte wins
  pub text_refused_there : Texts.TextRefusedThere
  pub text_broken_there : Texts.TextBrokenThere
  pub text_too_nested_there : Texts.TextTooNestedThere
  -- code 2 first for a text that is too long, and after 16 and 17 for too many nodes
  pub text_too_long : Texts.TextTooLong
  pub text_too_many_nodes : Texts.TextTooManyNodes
  -- writing a tree of more than 64 levels is code 9, as for the listing of its root
  pub text_too_deep_is_named : Texts.TextTooDeepIsNamed
  -- Demand 3. Strings end to end: no other list gives those bits, and no tree's string is the
  -- beginning of another tree's
  pub one_list : Theory.OneList
  pub none_begins : Theory.NoneBegins
  -- the splitter accepts exactly such strings, and gives each tree's start and size
  pub pack_bits_accepted : Theory.PackAccepted
  pub pack_accepted : Packs.PackAcceptedExactly
  pub starts_and_sizes : Theory.StartsAndSizes
  pub split_gives_trees : Packs.SplitGivesTrees
  -- reading those parts gives the list back
  pub parts_of_pack : Theory.PartsOfPack
  pub parts_give_trees : Packs.PartsGiveTrees
  -- joining adds one tree: earlier bits stay, new leftover bits are zero, bytes after the new last
  -- one stay; it answers the new length and k + 1
  pub join_adds_tree : Packs.JoinAddsTree
  pub join_then_split : Packs.JoinThenSplit
  -- with the number of trees known, changing an odd number of bits never yields bits that are
  -- accepted with that number
  pub odd_changes : Theory.OddChanges
  pub odd_never_split : Packs.OddNeverSplit
  pub odd_never_joined : Packs.OddNeverJoined
  -- in a single string one changed bit always shows
  pub odd_never_read : Strings.OddNeverRead
  -- a refusal that names a bit never names one before the first changed bit
  pub never_before : Theory.NeverBefore
  pub string_never_before : Strings.NeverNamedBefore
  pub pack_never_before : Packs.NeverNamedBefore
  pub join_never_before : Packs.JoinNeverNamesBefore
  -- For any answer that is an enum a definition gives document 01's number and values for each
  -- case, and a call comes to them:
  -- what the check finds, what is wrong with an image, the end of a string's tree, what a pack is
  -- refused for and what its scan finds, what a listing takes, what a text is read as
  pub checked_by_found : Images.CheckedByFound
  pub refused_by_fault : Faults.RefusedByFault
  pub read_by_end : Strings.ReadByEnd
  pub split_by_held : Packs.SplitByHeld
  pub join_by_held : Packs.JoinByHeld
  pub held_by_scan : Packs.HeldByScan
  pub listed_by_measure : Images.ListedByMeasure
  pub text_by_found : Texts.TextByFound
  -- The outline prints n, m and blocks, then, if n is at most 4,000, a line for each node in
  -- listing order: number, depth, degree, and its metres where there are any
  pub each_node_has_its_line : Outline.EachNodeHasItsLine
  pub only_the_heading : Outline.OnlyTheHeading
  pub short_without_metres : Outline.ShortWithoutMetres
  -- after a refusal, listing included, only that
  pub only_the_refusal : Outline.OnlyTheRefusal
  pub only_the_first_too_deep : Outline.OnlyTheFirstTooDeep
  -- more than 49,152 bytes is code 2, place 0
  pub too_many_bytes : Outline.TooManyBytes
  pub no_more_is_read : Outline.NoMoreIsRead
  -- the example, tree T, and with metres
  pub tree_t_lem : Outline.TreeT
  pub tree_t_with_metres : Outline.TreeTWithMetres
