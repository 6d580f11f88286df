-- The promises of specs/Promises.antt.
use mathlib.Core.Path.{◌≡◌, refl, sym, ap, ap₂, ◌∙◌, subst}
use mathlib.Core.List.{List, [], ◌∷◌, ◌++◌}
use Prim.Native.Nat.{ℕ, ◌+◌, ◌*◌, ◌≤◌}
use native.Mathlib.Omega.{arith}
use native.Mathlib.Decide.{dec_lt}
use lib.ListN.{length, take, replicate, length-take, length-replicate}
use lib.Seq.{take_all}
use Rattle.meaning.specs.Trees.{Tree, Node, nodes, depth}
use Rattle.meaning.specs.Parents.{parents}
use Rattle.meaning.specs.Strings.{lbs, R1, R0, string_of}
use Rattle.meaning.specs.Blocks.{wrong_block}
use Rattle.meaning.specs.Image.{Content, FitImage, image_of_string, image, header_word, parents_in, metres_in}
use Rattle.meaning.specs.Faults.{is_header, are_strings, wrong_kept, wrong_sample}
use Rattle.meaning.specs.Questions.{answer}
use Rattle.meaning.specs.Listing.{listing, deep}
use Rattle.meaning.specs.Answers.{refused_with, first_holding, settle, written}
use Rattle.meaning.specs.Tests.{check_rows}
use Rattle.calls.specs.Calls.{check_image, list_image}
use Rattle.theory.specs.Walks.{root, everything, Lists, AllBelow, FirstAt}
use Rattle.theory.proofs.Parents.{parents_are}
use Rattle.theory.proofs.Forms.{length-parents, length-R1, length-R0, marks-same}
use Rattle.theory.proofs.Payloads.{ones-le, length-samples}
use Rattle.theory.proofs.Images.{measured_most}
use Rattle.theory.proofs.TreeImages.{parents_in_lem, metres_in_lem, image-size, image_most_alone}
use Rattle.theory.proofs.Addresses.{first_node, degree-at}
use Rattle.image_promises.specs.Promises.{counts_of}
use Rattle.image_promises.proofs.Promises.{checked_of_tree, listed_of_tree, lists_length, too_deep_is_named}
use Rattle.outline_text.specs.Text.{digits, decimal}
use Rattle.outline_heading.specs.Lines.{heading, node_line, node_lines, refusal}
use Rattle.outline_page.specs.Outline.{printed, outline_of}
use Rattle.outline_page.specs.Promises as P
use Rattle.outline_page.specs.Promises.{heading_of, LinesOf}
use Rattle.outline_text.proofs.Putting.{all-written}
use Rattle.outline_page.proofs.Root.{every_node}
use Rattle.outline_page.proofs.Outlining.{not_found, many, not_listed, all_listed, too_long, by_answer}

-- ---- of other bytes

pub only_the_refusal : P.OnlyTheRefusal
only_the_refusal bytes fits h = by_answer bytes fits (check_image bytes).answer refl ∙ not_found bytes (check_image bytes).answer _ _ h

pub too_many_bytes : P.TooManyBytes
unfolding refusal decimal digits
too_many_bytes bytes h = too_long bytes h

pub no_more_is_read : P.NoMoreIsRead
no_more_is_read bytes = elim (dec_lt 49152 (length bytes)) [
  | yes l ↦ too_long (take 49153 bytes) (omega (arith, length-take 49153 bytes)) ∙ sym (too_long bytes l)
  | no l ↦ ap outline_of (take_all 49153 bytes (omega arith))
]

-- ---- of an image

pub short_without_metres : P.ShortWithoutMetres
short_without_metres c fit alone = omega (arith, image-size c, image_most_alone c fit alone)

-- of few nodes, with metres or without
short : (c : Content) → FitImage c → nodes c.tree ≤ 4000 → length (image c) ≤ 49152
short c fit few =
    let t = c.tree in
    let a = R1 (lbs t) in
    let b = R0 (lbs t) in
    omega (
      arith,
      image-size c,
      length-samples a,
      length-samples b,
      marks-same t,
      ones-le a,
      length-R1 t,
      length-R0 t,
      measured_most (nodes t) c.metres fit.measured,
    )

image_outline : (c : Content) → FitImage c → length (image c) ≤ 49152
    → let listed = list_image (image c) 1 (replicate (2 * nodes c.tree) 0) in
    outline_of (image c) ≡ printed (image c) (counts_of c.tree) listed.answer listed.lent
image_outline c fit fits = by_answer (image c) fits (counts_of c.tree) (ap (λ o. o.answer) (checked_of_tree c fit))

pub only_the_heading : P.OnlyTheHeading
only_the_heading c fit l fits = image_outline c fit fits ∙ many (image c) (counts_of c.tree) _ _ refl l

lines_of : (c : Content) (vs : List Node) (ns : List ℕ) → Lists c.tree 0 vs ns → LinesOf c vs (node_lines (parents c.tree) c.metres ns)
unfolding node_lines answer
lines_of c [] [] l = refl
lines_of c [] (n ∷ ns) l = absurd l
lines_of c (v ∷ vs) [] l = absurd l
lines_of c (v ∷ vs) (x ∷ []) l = absurd l
lines_of c (v ∷ vs) (x ∷ e ∷ ns) l =
    let rest = node_lines (parents c.tree) c.metres ns in (
      x,
      rest,
      l.0,
      ap₂ (λ d k. node_line c.metres x d k ++ rest) (let q : e ≡ depth v = omega (arith, l.1) in q) (sym (degree-at c.tree x l.0.from l.0.to)),
      lines_of c vs ns l.2,
    )

module _ (c : Content) (fit : FitImage c) (few : nodes c.tree ≤ 4000) where
  abbrev t : Tree
  t = c.tree

  abbrev x : List ℕ
  x = image c

  abbrev zeros : List ℕ
  zeros = replicate (2 * nodes t) 0

  zeros-size : length zeros ≡ 2 * nodes t
  zeros-size = length-replicate (2 * nodes t) 0

  some : 1 ≤ nodes t
  some = omega (arith, (parents_are t).some, length-parents t)

  each_node : AllBelow 64 (everything (root t)) → (text : List ℕ) × (outline_of x ≡ heading_of c ++ text) × LinesOf c (everything (root t)) text
  each_node below =
      let r = listed_of_tree c 1 zeros fit (record {
        from = omega arith;
        to = some;
        shallow = subst (λ v. AllBelow (64 + depth v) (everything v)) (sym (first_node t)) below;
        room = omega (arith, every_node t, zeros-size);
      }) in
      let pairs = r.0 in
      let lists : Lists t 0 (everything (root t)) pairs = subst (λ v. Lists t (depth v) (everything v) pairs) (first_node t) r.2 in
      let size = lists_length t 0 (everything (root t)) pairs lists in
      let alone = all-written pairs zeros (omega (arith, zeros-size, size, ap (λ v. length (everything v)) (first_node t), every_node t)) in (
        node_lines (parents t) c.metres pairs,
        image_outline c fit (short c fit few)
            ∙ ap (λ o. printed x (counts_of t) o.answer o.lent) r.1
            ∙ all_listed x (counts_of t) _ (written pairs zeros) refl few refl
            ∙ ap (λ text. heading_of c ++ text) (ap₂ (λ ps ms. node_lines ps ms (written pairs zeros)) (parents_in_lem c fit) (metres_in_lem c fit) ∙ ap (node_lines (parents t) c.metres) alone),
        lines_of c (everything (root t)) pairs lists,
      )

  too_deep_lem : (AllBelow 64 (everything (root t)) → ⊥) → (y : ℕ) × (outline_of x ≡ refusal (refused_with 9 y)) × FirstAt t 64 (everything (root t)) y
  too_deep_lem deeper =
      let r = too_deep_is_named c 1 zeros fit (omega arith) some (λ b. deeper (subst (λ v. AllBelow (64 + depth v) (everything v)) (first_node t) b)) in
      let y = r.0 in (
        y,
        image_outline c fit (short c fit few)
            ∙ ap (λ o. printed x (counts_of t) o.answer o.lent) r.1
            ∙ not_listed x (counts_of t) (refused_with 9 y) zeros refl few (λ e. omega arith),
        subst (λ v. FirstAt t (64 + depth v) (everything v) y) (first_node t) r.2,
      )

pub each_node_has_its_line : P.EachNodeHasItsLine
each_node_has_its_line c fit few below = each_node c fit few below

pub only_the_first_too_deep : P.OnlyTheFirstTooDeep
only_the_first_too_deep c fit few deeper = too_deep_lem c fit few deeper

-- ---- the examples

pub tree_t_lem : P.TreeT
unfolding outline_of printed heading node_lines node_line refusal decimal digits check_rows check_image list_image first_holding settle
    string_of image_of_string header_word is_header are_strings wrong_kept wrong_sample
    parents_in metres_in wrong_block listing deep answer
tree_t_lem = refl

pub tree_t_with_metres : P.TreeTWithMetres
unfolding outline_of printed heading node_lines node_line refusal decimal digits check_rows check_image list_image first_holding settle
    string_of image_of_string header_word is_header are_strings wrong_kept wrong_sample
    parents_in metres_in wrong_block listing deep answer
tree_t_with_metres = refl
