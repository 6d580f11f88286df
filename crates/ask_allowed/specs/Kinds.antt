-- What the kinds ask, and the numbers that they are given by.
use Rattle.std.specs.Prelude.{◌≡◌, ℤ, Result, MatchResult}
use Rattle.std.proofs.Math.Option.{none, some}
use Rattle.meaning.specs.Questions.{Asked, of_tree, of_metres, parent, first_child, last_child, next_sibling, previous_sibling, degree, rank, child, leaf, sibling, kind_of}
use Rattle.ask_allowed.specs.declared.Kind.{Kind}
use Rattle.ask_allowed.specs.declared.Kind.TheVariants.{Parent, FirstChild, LastChild, NextSibling, PreviousSibling, Degree, Rank, Child, Leaf, Sibling, Metres}
use Rattle.ask_allowed.specs.declared.NoKind.{NoKind}

abbrev pub asked_by : Kind → Asked
asked_by Parent = of_tree parent
asked_by FirstChild = of_tree first_child
asked_by LastChild = of_tree last_child
asked_by NextSibling = of_tree next_sibling
asked_by PreviousSibling = of_tree previous_sibling
asked_by Degree = of_tree degree
asked_by Rank = of_tree rank
asked_by Child = of_tree child
asked_by Leaf = of_tree leaf
asked_by Sibling = of_tree sibling
asked_by Metres = of_metres

-- the kind that a number is, or that it is none
abbrev pub Decodes : ℤ → Result Kind NoKind → Type 0
Decodes z r = MatchResult r (λ kind. kind_of z ≡ some (asked_by kind)) (λ e. kind_of z ≡ none)
