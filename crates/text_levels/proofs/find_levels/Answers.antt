use Rattle.std.proofs.Common.{◌≡◌, ℕ, suc, ◌≤◌, ◌<◌, List, sym, ap, ◌∙◌, get_or, length, length-set, arith}
use Rattle.meaning.specs.Trees.{Tree, nodes}
use Rattle.meaning.specs.Parents.{parents, entry}
use Rattle.meaning.specs.Listing.{listing, deep}
use Rattle.theory.specs.Places.{place_of}
use Rattle.theory.proofs.Parents.{are_parents}
use Rattle.text_walk.proofs.Walk.{nodes_of_lem}
use Rattle.text_levels.proofs.Finding.{finding_start, finding_on, finding_deep, finding_next, finding_end, finding_fits}
use Rattle.text_levels.proofs.find_levels.Goals as goal
use Rattle.text_levels.proofs.find_levels.Goals.{then-before-p+else-level-eq64, else-before-p}

pub loop-i-init : goal.loop-i-init
loop-i-init c =
    let levels = c.args.levels.now in
    let p = c.requires in (
      omega arith,
      omega arith,
      simp length-set p.levels_len,
      λ t e. finding_start t levels p.levels_len (λ k h. p.by_index k h ∙ sym (nodes_of_lem t e)),
    )

-- the entry that is looked at
module _ (list : List ℕ) (t : Tree) (e : parents t ≡ list) (i : ℕ) (h : i < length list) where
  walked : i < nodes t
  walked = omega (arith, nodes_of_lem t e)

  parent : entry (parents t) (suc i) ≡ get_or list i 0
  parent = ap (λ ps. get_or ps i 0) e

pub returns-then-level-eq64-clause-value : goal.returns-then-level-eq64-clause-value
returns-then-level-eq64-clause-value c =
    let list = c.args.list.now in
    let l = c.loop-i in
    let h = c.loop-i-test.true in
    let tree = are_parents list c.requires.parents in
    let t = tree.0 in
    finding_deep t l.levels l.level l.before l.i (l.invariant.3 t tree.1) l.invariant.0 (walked list t tree.1 l.i h)
    (omega (arith, c.if-before-p.true, parent list t tree.1 l.i h)) c.if-level-eq64.true
    ∙ ap (λ ps. place_of (deep (listing 65 ps 1 0))) tree.1

pub loop-i-preserved : goal.loop-i-preserved
loop-i-preserved c =
    let list = c.args.list.now in
    let l = c.loop-i in
    let h = c.loop-i-test.true in
    elim c.if-before-p.branch [
      | then-before-p+else-level-eq64 w ↦ rw (w.levels-is, w.level-is, w.before-is) (
        omega arith,
        omega (arith, w.if-level-eq64.false),
        simp length-set l.invariant.2,
        λ t e. finding_next t l.levels l.level l.before l.i (l.invariant.3 t e) l.invariant.0 (walked list t e l.i h)
            (omega (arith, w.if-before-p.true, parent list t e l.i h)) (omega arith),
      )
      | else-before-p w ↦ rw (w.levels-is, w.level-is, w.before-is) (
        l.invariant.0,
        l.invariant.1,
        l.invariant.2,
        λ t e. finding_on t l.levels l.level l.before l.i (l.invariant.3 t e) l.invariant.0 (walked list t e l.i h)
            (omega (arith, w.if-before-p.false, parent list t e l.i h)),
      )
    ]

pub returns-clause-value : goal.returns-clause-value
returns-clause-value c =
    let l = c.loop-i in
    let tree = are_parents c.args.list.now c.requires.parents in
    let all : nodes tree.0 ≤ l.i = omega (arith, nodes_of_lem tree.0 tree.1, c.loop-i-test.false) in
    finding_fits tree.0 l.levels l.level l.before l.i (l.invariant.3 tree.0 tree.1) l.invariant.0 all l.invariant.1
    ∙ ap (λ ps. place_of (deep (listing 65 ps 1 0))) tree.1

pub returns-clause-started : goal.returns-clause-started
returns-clause-started c = λ t e z.
    let l = c.loop-i in
    let all : nodes t ≤ l.i = omega (arith, nodes_of_lem t e, c.loop-i-test.false) in
    finding_end t l.levels l.level l.before l.i (l.invariant.3 t e) l.invariant.0 all l.invariant.1
