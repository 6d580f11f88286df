-- The promises of specs/Promises.antt.
use mathlib.Core.Path.{◌≡◌, refl, sym, ap, ap₂, ◌∙◌, subst}
use mathlib.Core.Bool.{Bool, true, false, cond, not, ◌&&◌}
use mathlib.Core.List.{List, [], ◌∷◌, map}
use mathlib.Core.Option.{Option, none, some}
use Prim.Native.Nat.{ℕ, zero, suc, ◌+◌, ◌-◌, ◌*◌, ◌/◌, ◌%◌, ◌≤◌, ◌<◌}
use native.Mathlib.Omega.{arith}
use borrow.Author.Tests.{le-ltb, lt-ltb, ltb-false, le-leb, leb-true, not-false}
use lib.Dec.{ltb, leb, eqb}
use lib.IntN.{ℤ}
use lib.ListN.{length, get_or, take, drop, replicate, get_elem?, length-map}
use lib.Seq.{take_at}
use Rattle.meaning.specs.Trees.{Tree, Node, nodes, depth}
use Rattle.meaning.specs.Parents.{parents, entry}
use Rattle.meaning.specs.Strings.{ones, R1, string_of}
use Rattle.meaning.specs.Image.{Content, Measured, FitImage, present, list_of, image_of_string, image, parents_in, metres_in}
use Rattle.meaning.specs.Questions.{Asked, of_tree, of_metres, Question, questions, kind_of, number_of, is_zero, takes, is_node, allowed_kind, allowed, not_allowed, answer_kind, answer_to}
use Rattle.meaning.specs.Listing.{listing, deep}
use Rattle.meaning.specs.Answers.{◌at◌when◌, counts, refused_with, came_to, settle, written, too_short}
use Rattle.meaning.specs.Tests.{parent_rows, check_rows}
use Rattle.calls.specs.Calls.{wrong_metres, seal_parents, image_of_parents, image_with_metres, check_image, parents_of_image, metres_of_image, wrong_questions, ask_image, list_image}
use Rattle.theory.specs.Rank.{with_children}
use Rattle.theory.specs.Walks.{node_at, Gives, everything, Lists}
use Rattle.theory.proofs.Settled.{or_neither, unequal, equal, settle-here, settle_on, settle-none, settle_passed}
use Rattle.theory.proofs.Codes.{neither, not_unequal, listed-tree, none-held}
use Rattle.theory.proofs.Parents.{parents_are, parents_injective}
use Rattle.theory.proofs.Lowest.{parents-bad_entry}
use Rattle.theory.proofs.Forms.{length-parents, string-parents}
use Rattle.theory.proofs.TreeImages.{parents_in_lem, metres_in_lem, one_content}
use Rattle.theorems.proofs.Promises.{part_counts, own-answers, own_listing}
use Rattle.parents_check.proofs.Refusing.{passes}
use Rattle.call_check_image.proofs.Calling.{image-answered}
use Rattle.list_measure.specs.Levels.{sized, size_of}
use Rattle.list_measure.specs.Numbers.{measured_outcome}
use Rattle.image_promises.specs.Promises as P
use Rattle.image_promises.specs.Promises.{counts_of, seal_by, Counted, metres_back, read_back, Takes, Askable, Allowed, EachAllowed, Answers, AllGiven}
use Rattle.image_promises.proofs.Passing.{tree_passed, not_passed, rows_done}

-- ---- of a tree

-- n and m, as the calls count them
marks_in : (t : Tree) → ones (R1 (string_of (parents t))) ≡ with_children t + 1
marks_in t = ap (λ bs. ones (R1 bs)) (string-parents t) ∙ (part_counts t).2

module _ (c : Content) (h : FitImage c) where
  pub count : length (parents_in (image c)) ≡ nodes c.tree
  count = ap length (parents_in_lem c h) ∙ length-parents c.tree

  tree_read : (out : List ℕ) → nodes c.tree ≤ length out → parents_of_image (image c) out ≡ came_to (counts (nodes c.tree) 0) (written (parents c.tree) out)
  unfolding parents_of_image
  tree_read out room =
      tree_passed c h false refl out _ _ _
      ∙ settle_on _ _ _ _ _ (le-ltb (length out) (length (parents_in (image c))) (omega (arith, count)))
      ∙ settle-none _ _ _
      ∙ ap₂ (λ n qs. came_to (counts n 0) (written qs out)) count (parents_in_lem c h)

  pub metres_read_lem : (out : List ℕ) → nodes c.tree ≤ length out → metres_of_image (image c) out ≡ metres_back c.metres out
  unfolding metres_of_image
  metres_read_lem out room =
      tree_passed c h false refl out _ _ _
      ∙ ap (λ ms. settle out (8 at 1 when not (present ms) ∷ 1 at 0 when too_short (list_of ms) out ∷ []) (counts (length (list_of ms)) 0) (written (list_of ms) out)) (metres_in_lem c h)
      ∙ go c.metres h.measured
    where
      go : (ms : Option (List ℕ)) → Measured (nodes c.tree) ms
          → settle out (8 at 1 when not (present ms) ∷ 1 at 0 when too_short (list_of ms) out ∷ []) (counts (length (list_of ms)) 0) (written (list_of ms) out) ≡ metres_back ms out
      go none m = settle-here _ _ _ _ _ refl
      go (some ms) m = settle_on _ _ _ _ _ refl ∙ settle_on _ _ _ _ _ (le-ltb (length out) (length ms) (omega (arith, m.0))) ∙ settle-none _ _ _

-- ---- sealing and the check

-- both calls seal by the same rows
seal_is : (ms : Option (List ℕ)) (ps bytes : List ℕ) → seal_by ms ps bytes ≡ seal_parents ms ps bytes
unfolding image_of_parents image_with_metres
seal_is none ps bytes = refl
seal_is (some ms) ps bytes = refl

-- as many metres as parents
right_count : (ms : Option (List ℕ)) (ps : List ℕ) → Counted ms (length ps) → wrong_metres ms ps ≡ false
right_count none ps m = refl
right_count (some ms) ps m = equal (length ms) (length ps) m

count_right : (ms : Option (List ℕ)) (ps : List ℕ) → wrong_metres ms ps ≡ false → Counted ms (length ps)
count_right none ps m = tt
count_right (some ms) ps m = not_unequal (length ms) (length ps) m

measured-counted : (ms : Option (List ℕ)) (n : ℕ) → Measured n ms → Counted ms n
measured-counted none n m = tt
measured-counted (some ms) n m = m.0

-- sealing the parents of a tree, whatever numbers the metres are
seals : (ms : Option (List ℕ)) (t : Tree) (bytes : List ℕ) → nodes t ≤ 65535 → Counted ms (nodes t)
    → let x = image (record { tree = t; metres = ms }) in
    length x ≤ length bytes → seal_by ms (parents t) bytes ≡ came_to (counts_of t) (written x bytes)
unfolding seal_parents image
seals ms t bytes h m room =
    let ps = parents t in
    let p = parents_are t in
    let n = length-parents t in
    let made : image_of_string ms (string_of ps) ≡ image (record { tree = t; metres = ms }) = ap (image_of_string ms) (string-parents t) in
    seal_is ms ps bytes
    ∙ settle_on _ _ _ _ _ (right_count ms ps (subst (Counted ms) (sym n) m))
    ∙ settle_passed _ _ _ _ (parent_rows ps) (passes ps p.some (omega arith) (parents-bad_entry ps p))
    ∙ settle_on _ _ _ _ _ (le-ltb (length bytes) (length (image_of_string ms (string_of ps))) (omega (arith, ap length made)))
    ∙ settle-none _ _ _
    ∙ ap₂ (λ n m. came_to (counts n m) (written (image_of_string ms (string_of ps)) bytes)) n (marks_in t)
    ∙ ap (λ xs. came_to (counts_of t) (written xs bytes)) made

pub sealed_of_tree : P.SealedOfTree
sealed_of_tree c bytes h room = seals c.metres c.tree bytes h.small (measured-counted c.metres (nodes c.tree) h.measured) room

shorter : (a b c : ℕ) → a ≤ c → a ≡ b → b ≤ c
shorter a b c h e = omega arith

pub list_sealed_exactly : P.ListSealedExactly
unfolding seal_parents parent_rows image
list_sealed_exactly ms ps bytes = (
  λ e.
      let n = (none-held bytes _ _ 0 _ (omega arith) (ap (λ o. o.answer.code) (sym (seal_is ms ps bytes)) ∙ e)).0 in
      let w = listed-tree ps n.1.0 n.1.1.0 in
      let t = w.0 in
      let room = ltb-false (length bytes) (length (image_of_string ms (string_of ps))) n.1.1.1.0 in
      let same = ap (λ qs. length (image_of_string ms (string_of qs))) (sym w.2) ∙ ap (λ bs. length (image_of_string ms bs)) (string-parents t) in
      (t, w.1, w.2, subst (Counted ms) (sym (ap length w.2) ∙ length-parents t) (count_right ms ps n.0), shorter _ _ _ room same),
  λ w. ap (λ qs. (seal_by ms qs bytes).answer.code) (sym w.2) ∙ ap (λ o. o.answer.code) (seals ms w.0 bytes w.1 w.3 w.4),
)

pub other_length : P.OtherLength
unfolding image_with_metres seal_parents
other_length ps ms bytes wrong = settle-here _ _ _ _ _ (unequal (length ms) (length ps) wrong)

pub checked_of_tree : P.CheckedOfTree
unfolding check_image check_rows
checked_of_tree c h =
    tree_passed c h false refl tt [] _ tt ∙ settle-none tt _ tt
    ∙ ap₂ (λ n m. came_to (counts n m) tt) (count c h) (ap (λ ps. ones (R1 (string_of ps))) (parents_in_lem c h) ∙ marks_in c.tree)

pub image_accepted_exactly : P.ImageAcceptedExactly
unfolding check_image check_rows
image_accepted_exactly bytes = (
  λ e. (rows_done tt _ tt bytes false [] tt e).1,
  λ w. ap (λ xs. (check_image xs).answer.code) (sym w.2) ∙ ap (λ o. o.answer.code) (checked_of_tree w.0 w.1),
)

pub checked_by_found : P.CheckedByFound
checked_by_found bytes = image-answered bytes

pub checked_first : P.CheckedFirst
unfolding parents_of_image metres_of_image ask_image list_image
checked_first bytes out refused = (
  not_passed bytes refused false refl out _ _ _,
  not_passed bytes refused false refl out _ _ _,
  λ qs right. not_passed bytes refused (wrong_questions qs) right out _ _ _,
  λ x. not_passed bytes refused false refl out _ _ _,
)

-- ---- reading back

pub sealed_then_read : P.SealedThenRead
sealed_then_read c bytes out h room room_out =
    let x = image c in
    let made = sealed_of_tree c bytes h room in
    let front : take (length x) (seal_by c.metres (parents c.tree) bytes).lent ≡ x
    = ap (λ o. take (length x) o.lent) made ∙ take_at x (drop (length x) bytes) (length x) refl in
    (made, ap (λ xs. parents_of_image xs out) front ∙ tree_read c h out room_out, ap (λ xs. metres_of_image xs out) front ∙ metres_read_lem c h out room_out)

-- bytes that a tree gives are read as its parent list
given_read : (bytes out : List ℕ) (c : Content) → FitImage c → image c ≡ bytes → nodes c.tree ≤ length out
    → parents_of_image bytes out ≡ came_to (counts (nodes c.tree) 0) (written (parents c.tree) out)
given_read bytes out c h e room = ap (λ xs. parents_of_image xs out) (sym e) ∙ tree_read c h out room

pub image_read_exactly : P.ImageReadExactly
unfolding parents_of_image
image_read_exactly bytes out = (
  λ e.
      let d = rows_done out _ _ bytes false _ (omega arith) e in
      let w = d.1 in
      let n = ap (λ xs. length (parents_in xs)) (sym w.2) ∙ count w.0 w.1 in
      (w.0, w.1, w.2, omega (arith, ltb-false (length out) (length (parents_in bytes)) d.2.0)),
  λ w. ap (λ o. o.answer.code) (given_read bytes out w.0 w.1 w.2 w.3),
)

pub metres_read_exactly : P.MetresReadExactly
unfolding metres_of_image
metres_read_exactly bytes out = (
  λ e.
      let d = rows_done out _ _ bytes false _ (omega arith, (omega arith, tt)) e in
      let w = d.1 in
      let c = w.0 in
      let ms = ap metres_in (sym w.2) ∙ metres_in_lem c w.1 in
      let some_are : not (present c.metres) ≡ false = ap (λ m. not (present m)) (sym ms) ∙ d.2.0 in
      let room : length (list_of c.metres) ≤ length out = let l = ltb-false (length out) (length (list_of (metres_in bytes))) d.2.1.0 in omega (arith, ap (λ m. length (list_of m)) ms) in
      there c.tree c.metres some_are w.1 w.2 room,
  λ w. ap (λ o. o.answer.code)
      (ap (λ xs. metres_of_image xs out) (sym w.3) ∙ metres_read_lem (record { tree = w.0; metres = some w.1 }) w.2 out w.4),
)
  where
    there : (t : Tree) (m : Option (List ℕ)) → not (present m) ≡ false → FitImage (record { tree = t; metres = m }) → image (record { tree = t; metres = m }) ≡ bytes → length (list_of m) ≤ length out
        → (t : Tree) × (ms : List ℕ) × FitImage (P.measured t ms) × (image (P.measured t ms) ≡ bytes) × (nodes t ≤ length out)
    there t none f fit same room = let z : ◌≡◌ {A = ℕ} 0 1 = cc in absurd (omega arith)
    there t (some ms) f fit same room = (t, ms, fit, same, omega (arith, fit.measured.0))

-- the parent list that is read
read_parents : (bytes out : List ℕ) (t : Tree) → parents_of_image bytes out ≡ came_to (counts (nodes t) 0) (written (parents t) out)
    → take (parents_of_image bytes out).answer.first (parents_of_image bytes out).lent ≡ parents t
read_parents bytes out t e =
    ap (λ o. take o.answer.first o.lent) e ∙ take_at (parents t) (drop (length (parents t)) out) (nodes t) (length-parents t)

-- and the metres, if there are any
read_metres : (bytes out : List ℕ) (c : Content) → FitImage c → image c ≡ bytes → nodes c.tree ≤ length out → read_back (metres_of_image bytes out) ≡ c.metres
read_metres bytes out c fit e room = ap (λ xs. read_back (metres_of_image xs out)) (sym e) ∙ ap read_back (metres_read_lem c fit out room) ∙ back c.metres
  where
    back : (ms : Option (List ℕ)) → read_back (metres_back ms out) ≡ ms
    back none = refl
    back (some ms) = ap some (take_at ms (drop (length ms) out) (length ms) refl)

pub accepted_is_sealed : P.AcceptedIsSealed
accepted_is_sealed bytes out out' bytes' room e enough =
    let w = (image_read_exactly bytes out).0 e in
    let c = w.0 in
    let t = c.tree in
    let read = given_read bytes out c w.1 w.2 w.3 in
    let n : (parents_of_image bytes out).answer.first ≡ nodes t = ap (λ o. o.answer.first) read in
    let m = ap (λ xs. (check_image xs).answer.second) (sym w.2) ∙ ap (λ o. o.answer.second) (checked_of_tree c w.1) in
    ap₂ (λ ms ps. seal_by ms ps bytes') (read_metres bytes out' c w.1 w.2 (omega arith)) (read_parents bytes out t read)
    ∙ sealed_of_tree c bytes' w.1 (omega (arith, ap length w.2))
    ∙ ap₂ (λ n m. came_to (counts n m) (written (image c) bytes')) (sym n) (sym m)
    ∙ ap (λ xs. came_to (counts (parents_of_image bytes out).answer.first (check_image bytes).answer.second) (written xs bytes')) w.2

pub one_image_per_content : P.OneImagePerContent
one_image_per_content a b out out' e f same same-metres =
    let v = (image_read_exactly a out).0 e in
    let w = (image_read_exactly b out').0 f in
    let p = read_parents a out v.0.tree (given_read a out v.0 v.1 v.2 v.3) in
    let q = read_parents b out' w.0.tree (given_read b out' w.0 w.1 w.2 w.3) in
    let tree = parents_injective v.0.tree w.0.tree (sym p ∙ same ∙ q) in
    let metres = sym (read_metres a out v.0 v.1 v.2 v.3) ∙ same-metres ∙ read_metres b out' w.0 w.1 w.2 w.3 in
    sym v.2 ∙ ap image (one_content v.0 w.0 tree metres) ∙ w.2

-- ---- questions

and_both : (s t : Bool) → (s && t) ≡ true → (s ≡ true) × (t ≡ true)
and_both true t h = (refl, h)
and_both false t h = let z : ◌≡◌ {A = ℕ} 0 1 = cc in absurd (omega arith)

node_is : (n x : ℕ) → is_node n x ≡ true → (1 ≤ x) × (x ≤ n)
node_is n x e = let b = and_both (leb 1 x) (leb x n) e in (leb-true 1 x b.0, leb-true x n b.1)

is_node_lem : (n x : ℕ) → 1 ≤ x → x ≤ n → is_node n x ≡ true
is_node_lem n x g h = ap₂ ◌&&◌ (le-leb 1 x g) (le-leb x n h)

-- one question that is allowed
allowed_is : (n : ℕ) (metres : Bool) (q : Question) → allowed n metres q ≡ true → Allowed n metres q
unfolding allowed
allowed_is n metres q e =
    let b = and_both (is_node n (number_of q.node)) (allowed_kind metres (kind_of q.kind) q.argument) e in
    let x = node_is n (number_of q.node) b.0 in
    let k = go (kind_of q.kind) refl b.1 in
    (x.0, x.1, k)
  where
    go : (k : Option Asked) → kind_of q.kind ≡ k → allowed_kind metres k q.argument ≡ true
        → (asked : Asked) × (kind_of q.kind ≡ some asked) × Takes metres asked q.argument
    go none f g = let z : ◌≡◌ {A = ℕ} 0 1 = cc in absurd (omega arith)
    go (some (of_tree ask)) f g = (of_tree ask, f, g)
    go (some of_metres) f g = (of_metres, f, and_both metres (is_zero q.argument) g)

is_allowed : (n : ℕ) (metres : Bool) (q : Question) → Allowed n metres q → allowed n metres q ≡ true
unfolding allowed
is_allowed n metres q a =
    ap₂ ◌&&◌ (is_node_lem n (number_of q.node) a.0 a.1) (ap (λ k. allowed_kind metres k q.argument) a.2.1 ∙ go a.2.0 a.2.2)
  where
    go : (asked : Asked) → Takes metres asked q.argument → allowed_kind metres (some asked) q.argument ≡ true
    go (of_tree ask) h = h
    go of_metres h = ap₂ ◌&&◌ h.0 h.1

each-allowed : (n : ℕ) (metres : Bool) (qs : List Question) (i : ℕ) → not_allowed n metres qs i ≡ 0 → EachAllowed n metres qs
unfolding not_allowed
each-allowed n metres [] i h = tt
each-allowed n metres (q ∷ qs) i h = go (allowed n metres q) refl h (each-allowed n metres qs (suc i))
  where
    go : (b : Bool) → allowed n metres q ≡ b → cond b (not_allowed n metres qs (suc i)) (suc i) ≡ 0 → (not_allowed n metres qs (suc i) ≡ 0 → EachAllowed n metres qs)
        → EachAllowed n metres (q ∷ qs)
    go true e g rest = (allowed_is n metres q e, rest g)
    go false e g rest = absurd (omega arith)

none-refused : (n : ℕ) (metres : Bool) (qs : List Question) (i : ℕ) → EachAllowed n metres qs → not_allowed n metres qs i ≡ 0
unfolding not_allowed
none-refused n metres [] i a = refl
none-refused n metres (q ∷ qs) i a = ap (λ b. cond b (not_allowed n metres qs (suc i)) (suc i)) (is_allowed n metres q a.0) ∙ none-refused n metres qs (suc i) a.1

pub allowed_exactly : P.AllowedExactly
allowed_exactly n metres qs = (each-allowed n metres qs 0, none-refused n metres qs 0)

-- the x-th of a list
elem_is : (ms : List ℕ) (i : ℕ) → i < length ms → get_elem? ms i ≡ some (get_or ms i 0)
elem_is [] i h = absurd (omega arith)
elem_is (m ∷ ms) zero h = refl
elem_is (m ∷ ms) (suc i) h = elem_is ms i (omega arith)

entry_is : (ms : List ℕ) (x : ℕ) → 1 ≤ x → x ≤ length ms → get_elem? ms (x - 1) ≡ some (entry ms x)
entry_is ms zero h g = absurd (omega arith)
entry_is ms (suc x) h g = ap (get_elem? ms) (let e : suc x - 1 ≡ x = omega arith in e) ∙ elem_is ms x (omega arith)

-- an answer is the tree's own
own_answer : (c : Content) → FitImage c → (asked : Asked) (x : ℕ) (z : ℤ) → 1 ≤ x → x ≤ nodes c.tree → Takes (present c.metres) asked z
    → Answers c asked x z (answer_kind (parents c.tree) (list_of c.metres) (some asked) x z)
own_answer c fit (of_tree ask) x z h g takes = own-answers c.tree ask x h g z
own_answer c fit of_metres x z h g takes = go c.metres refl fit.measured takes.0
  where
    go : (m : Option (List ℕ)) → c.metres ≡ m → Measured (nodes c.tree) m → present m ≡ true
        → (ms : List ℕ) × (c.metres ≡ some ms) × (get_elem? ms (x - 1) ≡ some (entry (list_of c.metres) x))
    go none e m p = let z : ◌≡◌ {A = ℕ} 0 1 = cc in absurd (omega arith)
    go (some ms) e m p = (ms, e, entry_is ms x h (omega (arith, m.0)) ∙ ap (λ l. some (entry (list_of l) x)) (sym e))

all-given : (c : Content) → FitImage c → (qs : List Question) → EachAllowed (nodes c.tree) (present c.metres) qs
    → AllGiven c qs (map (answer_to (parents c.tree) (list_of c.metres)) qs)
unfolding answer_to
all-given c fit [] a = tt
all-given c fit (q ∷ qs) a =
    let x = number_of q.node in
    let asked = a.0.2.0 in
    let e = a.0.2.1 in
    let own = own_answer c fit asked x q.argument a.0.0 a.0.1 a.0.2.2 in
    ((asked, e, subst (λ k. Answers c asked x q.argument (answer_kind (parents c.tree) (list_of c.metres) k x q.argument)) (sym e) own), all-given c fit qs a.1)

pub asked : (c : Content) (qs : List ℤ) (out : List ℕ) → FitImage c → Askable c qs out
    → ask_image (image c) qs out ≡ came_to (counts (length (questions qs)) 0) (written (map (answer_to (parents c.tree) (list_of c.metres)) (questions qs)) out)
unfolding ask_image
asked c qs out h a =
    let ps = parents_in (image c) in
    let ms = metres_in (image c) in
    let bad : not_allowed (length ps) (present ms) (questions qs) 0 ≡ 0 = ap₂ (λ n m. not_allowed n (present m) (questions qs) 0) (count c h) (metres_in_lem c h) ∙ a.allowed in
    let size = length-map (questions qs) (answer_to ps (list_of ms)) in
    tree_passed c h (wrong_questions qs)
    (or_neither (not (eqb (length qs % 3) 0)) (ltb 256 (length qs / 3)) (equal (length qs % 3) 0 a.threes) (le-ltb 256 (length qs / 3) a.few)) out _ _ _
    ∙ settle_on _ _ _ _ _ (le-ltb 0 (not_allowed (length ps) (present ms) (questions qs) 0) (omega arith))
    ∙ settle_on _ _ _ _ _ (le-ltb (length out) (length (map (answer_to ps (list_of ms)) (questions qs))) (omega (arith, a.room)))
    ∙ settle-none _ _ _
    ∙ ap₂ (λ n xs. came_to (counts n 0) (written xs out)) size (ap₂ (λ qs' m. map (answer_to qs' (list_of m)) (questions qs)) (parents_in_lem c h) (metres_in_lem c h))

pub asked_of_content : P.AskedOfContent
asked_of_content c qs out h a = (
  map (answer_to (parents c.tree) (list_of c.metres)) (questions qs),
  asked c qs out h a,
  all-given c h (questions qs) (each-allowed (nodes c.tree) (present c.metres) (questions qs) 0 a.allowed),
)

pub asked_exactly : P.AskedExactly
unfolding ask_image
asked_exactly bytes qs out = (
  λ e.
      let ps = parents_in bytes in
      let ms = metres_in bytes in
      let d = rows_done out _ _ bytes (wrong_questions qs) _ (omega arith) e in
      let w = d.1 in
      let n : nodes w.0.tree ≡ length ps = sym (ap (λ xs. length (parents_in xs)) (sym w.2) ∙ count w.0 w.1) in
      let m : w.0.metres ≡ ms = sym (ap metres_in (sym w.2) ∙ metres_in_lem w.0 w.1) in
      let right = neither (not (eqb (length qs % 3) 0)) (ltb 256 (length qs / 3)) d.0 in
      let none = ltb-false 0 (not_allowed (length ps) (present ms) (questions qs) 0) d.2.0 in
      let room = ltb-false (length out) (length (map (answer_to ps (list_of ms)) (questions qs))) d.2.1.0 in
      let size = length-map (questions qs) (answer_to ps (list_of ms)) in (
        w.0,
        w.1,
        w.2,
        record {
          threes = not_unequal (length qs % 3) 0 right.0;
          few = ltb-false 256 (length qs / 3) right.1;
          allowed = ap₂ (λ k m. not_allowed k (present m) (questions qs) 0) n m ∙ omega arith;
          room = omega arith;
        },
      ),
  λ w. ap (λ xs. (ask_image xs qs out).answer.code) (sym w.2) ∙ ap (λ o. o.answer.code) (asked w.0 qs out w.1 w.3),
)

-- ---- listings

pub lists_length : (t : Tree) (d : ℕ) (vs : List Node) (ns : List ℕ) → Lists t d vs ns → length ns ≡ 2 * length vs
lists_length t d [] [] l = refl
lists_length t d [] (n ∷ ns) l = absurd l
lists_length t d (v ∷ vs) [] l = absurd l
lists_length t d (v ∷ vs) (x ∷ []) l = absurd l
lists_length t d (v ∷ vs) (x ∷ e ∷ ns) l = omega (arith, lists_length t d vs ns l.2)

-- by what the listing takes
measured : (d n : ℕ) (pairs out : List ℕ)
    → settle out (9 at d when ltb 0 d ∷ 1 at 0 when too_short pairs out ∷ []) (counts n 0) (written pairs out) ≡ measured_outcome (sized d n) pairs out
measured zero n pairs out = settle_on _ _ _ _ _ (le-ltb 0 0 (omega arith))
measured (suc y) n pairs out = settle-here _ _ _ _ _ (lt-ltb 0 (suc y) (omega arith))

named : (d n : ℕ) (pairs out : List ℕ) → (d ≡ 0 → ⊥) → measured_outcome (sized d n) pairs out ≡ came_to (refused_with 9 d) out
named zero n pairs out h = absurd (h refl)
named (suc y) n pairs out h = refl

pub listed_by_measure : P.ListedByMeasure
unfolding list_image size_of
listed_by_measure c x out h from to =
    tree_passed c h false refl out _ _ _
    ∙ settle_on _ _ _ _ _ (ap not (is_node_lem (length (parents_in (image c))) x from (omega (arith, count c h))))
    ∙ measured _ _ _ _
    ∙ ap (λ ps. measured_outcome (size_of (listing 65 ps x 0)) (listing 65 ps x 0) out) (parents_in_lem c h)

pub listed_of_tree : P.ListedOfTree
unfolding size_of
listed_of_tree c x out h l =
    let t = c.tree in
    let pairs = listing 65 (parents t) x 0 in
    let v = node_at t x in
    let own = own_listing t x l.from l.to in
    let none = own.0.1 l.shallow in
    let lists = own.1 none in
    let size = lists_length t (depth v) (everything v) pairs lists in
    let half : length pairs / 2 ≡ length (everything v) = omega arith in (
      pairs,
      listed_by_measure c x out h l.from l.to
          ∙ ap₂ (λ d n. measured_outcome (sized d n) pairs out) none half
          ∙ settle_on _ _ _ _ _ (le-ltb (length out) (length pairs) (omega (arith, l.room)))
          ∙ settle-none _ _ _,
      lists,
    )

pub too_deep_is_named : P.TooDeepIsNamed
unfolding size_of
too_deep_is_named c x out h from to deeper =
    let t = c.tree in
    let pairs = listing 65 (parents t) x 0 in
    let own = own_listing t x from to in
    let some : deep pairs ≡ 0 → ⊥ = λ e. deeper (own.0.0 e) in
    (deep pairs, listed_by_measure c x out h from to ∙ named (deep pairs) (length pairs / 2) pairs out some, own.2 some)

pub listed_exactly : P.ListedExactly
unfolding list_image
listed_exactly bytes x out = (
  λ e.
      let ps = parents_in bytes in
      let d = rows_done out _ _ bytes false _ (omega arith) e in
      let w = d.1 in
      let t = w.0.tree in
      let v = node_at t x in
      let read : ps ≡ parents t = ap parents_in (sym w.2) ∙ parents_in_lem w.0 w.1 in
      let n = ap length read ∙ length-parents t in
      let node = node_is (length ps) x (not-false (is_node (length ps) x) d.2.0) in
      let own = own_listing t x node.0 (omega (arith, node.1)) in
      let same = ap (λ qs. listing 65 qs x 0) read in
      let none : deep (listing 65 (parents t) x 0) ≡ 0 = ap deep (sym same) ∙ (let l = ltb-false 0 (deep (listing 65 ps x 0)) d.2.1.0 in omega arith) in
      let size = lists_length t (depth v) (everything v) (listing 65 (parents t) x 0) (own.1 none) in
      let room = ltb-false (length out) (length (listing 65 ps x 0)) d.2.1.1.0 in (
        w.0,
        w.1,
        w.2,
        record { from = node.0; to = omega (arith, node.1); shallow = own.0.0 none; room = omega (arith, ap length same) },
      ),
  λ w. ap (λ xs. (list_image xs x out).answer.code) (sym w.2) ∙ ap (λ o. o.answer.code) (listed_of_tree w.0 x out w.1 w.3).1,
)
