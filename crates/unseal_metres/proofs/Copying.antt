-- The metres copied one by one: what the loops keep, and what they come to.
use mathlib.Core.Path.{◌≡◌, sym, ap, ◌∙◌}
use mathlib.Core.List.{List, ◌++◌}
use Prim.Native.Nat.{ℕ, ◌+◌, ◌-◌, ◌≤◌, ◌<◌}
use native.Mathlib.Decide.{dec_lt}
use native.Mathlib.Omega.{arith}
use lib.ListN.{length, get_or, drop, length-append, length-drop, get_or-append}
use lib.Seq.{ext_get_or, get_or-drop, get_or-append-add}
use Rattle.meaning.specs.Answers.{written}
use Rattle.meaning.specs.Image.{numbers_in}
use Rattle.theory.specs.Layout.{sample_in}
use Rattle.theory.proofs.TreeImages.{length-numbers_in, numbers_in-at}

-- the first i of them are copied, and the rest of the list is as it was
pub record Copying (bytes : List ℕ) (block : ℕ) (old out : List ℕ) (i : ℕ) : Type 0 where
  pub words : (v : ℕ) → v < i → get_or out v 0 ≡ sample_in bytes block v
  pub rest : (v : ℕ) → i ≤ v → get_or out v 0 ≡ get_or old v 0
  pub kept : length out ≡ length old

module _ (bytes : List ℕ) (block : ℕ) (old out : List ℕ) (i n : ℕ) (c : Copying bytes block old out i) (all : i ≡ n) (room : n ≤ length old) where
  ws : List ℕ
  ws = numbers_in bytes block 0 n

  long : length ws ≡ n
  unfolding ws
  long = length-numbers_in bytes block 0 n

  same : (v : ℕ) → v < length out → get_or out v 0 ≡ get_or (ws ++ drop (length ws) old) v 0
  unfolding ws
  same v h = elim (dec_lt v n) [
    | yes l ↦ c.words v (omega arith) ∙ ap (sample_in bytes block) (let f : v ≡ 0 + v = omega arith in f) ∙ sym (numbers_in-at bytes block 0 n v l)
        ∙ sym (get_or-append ws (drop (length ws) old) 0 v (omega (arith, long)))
    | no l ↦ c.rest v (omega arith)
        ∙ ap (λ k. get_or old k 0) (let f : v ≡ length ws + (v - length ws) = omega (arith, long) in f)
        ∙ sym (get_or-drop (length ws) old (v - length ws) 0) ∙ sym (get_or-append-add ws (drop (length ws) old) (v - length ws) 0)
        ∙ ap (λ k. get_or (ws ++ drop (length ws) old) k 0) (let f : length ws + (v - length ws) ≡ v = omega (arith, long) in f)
  ]

  pub copying_last : out ≡ written (numbers_in bytes block 0 n) old
  unfolding ws
  copying_last =
      ext_get_or 0 out (ws ++ drop (length ws) old) (omega (arith, c.kept, long, length-append ws (drop (length ws) old), length-drop (length ws) old)) same
