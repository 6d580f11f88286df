use mathlib.Core.Path.{◌≡◌, ap₂, ◌∙◌}
use mathlib.Core.List.{◌∷◌, []}
use Prim.Native.Nat.{ℕ, ◌+◌, ◌-◌, ◌*◌, ◌/◌, ◌%◌, ◌^◌, ◌≤◌}
use native.Mathlib.Omega.{arith}
use Rattle.std.proofs.Common.{rules}
use lib.Bits.{bit_or}
use lib.ListN.{length, set, take, length-take}
use Rattle.theory.specs.Layout.{AreBytes}
use Rattle.theory.proofs.Packing.{bits-length}
use Rattle.bits_byte.specs.Byte.{byte_bits}
use Rattle.bits_append.proofs.Writing.{append-within, append_across}
use Rattle.bits_append.proofs.append.Goals as goal

-- as many new bits as are asked for
new-length : (x n : ℕ) → n ≤ 8 → length (take n (byte_bits x)) ≡ n
new-length x n h = let l = bits-length (x ∷ []) 0 8 in omega (arith, length-take n (byte_bits x))

pub returns-then-r-n-gt8 : goal.returns-then-r-n-gt8
returns-then-r-n-gt8 c =
    let a = c.args in
    let at = a.at in
    let new = take a.n (byte_bits a.x) in
    let bytes : AreBytes a.buf.now = λ i l. search rules in
    let l : length new ≡ a.n = new-length a.x a.n (omega arith) in
    ap₂ (λ x y. set (set a.buf.now (at / 8) (bit_or x (y / 2 ^ (at % 8)))) (at / 8 + 1) (y * 2 ^ (8 - at % 8) % 256))
    c.keep.ensures c.keep-new.ensures
    ∙ append_across a.buf.now at new bytes (omega arith) (omega arith) (omega arith)

pub returns-else-r-n-gt8 : goal.returns-else-r-n-gt8
returns-else-r-n-gt8 c =
    let a = c.args in
    let at = a.at in
    let new = take a.n (byte_bits a.x) in
    let bytes : AreBytes a.buf.now = λ i l. search rules in
    let l : length new ≡ a.n = new-length a.x a.n (omega arith) in
    ap₂ (λ x y. set a.buf.now (at / 8) (bit_or x (y / 2 ^ (at % 8)))) c.keep.ensures c.keep-new.ensures
    ∙ append-within a.buf.now at new bytes (omega arith) (omega arith) (omega arith)
