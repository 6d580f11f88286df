use Prim.Native.Nat.{◌+◌, ◌/◌}
use native.Mathlib.Omega.{arith}
use Rattle.image_string.specs.Parts.{ZeroBytes, Unused}
use Rattle.image_string.proofs.Saying.{decides_same}
use Rattle.image_string.proofs.Blanks.{blank_bits, blank_bytes, rest-shifted, rest_blank, blank_rest}
use Rattle.check_ends.proofs.rest_zero.Goals as goal

pub returns-then-used-eq0 : goal.returns-then-used-eq0
returns-then-used-eq0 c =
    let all-zero = c.all_zero in
    let a = c.args in
    decides_same all-zero.result (ZeroBytes a.b.now (a.at + a.used / 8) (a.at + 500)) (Unused a.b.now a.at a.used)
    (λ z i h g. blank_bits a.b.now a.at (a.used / 8) z i (omega arith) g)
    (λ u. blank_bytes a.b.now (λ i l. omega (arith, c.type_inv.b i)) a.at (a.used / 8) (λ i h g. u i (omega arith) g))
    all-zero.ensures

pub returns-then-b-at-ne0 : goal.returns-then-b-at-ne0
returns-then-b-at-ne0 c =
    let a = c.args in
    λ u. c.if-b-at-ne0.true
    (rest-shifted a.b.now (λ i l. omega (arith, c.shared_slice_known-1.given i)) a.at a.used c.if-used-eq0.false (omega arith) u)

pub returns : goal.returns
returns c =
    let all-zero2 = c.all_zero-2 in
    let shared-slice-known = c.shared_slice_known-1 in
    let a = c.args in
    decides_same all-zero2.result (ZeroBytes a.b.now (a.at + a.used / 8 + 1) (a.at + 500)) (Unused a.b.now a.at a.used)
    (rest_blank a.b.now (λ i l. omega (arith, shared-slice-known.given i)) a.at a.used c.if-used-eq0.false c.if-b-at-ne0.false)
    (blank_rest a.b.now (λ i l. omega (arith, shared-slice-known.given i)) a.at a.used) all-zero2.ensures
