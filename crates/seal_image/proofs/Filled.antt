-- Payloads filled as they must be, and then sealed, are the image.
use mathlib.Core.Path.{◌≡◌, sym, ap, ap₂, ◌∙◌, subst}
use mathlib.Core.List.{List, [], ◌++◌}
use mathlib.Core.Option.{Option}
use Prim.Native.Nat.{ℕ, ◌+◌, ◌-◌, ◌*◌, ◌≤◌, ◌<◌}
use native.Mathlib.Omega.{arith}
use lib.ListN.{length, get_or, drop, length-drop, get_or-eq_default}
use lib.Seq.{ext_get_or, get_or-drop}
use Rattle.meaning.specs.Answers.{written}
use Rattle.meaning.specs.Parents.{IsParents}
use Rattle.meaning.specs.Strings.{Bit, O, R1, R0, string_of}
use Rattle.meaning.specs.Blocks.{sum_start, sealed}
use Rattle.meaning.specs.Image.{Measured, list_of, word_blocks, string_blocks, samples, image_of_parts, image_of_string}
use Rattle.theory.specs.Layout.{AreBytes, word_at, sample_place, string_word, list_word, sample_word, start_r0, start_s1, start_s0, start_metres, total}
use Rattle.theory.specs.Stages.{CountsAndPadding}
use Rattle.theory.proofs.Digits.{take_bytes, drop_bytes, word_at-take, word_at-drop}
use Rattle.theory.proofs.Sealing.{length-sealed, sealed_bytes, sealed-word, sealed_checks}
use Rattle.theory.proofs.Images.{measured-held, unlaid, parts_size}
use Rattle.theory.proofs.Stages.{word_is}
use Rattle.seal_sums.specs.Sealed.{payloads_in}
use Rattle.seal_sums.proofs.Laws.{length-payloads_in, payloads_in-at}
use Rattle.seal_r1.specs.Passes.{Part}
use Rattle.seal_frame.specs.Filled.{Counts, Filled}
use Rattle.seal_frame.specs.Passes.{blocks_for, Prepared}
use Rattle.seal_r1_bits.proofs.Entries.{sizes}
use Rattle.seal_r0.proofs.Parting.{part_string}
use Rattle.seal_image.proofs.Preparing.{blocks-total}

-- ---- sealed payloads

payload_bytes : (bytes : List ℕ) (k : ℕ) → AreBytes bytes → (j : ℕ) → j < length (payloads_in bytes k) → AreBytes (get_or (payloads_in bytes k) j [])
payload_bytes bytes k h j g =
    subst AreBytes (sym (payloads_in-at bytes k j (omega (arith, length-payloads_in bytes k)))) (take_bytes 504 (drop (512 * j) bytes) (drop_bytes (512 * j) bytes h))

-- a payload word is where it was
word_kept : (bytes : List ℕ) (k j w : ℕ) → j < k → w < 126 → word_at (sealed sum_start (payloads_in bytes k) 0) (512 * j + 4 * w) ≡ word_at bytes (512 * j + 4 * w)
word_kept bytes k j w h g =
    sealed-word sum_start (payloads_in bytes k) j w (omega (arith, length-payloads_in bytes k)) g
    ∙ ap (λ p. word_at p (4 * w)) (payloads_in-at bytes k j h)
    ∙ word_at-take 504 (drop (512 * j) bytes) (4 * w) (omega arith) ∙ word_at-drop (512 * j) bytes (4 * w)

-- ---- a string's words

string-words : (bytes : List ℕ) (from at S : ℕ) (r : List Bit) → AreBytes bytes → 512 * (from + string_blocks (length r)) ≤ length bytes
    → Part bytes from (string_blocks (length r)) at S r → Counts bytes from r
    → (j w : ℕ) → j < string_blocks (length r) → w < 126 → word_at bytes (512 * (from + j) + 4 * w) ≡ string_word r j w
string-words bytes from at S r are fits p c j w h g =
    let e = part_string bytes from at S r p in
    let k : CountsAndPadding bytes from r = record { counts = c; unused = λ i l m. p.bits i m ∙ get_or-eq_default r O l } in
    word_is bytes are from (length r) fits (subst (CountsAndPadding bytes from) (sym e) k) j w h g ∙ ap (λ s. string_word s j w) e

-- ---- the words of a list of numbers, and of a string's samples

list_words : (bytes : List ℕ) (at S : ℕ) (ws : List ℕ) → ((w : ℕ) → w < 126 * S → word_at bytes (sample_place at w) ≡ get_or ws w 0)
    → (j w : ℕ) → j < S → w < 126 → word_at bytes (512 * (at + j) + 4 * w) ≡ list_word ws j w
list_words bytes at S ws p j w h g =
    ap (word_at bytes) (let e : 512 * (at + j) + 4 * w ≡ sample_place at (126 * j + w) = omega arith in e) ∙ p (126 * j + w) (omega arith)

sample_words : (bytes : List ℕ) (at S : ℕ) (r : List Bit) → ((w : ℕ) → w < 126 * S → word_at bytes (sample_place at w) ≡ get_or (samples r) w 0)
    → (j w : ℕ) → j < S → w < 126 → word_at bytes (512 * (at + j) + 4 * w) ≡ sample_word r j w
unfolding sample_word
sample_words bytes at S r p j w h g = list_words bytes at S (samples r) p j w h g

-- ---- the image

pub filled_image : (bytes : List ℕ) (ms : Option (List ℕ)) (a b : List Bit) → AreBytes bytes → 512 * total ms a b ≤ length bytes → length a ≤ 65535 → length b ≤ 65536
    → Measured (length a) ms → Filled bytes ms a b → sealed sum_start (payloads_in bytes (total ms a b)) 0 ≡ image_of_parts ms a b
filled_image bytes ms a b are room la lb measured f =
    let t = total ms a b in
    let ps = payloads_in bytes t in
    let n = length-payloads_in bytes t in
    unlaid (sealed sum_start ps 0) ms a b la lb measured (sealed_bytes sum_start ps 0 (payload_bytes bytes t are)) (record {
      size = length-sealed sum_start ps 0 ∙ ap (λ k. 512 * k) n;
      sums = sealed_checks ps ∙ n;
      head = λ w g. ap (word_at (sealed sum_start ps 0)) (let e : 4 * w ≡ 512 * 0 + 4 * w = omega arith in e) ∙ word_kept bytes t 0 w (omega arith) g
          ∙ ap (word_at bytes) (let e : 512 * 0 + 4 * w ≡ 4 * w = omega arith in e) ∙ f.head w g;
      in_r1 = λ j w h g. word_kept bytes t (1 + j) w (omega arith) g
          ∙ string-words bytes 1 (start_s1 a b) (word_blocks (length (samples a))) a are (omega arith) f.parts.first f.counts1 j w (omega arith) g;
      in_r0 = λ j w h g. word_kept bytes t (start_r0 a b + j) w (omega arith) g
          ∙ string-words bytes (start_r0 a b) (start_s0 a b) (word_blocks (length (samples b))) b are (omega arith) f.parts.second f.counts0 j w (omega arith) g;
      in_s1 = λ j w h g. word_kept bytes t (start_s1 a b + j) w (omega arith) g
          ∙ sample_words bytes (start_s1 a b) (word_blocks (length (samples a))) a f.parts.first.words j w (omega arith) g;
      in_s0 = λ j w h g. word_kept bytes t (start_s0 a b + j) w (omega arith) g
          ∙ sample_words bytes (start_s0 a b) (word_blocks (length (samples b))) b f.parts.second.words j w (omega arith) g;
      in_metres = λ j w h g. word_kept bytes t (start_metres a b + j) w h g
          ∙ list_words bytes (start_metres a b) (word_blocks (length (list_of ms))) (list_of ms) f.metres j w (omega arith) g;
    })

-- ---- the payloads of a parent list

pub prepared_sealed : (old bytes : List ℕ) (ms : Option (List ℕ)) (ps : List ℕ) (t : ℕ) → IsParents ps → length ps ≤ 65535 → Measured (length ps) ms → AreBytes bytes
    → length bytes ≡ length old → t ≡ blocks_for ms ps → 512 * t ≤ length old → Prepared old bytes ms ps
    → sealed sum_start (payloads_in bytes t) 0 ++ drop (512 * t) bytes ≡ written (image_of_string ms (string_of ps)) old
unfolding image_of_string
prepared_sealed old bytes ms ps t are most measured ab l e room p =
    let a = R1 (string_of ps) in
    let b = R0 (string_of ps) in
    let s = sizes ps are in
    let f : t ≡ total ms a b = e ∙ blocks-total ms ps (measured-held (length ps) ms measured) are in
    let la = s.long1 in
    let lb = s.long0 in
    let size = parts_size ms a b in
    let same : drop (512 * t) bytes ≡ drop (512 * t) old =
    ext_get_or 0 (drop (512 * t) bytes) (drop (512 * t) old) (length-drop (512 * t) bytes ∙ ap (λ n. n - 512 * t) l ∙ sym (length-drop (512 * t) old))
    (λ i h. get_or-drop (512 * t) bytes i 0 ∙ p.tail (512 * t + i) (omega arith) ∙ sym (get_or-drop (512 * t) old i 0)) in
    ap₂ ◌++◌
    (ap (λ k. sealed sum_start (payloads_in bytes k) 0) f
    ∙ filled_image bytes ms a b ab (omega arith) (omega arith) (omega arith) (subst (λ n. Measured n ms) (sym la) measured) p.filled)
    (same ∙ ap (λ k. drop k old) (let g : 512 * t ≡ length (image_of_parts ms a b) = omega arith in g))
