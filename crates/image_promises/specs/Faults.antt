-- What the refusal names of bytes that no tree gives, with metres or without, whose size and sums
-- are right (document 02, item 1, "Say what is wrong with an image").
-- Each name is a statement; proofs/Faults.antt has a proof of each.
use Rattle.std.specs.Prelude.{Err, ◌≡◌, false, cond, List, ◌⊎◌, ◌↔◌, ℕ, ◌+◌, ◌*◌, ◌/◌, ◌%◌, ◌≤◌, ◌<◌, length, get_or, take}
use Rattle.meaning.specs.Trees.{Tree, nodes}
use Rattle.meaning.specs.Strings.{lbs, R1, R0}
use Rattle.meaning.specs.Blocks.{blocks_in, wrong_block}
use Rattle.meaning.specs.Image.{Content, FitImage, blocks_of_samples, r1_samples, image, header_word, metres_in}
use Rattle.meaning.specs.Faults.{is_header, r1_in, r0_in}
use Rattle.meaning.specs.Answers.{refused_with, came_to}
use Rattle.meaning.specs.Tests.{outside, wrong_size}
use Rattle.calls.specs.Calls.{check_image}
use Rattle.theory.specs.Rank.{with_children}
use Rattle.theory.specs.Layout.{AreBytes}
use Rattle.theory.specs.Stages.{Known}
use Rattle.image_found.specs.declared.Fault.{Fault}
use Rattle.image_found.specs.declared.Fault.TheVariants.{Version, Header}
use Rattle.image_found.specs.Checked.{answered, numbered, fault_in}

-- size and sums are right: neither code 2 nor code 6 is given
pub record Checks (bytes : List ℕ) : Type 0 where
  pub size : wrong_size bytes ≡ false
  pub sums : wrong_block bytes ≡ blocks_in bytes

-- the check refuses with this code and place
abbrev pub Refuses : List ℕ → ℕ → ℕ → Type 0
Refuses bytes code place = check_image bytes ≡ came_to (refused_with code place) tt

-- a tree, with metres or without, whose image has this length and this header
pub record HasHeader (c : Content) (bytes : List ℕ) : Type 0 where
  pub fit : FitImage c
  pub long : length (image c) ≡ length bytes
  pub same : take 504 (image c) ≡ take 504 bytes

-- and whose strings the blocks have
pub record HasStrings (c : Content) (bytes : List ℕ) : Type 0 where
  pub header : HasHeader c bytes
  pub first : R1 (lbs c.tree) ≡ r1_in bytes
  pub second : R0 (lbs c.tree) ≡ r0_in bytes

-- and whose metres, if it has any
pub record HasMetres (c : Content) (bytes : List ℕ) : Type 0 where
  pub strings : HasStrings c bytes
  pub metres : c.metres ≡ metres_in bytes

-- ---- 11, 12, 13.

-- a version other than 1 and 2
abbrev pub VersionNamed : Type 0
VersionNamed = (bytes : List ℕ) → Checks bytes → Refuses bytes 11 0 ↔ ((header_word bytes 0 ≡ 1 → ⊥) × (header_word bytes 0 ≡ 2 → ⊥))

-- header numbers, taken together, or a reserved word that no tree of this image length has, with
-- metres or without
abbrev pub HeaderNamed : Type 0
HeaderNamed = (bytes : List ℕ) → Checks bytes → Refuses bytes 12 0 ↔ (Known (header_word bytes 0) × ((c : Content) → HasHeader c bytes → ⊥))

-- strings that no tree with this n and m gives; the place is the first R1 block
abbrev pub StringsNamed : Type 0
StringsNamed = (bytes : List ℕ) → Checks bytes → Refuses bytes 13 1 ↔ (((c : Content) × HasHeader c bytes) × ((c : Content) → HasStrings c bytes → ⊥))

-- metres are never wrong: where header and strings are some tree's, they are its with the metres
-- that the blocks have
abbrev pub MetresNeverWrong : Type 0
MetresNeverWrong = (bytes : List ℕ) → AreBytes bytes → Checks bytes → (c : Content) → HasStrings c bytes → HasMetres (record { tree = c.tree; metres = metres_in bytes }) bytes

-- ---- 14, 15: word by word against the image of the tree that has header, strings and metres.

-- the four bytes of word w of block b are the same
abbrev pub SameWord : List ℕ → List ℕ → ℕ → ℕ → Type 0
SameWord x y b w = (k : ℕ) → k < 4 → get_or x (512 * b + 4 * w + k) 0 ≡ get_or y (512 * b + 4 * w + k) 0

-- of (m + 63) / 64 samples from block `from` on, 126 to a block, one is word w of block b
abbrev pub SampleIn : ℕ → ℕ → ℕ → ℕ → Type 0
SampleIn from m b w = (q : ℕ) × (q < (m + 63) / 64) × (b ≡ from + q / 126) × (w ≡ q % 126)

-- word w of block b is a sample of R1 or of R0
abbrev pub IsSample : Tree → ℕ → ℕ → Type 0
IsSample t b w =
    let m = with_children t + 1 in
    let from = r1_samples (nodes t) in
    SampleIn from m b w ⊎ SampleIn (from + blocks_of_samples m) m b w

-- block b has the words of the image: all of them, or all that are no samples
abbrev pub SameWords : Content → List ℕ → ℕ → Type 0
SameWords c bytes b = (w : ℕ) → w < 126 → SameWord (image c) bytes b w

abbrev pub SameButSamples : Content → List ℕ → ℕ → Type 0
SameButSamples c bytes b = (w : ℕ) → w < 126 → (IsSample c.tree b w → ⊥) → SameWord (image c) bytes b w

-- block b is the lowest that is not so
pub record LowestNot (P : ℕ → Type 0) (blocks b : ℕ) : Type 0 where
  pub there : b < blocks
  pub lower : (c : ℕ) → c < b → P c
  pub not : P b → ⊥

-- a wrong count of earlier ones or unused payload not zero, behind the metres too: the lowest block
-- with a word that is no sample and not the tree's
abbrev pub CountsNamed : Type 0
CountsNamed = (bytes : List ℕ) (c : Content) → Checks bytes → HasMetres c bytes → (b : ℕ) → Refuses bytes 14 b ↔ LowestNot (SameButSamples c bytes) (blocks_in bytes) b

-- wrong samples: there is no such block, and the lowest with a word that is not the tree's
abbrev pub SamplesNamed : Type 0
SamplesNamed = (bytes : List ℕ) (c : Content) → Checks bytes → HasMetres c bytes → (b : ℕ)
    → Refuses bytes 15 b ↔ (((d : ℕ) → d < blocks_in bytes → SameButSamples c bytes d) × LowestNot (SameWords c bytes) (blocks_in bytes) b)

-- ---- All.

-- what is wrong: the version, else the header, else what lies after it
abbrev pub fault_of : List ℕ → Fault
fault_of bytes = cond (outside 1 2 (header_word bytes 0)) Version (cond (is_header bytes) (fault_in bytes) Header)

-- bytes of right size and sums that are not accepted are refused by the code and place of what is
-- wrong
abbrev pub RefusedByFault : Type 0
RefusedByFault = (bytes : List ℕ) → Checks bytes → ((check_image bytes).answer.code ≡ 0 → ⊥)
    → came_to (answered (Err (numbered (fault_of bytes)))) tt ≡ check_image bytes

-- which is one of the five codes
abbrev pub OneOfFive : Type 0
OneOfFive = (bytes : List ℕ) → Checks bytes
    → let c = (check_image bytes).answer.code in
    (c ≡ 0 → ⊥) → (c ≡ 11) ⊎ (c ≡ 12) ⊎ (c ≡ 13) ⊎ (c ≡ 14) ⊎ (c ≡ 15)
