-- What the whole check of an image finds, and the documents' numbers for it (document 01, "Numbers
-- a caller gets back", and document 02, item 1).
use Rattle.std.specs.Prelude.{Result, Ok, Err, false, cond, List, ℕ, ltb}
use Rattle.meaning.specs.declared.Answer.{Answer}
use Rattle.meaning.specs.declared.Refusal.{Refusal}
use Rattle.meaning.specs.Answers.{Verdict, refused_with, counts, first_holding}
use Rattle.meaning.specs.Tests.{check_rows}
use Rattle.meaning.specs.Faults.{are_strings, wrong_kept, wrong_sample}
pub use Rattle.image_layout.specs.Layout.{layout_in}
use Rattle.image_layout.specs.declared.Layout.{Layout}
use Rattle.image_found.specs.declared.Fault.{Fault}
use Rattle.image_found.specs.declared.Fault.TheVariants.{Version, Header, Strings, Counts, Samples}

-- what the check finds: the layout of a sound image, or the refusal
abbrev pub Checked : Type 0
Checked = Result Layout Refusal

-- a layout, unless some row refuses it
abbrev pub found_by : Verdict → Layout → Checked
found_by (Ok _) layout = Ok layout
found_by (Err r) layout = Err r

-- the rows of the check
unfoldable pub checked : List ℕ → Checked
checked bytes = found_by (first_holding (check_rows bytes false)) (layout_in bytes)

-- what is answered: the counts of an image that is sound, or the refusal
abbrev pub answered : Checked → Answer
answered (Ok i) = counts i.nodes i.runs
answered (Err r) = refused_with r.code r.place

-- code and place of what is wrong: for the strings the first block of R1
abbrev pub numbered : Fault → Refusal
numbered Version = record { code = 11; place = 0 }
numbered Header = record { code = 12; place = 0 }
numbered Strings = record { code = 13; place = 1 }
numbered (Counts b) = record { code = 14; place = b }
numbered (Samples b) = record { code = 15; place = b }

-- what is wrong where version and header are right: the strings, else the counts and unused
-- payload, else the samples
unfoldable pub fault_in : List ℕ → Fault
fault_in bytes = cond (are_strings bytes) (cond (ltb 0 (wrong_kept bytes)) (Counts (wrong_kept bytes)) (Samples (wrong_sample bytes))) Strings
