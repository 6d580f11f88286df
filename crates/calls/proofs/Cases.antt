-- Every row of the table of cases, by computation.
use mathlib.Core.Path.{◌≡◌, refl}
use mathlib.Core.List.{map}
use Rattle.meaning.specs.Trees.{levels, level_order, degrees}
use Rattle.meaning.specs.Parents.{parents, bad_entry}
use Rattle.meaning.specs.Strings.{R1, parents_of, string_of}
use Rattle.meaning.specs.Bytes.{bits_from, leftover, packed}
use Rattle.meaning.specs.Scan.{place}
use Rattle.meaning.specs.Packs.{starts, sizes}
use Rattle.meaning.specs.Blocks.{wrong_block}
use Rattle.meaning.specs.Image.{image_of_string, header_word, parents_in, metres_in}
use Rattle.meaning.specs.Faults.{is_header, are_strings, wrong_kept, wrong_sample}
use Rattle.meaning.specs.Questions.{not_allowed, answer_to}
use Rattle.meaning.specs.Listing.{listing, deep}
use Rattle.meaning.specs.Brackets.{tree_in, nested, bracketing}
use Rattle.meaning.specs.Text.{text_of, brackets_in, read_text}
use Rattle.meaning.specs.Answers.{first_holding, settle}
use Rattle.meaning.specs.Tests.{wrong_to_split, wrong_to_join, parent_rows, check_rows, pack_rows}
use Rattle.calls.specs.Calls.{string_of_parents, parents_of_string, seal_parents, image_of_parents, image_with_metres, check_image}
use Rattle.calls.specs.Calls.{parents_of_image, metres_of_image, ask_image, list_image, split_pack, join_pack, parents_of_text, text_of_parents, does}
use Rattle.calls.specs.Cases.{cases, Case}

pub cases_hold : map (λ (c : Case). does c.call) cases ≡ map (λ (c : Case). c.back) cases
unfolding cases does string_of_parents parents_of_string seal_parents image_of_parents image_with_metres check_image parents_of_image metres_of_image ask_image list_image split_pack join_pack
    parents_of_text text_of_parents
    wrong_to_split wrong_to_join parent_rows check_rows pack_rows first_holding settle
    bad_entry R1 parents_of string_of bits_from leftover packed place starts sizes wrong_block
    image_of_string header_word is_header are_strings wrong_kept wrong_sample parents_in metres_in not_allowed answer_to listing deep
    levels level_order degrees parents tree_in nested bracketing text_of brackets_in read_text
cases_hold = refl
