use Rattle.std.proofs.Common.{rules}
use mathlib.Core.Path.{◌≡◌, sym, ap, ◌∙◌}
use lib.ListN.{length}
use native.Mathlib.Omega.{arith}
use Rattle.meaning.specs.Answers.{written}
use Rattle.outline_text.proofs.Putting.{written_first}
use Rattle.outline_page.specs.Outline.{outline_of}
use Rattle.outline_page.proofs.outline.Goals as goal

pub put_outline-requires : goal.put_outline-requires
put_outline-requires c = record {
  pairs = c.requires.in_bounds;
  room = omega (arith, c.requires.in_bounds_2, ap length c.new-page.ensures.held, c.new-page.ensures.first);
}

-- the page's text is the lent one
pub returns-clause-text_after : goal.returns-clause-text_after
returns-clause-text_after c =
    let o = outline_of c.args.b.now in
    let same = sym (c.put_outline.ensures.same_text ∙ c.new-page.ensures.same_text) in
    let text : c.put_outline.new.page.text.now ≡ written o c.args.text.now =
    (written_first c.new-page.ensures.first c.put_outline.ensures).0 ∙ ap (written o) c.new-page.ensures.held in
    search rules

pub returns-clause-value : goal.returns-clause-value
returns-clause-value c = (written_first c.new-page.ensures.first c.put_outline.ensures).1
