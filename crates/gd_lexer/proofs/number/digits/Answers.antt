use Rattle.std.proofs.Common.{◌∙◌, sym}
use Rattle.gd_lexer.specs.Number.{radix}
use Rattle.gd_lexer.proofs.FollowsLemmas.{Follows-trans}
use Rattle.gd_lexer.proofs.NumberLemmas.{value_more, after_digits_more}
use Rattle.gd_lexer.proofs.number.digits.Goals as goal

pub loop-part-preserved : goal.loop-part-preserved
loop-part-preserved c =
    let goes_on = sym c.in-Some.is ∙ c.next_part.ensures in
    let value = value_more c.loop-part.cursor.glyphs c.loop-part.value (radix c.args.base) c.in-Some.part goes_on in
    let rest = after_digits_more c.loop-part.cursor.glyphs (radix c.args.base) c.in-Some.part goes_on in
    record {
      follows = Follows-trans _ _ _ c.loop-part.invariant.follows c.advance.ensures.follows;
      small = c.extend-value.ensures.small;
      value = rw (c.extend-value.ensures.value, c.advance.ensures.rest) (sym value ∙ c.loop-part.invariant.value);
      rest = rw c.advance.ensures.rest (sym rest ∙ c.loop-part.invariant.rest);
    }
