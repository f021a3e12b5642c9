use Rattle.std.proofs.Common.{sym, ◌∙◌}
use Rattle.constant_store.proofs.Read.{char_read}
use Rattle.constant_store.proofs.reading.character_at.Goals as goal

pub returns-in_ok-one-in-Some : goal.returns-in_ok-one-in-Some
returns-in_ok-one-in-Some c =
    char_read c.chars-chars.result.now c.args.chars.now c.args.at c.in-Some.i c.index-chars-i.result c.in_ok-one-in-Some.field-0 c.ranges.at c.chars-chars.ensures.value
    (sym c.in-Some.is ∙ c.item_place.ensures.value) c.in-Some.ensures.within c.index-chars-i.is c.in_ok-one-in-Some.ensures
