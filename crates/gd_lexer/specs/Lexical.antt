-- The lexical rules, and what a lexical fault is.
use Rattle.std.specs.Prelude.{Bool, true, false}
use Rattle.gd_rules.specs.declared.rule.Rule.{Rule}
use Rattle.gd_rules.specs.declared.rule.Rule.TheVariants.{NotUtf8, MixedIndentation, UnmatchedDedent, UnterminatedString, BadEscape, StrayCharacter, Float, IntegerTooLarge, BadNumber, BracketsTooDeep, BlocksTooDeep, ItemTooLong}

-- the rule is one of L01 to L12
abbrev pub is_lexical : Rule → Bool
is_lexical NotUtf8 = true
is_lexical MixedIndentation = true
is_lexical UnmatchedDedent = true
is_lexical UnterminatedString = true
is_lexical BadEscape = true
is_lexical StrayCharacter = true
is_lexical Float = true
is_lexical IntegerTooLarge = true
is_lexical BadNumber = true
is_lexical BracketsTooDeep = true
is_lexical BlocksTooDeep = true
is_lexical ItemTooLong = true
is_lexical _ = false
