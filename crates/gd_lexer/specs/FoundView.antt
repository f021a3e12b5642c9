-- How the tokens that were found are kept.
use Rattle.std.specs.Prelude.{◌≤◌, length}
use Rattle.gd_lexer.specs.declared.found.Found.TheInside.{Inside}
use Rattle.gd_lexer.specs.Found.{FoundList, AreUpTo}

abbrev pub found_of : Inside → FoundList
found_of f = record { tokens = f.tokens.items; spans = f.spans.items; comments = f.comments.items; last = f.last }

-- the tokens are in order, and each has its bytes
abbrev pub IsInOrder : Inside → Type 0
IsInOrder f = AreUpTo f.tokens.items f.last × (length f.tokens.items ≤ length f.spans.items)
