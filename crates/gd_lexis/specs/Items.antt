-- Items, and how many tokens they have (docs/language.md, "Items").
use Rattle.std.specs.Prelude.{ℕ, ◌+◌, Bool, true, false, if◌then◌else◌, List, [], ◌∷◌, fold}
use Rattle.gd_syntax.specs.declared.token.TokenKind.TheVariants as kinds
use Rattle.gd_syntax.specs.declared.token.Mark.{Mark}
use Rattle.gd_syntax.specs.declared.token.Mark.TheVariants.{Equal, PlusEqual, MinusEqual, StarEqual, SlashEqual, PercentEqual, StarStarEqual, ShiftLeftEqual, ShiftRightEqual, AmpersandEqual, BarEqual, CaretEqual, Colon, Comma, Semicolon}
use Rattle.gd_lexis.specs.Pieces.{Piece, Tok}
use Rattle.gd_lexis.specs.Lines.{is_opening, is_closing}

abbrev pub is_separator : Mark → Bool
is_separator Comma = true
is_separator Semicolon = true
is_separator Colon = true
is_separator Equal = true
is_separator PlusEqual = true
is_separator MinusEqual = true
is_separator StarEqual = true
is_separator SlashEqual = true
is_separator PercentEqual = true
is_separator StarStarEqual = true
is_separator ShiftLeftEqual = true
is_separator ShiftRightEqual = true
is_separator AmpersandEqual = true
is_separator BarEqual = true
is_separator CaretEqual = true
is_separator _ = false

-- the running item with one token more
abbrev pub counted : List ℕ → List ℕ
counted [] = 1 ∷ []
counted (n ∷ around) = (n + 1) ∷ around

-- the item around a closed bracket pair, or the running one where no bracket is open
abbrev pub closed : List ℕ → List ℕ
closed (n ∷ m ∷ around) = m ∷ around
closed items = items

abbrev pub ended : List ℕ → List ℕ
ended [] = 0 ∷ []
ended (n ∷ around) = 0 ∷ around

abbrev pub items_behind_mark : List ℕ → Mark → List ℕ
items_behind_mark items m =
    if is_separator m then ended items else (if is_opening m then 0 ∷ counted items else (if is_closing m then counted (closed items) else counted items))

-- the numbers of tokens of the running item and of those around the open brackets, the innermost first
abbrev pub items_behind : List ℕ → Piece → List ℕ
items_behind items (Tok (kinds.Mark m) text) = items_behind_mark items m
items_behind items (Tok kind text) = counted items
items_behind items _ = items

abbrev pub items : List Piece → List ℕ
items = fold items_behind (0 ∷ [])
