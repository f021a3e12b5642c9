-- The items of open brackets, and when a token is refused.
use Rattle.std.specs.Prelude.{◌≡◌, ℕ, ◌<◌, ◌≤◌, Bool, true, false, List, [], ◌∷◌, if◌then◌else◌, reverse, length, slice_index}
use Rattle.gd_syntax.specs.declared.pos.Pos.{Pos}
use Rattle.gd_syntax.specs.declared.token.TokenKind.{TokenKind}
use Rattle.gd_syntax.specs.declared.token.TokenKind.TheVariants as kinds
use Rattle.gd_syntax.specs.declared.token.Mark.{Mark}
use Rattle.gd_rules.specs.declared.rule.Rule.{Rule}
use Rattle.gd_rules.specs.declared.rule.Rule.TheVariants.{BracketsTooDeep, ItemTooLong}
use Rattle.gd_lexis.specs.Pieces.{Tok}
use Rattle.gd_lexis.specs.Lines.{is_opening, is_closing}
use Rattle.gd_lexis.specs.Items.{is_separator, counted, closed, ended, items_behind}
use Rattle.gd_lexer.specs.declared.brackets.Brackets.{Brackets}
use Rattle.gd_lexer.specs.declared.brackets.Role.{Role}
use Rattle.gd_lexer.specs.declared.brackets.Role.TheVariants.{Part, Separator, Opening, Closing}
use Rattle.gd_lexer.specs.declared.stop.Stop.{Stop}
use Rattle.gd_lexer.specs.declared.stop.Stop.TheVariants.{Fault, NoMemory}

-- the running item and those around the open brackets, the innermost first
abbrev pub items_of : Brackets → List ℕ
items_of b = b.item ∷ reverse b.around

abbrev pub role_by : Bool → Bool → Bool → Role
role_by true opening closing = Separator
role_by false true closing = Opening
role_by false false true = Closing
role_by false false false = Part

abbrev pub role_of_mark : Mark → Role
role_of_mark m = role_by (is_separator m) (is_opening m) (is_closing m)

abbrev pub role_of : TokenKind → Role
role_of (kinds.Mark m) = role_of_mark m
role_of _ = Part

-- the items behind a token of this role
abbrev pub items_by : Role → List ℕ → List ℕ
items_by Part items = counted items
items_by Separator items = ended items
items_by Opening items = 0 ∷ counted items
items_by Closing items = counted (closed items)

-- the items behind a token of this kind
abbrev pub items_after : TokenKind → List ℕ → List ℕ
items_after kind items = items_behind items (Tok kind [])

-- the items behind the end of a line that has a token or not
abbrev pub ended_if : Bool → List ℕ → List ℕ
ended_if b items = if b then ended items else items

-- a token of this role has room
abbrev pub FitsBy : Role → List ℕ → Type 0
FitsBy Part items = slice_index items 0 < 100
FitsBy Separator items = Unit {0}
FitsBy Opening items = (length items ≤ 32) × (slice_index items 0 < 100)
FitsBy Closing items = slice_index (closed items) 0 < 100

-- a token of this role is refused by the rule
abbrev pub RefusedBy : Role → List ℕ → Rule → Type 0
RefusedBy Opening items BracketsTooDeep = 32 < length items
RefusedBy Part items ItemTooLong = 100 ≤ slice_index items 0
RefusedBy Opening items ItemTooLong = (length items ≤ 32) × (100 ≤ slice_index items 0)
RefusedBy Closing items ItemTooLong = 100 ≤ slice_index (closed items) 0
RefusedBy role items rule = ⊥

-- the stop is the refusal of such a token at this place
abbrev pub IsRefusal : Pos → Role → List ℕ → Stop → Type 0
IsRefusal pos role items (Fault f) = (f.pos ≡ pos) × RefusedBy role items f.rule
IsRefusal pos role items NoMemory = Unit {0}
