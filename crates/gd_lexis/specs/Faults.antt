-- The lexical rules, each by the condition under which it is broken, and the first fault of a file (docs/diagnostics.md).
use Rattle.std.specs.Prelude.{◌≡◌, ◌≢◌, ℕ, ◌+◌, ◌<◌, ◌≤◌, ◌^◌, ◌⊎◌, ◌||◌, ◌==◌, IsTrue, true, false, List, [], ◌∷◌, ◌++◌, length, map, All, slice_index, flat_map, filter}
use Rattle.unicode_ident.specs.Ident.{is_xid_start}
use Rattle.gd_syntax.specs.declared.pos.Pos.{Pos}
use Rattle.gd_syntax.specs.declared.token.Mark.{Mark}
use Rattle.gd_rules.specs.declared.rule.Rule.{Rule}
use Rattle.gd_rules.specs.declared.rule.Rule.TheVariants as rules
use Rattle.gd_lexis.specs.declared.glyph.Glyph.{Glyph}
use Rattle.gd_lexis.specs.declared.glyph.Glyph.TheVariants.{Char, Bad}
use Rattle.gd_lexis.specs.Chars.{IsFile, place_behind}
use Rattle.gd_lexis.specs.Words.{IsFloatName, GoesOn, mark_text}
use Rattle.gd_lexis.specs.Numbers.{WritesNumber, WritesDecimal, IsDigit}
use Rattle.gd_lexis.specs.Strings.{Quote, IsQuote, opening, closing, IsEscape}
use Rattle.gd_lexis.specs.Pieces.{Piece, Blank, IsCut, BeginsWith, BeginsBy, IsLineEnd, IsLongest}
use Rattle.gd_lexis.specs.Lines.{parted, is_logical, is_indentation, is_opening, is_closing, lead, depth, open_blocks, innermost, level, texts}
use Rattle.gd_lexis.specs.Items.{items, is_separator, closed}
use Rattle.gd_lexis.specs.Lexes.{IsMatched}

-- ---- what begins where a file goes on

-- a character with which a token begins
abbrev pub BeginsToken : List Glyph → Type 0
BeginsToken = BeginsBy (λ c. IsTrue (is_xid_start c || c == 95 || c == 34 || c == 39) ⊎ (IsDigit 10 c ⊎ ((m : Mark) × (more : List ℕ) × (mark_text m ≡ c ∷ more))))

-- The line has a token from here on: what stands before it has no line end but joined ones, and no comment.
pub data HasToken : List Glyph → Type 0 where
  here : (gs : List Glyph) → BeginsToken gs → HasToken gs
  over : (g : Glyph) (gs : List Glyph) → g ≢ Char 10 → g ≢ Char 35 → HasToken gs → HasToken (g ∷ gs)
  joined : (end : List ℕ) (gs : List Glyph) → IsLineEnd end → HasToken gs → HasToken (map Char (92 ∷ end) ++ gs)

-- the glyphs between the ends of a string: a backslash takes the glyph behind it along, and elsewhere no end stands
pub data Inside (q : Quote) (rest : List Glyph) : List Glyph → Type 0 where
  nothing : Inside q rest []
  plain : (g : Glyph) (gs : List Glyph) → g ≢ Char 92 → (BeginsWith (closing q) (g ∷ (gs ++ rest)) → ⊥) → Inside q rest gs → Inside q rest (g ∷ gs)
  taken : (g : Glyph) (gs : List Glyph) → Inside q rest gs → Inside q rest (Char 92 ∷ g ∷ gs)

-- The front of what stands in a string that is not raw: glyphs that stand for themselves, whole escapes, and backslashes at
-- which none begins, each with the glyph behind it.
pub data Parts (rest : List Glyph) : List Glyph → Type 0 where
  no_more : Parts rest []
  itself : (g : Glyph) (gs : List Glyph) → g ≢ Char 92 → Parts rest gs → Parts rest (g ∷ gs)
  whole_escape : (e s : List ℕ) (gs : List Glyph) → IsEscape e s → Parts rest gs → Parts rest (map Char e ++ gs)
  no_escape : (g : Glyph) (gs : List Glyph) → ((e s : List ℕ) → IsEscape e s → BeginsWith e (Char 92 ∷ g ∷ (gs ++ rest)) → ⊥) → Parts rest gs → Parts rest (Char 92 ∷ g ∷ gs)

-- a string of this kind begins here: three quotes always open one of three
abbrev pub Opens : Quote → List Glyph → Type 0
Opens q gs = IsQuote q × BeginsWith (opening q) gs × (q.count ≡ 1 → BeginsWith (opening (record { is_raw = q.is_raw; mark = q.mark; count = 3 })) gs → ⊥)

-- a string of this kind begins here, with this between its ends, and this behind it
abbrev pub IsWhole : Quote → List Glyph → List Glyph → List Glyph → Type 0
IsWhole q body rest gs = Opens q gs × (gs ≡ map Char (opening q) ++ (body ++ (map Char (closing q) ++ rest))) × Inside q (map Char (closing q) ++ rest) body

-- a number begins here: the longest, with this value
abbrev pub IsNumber : List ℕ → ℕ → List Glyph → Type 0
IsNumber text v gs = BeginsWith text gs × WritesNumber text v × IsLongest text gs

-- ---- the rules. Before is what the file was cut into so far, and gs what is left. The fault stands behind `ahead`, a front of gs.

abbrev pub line : List Piece → List Piece
line before = (parted before).rest

-- the token here is the first of its line
abbrev pub IsFirst : List Piece → List Glyph → Type 0
IsFirst before gs = (is_logical (line before) ≡ false) × BeginsToken gs

abbrev pub blocks : List Piece → List ℕ
blocks before = open_blocks (parted before).whole

-- the first blank of the first logical line that has one, this line among them
abbrev pub indentation : List Piece → List Piece
indentation before = filter is_indentation (flat_map lead (filter is_logical (parted before).whole ++ line before ∷ []))

abbrev pub IsIndentedBy : ℕ → List Piece → Type 0
IsIndentedBy c before = (more : List Piece) × (indentation before ≡ Blank c ∷ more)

-- a comment begins here, and its text goes on behind this
abbrev pub IsInComment : List Glyph → Type 0
IsInComment ahead = (inner : List Glyph) × (ahead ≡ Char 35 ∷ inner) × All (λ g. g ≢ Char 10) inner

-- nothing that a file can be cut into begins here
abbrev pub IsStray : List Glyph → Type 0
IsStray gs = (c : ℕ) × BeginsWith (c ∷ []) gs × (BeginsToken gs → ⊥) × (c ≢ 32) × (c ≢ 9) × (c ≢ 10) × (c ≢ 35)
    × (BeginsWith (13 ∷ 10 ∷ []) gs → ⊥) × (BeginsWith (92 ∷ 10 ∷ []) gs → ⊥) × (BeginsWith (92 ∷ 13 ∷ 10 ∷ []) gs → ⊥)

-- the count of the item to which a token belongs that begins here, without it
abbrev pub IsCounted : List Piece → List Glyph → ℕ → Type 0
IsCounted before gs n =
    ((m : Mark) × BeginsWith (mark_text m) gs × IsLongest (mark_text m) gs × (is_separator m ≡ false) × (is_closing m ≡ true) × (n ≡ slice_index (closed (items (line before))) 0))
    ⊎ ((((m : Mark) → BeginsWith (mark_text m) gs → IsLongest (mark_text m) gs → (is_separator m ≡ false) × (is_closing m ≡ false)) × BeginsToken gs) × (n ≡ slice_index (items (line before)) 0))

abbrev pub Breaks : Rule → List Piece → List Glyph → List Glyph → Type 0
Breaks rules.NotUtf8 before gs ahead =
    (b : ℕ) × (more : List Glyph) × (gs ≡ ahead ++ Bad b ∷ more)
    × ((ahead ≡ []) ⊎ (IsInComment ahead ⊎ ((q : Quote) × (body : List Glyph) × (rest : List Glyph) × (front : List Glyph) × IsWhole q body rest gs × (ahead ≡ map Char (opening q) ++ front) × (length ahead < length (opening q) + length body))))
Breaks rules.MixedIndentation before gs ahead =
    (ahead ≡ []) × (is_logical (line before) ≡ false) × HasToken gs
    × ((IsIndentedBy 32 before × BeginsWith (9 ∷ []) gs) ⊎ (IsIndentedBy 9 before × BeginsWith (32 ∷ []) gs))
Breaks rules.UnmatchedDedent before gs ahead = (ahead ≡ []) × IsFirst before gs × (IsMatched (blocks before) (depth (line before)) → ⊥)
Breaks rules.UnterminatedString before gs ahead = (ahead ≡ []) × ((q : Quote) × Opens q gs × ((body : List Glyph) (rest : List Glyph) → IsWhole q body rest gs → ⊥))
Breaks rules.BadEscape before gs ahead =
    (q : Quote) × (body : List Glyph) × (rest : List Glyph) × (front : List Glyph) × (back : List Glyph) × IsWhole q body rest gs × (q.is_raw ≡ false)
    × (ahead ≡ map Char (opening q) ++ front) × (body ++ (map Char (closing q) ++ rest) ≡ front ++ Char 92 ∷ back) × Parts (Char 92 ∷ back) front
    × (length front < length body) × ((e : List ℕ) (s : List ℕ) → IsEscape e s → BeginsWith e (Char 92 ∷ back) → ⊥)
Breaks rules.StrayCharacter before gs ahead =
    ((ahead ≡ []) × IsStray gs)
    ⊎ (IsInComment ahead × ((more : List Glyph) × (gs ≡ ahead ++ Char 13 ∷ more) × (BeginsWith (10 ∷ []) more → ⊥)))
Breaks rules.Float before gs ahead = (ahead ≡ []) ×
    (((text : List ℕ) × (v : ℕ) × (rest : List Glyph) × IsNumber text v gs × WritesDecimal text v × (gs ≡ map Char text ++ rest)
    × (BeginsWith (46 ∷ []) rest ⊎ ((e : ℕ) × (sign : List ℕ) × (d : ℕ) × ((e ≡ 101) ⊎ (e ≡ 69)) × ((sign ≡ []) ⊎ ((sign ≡ 43 ∷ []) ⊎ (sign ≡ 45 ∷ []))) × IsDigit 10 d × BeginsWith (e ∷ sign ++ d ∷ []) rest)))
    ⊎ (((d : ℕ) × IsDigit 10 d × BeginsWith (46 ∷ d ∷ []) gs) ⊎ ((name : List ℕ) × IsFloatName name × BeginsWith name gs × IsLongest name gs)))
Breaks rules.IntegerTooLarge before gs ahead = (ahead ≡ []) × ((text : List ℕ) × (v : ℕ) × IsNumber text v gs × (2 ^ 63 ≤ v))
Breaks rules.BadNumber before gs ahead =
    (ahead ≡ []) × ((text : List ℕ) × (v : ℕ) × (rest : List Glyph) × IsNumber text v gs × (gs ≡ map Char text ++ rest) × BeginsBy GoesOn rest)
Breaks rules.BracketsTooDeep before gs ahead = (ahead ≡ []) × ((m : Mark) × BeginsWith (mark_text m) gs × (is_opening m ≡ true) × (32 ≤ level (line before)))
Breaks rules.BlocksTooDeep before gs ahead = (ahead ≡ []) × IsFirst before gs × (innermost (blocks before) < depth (line before)) × (32 ≤ length (blocks before))
Breaks rules.ItemTooLong before gs ahead = (ahead ≡ []) × ((n : ℕ) × IsCounted before gs n × (100 ≤ n))
Breaks _ before gs ahead = ⊥

-- the rule is broken at this place of the file
abbrev pub IsBroken : ℕ → List ℕ → Rule → Pos → Type 0
IsBroken file bytes rule at =
    (glyphs : List Glyph) × (before : List Piece) × (gs : List Glyph) × (ahead : List Glyph)
    × IsFile bytes glyphs × IsCut glyphs before gs × Breaks rule before gs ahead × (at ≡ place_behind file (texts before ++ ahead))

abbrev pub number : Rule → ℕ
number rules.NotUtf8 = 1
number rules.MixedIndentation = 2
number rules.UnmatchedDedent = 3
number rules.UnterminatedString = 4
number rules.BadEscape = 5
number rules.StrayCharacter = 6
number rules.Float = 7
number rules.IntegerTooLarge = 8
number rules.BadNumber = 9
number rules.BracketsTooDeep = 10
number rules.BlocksTooDeep = 11
number rules.ItemTooLong = 12
number _ = 13

abbrev pub IsBefore : Pos → Pos → Type 0
IsBefore a b = (a.line < b.line) ⊎ ((a.line ≡ b.line) × (a.column < b.column))

-- The first fault of a file: at the least place where a rule is broken, the least rule.
pub record FirstFault (file : ℕ) (bytes : List ℕ) (at : Pos) (rule : Rule) : Type 0 where
  pub broken : IsBroken file bytes rule at
  pub first : (other : Rule) (place : Pos) → IsBroken file bytes other place → IsBefore at place ⊎ ((place ≡ at) × (number rule ≤ number other))
