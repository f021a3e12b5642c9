-- The definitions tried on short files: what their tokens are, and where the first fault of one stands.
use Rattle.std.specs.Prelude.{ℕ, [], ◌∷◌, codes}
use Rattle.gd_syntax.specs.declared.pos.Pos.{Pos}
use Rattle.gd_syntax.specs.declared.token.TokenKind.TheVariants as kinds
use Rattle.gd_syntax.specs.declared.token.Mark.TheVariants.{LeftParen, RightParen, ShiftLeft}
use Rattle.gd_rules.specs.declared.rule.Rule.TheVariants.{Float, NotUtf8}
use Rattle.gd_lexis.specs.Lines.{token}
use Rattle.gd_lexis.specs.Lexes.{Lexes}
use Rattle.gd_lexis.specs.Faults.{FirstFault}

abbrev pub place : ℕ → ℕ → Pos
place line column = record { file = 0; line = line; column = column }

abbrev pub OneName : Type 0
OneName = Lexes 0 (codes "a") (token (place 1 1) (kinds.Word (codes "a")) ∷ token (place 1 2) kinds.Newline ∷ token (place 1 2) kinds.End ∷ [])

-- the longest mark
abbrev pub OneMark : Type 0
OneMark = Lexes 0 (codes "<<") (token (place 1 1) (kinds.Mark ShiftLeft) ∷ token (place 1 3) kinds.Newline ∷ token (place 1 3) kinds.End ∷ [])

-- a string with a line feed in it, written by an escape
abbrev pub OneString : Type 0
OneString = Lexes 0 (codes "\"\\n\"") (token (place 1 1) (kinds.Quoted (10 ∷ [])) ∷ token (place 1 5) kinds.Newline ∷ token (place 1 5) kinds.End ∷ [])

-- a character that two surrogates write
abbrev pub OnePair : Type 0
OnePair = Lexes 0 (codes "\"\\uD83D\\uDE00\"") (token (place 1 1) (kinds.Quoted (0x1F600 ∷ [])) ∷ token (place 1 15) kinds.Newline ∷ token (place 1 15) kinds.End ∷ [])

-- a byte order mark has no column
abbrev pub OneMarked : Type 0
OneMarked = Lexes 0 (0xEF ∷ 0xBB ∷ 0xBF ∷ codes "a") (token (place 1 1) (kinds.Word (codes "a")) ∷ token (place 1 2) kinds.Newline ∷ token (place 1 2) kinds.End ∷ [])

-- blocks that end where a line goes back, and at the file's end
abbrev pub TwoBlocks : Type 0
TwoBlocks = Lexes 0 (codes "a\n\tb\nc\n\td")
    (token (place 1 1) (kinds.Word (codes "a")) ∷ token (place 1 2) kinds.Newline
    ∷ token (place 2 2) kinds.Indent ∷ token (place 2 2) (kinds.Word (codes "b")) ∷ token (place 2 3) kinds.Newline
    ∷ token (place 3 1) kinds.Dedent ∷ token (place 3 1) (kinds.Word (codes "c")) ∷ token (place 3 2) kinds.Newline
    ∷ token (place 4 2) kinds.Indent ∷ token (place 4 2) (kinds.Word (codes "d")) ∷ token (place 4 3) kinds.Newline
    ∷ token (place 4 3) kinds.Dedent ∷ token (place 4 3) kinds.End ∷ [])

-- inside brackets a line end is a blank
abbrev pub OneBracketed : Type 0
OneBracketed = Lexes 0 (codes "(\n)")
    (token (place 1 1) (kinds.Mark LeftParen) ∷ token (place 2 1) (kinds.Mark RightParen) ∷ token (place 2 2) kinds.Newline ∷ token (place 2 2) kinds.End ∷ [])

-- a line with a comment alone has no tokens, and its line end may have a carriage return
abbrev pub OneComment : Type 0
OneComment = Lexes 0 (codes "#\r\n") (token (place 2 1) kinds.End ∷ [])

-- a number with a dot behind it is a float, and refused
abbrev pub OneFloat : Type 0
OneFloat = FirstFault 0 (codes "1.5") (place 1 1) Float

-- a raw string has no escapes: its only fault is a byte that is part of no character
abbrev pub OneRaw : Type 0
OneRaw = FirstFault 0 (114 ∷ 34 ∷ 92 ∷ 113 ∷ 0xFF ∷ 34 ∷ []) (place 1 5) NotUtf8
