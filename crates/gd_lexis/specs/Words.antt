-- Names, keywords and marks by their texts (docs/language.md, "Names and keywords" and "Operators and punctuation").
use Rattle.std.specs.Prelude.{◌≡◌, ℕ, ◌==◌, ◌||◌, IsTrue, List, [], ◌∷◌, All, codes, ◌⊎◌}
use Rattle.unicode_ident.specs.Ident.{is_xid_start, is_xid_continue}
use Rattle.gd_syntax.specs.declared.token.Keyword.{Keyword}
use Rattle.gd_syntax.specs.declared.token.Keyword.TheVariants.{If, Elif, Else, For, While, Match, When, Break, Continue, Pass, Return, Class, ClassName, Extends, Is, In, As, SelfValue, Super, Signal, Func, Static, Const, Enum, Var, Breakpoint, Preload, Await, Yield, Assert, Void, And, Or, Not, True, False, Null}
use Rattle.gd_syntax.specs.declared.token.Mark.{Mark}
use Rattle.gd_syntax.specs.declared.token.Mark.TheVariants.{Plus, Minus, Star, Slash, Percent, StarStar, Tilde, Ampersand, Bar, Caret, ShiftLeft, ShiftRight, EqualEqual, BangEqual, Less, Greater, LessEqual, GreaterEqual, AndAnd, OrOr, Bang, Equal, PlusEqual, MinusEqual, StarEqual, SlashEqual, PercentEqual, StarStarEqual, ShiftLeftEqual, ShiftRightEqual, AmpersandEqual, BarEqual, CaretEqual, Arrow, Dot, DotDot, Colon, Comma, Semicolon, LeftParen, RightParen, LeftBracket, RightBracket, LeftBrace, RightBrace, At, Dollar}

-- a character with which a name can go on
abbrev pub GoesOn : ℕ → Type 0
GoesOn c = IsTrue (is_xid_continue c)

-- `_` or a character that begins identifiers, and then characters that go on with them
abbrev pub IsName : List ℕ → Type 0
IsName [] = ⊥
IsName (c ∷ cs) = IsTrue (is_xid_start c || c == 95) × All GoesOn cs

abbrev pub keyword_text : Keyword → List ℕ
keyword_text If = codes "if"
keyword_text Elif = codes "elif"
keyword_text Else = codes "else"
keyword_text For = codes "for"
keyword_text While = codes "while"
keyword_text Match = codes "match"
keyword_text When = codes "when"
keyword_text Break = codes "break"
keyword_text Continue = codes "continue"
keyword_text Pass = codes "pass"
keyword_text Return = codes "return"
keyword_text Class = codes "class"
keyword_text ClassName = codes "class_name"
keyword_text Extends = codes "extends"
keyword_text Is = codes "is"
keyword_text In = codes "in"
keyword_text As = codes "as"
keyword_text SelfValue = codes "self"
keyword_text Super = codes "super"
keyword_text Signal = codes "signal"
keyword_text Func = codes "func"
keyword_text Static = codes "static"
keyword_text Const = codes "const"
keyword_text Enum = codes "enum"
keyword_text Var = codes "var"
keyword_text Breakpoint = codes "breakpoint"
keyword_text Preload = codes "preload"
keyword_text Await = codes "await"
keyword_text Yield = codes "yield"
keyword_text Assert = codes "assert"
keyword_text Void = codes "void"
keyword_text And = codes "and"
keyword_text Or = codes "or"
keyword_text Not = codes "not"
keyword_text True = codes "true"
keyword_text False = codes "false"
keyword_text Null = codes "null"

-- the names of floats
abbrev pub IsFloatName : List ℕ → Type 0
IsFloatName cs = (cs ≡ codes "PI") ⊎ ((cs ≡ codes "TAU") ⊎ ((cs ≡ codes "INF") ⊎ (cs ≡ codes "NAN")))

abbrev pub mark_text : Mark → List ℕ
mark_text Plus = codes "+"
mark_text Minus = codes "-"
mark_text Star = codes "*"
mark_text Slash = codes "/"
mark_text Percent = codes "%"
mark_text StarStar = codes "**"
mark_text Tilde = codes "~"
mark_text Ampersand = codes "&"
mark_text Bar = codes "|"
mark_text Caret = codes "^"
mark_text ShiftLeft = codes "<<"
mark_text ShiftRight = codes ">>"
mark_text EqualEqual = codes "=="
mark_text BangEqual = codes "!="
mark_text Less = codes "<"
mark_text Greater = codes ">"
mark_text LessEqual = codes "<="
mark_text GreaterEqual = codes ">="
mark_text AndAnd = codes "&&"
mark_text OrOr = codes "||"
mark_text Bang = codes "!"
mark_text Equal = codes "="
mark_text PlusEqual = codes "+="
mark_text MinusEqual = codes "-="
mark_text StarEqual = codes "*="
mark_text SlashEqual = codes "/="
mark_text PercentEqual = codes "%="
mark_text StarStarEqual = codes "**="
mark_text ShiftLeftEqual = codes "<<="
mark_text ShiftRightEqual = codes ">>="
mark_text AmpersandEqual = codes "&="
mark_text BarEqual = codes "|="
mark_text CaretEqual = codes "^="
mark_text Arrow = codes "->"
mark_text Dot = codes "."
mark_text DotDot = codes ".."
mark_text Colon = codes ":"
mark_text Comma = codes ","
mark_text Semicolon = codes ";"
mark_text LeftParen = codes "("
mark_text RightParen = codes ")"
mark_text LeftBracket = codes "["
mark_text RightBracket = codes "]"
mark_text LeftBrace = codes "{"
mark_text RightBrace = codes "}"
mark_text At = codes "@"
mark_text Dollar = codes "$"
