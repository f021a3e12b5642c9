-- A text is that of at most one keyword, and of at most one mark.
use Rattle.std.proofs.Common.{◌≡◌, ℕ, List, [], ◌∷◌, refl, ap, sym, ◌∙◌}
use Rattle.std.specs.Prelude.{codes, Option, Some, None, if◌then◌else◌}
use Rattle.std.specs.Str.{bytes_eq}
use Rattle.gd_syntax.specs.declared.token.Keyword.{Keyword}
use Rattle.gd_syntax.specs.declared.token.Keyword.TheVariants.{If, Elif, Else, For, While, Match, When, Break, Continue, Pass, Return, Class, ClassName, Extends, Is, In, As, SelfValue, Super, Signal, Func, Static, Const, Enum, Var, Breakpoint, Preload, Await, Yield, Assert, Void, And, Or, Not, True, False, Null}
use Rattle.gd_syntax.specs.declared.token.Mark.{Mark}
use Rattle.gd_syntax.specs.declared.token.Mark.TheVariants as marks
use Rattle.gd_lexis.specs.Words.{keyword_text, mark_text}

abbrev found : {A : Type 0} → List (List ℕ × A) → List ℕ → Option A
found [] text = None
found (row ∷ rows) text = if bytes_eq row.0 text then Some row.1 else found rows text

abbrev keywords : List (List ℕ × Keyword)
keywords = (codes "if", If) ∷ (codes "elif", Elif) ∷ (codes "else", Else) ∷ (codes "for", For) ∷ (codes "while", While) ∷ (codes "match", Match) ∷ (codes "when", When) ∷ (codes "break", Break) ∷ (codes "continue", Continue) ∷ (codes "pass", Pass) ∷ (codes "return", Return) ∷ (codes "class", Class) ∷ (codes "class_name", ClassName) ∷ (codes "extends", Extends) ∷ (codes "is", Is) ∷ (codes "in", In) ∷ (codes "as", As) ∷ (codes "self", SelfValue) ∷ (codes "super", Super) ∷ (codes "signal", Signal) ∷ (codes "func", Func) ∷ (codes "static", Static) ∷ (codes "const", Const) ∷ (codes "enum", Enum) ∷ (codes "var", Var) ∷ (codes "breakpoint", Breakpoint) ∷ (codes "preload", Preload) ∷ (codes "await", Await) ∷ (codes "yield", Yield) ∷ (codes "assert", Assert) ∷ (codes "void", Void) ∷ (codes "and", And) ∷ (codes "or", Or) ∷ (codes "not", Not) ∷ (codes "true", True) ∷ (codes "false", False) ∷ (codes "null", Null) ∷ []

abbrev marks_by_text : List (List ℕ × Mark)
marks_by_text = (codes "+", marks.Plus) ∷ (codes "-", marks.Minus) ∷ (codes "*", marks.Star) ∷ (codes "/", marks.Slash) ∷ (codes "%", marks.Percent) ∷ (codes "**", marks.StarStar) ∷ (codes "~", marks.Tilde) ∷ (codes "&", marks.Ampersand) ∷ (codes "|", marks.Bar) ∷ (codes "^", marks.Caret) ∷ (codes "<<", marks.ShiftLeft) ∷ (codes ">>", marks.ShiftRight) ∷ (codes "==", marks.EqualEqual) ∷ (codes "!=", marks.BangEqual) ∷ (codes "<", marks.Less) ∷ (codes ">", marks.Greater) ∷ (codes "<=", marks.LessEqual) ∷ (codes ">=", marks.GreaterEqual) ∷ (codes "&&", marks.AndAnd) ∷ (codes "||", marks.OrOr) ∷ (codes "!", marks.Bang) ∷ (codes "=", marks.Equal) ∷ (codes "+=", marks.PlusEqual) ∷ (codes "-=", marks.MinusEqual) ∷ (codes "*=", marks.StarEqual) ∷ (codes "/=", marks.SlashEqual) ∷ (codes "%=", marks.PercentEqual) ∷ (codes "**=", marks.StarStarEqual) ∷ (codes "<<=", marks.ShiftLeftEqual) ∷ (codes ">>=", marks.ShiftRightEqual) ∷ (codes "&=", marks.AmpersandEqual) ∷ (codes "|=", marks.BarEqual) ∷ (codes "^=", marks.CaretEqual) ∷ (codes "->", marks.Arrow) ∷ (codes ".", marks.Dot) ∷ (codes "..", marks.DotDot) ∷ (codes ":", marks.Colon) ∷ (codes ",", marks.Comma) ∷ (codes ";", marks.Semicolon) ∷ (codes "(", marks.LeftParen) ∷ (codes ")", marks.RightParen) ∷ (codes "[", marks.LeftBracket) ∷ (codes "]", marks.RightBracket) ∷ (codes "{", marks.LeftBrace) ∷ (codes "}", marks.RightBrace) ∷ (codes "@", marks.At) ∷ (codes "$", marks.Dollar) ∷ []

keyword_found : (k : Keyword) → found keywords (keyword_text k) ≡ Some k
keyword_found If = refl
keyword_found Elif = refl
keyword_found Else = refl
keyword_found For = refl
keyword_found While = refl
keyword_found Match = refl
keyword_found When = refl
keyword_found Break = refl
keyword_found Continue = refl
keyword_found Pass = refl
keyword_found Return = refl
keyword_found Class = refl
keyword_found ClassName = refl
keyword_found Extends = refl
keyword_found Is = refl
keyword_found In = refl
keyword_found As = refl
keyword_found SelfValue = refl
keyword_found Super = refl
keyword_found Signal = refl
keyword_found Func = refl
keyword_found Static = refl
keyword_found Const = refl
keyword_found Enum = refl
keyword_found Var = refl
keyword_found Breakpoint = refl
keyword_found Preload = refl
keyword_found Await = refl
keyword_found Yield = refl
keyword_found Assert = refl
keyword_found Void = refl
keyword_found And = refl
keyword_found Or = refl
keyword_found Not = refl
keyword_found True = refl
keyword_found False = refl
keyword_found Null = refl

mark_found : (m : Mark) → found marks_by_text (mark_text m) ≡ Some m
mark_found marks.Plus = refl
mark_found marks.Minus = refl
mark_found marks.Star = refl
mark_found marks.Slash = refl
mark_found marks.Percent = refl
mark_found marks.StarStar = refl
mark_found marks.Tilde = refl
mark_found marks.Ampersand = refl
mark_found marks.Bar = refl
mark_found marks.Caret = refl
mark_found marks.ShiftLeft = refl
mark_found marks.ShiftRight = refl
mark_found marks.EqualEqual = refl
mark_found marks.BangEqual = refl
mark_found marks.Less = refl
mark_found marks.Greater = refl
mark_found marks.LessEqual = refl
mark_found marks.GreaterEqual = refl
mark_found marks.AndAnd = refl
mark_found marks.OrOr = refl
mark_found marks.Bang = refl
mark_found marks.Equal = refl
mark_found marks.PlusEqual = refl
mark_found marks.MinusEqual = refl
mark_found marks.StarEqual = refl
mark_found marks.SlashEqual = refl
mark_found marks.PercentEqual = refl
mark_found marks.StarStarEqual = refl
mark_found marks.ShiftLeftEqual = refl
mark_found marks.ShiftRightEqual = refl
mark_found marks.AmpersandEqual = refl
mark_found marks.BarEqual = refl
mark_found marks.CaretEqual = refl
mark_found marks.Arrow = refl
mark_found marks.Dot = refl
mark_found marks.DotDot = refl
mark_found marks.Colon = refl
mark_found marks.Comma = refl
mark_found marks.Semicolon = refl
mark_found marks.LeftParen = refl
mark_found marks.RightParen = refl
mark_found marks.LeftBracket = refl
mark_found marks.RightBracket = refl
mark_found marks.LeftBrace = refl
mark_found marks.RightBrace = refl
mark_found marks.At = refl
mark_found marks.Dollar = refl

pub one_keyword : (k l : Keyword) → keyword_text k ≡ keyword_text l → k ≡ l
one_keyword k l e = let same : Some k ≡ Some l = sym (keyword_found k) ∙ ap (λ t. found keywords t) e ∙ keyword_found l in cc

pub one_mark : (m n : Mark) → mark_text m ≡ mark_text n → m ≡ n
one_mark m n e = let same : Some m ≡ Some n = sym (mark_found m) ∙ ap (λ t. found marks_by_text t) e ∙ mark_found n in cc
