-- Tokens by their kinds, and where a part of a script begins and ends.
use Rattle.std.specs.Prelude.{ℕ, Bool, true, false, List, [], ◌∷◌, if◌then◌else◌}
use Rattle.gd_syntax.specs.declared.pos.Pos.{Pos}
use Rattle.gd_syntax.specs.declared.token.Token.{Token}
use Rattle.gd_syntax.specs.declared.token.TokenKind.{TokenKind}
use Rattle.gd_syntax.specs.declared.token.TokenKind.TheVariants as kind
use Rattle.gd_syntax.specs.declared.token.Keyword.{Keyword}
use Rattle.gd_syntax.specs.declared.token.Mark.{Mark}
use Rattle.gd_syntax.specs.declared.token.Mark.TheVariants.{Semicolon}

abbrev pub Text : Type 0
Text = List ℕ

abbrev pub word : Keyword → Pos → Token
word w p = record { pos = p; kind = kind.Keyword w }

abbrev pub mark : Mark → Pos → Token
mark m p = record { pos = p; kind = kind.Mark m }

abbrev pub name : Text → Pos → Token
name t p = record { pos = p; kind = kind.Word t }

abbrev pub text : Text → Pos → Token
text t p = record { pos = p; kind = kind.Quoted t }

abbrev pub newline : Pos → Token
newline p = record { pos = p; kind = kind.Newline }

abbrev pub indent : Pos → Token
indent p = record { pos = p; kind = kind.Indent }

abbrev pub dedent : Pos → Token
dedent p = record { pos = p; kind = kind.Dedent }

-- a token that ends or opens lines and blocks alone
abbrev pub is_separator : TokenKind → Bool
is_separator kind.Newline = true
is_separator kind.Indent = true
is_separator kind.Dedent = true
is_separator kind.End = true
is_separator (kind.Mark Semicolon) = true
is_separator _ = false

-- the place of the last token other than separators, or `before` where there is none
abbrev pub last_place : Pos → List Token → Pos
last_place before [] = before
last_place before (t ∷ ts) = last_place (if is_separator t.kind then before else t.pos) ts
