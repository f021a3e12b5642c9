-- Where tokens are refused, and by which rule.
use Rattle.std.specs.Prelude.{◌≡◌, ℕ, List, Some, slice_get}
use Rattle.gd_rules.specs.declared.rule.Rule.{Rule}
use Rattle.gd_rules.specs.declared.rule.Rule.TheVariants.{Syntax, FormLeftOut}
use Rattle.gd_syntax.specs.declared.pos.Pos.{Pos}
use Rattle.gd_syntax.specs.declared.token.Token.{Token}
use Rattle.gd_syntax.specs.declared.token.TokenKind.{TokenKind}
use Rattle.gd_syntax.specs.declared.token.TokenKind.TheVariants.{Keyword, Mark}
use Rattle.gd_syntax.specs.declared.token.Keyword.TheVariants.{Await, Yield, Breakpoint, Func}
use Rattle.gd_syntax.specs.declared.token.Mark.TheVariants.{Dollar}
use Rattle.gd_grammar.specs.declared.fault.SyntaxFault.{SyntaxFault}
use Rattle.gd_grammar.specs.declared.fault.SyntaxFault.TheVariants.{Fault, NoMemory}

-- the rule of a fault at this token: those five begin forms that are left out of the language
abbrev pub fault_rule : TokenKind → Rule
fault_rule (Keyword Await) = FormLeftOut
fault_rule (Keyword Yield) = FormLeftOut
fault_rule (Keyword Breakpoint) = FormLeftOut
fault_rule (Keyword Func) = FormLeftOut
fault_rule (Mark Dollar) = FormLeftOut
fault_rule _ = Syntax

-- a fault at the `k`th token, counted from 0: its place is the token's, and the rule is by the token
pub record StandsAt (tokens : List Token) (k : ℕ) (pos : Pos) (rule : Rule) : Type 0 where
  pub token : Token
  pub there : slice_get tokens k ≡ Some token
  pub place : pos ≡ token.pos
  pub by_token : rule ≡ fault_rule token.kind

-- a fault stands at the `k`th token
abbrev pub IsFaultAt : List Token → ℕ → SyntaxFault → Type 0
IsFaultAt tokens k (Fault pos rule) = StandsAt tokens k pos rule
IsFaultAt _ _ NoMemory = Unit {0}

-- a fault stands at some token
abbrev pub IsFaultAmong : List Token → SyntaxFault → Type 0
IsFaultAmong tokens fault = (k : ℕ) × IsFaultAt tokens k fault
