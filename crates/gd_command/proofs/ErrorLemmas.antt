-- Lexical and syntax faults are errors, none of them a warning.
use Rattle.std.proofs.Common.{◌≡◌, ◌≢◌, ℕ, Bool, true, false, ◌&&◌, ◌||◌, if◌then◌else◌, List, [], ◌∷◌, ◌++◌, length, refl, sym, ap, subst, ◌∙◌}
use Rattle.std.specs.List.{list_all, list_any}
use Rattle.std.proofs.lemmas.Bool.{false≢true}
use Rattle.std.proofs.lemmas.List.Folds.{list_all-append}
use Rattle.gd_syntax.specs.declared.token.Keyword.{Keyword}
use Rattle.gd_syntax.specs.declared.token.Keyword.TheVariants as keywords
use Rattle.gd_syntax.specs.declared.token.Mark.{Mark}
use Rattle.gd_syntax.specs.declared.token.Mark.TheVariants as marks
use Rattle.gd_syntax.specs.declared.token.TokenKind.{TokenKind}
use Rattle.gd_syntax.specs.declared.token.TokenKind.TheVariants.{Keyword as OfKeyword, Mark as OfMark}
use Rattle.gd_rules.specs.declared.diag.Diag.{Diag}
use Rattle.gd_rules.specs.declared.rule.Rule.{Rule}
use Rattle.gd_rules.specs.declared.rule.Rule.TheVariants.{UnsafePropertyAccess, UnsafeMethodAccess, UnsafeCast, UnsafeCallArgument, IntegerDivision}
use Rattle.gd_lexis.specs.declared.glyph.Glyph.{Glyph}
use Rattle.gd_lexis.specs.Pieces.{Piece}
use Rattle.gd_lexis.specs.Faults.{Breaks, IsBroken}
use Rattle.gd_grammar.specs.Fault.{fault_rule}
use Rattle.gd_command.specs.Judged.{FileFinds, Finds, lexical, syntax, nothing, no_file, next_file}
use Rattle.gd_command.specs.Report.{is_error, is_heavy, report_status, severity_of}
use Rattle.gd_command.specs.declared.status.Status.TheVariants.{Done, Faulty}

abbrev weighs : Rule → Bool
weighs rule = is_heavy (severity_of rule)

lexical_weighs : (rule : Rule) (before : List Piece) (gs ahead : List Glyph) → Breaks rule before gs ahead → weighs rule ≡ true
lexical_weighs UnsafePropertyAccess before gs ahead breaks = absurd breaks
lexical_weighs UnsafeMethodAccess before gs ahead breaks = absurd breaks
lexical_weighs UnsafeCast before gs ahead breaks = absurd breaks
lexical_weighs UnsafeCallArgument before gs ahead breaks = absurd breaks
lexical_weighs IntegerDivision before gs ahead breaks = absurd breaks
lexical_weighs _ before gs ahead breaks = refl

keyword_weighs : (keyword : Keyword) → weighs (fault_rule (OfKeyword keyword)) ≡ true
keyword_weighs keywords.Await = refl
keyword_weighs keywords.Yield = refl
keyword_weighs keywords.Breakpoint = refl
keyword_weighs keywords.Func = refl
keyword_weighs _ = refl

mark_weighs : (mark : Mark) → weighs (fault_rule (OfMark mark)) ≡ true
mark_weighs marks.Dollar = refl
mark_weighs _ = refl

syntax_weighs : (kind : TokenKind) → weighs (fault_rule kind) ≡ true
syntax_weighs (OfKeyword keyword) = keyword_weighs keyword
syntax_weighs (OfMark mark) = mark_weighs mark
syntax_weighs _ = refl

file_errors : (file : ℕ) (bytes : List ℕ) (found : List Diag) → FileFinds file bytes found → list_all is_error found ≡ true
file_errors file bytes found (lexical diag first) = alone diag.rule first.broken
  where
    alone : (rule : Rule) → IsBroken file bytes rule diag.pos → (weighs rule && true) ≡ true
    alone rule (glyphs, before, gs, ahead, _, _, breaks, _) = ap (λ b. b && true) (lexical_weighs rule before gs ahead breaks)
file_errors file bytes found (syntax diag tokens k lexes stands) =
    ap (λ (b : Bool). b && true) (ap weighs stands.by_token ∙ syntax_weighs stands.token.kind)
file_errors file bytes found (nothing tokens lexes) = refl

-- all that lexing and parsing find are errors
pub finds_errors : (sources : List (List ℕ)) (diags : List Diag) → Finds sources diags → list_all is_error diags ≡ true
finds_errors sources diags no_file = refl
finds_errors sources diags (next_file before earlier bytes found finds more) =
    list_all-append is_error earlier found ∙ both (list_all is_error earlier) (list_all is_error found)
    (finds_errors before earlier finds) (file_errors (length before) bytes found more)
  where
    both : (a b : Bool) → a ≡ true → b ≡ true → (a && b) ≡ true
    both a b first second = ap (λ x. x && b) first ∙ second

some_error : (diags : List Diag) → list_all is_error diags ≡ true → diags ≢ [] → list_any is_error diags ≡ true
some_error [] all some = absurd (some refl)
some_error (diag ∷ diags) all some = by (is_error diag) (list_all is_error diags) (list_any is_error diags) all
  where
    by : (a b c : Bool) → (a && b) ≡ true → (a || c) ≡ true
    by true b c is = refl
    by false b c is = absurd (false≢true is)

-- errors make a project faulty
pub faulty_status : (diags : List Diag) → list_all is_error diags ≡ true → diags ≢ [] → report_status diags ≡ Faulty
faulty_status diags all some = ap (λ (b : Bool). if b then Faulty else Done) (some_error diags all some)
