-- The lines that a check prints, and its status.
use Rattle.std.specs.Prelude.{ℕ, ◌<◌, Bool, true, false, if◌then◌else◌, List, [], ◌∷◌, ◌++◌, All, length, codes, decimal, get_or, Option, Some, None}
use Rattle.std.specs.List.{flat_map, list_any}
use Rattle.gd_rules.specs.declared.diag.Diag.{Diag}
use Rattle.gd_rules.specs.declared.diag.Mark.{Mark}
use Rattle.gd_rules.specs.declared.rule.Rule.{Rule}
use Rattle.gd_rules.specs.Rule.{rule_code, rule_text}
use Rattle.gd_command.specs.declared.severity.Severity.{Severity}
use Rattle.gd_command.specs.declared.severity.Severity.TheVariants.{Error, Warning}
use Rattle.gd_command.specs.declared.status.Status.{Status}
use Rattle.gd_command.specs.declared.status.Status.TheVariants.{Done, Faulty}
use Rattle.gd_rules.specs.declared.rule.Rule.TheVariants.{UnsafePropertyAccess, UnsafeMethodAccess, UnsafeCast, UnsafeCallArgument, IntegerDivision}

-- the paths of all scripts, and the places at which rules hold and marks stand
pub record ReportState : Type 0 where
  pub paths : List (List ℕ)
  pub diags : List Diag
  pub marks : List Mark

-- each place is in one of so many files
pub record AreWithin (files : ℕ) (diags : List Diag) (marks : List Mark) : Type 0 where
  pub diags_within : All (λ (diag : Diag). diag.pos.file < files) diags
  pub marks_within : All (λ (mark : Mark). mark.pos.file < files) marks

-- W1 to W5 warn
abbrev pub severity_of : Rule → Severity
severity_of UnsafePropertyAccess = Warning
severity_of UnsafeMethodAccess = Warning
severity_of UnsafeCast = Warning
severity_of UnsafeCallArgument = Warning
severity_of IntegerDivision = Warning
severity_of _ = Error

abbrev pub is_heavy : Severity → Bool
is_heavy Error = true
is_heavy Warning = false

abbrev pub severity_word : Severity → List ℕ
severity_word Error = codes "error"
severity_word Warning = codes "warning"

-- the path of the file with this number
abbrev pub path_at : List (List ℕ) → ℕ → List ℕ
path_at paths file = get_or paths file []

-- the line of a diagnostic: its place, its weight, and the rule's code and text
abbrev pub diag_line : List (List ℕ) → Diag → List ℕ
diag_line paths diag = path_at paths diag.pos.file ++ ((58 ∷ decimal diag.pos.line) ++ ((58 ∷ decimal diag.pos.column) ++ (codes ": " ++ (severity_word (severity_of diag.rule) ++ (32 ∷ rule_code diag.rule ++ (codes ": " ++ (rule_text diag.rule ++ (10 ∷ []))))))))

-- the line of a mark
abbrev pub mark_line : List (List ℕ) → Mark → List ℕ
mark_line paths mark = path_at paths mark.pos.file ++ ((58 ∷ decimal mark.pos.line) ++ ((58 ∷ decimal mark.pos.column) ++ codes ": mark\n"))

-- the lines of what was found, and then of the marks
abbrev pub report_text : ReportState → List ℕ
report_text report = flat_map (diag_line report.paths) report.diags ++ flat_map (mark_line report.paths) report.marks

abbrev pub is_error : Diag → Bool
is_error diag = is_heavy (severity_of diag.rule)

-- a check is Faulty exactly where an error holds
abbrev pub report_status : List Diag → Status
report_status diags = if list_any is_error diags then Faulty else Done
