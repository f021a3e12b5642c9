-- What comes of compiling the scripts of a project.
use Rattle.std.specs.Prelude.{◌≡◌, ℕ, List, []}
use Rattle.gd_command.specs.Judged.{Analysed, CheckFinds}
use Rattle.gd_command.specs.Output.{errors_alone}
use Rattle.gd_command.specs.Report.{ReportState, report_status}
use Rattle.gd_command.specs.declared.answer.Answer.{Answer}
use Rattle.gd_command.specs.declared.answer.Answer.TheVariants.{Checked, NoMain, LongFunction, Runs}
use Rattle.gd_command.specs.declared.compiled.Compiled.{Compiled}
use Rattle.gd_command.specs.declared.compiled.Compiled.TheVariants.{Faulty}
use Rattle.gd_command.specs.declared.status.Status.TheVariants as status

-- the report has errors of the scripts with these paths, and nothing else
pub record HasErrors (paths : List (List ℕ)) (report : ReportState) : Type 0 where
  pub paths_are : report.paths ≡ paths
  pub no_marks : report.marks ≡ []
  pub faulty : report_status report.diags ≡ status.Faulty

-- compiling scripts with these paths and bytes: a report has the errors of a check, and else a check finds none
abbrev pub IsCompiled : List (List ℕ) → List (List ℕ) → Compiled → Type 0
IsCompiled paths sources (Faulty report) = HasErrors paths report × CheckFinds errors_alone sources report.diags []
IsCompiled paths sources _ = CheckFinds errors_alone sources [] []

-- the same of scripts without a lexical or syntax fault
abbrev pub IsCompiledTree : List (List ℕ) → Compiled → Type 0
IsCompiledTree paths (Faulty report) = HasErrors paths report × Analysed errors_alone report.diags []
IsCompiledTree paths _ = Unit {0}

-- no errors are answered
abbrev pub HasNoErrors : Compiled → Type 0
HasNoErrors (Faulty _) = ⊥
HasNoErrors _ = Unit {0}

-- what a run of scripts with these paths and bytes answers: the errors of a check; or what comes where a check finds none
abbrev pub IsRunAnswer : List (List ℕ) → List (List ℕ) → List ℕ → Answer → Type 0
IsRunAnswer paths sources main (Checked report) = HasErrors paths report × CheckFinds errors_alone sources report.diags []
IsRunAnswer paths sources main (NoMain path) = (path ≡ main) × CheckFinds errors_alone sources [] []
IsRunAnswer paths sources main (LongFunction _ _) = CheckFinds errors_alone sources [] []
IsRunAnswer paths sources main (Runs _ _) = CheckFinds errors_alone sources [] []
IsRunAnswer paths sources main _ = ⊥
