-- What `run` of a project answers, from what a check of its scripts says and what comes of compiling them.
use Rattle.std.proofs.Common.{◌≡◌, ◌≢◌, ◌∙◌, ℕ, true, List, [], ◌∷◌, ◌++◌, filter, codes, Option, Some, None, Result, Ok, Err, IfOk, IfSome, length, ap, arith, refl, sym, subst, Vec}
use Rattle.std.specs.List.{list_all}
use Rattle.std.specs.declared.alloc.Global.{Global}
use Rattle.gd_outside.specs.Files.{File, IsRising, paths_of}
use Rattle.gd_outside.specs.declared.shelf.FailedCall.{FailedCall}
use Rattle.gd_rules.specs.declared.diag.Diag.{Diag}
use Rattle.gd_rules.specs.declared.diag.Mark.{Mark}
use Rattle.gd_command.specs.Answer.{IsAnswer}
use Rattle.gd_command.specs.Call.{IsReached}
use Rattle.gd_command.specs.Check.{AreAt, AreRead, bytes_of}
use Rattle.gd_command.specs.Compiled.{HasErrors, HasNoErrors, IsCompiled, IsCompiledTree, IsRunAnswer}
use Rattle.gd_command.specs.Judged.{Analysed, CheckFinds, Finds, faulty, whole}
use Rattle.gd_command.specs.Output.{CheckOutput, RunOutput, errors_alone, scripts, not_accepted, no_main, long_function, ran}
use Rattle.gd_command.specs.Report.{ReportState, is_error, report_status, report_text}
use Rattle.gd_command.specs.declared.answer.Answer.{Answer}
use Rattle.gd_command.specs.declared.answer.Answer.TheVariants.{Usage, ListFault, ReadFault, TooManyFiles, LongFile, LongProject, Checked, NoMain, LongFunction, Runs, Samples}
use Rattle.gd_command.specs.declared.compiled.Compiled.{Compiled}
use Rattle.gd_command.specs.declared.compiled.Compiled.TheVariants as compiled
use Rattle.gd_command.specs.declared.status.Status.{Status}
use Rattle.gd_command.specs.declared.status.Status.TheVariants as status
use Rattle.gd_command.proofs.CheckLemmas.{told_checked}
use Rattle.gd_command.proofs.ErrorLemmas.{faulty_status, finds_errors}
use Rattle.gd_command.proofs.RunLemmas.{is_script}

-- what a check says of the scripts, where that is not Done
pub not_run : (told : Option (List File)) (main text : List ℕ) (s : Status) → s ≢ status.Done
    → IfSome told (λ files. CheckOutput errors_alone (scripts files) text s) → IfSome told (λ files. RunOutput (scripts files) main text s)
not_run None main text s other is = tt
not_run (Some files) main text s other is = not_accepted text s is other

-- a check that finds these in the scripts writes them
abbrev Checks : List File → List (List ℕ) → List (List ℕ) → Type 0
Checks files paths sources = (report : ReportState) → report.paths ≡ paths → CheckFinds errors_alone sources report.diags report.marks
    → CheckOutput errors_alone (scripts files) (report_text report) (report_status report.diags)

-- a check that finds nothing writes nothing
clean : (files : List File) (paths sources : List (List ℕ)) → Checks files paths sources → CheckFinds errors_alone sources [] []
    → CheckOutput errors_alone (scripts files) [] status.Done
clean files paths sources checks finds = checks (record { paths = paths; diags = []; marks = [] }) refl finds

run_answers : (files : List File) (paths sources : List (List ℕ)) (main : List ℕ) (failed : FailedCall) (answer : Answer)
    → Checks files paths sources → IsRunAnswer paths sources main answer
    → IsAnswer (RunOutput (scripts files) main) (IsReached (scripts files)) files failed answer
run_answers files paths sources main failed (Checked report) checks (has, finds) =
    let all = subst (λ (marks : List Mark). CheckFinds errors_alone sources report.diags marks) (sym has.no_marks) finds in
    not_accepted (report_text report) (report_status report.diags) (checks report has.paths_are all) (λ done. other (sym has.faulty ∙ done))
  where
    other : status.Faulty ≢ status.Done
    other is = cc
run_answers files paths sources main failed (NoMain path) checks (same, finds) =
    subst (λ (p : List ℕ). RunOutput (scripts files) main (codes "no main: " ++ (p ++ (10 ∷ []))) status.NoMain) (sym same)
    (no_main (clean files paths sources checks finds))
run_answers files paths sources main failed (LongFunction path pos) checks finds = long_function path pos (clean files paths sources checks finds)
run_answers files paths sources main failed (Runs program options) checks finds = λ text s ends. ran text s (clean files paths sources checks finds) ends
run_answers files paths sources main failed Usage checks is = absurd is
run_answers files paths sources main failed ListFault checks is = absurd is
run_answers files paths sources main failed (ReadFault path) checks is = absurd is
run_answers files paths sources main failed TooManyFiles checks is = absurd is
run_answers files paths sources main failed (LongFile path) checks is = absurd is
run_answers files paths sources main failed LongProject checks is = absurd is
run_answers files paths sources main failed (Samples sample) checks is = absurd is

-- what a run of scripts that were read answers
pub told_run : {E : Type 0} (told now : Option (List File)) (paths kept : List (List ℕ)) (sources : List (Vec ℕ Global)) (main : List ℕ)
    (failed : FailedCall) (r : Result Answer E) → now ≡ told → IsRising paths → IfSome told (λ files. paths ≡ paths_of files)
    → kept ≡ filter is_script paths → IfSome now (λ files. (read : List File) → kept ≡ paths_of read → AreAt files read
    → AreRead read sources) → IfOk r (IsRunAnswer kept (bytes_of sources) main)
    → IfSome told (λ files. IfOk r (IsAnswer (RunOutput (scripts files) main) (IsReached (scripts files)) files failed))
told_run None now paths kept sources main failed r same rising all is fits answer = tt
told_run (Some files) now paths kept sources main failed (Err e) same rising all is fits answer = tt
told_run (Some files) now paths kept sources main failed (Ok x) same rising all is fits answer =
    run_answers files kept (bytes_of sources) main failed x
    (λ report names finds. told_checked errors_alone
    (Some files) now paths kept sources failed report same rising all is fits names finds) answer

-- ---- what comes of compiling

-- a report of these errors and of no marks
with_errors : (paths : List (List ℕ)) (faults : List Diag) (report : ReportState) → list_all is_error faults ≡ true → length faults ≢ 0
    → report.paths ≡ paths → report.diags ≡ faults → report.marks ≡ [] → HasErrors paths report
with_errors paths faults report errors some names same none = record {
  paths_are = names;
  no_marks = none;
  faulty = ap report_status same ∙ faulty_status faults errors (λ empty. some (ap length empty));
}

-- scripts with lexical or syntax faults
pub faulty_compiled : (paths sources : List (List ℕ)) (faults : List Diag) (report : ReportState) → Finds sources faults
    → length faults ≢ 0 → report.paths ≡ paths → report.diags ≡ faults → report.marks ≡ []
    → IsCompiled paths sources (compiled.Faulty report)
faulty_compiled paths sources faults report finds some names same none = (
  with_errors paths faults report (finds_errors sources faults finds) some names same none,
  subst
      (λ (diags : List Diag). CheckFinds errors_alone sources diags []) (sym same)
      (faulty faults finds (λ empty. some (ap length empty))),
)

nothing_found : (sources : List (List ℕ)) → Finds sources [] → CheckFinds errors_alone sources [] []
nothing_found sources finds = whole [] [] finds (record { warnings_asked = λ off. refl; marks_asked = λ off. refl; marks_accepted = λ some. refl })

compiled_whole : (paths sources : List (List ℕ)) (compiled : Compiled) → Finds sources [] → IsCompiledTree paths compiled → IsCompiled paths sources compiled
compiled_whole paths sources (compiled.Faulty report) finds (has, analysed) = (has, whole report.diags [] finds analysed)
compiled_whole paths sources (compiled.Program program) finds is = nothing_found sources finds
compiled_whole paths sources compiled.NoMain finds is = nothing_found sources finds
compiled_whole paths sources (compiled.LongFunction path pos) finds is = nothing_found sources finds

-- scripts without one
pub whole_compiled : {E : Type 0} (paths sources : List (List ℕ)) (faults : List Diag) (r : Result Compiled E) → length faults ≡ 0
    → Finds sources faults → IfOk r (IsCompiledTree paths) → IfOk r (IsCompiled paths sources)
whole_compiled paths sources faults (Err e) none finds is = tt
whole_compiled paths sources [] (Ok compiled) none finds is = compiled_whole paths sources compiled finds is
whole_compiled paths sources (diag ∷ faults) (Ok compiled) none finds is = absurd (omega (arith, none))

-- a project that is refused
pub faulty_tree : (paths : List (List ℕ)) (faults : List Diag) (report : ReportState) → length faults ≢ 0
    → list_all is_error faults ≡ true → report.paths ≡ paths → report.diags ≡ faults → report.marks ≡ []
    → IsCompiledTree paths (compiled.Faulty report)
faulty_tree paths faults report some errors names same none = (
  with_errors paths faults report errors some names same none,
  record {
    warnings_asked = λ off. subst (λ (diags : List Diag). list_all is_error diags ≡ true) (sym same) errors;
    marks_asked = λ off. refl;
    marks_accepted = λ some. refl;
  },
)

-- a project that is accepted
pub accepted_tree : {E : Type 0} (paths : List (List ℕ)) (r : Result Compiled E) → IfOk r HasNoErrors → IfOk r (IsCompiledTree paths)
accepted_tree paths (Err e) is = tt
accepted_tree paths (Ok (compiled.Faulty report)) is = absurd is
accepted_tree paths (Ok (compiled.Program program)) is = tt
accepted_tree paths (Ok compiled.NoMain) is = tt
accepted_tree paths (Ok (compiled.LongFunction path pos)) is = tt
