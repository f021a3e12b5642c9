-- What one more script adds to what a check finds.
use Rattle.std.proofs.Common.{◌≡◌, ◌≢◌, ◌<◌, ℕ, List, [], ◌∷◌, ◌++◌, length, All, IfOk, Result, Ok, Err, Bool, true, false, ap, sym, subst, ◌∙◌, arith}
use Rattle.std.specs.List.{list_all, list_any}
use Rattle.std.proofs.lemmas.List.{append-nil}
use Rattle.gd_rules.specs.declared.diag.Diag.{Diag}
use Rattle.gd_rules.specs.declared.diag.Mark.{Mark}
use Rattle.gd_syntax.specs.declared.tree.decl.ClassDecl.{ClassDecl}
use Rattle.gd_command.specs.Judged.{Analysed, CheckFinds, FileFinds, Finds, fault_of, faulty, next_file, whole}
use Rattle.gd_command.specs.Report.{ReportState, is_error}
use Rattle.gd_command.specs.declared.judge.Reading.{Reading}
use Rattle.gd_command.specs.declared.judge.Reading.TheVariants.{Tree, Fault}
use Rattle.gd_command.specs.declared.words.CheckOptions.{CheckOptions}

pub finds_next : (sources : List (List ℕ)) (diags more : List Diag) (bytes : List ℕ) (file : ℕ) (found : List Diag) → more ≡ diags ++ found → FileFinds file bytes found → file ≡ length sources → Finds sources diags → Finds (sources ++ (bytes ∷ [])) more
finds_next sources diags more bytes file found added finds is so =
    subst (Finds (sources ++ (bytes ∷ []))) (sym added) (next_file sources diags bytes found so (subst (λ (n : ℕ). FileFinds n bytes found) is finds))

pub finds_same : (sources : List (List ℕ)) (diags : List Diag) (bytes : List ℕ) (file : ℕ) → FileFinds file bytes [] → file ≡ length sources → Finds sources diags → Finds (sources ++ (bytes ∷ [])) diags
finds_same sources diags bytes file finds is so = finds_next sources diags diags bytes file [] (sym (append-nil diags)) finds is so

pub none_in : (file : ℕ) (diags : List Diag) → diags ≡ [] → All (λ (diag : Diag). diag.pos.file < file) diags
none_in file diags none = subst (All (λ (diag : Diag). diag.pos.file < file)) (sym none) (λ k d lt. absurd (omega arith))

pub tree_finds : (sources : List (List ℕ)) (diags : List Diag) (bytes : List ℕ) (file : ℕ) (reading : Reading) (tree : ClassDecl) → reading ≡ Tree tree → FileFinds file bytes (fault_of reading) → file ≡ length sources → Finds sources diags → Finds (sources ++ (bytes ∷ [])) diags
tree_finds sources diags bytes file reading tree which finds is so =
    finds_same sources diags bytes file (subst (λ (r : Reading). FileFinds file bytes (fault_of r)) which finds) is so

pub fault_finds : (sources : List (List ℕ)) (diags more : List Diag) (bytes : List ℕ) (file : ℕ) (reading : Reading) (diag : Diag) → reading ≡ Fault diag → more ≡ diags ++ (diag ∷ []) → FileFinds file bytes (fault_of reading) → file ≡ length sources → Finds sources diags → Finds (sources ++ (bytes ∷ [])) more
fault_finds sources diags more bytes file reading diag which added finds is so =
    finds_next sources diags more bytes file (diag ∷ []) added (subst (λ (r : Reading). FileFinds file bytes (fault_of r)) which finds) is so

-- what a check with faults finds, and one of whole scripts

pub faulty_of : (options : CheckOptions) (sources : List (List ℕ)) (faults diags : List Diag) (marks : List Mark) → Finds sources faults → diags ≡ faults → marks ≡ [] → length faults ≢ 0 → CheckFinds options sources diags marks
faulty_of options sources faults diags marks finds same none some =
    subst (λ (list : List Diag). CheckFinds options sources list marks) (sym same)
    (subst (λ (list : List Mark). CheckFinds options sources faults list) (sym none) (faulty faults finds (λ empty. some (ap length empty))))

pub whole_of : {E : Type 0} (options : CheckOptions) (sources : List (List ℕ)) (faults : List Diag) (r : Result ReportState E) → length faults ≡ 0 → Finds sources faults → IfOk r (λ report. Analysed options report.diags report.marks) → IfOk r (λ report. CheckFinds options sources report.diags report.marks)
whole_of options sources faults (Err e) none finds analysed = tt
whole_of options sources [] (Ok report) none finds analysed = whole report.diags report.marks finds analysed
whole_of options sources (diag ∷ faults) (Ok report) none finds analysed = absurd (omega (arith, none))

-- what the analysis finds, as a report tells it
pub analysed_of : {E : Type 0} (options : CheckOptions) (r : Result ReportState E) (diags : List Diag) (marks : List Mark) → IfOk r (λ report. report.diags ≡ diags) → IfOk r (λ report. report.marks ≡ marks) → IfOk r (λ report. options.warn ≡ false → list_all is_error diags ≡ true) → (options.marks ≡ false → marks ≡ []) → (list_any is_error diags ≡ true → marks ≡ []) → IfOk r (λ report. Analysed options report.diags report.marks)
analysed_of options (Err e) diags marks same same_marks warned asked accepted = tt
analysed_of options (Ok report) diags marks same same_marks warned asked accepted = record {
  warnings_asked = λ off. subst (λ (list : List Diag). list_all is_error list ≡ true) (sym same) (warned off);
  marks_asked = λ off. same_marks ∙ asked off;
  marks_accepted = λ some. same_marks ∙ accepted (subst (λ (list : List Diag). list_any is_error list ≡ true) same some);
}
