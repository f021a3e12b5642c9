-- The answers that a call decides on before it writes.
use Rattle.std.specs.Prelude.{◌≡◌, ℕ, List, ◌∷◌, [], ◌++◌, codes, IfOk, IsSome, MatchResult, Option, Result}
use Rattle.gd_outside.specs.Files.{File, place_of}
use Rattle.gd_outside.specs.declared.shelf.FailedCall.{FailedCall}
use Rattle.gd_outside.specs.declared.shelf.FailedCall.TheVariants.{List as Listing, Read}
use Rattle.gd_outside.specs.Sink.{Appends}
use Rattle.gd_command.specs.Ends.{IsRunText}
use Rattle.gd_command.specs.Output.{long_function_line, usage_line}
use Rattle.gd_command.specs.Puts.{Grows, Puts}
use Rattle.gd_command.specs.Report.{report_status, report_text}
use Rattle.gd_command.specs.declared.answer.Answer.{Answer}
use Rattle.gd_command.specs.declared.answer.Answer.TheVariants.{Usage, ListFault, ReadFault, TooManyFiles, LongFile, LongProject, Checked, NoMain, LongFunction, Runs, Samples}
use Rattle.gd_command.specs.declared.status.Status.{Status}
use Rattle.gd_command.specs.declared.status.Status.TheVariants as ends

-- the text of an answer; a run writes what its program prints
abbrev pub answer_text : Answer → List ℕ
answer_text Usage = usage_line
answer_text ListFault = codes "read fault: list\n"
answer_text (ReadFault path) = codes "read fault: " ++ (path ++ (10 ∷ []))
answer_text TooManyFiles = codes "too large: files\n"
answer_text (LongFile path) = codes "too large: file " ++ (path ++ (10 ∷ []))
answer_text LongProject = codes "too large: project\n"
answer_text (Checked report) = report_text report
answer_text (NoMain path) = codes "no main: " ++ (path ++ (10 ∷ []))
answer_text (LongFunction path pos) = long_function_line path pos
answer_text (Runs _ _) = []
answer_text (Samples _) = []

-- its status
abbrev pub answer_status : Answer → Status
answer_status Usage = ends.Usage
answer_status ListFault = ends.ReadFault
answer_status (ReadFault _) = ends.ReadFault
answer_status TooManyFiles = ends.TooLarge
answer_status (LongFile _) = ends.TooLarge
answer_status LongProject = ends.TooLarge
answer_status (Checked report) = report_status report.diags
answer_status (NoMain _) = ends.NoMain
answer_status (LongFunction _ _) = ends.TooLarge
answer_status (Runs _ _) = ends.Done
answer_status (Samples _) = ends.Done

-- The answer is what such a text and status mean. A fault is that of the call that failed last: the list, or the read of one
-- of these paths.
abbrev pub IsAnswer : (List ℕ → Status → Type 0) → (List ℕ → Type 0) → List File → FailedCall → Answer → Type 0
IsAnswer output reads files failed ListFault = failed ≡ Listing
IsAnswer output reads files failed (ReadFault path) = (failed ≡ Read (place_of files path)) × reads path
IsAnswer output reads files failed Usage = output (answer_text Usage) (answer_status Usage)
IsAnswer output reads files failed TooManyFiles = output (answer_text TooManyFiles) (answer_status TooManyFiles)
IsAnswer output reads files failed (LongFile path) = output (answer_text (LongFile path)) (answer_status (LongFile path))
IsAnswer output reads files failed LongProject = output (answer_text LongProject) (answer_status LongProject)
IsAnswer output reads files failed (Checked report) = output (answer_text (Checked report)) (answer_status (Checked report))
IsAnswer output reads files failed (NoMain path) = output (answer_text (NoMain path)) (answer_status (NoMain path))
IsAnswer output reads files failed (LongFunction path pos) = output (answer_text (LongFunction path pos)) (answer_status (LongFunction path pos))
IsAnswer output reads files failed (Runs _ _) = (text : List ℕ) (status : Status) → IsRunText text status → output text status
IsAnswer output reads files failed (Samples sample) = (text : List ℕ) → output text ends.Done

-- the answer says that the shelf failed
abbrev pub IsFaultOf : Answer → Type 0
IsFaultOf ListFault = Unit {0}
IsFaultOf (ReadFault _) = Unit {0}
IsFaultOf _ = ⊥

-- what a run writes: its text, or after an error some lines
abbrev pub WritesRun : {E : Type 0} → Option (List ℕ) → Option (List ℕ) → Result Status E → Type 0
WritesRun old new result = MatchResult result (λ status. (text : List ℕ) × IsRunText text status × Appends old text new) (λ _. Grows old new)

-- What doing what was decided writes. After an error it is the front of what an answer writes: of a run any lines.
abbrev pub Performs : {E : Type 0} → Option (List ℕ) → Answer → Option (List ℕ) → Result Status E → Type 0
Performs old (Runs _ _) new result = WritesRun old new result
Performs old (Samples sample) new result = MatchResult result (λ status. (status ≡ ends.Done) × Grows old new) (λ _. Grows old new)
Performs old answer new result = Puts old (answer_text answer) new result × IfOk result (λ status. status ≡ answer_status answer)

-- the machine that is left: that of a run where one ended, else the one before
abbrev pub IsLeft : {M : Type 0} → Answer → Option M → Option M → Type 0
IsLeft (Runs _ _) before after = IsSome after
IsLeft (Samples _) before after = IsSome after
IsLeft _ before after = after ≡ before
