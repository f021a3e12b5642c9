-- What a call leaves in its sink, from the answer that it decided on.
use Rattle.std.proofs.Common.{◌≡◌, ◌≢◌, ℕ, Bool, true, false, if◌then◌else◌, List, [], ◌∷◌, take, Option, Some, None, Result, Ok, Err, IfSome, IfOk, IsSome, refl, sym, ap, subst, ◌∙◌}
use Rattle.std.proofs.lemmas.Bool.{false≢true}
use Rattle.std.proofs.lemmas.List.{append-nil}
use Rattle.std.specs.List.{list_any}
use Rattle.gd_outside.specs.Files.{File}
use Rattle.gd_outside.specs.Sink.{Appends, AppendsPrefix}
use Rattle.gd_outside.specs.declared.shelf.FailedCall.{FailedCall}
use Rattle.gd_rules.specs.declared.diag.Diag.{Diag}
use Rattle.gd_command.specs.Words.{Means}
use Rattle.gd_command.specs.Report.{is_error, report_status}
use Rattle.gd_command.specs.Ends.{IsRunEnd, IsRunText, done, out_of_turns, faulted}
use Rattle.gd_command.specs.Output.{Output, RunOutput, CheckOutput, NoCommand, usage, command, sampled, usage_line, scripts}
use Rattle.gd_command.specs.Answer.{IsAnswer, IsFaultOf, IsLeft, Performs, answer_text, answer_status}
use Rattle.gd_command.specs.Call.{IsReached, WordsRead, list_failed, read_failed, IsBegun, nothing, output_begun, fault_begun, Writes, Answers, IsUsageAnswer}
use Rattle.gd_command.specs.declared.words.CheckOptions.{CheckOptions}
use Rattle.gd_command.specs.declared.run_options.RunOptions.{RunOptions}
use Rattle.gd_command.specs.declared.sample.Sample.{Sample}
use Rattle.gd_command.specs.declared.words.Command.TheVariants.{Check, Run, Sample as SampleOf}
use Rattle.gd_command.specs.declared.answer.Answer.{Answer}
use Rattle.gd_command.specs.declared.answer.Answer.TheVariants.{Usage, ListFault, ReadFault, TooManyFiles, LongFile, LongProject, Checked, NoMain, LongFunction, Runs, Samples}
use Rattle.gd_command.specs.declared.status.Status.{Status}
use Rattle.gd_command.specs.declared.status.Status.TheVariants as status
use Rattle.gd_command.proofs.PutsLemmas.{Appends-prefix}

IsAnswer-more : (output more : List ℕ → Status → Type 0) (reads comes : List ℕ → Type 0) (files : List File) (failed : FailedCall)
    (answer : Answer) → ((text : List ℕ) (s : Status) → output text s → more text s) → ((path : List ℕ) → reads path → comes path)
    → IsAnswer output reads files failed answer → IsAnswer more comes files failed answer
IsAnswer-more output more reads comes files failed Usage also too is = also _ _ is
IsAnswer-more output more reads comes files failed ListFault also too is = is
IsAnswer-more output more reads comes files failed (ReadFault path) also too is = (is.0, too path is.1)
IsAnswer-more output more reads comes files failed TooManyFiles also too is = also _ _ is
IsAnswer-more output more reads comes files failed (LongFile path) also too is = also _ _ is
IsAnswer-more output more reads comes files failed LongProject also too is = also _ _ is
IsAnswer-more output more reads comes files failed (Checked report) also too is = also _ _ is
IsAnswer-more output more reads comes files failed (NoMain path) also too is = also _ _ is
IsAnswer-more output more reads comes files failed (LongFunction path pos) also too is = also _ _ is
IsAnswer-more output more reads comes files failed (Runs program options) also too is = λ text s ends. also text s (is text s ends)
IsAnswer-more output more reads comes files failed (Samples sample) also too is = λ text. also text status.Done (is text)

-- what `run` answers is what its words mean
pub told-run : {E : Type 0} (told : Option (List File)) (words : List (List ℕ)) (main : List ℕ) (options : RunOptions)
    (failed : FailedCall) (r : Result Answer E) → Means words (Run main options)
    → IfSome told (λ files. IfOk r (IsAnswer (RunOutput (scripts files) main) (IsReached (scripts files)) files failed))
    → IfSome told (λ files. IfOk r (IsAnswer (Output words files) (WordsRead words files) files failed))
told-run None words main options failed r means is = tt
told-run (Some files) words main options failed (Err e) means is = tt
told-run (Some files) words main options failed (Ok answer) means is =
    IsAnswer-more (RunOutput (scripts files) main) (Output words files) (IsReached (scripts files))
    (WordsRead words files) files failed answer (λ text s output. command (Run main options) text s means output)
    (λ path reached. (Run main options, means, reached)) is

-- what `sample` answers is what its words mean
pub told-sample : (told : Option (List File)) (words : List (List ℕ)) (count : ℕ) (sample : Sample) (failed : FailedCall)
    → Means words (SampleOf count) → IfSome told (λ files. IsAnswer (Output words files) (WordsRead words files) files failed
    (Samples sample))
told-sample None words count sample failed means = tt
told-sample (Some files) words count sample failed means = λ text. command (SampleOf count) text status.Done means (sampled text)

-- what `check` answers is what its words mean
pub told-check : {E : Type 0} (told : Option (List File)) (words : List (List ℕ)) (failed : FailedCall) (options : CheckOptions)
    (r : Result Answer E) → Means words (Check options) → IfSome told
    (λ files. IfOk r (IsAnswer (CheckOutput options (scripts files)) (IsReached (scripts files)) files failed))
    → IfSome told (λ files. IfOk r (IsAnswer (Output words files) (WordsRead words files) files failed))
told-check None words failed options r means is = tt
told-check (Some files) words failed options (Err e) means is = tt
told-check (Some files) words failed options (Ok answer) means is =
    IsAnswer-more (CheckOutput options (scripts files)) (Output words files) (IsReached (scripts files))
    (WordsRead words files) files failed answer (λ text s output. command (Check options) text s means output)
    (λ path reached. (Check options, means, reached)) is

pub told-usage : (told : Option (List File)) (words : List (List ℕ)) → NoCommand words → IfSome told (λ files. Output words files usage_line status.Usage)
told-usage None words none = tt
told-usage (Some files) words none = usage none

abbrev Says : List (List ℕ) → List File → FailedCall → Answer → Type 0
Says words files failed answer = IsAnswer (Output words files) (WordsRead words files) files failed answer

writes-by : (words : List (List ℕ)) (files : List File) (failed : FailedCall) (rose : Type 0) (faulty : Bool) (text : List ℕ)
    → Output words files text (if faulty then status.Faulty else status.Done)
    → Writes words files failed rose (if faulty then status.Faulty else status.Done) text
writes-by words files failed rose true text is = is
writes-by words files failed rose false text is = is

writes-report : (words : List (List ℕ)) (files : List File) (failed : FailedCall) (rose : Type 0) (diags : List Diag) (text : List ℕ)
    → Output words files text (report_status diags) → Writes words files failed rose (report_status diags) text
writes-report words files failed rose diags text is = writes-by words files failed rose (list_any is_error diags) text is

-- a run's text is written whole, whatever its end
writes-run : (words : List (List ℕ)) (files : List File) (failed : FailedCall) (rose : Type 0) (text : List ℕ) (s : Status)
    → IsRunText text s → ((t : List ℕ) (e : Status) → IsRunText t e → Output words files t e) → Writes words files failed rose s text
writes-run words files failed rose text s (done lines) says = says _ _ (done lines)
writes-run words files failed rose text s (out_of_turns lines) says = says _ _ (out_of_turns lines)
writes-run words files failed rose text s (faulted lines path code pos message) says = says _ _ (faulted lines path code pos message)

writes-as : (words : List (List ℕ)) (files : List File) (failed : FailedCall) (rose : Type 0) (answer : Answer) (s : Status)
    → s ≡ answer_status answer → Writes words files failed rose (answer_status answer) (answer_text answer)
    → Writes words files failed rose s (answer_text answer)
writes-as words files failed rose answer s same is = subst (λ (t : Status). Writes words files failed rose t (answer_text answer)) (sym same) is

-- the answer was done whole
ends_whole : (E : Type 0) (words : List (List ℕ)) (files : List File) (failed : FailedCall) (rose : Type 0) (answer : Answer) (s : Status)
    (before after : Option (List ℕ)) → Says words files failed answer → Performs {E = E} before answer after (Ok s)
    → Answers words files failed rose s before after
ends_whole E words files failed rose (Runs program options) s before after says (text, ends, whole) =
    (text, writes-run words files failed rose text s ends says, whole)
ends_whole E words files failed rose (Samples sample) s before after says (same, (text, whole)) =
    (text, subst (λ (t : Status). Writes words files failed rose t text) (sym same) (says text), whole)
ends_whole E words files failed rose Usage s before after says (whole, same) = (answer_text Usage, writes-as words files failed rose Usage s same says, whole)
ends_whole E words files failed rose ListFault s before after says (whole, same) =
    (answer_text ListFault, writes-as words files failed rose ListFault s same (list_failed says), whole)
ends_whole E words files failed rose (ReadFault path) s before after says (whole, same) =
    (answer_text (ReadFault path), writes-as words files failed rose (ReadFault path) s same (read_failed path says.0 says.1), whole)
ends_whole E words files failed rose TooManyFiles s before after says (whole, same) =
    (answer_text TooManyFiles, writes-as words files failed rose TooManyFiles s same says, whole)
ends_whole E words files failed rose (LongFile path) s before after says (whole, same) =
    (answer_text (LongFile path), writes-as words files failed rose (LongFile path) s same says, whole)
ends_whole E words files failed rose LongProject s before after says (whole, same) =
    (answer_text LongProject, writes-as words files failed rose LongProject s same says, whole)
ends_whole E words files failed rose (Checked report) s before after says (whole, same) = (
  answer_text (Checked report),
  writes-as words files failed rose (Checked report) s same
      (writes-report words files failed rose report.diags _ says),
  whole,
)
ends_whole E words files failed rose (NoMain path) s before after says (whole, same) =
    (answer_text (NoMain path), writes-as words files failed rose (NoMain path) s same says, whole)
ends_whole E words files failed rose (LongFunction path pos) s before after says (whole, same) =
    (answer_text (LongFunction path pos), writes-as words files failed rose (LongFunction path pos) s same says, whole)

abbrev Begins : List (List ℕ) → List File → FailedCall → Type 0 → Option (List ℕ) → Option (List ℕ) → Type 0
Begins words files failed rose before after = (text : List ℕ) × IsBegun words files failed rose text × Appends before text after

-- the answer was done whole, over a shelf that may tell its files
pub answers-whole : {E : Type 0} (told : Option (List File)) (before after : Option (List ℕ)) (words : List (List ℕ))
    (failed : FailedCall) (rose : Type 0) (answer : Answer) (r : Result Status E) (s : Status) → r ≡ Ok s
    → IfSome told (λ files. Says words files failed answer) → Performs before answer after r
    → IfSome told (λ files. Answers words files failed rose s before after)
answers-whole {E} None before after words failed rose answer r s which says is = tt
answers-whole {E} (Some files) before after words failed rose answer r s which says is =
    ends_whole E words files failed rose answer s before after says (subst (Performs before answer after) which is)

begun-of : (words : List (List ℕ)) (files : List File) (failed : FailedCall) (rose : Type 0) (before after : Option (List ℕ))
    (text : List ℕ) (s : Status) → Output words files text s → AppendsPrefix before text after → Begins words files failed rose before after
begun-of words files failed rose before after text s output (k, part) = (take k text, output_begun text s k output, part)

-- some of it was written
begins_part : {E : Type 0} (words : List (List ℕ)) (files : List File) (failed : FailedCall) (rose : Type 0) (answer : Answer) (e : E)
    (before after : Option (List ℕ)) → Says words files failed answer → (IsFaultOf answer → rose) → Performs before answer after (Err e)
    → Begins words files failed rose before after
begins_part words files failed rose (Runs program options) e before after says cause (lines, whole) =
    begun-of words files failed rose before after lines status.Done (says lines status.Done (done lines)) (Appends-prefix before after lines whole)
begins_part words files failed rose (Samples sample) e before after says cause (text, whole) =
    begun-of words files failed rose before after text status.Done (says text) (Appends-prefix before after text whole)
begins_part words files failed rose ListFault e before after says cause ((k, part), _) =
    (take k (answer_text ListFault), fault_begun _ k (list_failed says) (cause tt), part)
begins_part words files failed rose (ReadFault path) e before after says cause ((k, part), _) =
    (take k (answer_text (ReadFault path)), fault_begun _ k (read_failed path says.0 says.1) (cause tt), part)
begins_part words files failed rose Usage e before after says cause (part, _) = begun-of words files failed rose before after _ _ says part
begins_part words files failed rose TooManyFiles e before after says cause (part, _) = begun-of words files failed rose before after _ _ says part
begins_part words files failed rose (LongFile path) e before after says cause (part, _) = begun-of words files failed rose before after _ _ says part
begins_part words files failed rose LongProject e before after says cause (part, _) = begun-of words files failed rose before after _ _ says part
begins_part words files failed rose (Checked report) e before after says cause (part, _) = begun-of words files failed rose before after _ _ says part
begins_part words files failed rose (NoMain path) e before after says cause (part, _) = begun-of words files failed rose before after _ _ says part
begins_part words files failed rose (LongFunction path pos) e before after says cause (part, _) = begun-of words files failed rose before after _ _ says part

pub answers-part : {E : Type 0} (told : Option (List File)) (before after : Option (List ℕ)) (words : List (List ℕ)) (failed : FailedCall)
    (rose : Type 0) (answer : Answer) (r : Result Status E) (e : E) → r ≡ Err e → IfSome told (λ files. Says words files failed answer)
    → (IsFaultOf answer → rose) → Performs before answer after r → IfSome told (λ files. Begins words files failed rose before after)
answers-part None before after words failed rose answer r e which says cause is = tt
answers-part (Some files) before after words failed rose answer r e which says cause is =
    begins_part words files failed rose answer e before after says cause (subst (Performs before answer after) which is)

-- nothing was written
pub answers-nothing : (told : Option (List File)) (before : Option (List ℕ)) (words : List (List ℕ)) (failed : FailedCall) (rose : Type 0)
    → IfSome told (λ files. Begins words files failed rose before before)
answers-nothing None before words failed rose = tt
answers-nothing (Some files) None words failed rose = ([], nothing, refl)
answers-nothing (Some files) (Some held) words failed rose = ([], nothing, ap Some (sym (append-nil held)))

-- which answers have these statuses
else-by : (faulty : Bool) → ((if faulty then status.Faulty else status.Done) ≢ status.Usage) ×
    ((if faulty then status.Faulty else status.Done) ≢ status.ReadFault) ×
    ((if faulty then status.Faulty else status.Done) ≢ status.WriteFault)
else-by true = ((λ is. cc), (λ is. cc), λ is. cc)
else-by false = ((λ is. cc), (λ is. cc), λ is. cc)

reports-else : (diags : List Diag) → (report_status diags ≢ status.Usage) × (report_status diags ≢ status.ReadFault) × (report_status diags ≢ status.WriteFault)
reports-else diags = else-by (list_any is_error diags)

-- the status of an answer that was done whole
abbrev Comes : Answer → Status → Type 0
Comes (Runs _ _) s = IsRunEnd s
Comes (Samples _) s = s ≡ status.Done
Comes answer s = s ≡ answer_status answer

pub run_ends : (text : List ℕ) (s : Status) → IsRunText text s → IsRunEnd s
run_ends text s (done lines) = tt
run_ends text s (out_of_turns lines) = tt
run_ends text s (faulted lines path code pos message) = tt

pub comes_to : (E : Type 0) (before after : Option (List ℕ)) (answer : Answer) (s : Status) → Performs {E = E} before answer after (Ok s) → Comes answer s
comes_to E before after (Runs program options) s (text, ends, whole) = run_ends text s ends
comes_to E before after (Samples sample) s (same, _) = same
comes_to E before after Usage s (_, same) = same
comes_to E before after ListFault s (_, same) = same
comes_to E before after (ReadFault path) s (_, same) = same
comes_to E before after TooManyFiles s (_, same) = same
comes_to E before after (LongFile path) s (_, same) = same
comes_to E before after LongProject s (_, same) = same
comes_to E before after (Checked report) s (_, same) = same
comes_to E before after (NoMain path) s (_, same) = same
comes_to E before after (LongFunction path pos) s (_, same) = same

run_else : (s : Status) → IsRunEnd s → (s ≢ status.Usage) × (s ≢ status.ReadFault) × (s ≢ status.WriteFault)
run_else s ends = ((λ is. subst IsRunEnd is ends), (λ is. subst IsRunEnd is ends), λ is. subst IsRunEnd is ends)

pub only-usage : (answer : Answer) (s : Status) → Comes answer s → s ≡ status.Usage → answer ≡ Usage
only-usage Usage s same is = refl
only-usage ListFault s same is = cc
only-usage (ReadFault path) s same is = cc
only-usage (NoMain path) s same is = cc
only-usage (LongFunction path pos) s same is = cc
only-usage (Runs program options) s ends is = absurd ((run_else s ends).0 is)
only-usage (Samples sample) s same is = cc
only-usage TooManyFiles s same is = cc
only-usage (LongFile path) s same is = cc
only-usage LongProject s same is = cc
only-usage (Checked report) s same is = absurd ((reports-else report.diags).0 (cc (same, is)))

pub only-read_fault : (answer : Answer) (s : Status) → Comes answer s → s ≡ status.ReadFault → IsFaultOf answer
only-read_fault Usage s same is = cc
only-read_fault ListFault s same is = tt
only-read_fault (ReadFault path) s same is = tt
only-read_fault (NoMain path) s same is = cc
only-read_fault (LongFunction path pos) s same is = cc
only-read_fault (Runs program options) s ends is = absurd ((run_else s ends).1 is)
only-read_fault (Samples sample) s same is = cc
only-read_fault TooManyFiles s same is = cc
only-read_fault (LongFile path) s same is = cc
only-read_fault LongProject s same is = cc
only-read_fault (Checked report) s same is = absurd ((reports-else report.diags).1 (cc (same, is)))

pub never-write_fault : (answer : Answer) (s : Status) → Comes answer s → s ≡ status.WriteFault → ⊥
never-write_fault Usage s same is = cc
never-write_fault ListFault s same is = cc
never-write_fault (ReadFault path) s same is = cc
never-write_fault (NoMain path) s same is = cc
never-write_fault (LongFunction path pos) s same is = cc
never-write_fault (Runs program options) s ends is = (run_else s ends).2 is
never-write_fault (Samples sample) s same is = cc
never-write_fault TooManyFiles s same is = cc
never-write_fault (LongFile path) s same is = cc
never-write_fault LongProject s same is = cc
never-write_fault (Checked report) s same is = (reports-else report.diags).2 (cc (same, is))

pub usage-status : (answer : Answer) (s : Status) → answer ≡ Usage → Comes answer s → IsUsageAnswer s
usage-status answer s is comes = subst IsUsageAnswer (sym (subst (λ (a : Answer). Comes a s) is comes)) tt

abbrev Left : {M : Type 0} → Answer → Status → Option M → Type 0
Left answer s after = (IsSome after → IsRunEnd s) × (s ≡ status.RunError → IsSome after) × (s ≡ status.OutOfTurns → IsSome after)

-- nothing is left of an answer that runs nothing
nothing_left : {M : Type 0} (answer : Answer) (s : Status) (after : Option M) → after ≡ None
    → (s ≢ status.RunError) × (s ≢ status.OutOfTurns) → Left answer s after
nothing_left answer s after none others =
    ((λ some. absurd (false≢true (subst IsSome none some))), (λ is. absurd (others.0 is)), λ is. absurd (others.1 is))

-- a machine is left of what ran
run_left : {M : Type 0} (answer : Answer) (s : Status) (after : Option M) → IsRunEnd s → IsSome after → Left answer s after
run_left answer s after ends some = ((λ _. ends), (λ _. some), λ _. some)

-- the status of a check is none of a run's
reports-run : (faulty : Bool) → ((if faulty then status.Faulty else status.Done) ≢ status.RunError) ×
    ((if faulty then status.Faulty else status.Done) ≢ status.OutOfTurns)
reports-run true = ((λ is. cc), λ is. cc)
reports-run false = ((λ is. cc), λ is. cc)

-- where nothing was left before, a machine is left exactly of a run that has ended
pub left-by : {M : Type 0} (answer : Answer) (s : Status) (before after : Option M) → before ≡ None → IsLeft answer before after
    → Comes answer s → Left answer s after
left-by (Runs program options) s before after none some ends = run_left (Runs program options) s after ends some
left-by (Samples sample) s before after none some same = run_left (Samples sample) s after (subst IsRunEnd (sym same) tt) some
left-by Usage s before after none left same = nothing_left Usage s after (left ∙ none) ((λ is. cc), λ is. cc)
left-by ListFault s before after none left same = nothing_left ListFault s after (left ∙ none) ((λ is. cc), λ is. cc)
left-by (ReadFault path) s before after none left same = nothing_left (ReadFault path) s after (left ∙ none) ((λ is. cc), λ is. cc)
left-by TooManyFiles s before after none left same = nothing_left TooManyFiles s after (left ∙ none) ((λ is. cc), λ is. cc)
left-by (LongFile path) s before after none left same = nothing_left (LongFile path) s after (left ∙ none) ((λ is. cc), λ is. cc)
left-by LongProject s before after none left same = nothing_left LongProject s after (left ∙ none) ((λ is. cc), λ is. cc)
left-by (Checked report) s before after none left same =
    let others = reports-run (list_any is_error report.diags) in
    nothing_left (Checked report) s after (left ∙ none) ((λ is. others.0 (sym same ∙ is)), λ is. others.1 (sym same ∙ is))
left-by (NoMain path) s before after none left same = nothing_left (NoMain path) s after (left ∙ none) ((λ is. cc), λ is. cc)
left-by (LongFunction path pos) s before after none left same = nothing_left (LongFunction path pos) s after (left ∙ none) ((λ is. cc), λ is. cc)
