-- What a call of the program writes where nothing fails, and the status that it then answers.
use Rattle.std.specs.Prelude.{◌≡◌, ◌≢◌, ◌≤◌, ◌<◌, ◌+◌, ℕ, false, List, [], ◌∷◌, ◌++◌, length, map, All, codes, decimal, filter, nat_eq}
use Rattle.std.specs.List.{ends_with, sum_by}
use Rattle.gd_outside.specs.Files.{File, paths_of}
use Rattle.gd_syntax.specs.declared.pos.Pos.{Pos}
use Rattle.gd_rules.specs.declared.diag.Diag.{Diag}
use Rattle.gd_rules.specs.declared.diag.Mark.{Mark}
use Rattle.gd_command.specs.Judged.{CheckFinds}
use Rattle.gd_command.specs.Report.{report_status, report_text}
use Rattle.gd_command.specs.Ends.{IsRunText}
use Rattle.gd_command.specs.Words.{Means, options_of}
use Rattle.gd_command.specs.declared.words.CheckOptions.{CheckOptions}
use Rattle.gd_command.specs.declared.words.Command.{Command}
use Rattle.gd_command.specs.declared.words.Command.TheVariants.{Check, Run, Sample}
use Rattle.gd_command.specs.declared.status.Status.{Status}
use Rattle.gd_command.specs.declared.status.Status.TheVariants.{Done, Usage, TooLarge, NoMain}

-- the bytes of the files, in their order
abbrev pub sources_of : List File → List (List ℕ)
sources_of files = map (λ file. file.1) files

-- the files whose names end in `.gd`
abbrev pub scripts : List File → List File
scripts files = filter (λ file. ends_with nat_eq file.0 (codes ".gd")) files

-- the bytes of a file are within the limit of one
abbrev pub IsShort : File → Type 0
IsShort file = length file.1 ≤ 1048576

-- the bytes of all files together
abbrev pub total : List File → ℕ
total files = sum_by (λ file. length file.1) files

-- the limits: at most 1,024 scripts, at most 1,048,576 bytes in each and at most 4,194,304 in all
pub record FitsLimits (scripts : List File) : Type 0 where
  pub few : length scripts ≤ 1024
  pub short : All IsShort scripts
  pub small : total scripts ≤ 4194304

-- `check` of these scripts: the first limit that is passed, else a line for each place that was found
pub data CheckOutput (options : CheckOptions) (scripts : List File) : List ℕ → Status → Type 0 where
  many_files : 1024 < length scripts → CheckOutput options scripts (codes "too large: files\n") TooLarge
  long_file : (before after : List File) (file : File) → length scripts ≤ 1024 → scripts ≡ before ++ (file ∷ after) → All IsShort before
      → 1048576 < length file.1 → CheckOutput options scripts (codes "too large: file " ++ (file.0 ++ (10 ∷ []))) TooLarge
  long_project : length scripts ≤ 1024 → All IsShort scripts → 4194304 < total scripts → CheckOutput options scripts (codes "too large: project\n") TooLarge
  checked : (diags : List Diag) (marks : List Mark) → FitsLimits scripts → CheckFinds options (sources_of scripts) diags marks
      → CheckOutput options scripts (report_text (record { paths = paths_of scripts; diags = diags; marks = marks })) (report_status diags)

-- a check that finds errors alone
abbrev pub errors_alone : CheckOptions
errors_alone = options_of false false

-- the line that names a function, or a class with its initial values, that is too long
abbrev pub long_function_line : List ℕ → Pos → List ℕ
long_function_line path pos = codes "too large: function " ++ (path ++ ((58 ∷ decimal pos.line) ++ ((58 ∷ decimal pos.column) ++ (10 ∷ []))))

-- `run` of MAIN among these scripts: what a check says of them where that is not Done; else that MAIN cannot be run, or that a
-- function is too long, or what a run writes
pub data RunOutput (scripts : List File) (main : List ℕ) : List ℕ → Status → Type 0 where
  not_accepted : (text : List ℕ) (status : Status) → CheckOutput errors_alone scripts text status → status ≢ Done → RunOutput scripts main text status
  no_main : CheckOutput errors_alone scripts [] Done → RunOutput scripts main (codes "no main: " ++ (main ++ (10 ∷ []))) NoMain
  long_function : (path : List ℕ) (pos : Pos) → CheckOutput errors_alone scripts [] Done → RunOutput scripts main (long_function_line path pos) TooLarge
  ran : (text : List ℕ) (status : Status) → CheckOutput errors_alone scripts [] Done → IsRunText text status → RunOutput scripts main text status

-- `sample` is always Done; what its figures are is not said here
pub data SampleOutput (count : ℕ) : List ℕ → Status → Type 0 where
  sampled : (text : List ℕ) → SampleOutput count text Done

-- what a command writes
abbrev pub CommandOutput : List File → Command → List ℕ → Status → Type 0
CommandOutput files (Check options) = CheckOutput options (scripts files)
CommandOutput files (Run main _) = RunOutput (scripts files) main
CommandOutput files (Sample count) = SampleOutput count

-- the line that says which words there are
abbrev pub usage_line : List ℕ
usage_line = codes "usage: gd check [--warn] [--marks] / run MAIN [--turns N] [--frees] / build MAIN / exec IMAGE [--turns N] [--frees] / sample N / migrate IMAGE / fmt FILE / refs FILE LINE COLUMN / rename FILE LINE COLUMN NAME / suite [--turns N]\n"

-- the words are no form of a command
abbrev pub NoCommand : List (List ℕ) → Type 0
NoCommand words = (command : Command) → Means words command → ⊥

-- what words write over a folder that holds these files
pub data Output (words : List (List ℕ)) (files : List File) : List ℕ → Status → Type 0 where
  usage : NoCommand words → Output words files usage_line Usage
  command : (command : Command) (text : List ℕ) (status : Status) → Means words command → CommandOutput files command text status
      → Output words files text status
