-- What a call of the program leaves in its sink.
use Rattle.std.specs.Prelude.{◌≡◌, ◌≤◌, ℕ, List, ◌∷◌, ◌++◌, [], take, length, codes, Option, All}
use Rattle.gd_outside.specs.Files.{File, place_of}
use Rattle.gd_outside.specs.Sink.{Appends}
use Rattle.gd_outside.specs.declared.shelf.FailedCall.{FailedCall}
use Rattle.gd_outside.specs.declared.shelf.FailedCall.TheVariants.{List as Listing, Read}
use Rattle.gd_command.specs.Output.{Output, IsShort, scripts}
use Rattle.gd_command.specs.Words.{Means}
use Rattle.gd_command.specs.declared.words.Command.{Command}
use Rattle.gd_command.specs.declared.words.Command.TheVariants.{Check, Run, Sample}
use Rattle.gd_command.specs.declared.status.Status.{Status}
use Rattle.gd_command.specs.declared.status.Status.TheVariants.{Done, Faulty, Usage, RunError, OutOfTurns, ReadFault, WriteFault, NoMemory, TooLarge, NoMain, BadImage, NotBuilt, Refused, SuiteFailed}

-- a check or a run comes to the script with this path: there are not too many scripts, and none before it is too long
pub record IsReached (scripts : List File) (path : List ℕ) : Type 0 where
  pub few : length scripts ≤ 1024
  pub before : List File
  pub bytes : List ℕ
  pub after : List File
  pub split : scripts ≡ before ++ ((path, bytes) ∷ after)
  pub short : All IsShort before

-- the scripts that a command reads
abbrev pub Reads : List File → Command → List ℕ → Type 0
Reads files (Check _) path = IsReached (scripts files) path
Reads files (Run _ _) path = IsReached (scripts files) path
Reads files (Sample _) path = ⊥

-- the words are a command that reads the script with this path
abbrev pub WordsRead : List (List ℕ) → List File → List ℕ → Type 0
WordsRead words files path = (command : Command) × Means words command × Reads files command path

-- the line that names the call of the shelf that failed last: the list, or a read that the words come to
pub data NamesFault (words : List (List ℕ)) (files : List File) (failed : FailedCall) : List ℕ → Type 0 where
  list_failed : failed ≡ Listing → NamesFault words files failed (codes "read fault: list\n")
  read_failed : (path : List ℕ) → failed ≡ Read (place_of files path) → WordsRead words files path
      → NamesFault words files failed (codes "read fault: " ++ (path ++ (10 ∷ [])))

-- the text is nothing yet, or the front of a text that the words write, or of a read fault's line where the shelf failed
pub data IsBegun (words : List (List ℕ)) (files : List File) (failed : FailedCall) (rose : Type 0) : List ℕ → Type 0 where
  nothing : IsBegun words files failed rose []
  output_begun : (whole : List ℕ) (status : Status) (k : ℕ) → Output words files whole status → IsBegun words files failed rose (take k whole)
  fault_begun : (line : List ℕ) (k : ℕ) → NamesFault words files failed line → rose → IsBegun words files failed rose (take k line)

-- the text that a call writes, by its status; `rose` says that the shelf failed in the call
abbrev pub Writes : List (List ℕ) → List File → FailedCall → Type 0 → Status → List ℕ → Type 0
Writes words files failed rose ReadFault text = NamesFault words files failed text
Writes words files failed rose WriteFault text = IsBegun words files failed rose text
Writes words files failed rose NoMemory text = IsBegun words files failed rose text
Writes words files failed rose Done text = Output words files text Done
Writes words files failed rose Faulty text = Output words files text Faulty
Writes words files failed rose Usage text = Output words files text Usage
Writes words files failed rose RunError text = Output words files text RunError
Writes words files failed rose OutOfTurns text = Output words files text OutOfTurns
Writes words files failed rose TooLarge text = Output words files text TooLarge
Writes words files failed rose NoMain text = Output words files text NoMain
Writes words files failed rose BadImage text = Output words files text BadImage
Writes words files failed rose NotBuilt text = Output words files text NotBuilt
Writes words files failed rose Refused text = Output words files text Refused
Writes words files failed rose SuiteFailed text = Output words files text SuiteFailed

-- the call wrote such a text: where the sink tells its bytes, it is appended
abbrev pub Answers : List (List ℕ) → List File → FailedCall → Type 0 → Status → Option (List ℕ) → Option (List ℕ) → Type 0
Answers words files failed rose status before after = (text : List ℕ) × Writes words files failed rose status text × Appends before text after

-- the answers to words that are no form: the usage line, unless it could not be written or memory ran out
abbrev pub IsUsageAnswer : Status → Type 0
IsUsageAnswer Usage = Unit {0}
IsUsageAnswer WriteFault = Unit {0}
IsUsageAnswer NoMemory = Unit {0}
IsUsageAnswer _ = ⊥
