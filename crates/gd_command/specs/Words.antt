-- What the words of a command line mean.
use Rattle.std.specs.Prelude.{◌≡◌, ◌≤◌, ℕ, Bool, true, false, ◌&&◌, if◌then◌else◌, List, [], ◌∷◌, Option, None, Some, map, codes, decimal, bytes_eq, String}
use Rattle.std.specs.String.{string_bytes}
use Rattle.std.specs.declared.alloc.Global.{Global}
use Rattle.gd_outside.specs.Path.{IsPath}
use Rattle.gd_command.specs.RunWords.{MeansOptions}
use Rattle.gd_command.specs.declared.run_options.RunOptions.{RunOptions}
use Rattle.gd_command.specs.declared.words.CheckOptions.{CheckOptions}
use Rattle.gd_command.specs.declared.words.Command.{Command}
use Rattle.gd_command.specs.declared.words.Command.TheVariants.{Check, Run, Sample}

-- the words as bytes
abbrev pub words_of : List (String Global) → List (List ℕ)
words_of words = map string_bytes words

abbrev pub options_of : Bool → Bool → CheckOptions
options_of warn marks = record { warn = warn; marks = marks }

-- one option of a check
abbrev pub one_option : List ℕ → Option CheckOptions
one_option option =
    if bytes_eq option (codes "--warn") then Some (options_of true false)
    else if bytes_eq option (codes "--marks") then Some (options_of false true)
    else None

-- both options, in either order
abbrev pub two_options : List ℕ → List ℕ → Option CheckOptions
two_options first second =
    if bytes_eq first (codes "--warn") && bytes_eq second (codes "--marks") then Some (options_of true true)
    else if bytes_eq first (codes "--marks") && bytes_eq second (codes "--warn") then Some (options_of true true)
    else None

-- what behind the word `check` are its options
abbrev pub options_behind : List (List ℕ) → Option CheckOptions
options_behind [] = Some (options_of false false)
options_behind (option ∷ []) = one_option option
options_behind (first ∷ second ∷ []) = two_options first second
options_behind (_ ∷ _ ∷ _ ∷ _) = None

-- the options of `check [--warn] [--marks]`, where the words are that form: each at most once, in any order
abbrev pub check_options : List (List ℕ) → Option CheckOptions
check_options [] = None
check_options (word ∷ options) = if bytes_eq word (codes "check") then options_behind options else None

-- the words are `run`, a path, and the options of a run
pub record IsRunOf (words : List (List ℕ)) (main : List ℕ) (run_options : RunOptions) : Type 0 where
  pub behind : List (List ℕ)
  pub form : words ≡ codes "run" ∷ main ∷ behind
  pub path : IsPath main
  pub options : MeansOptions behind run_options

-- the words are `sample` and a number from 1 to 1,000
pub record IsSampleOf (words : List (List ℕ)) (count : ℕ) : Type 0 where
  pub form : words ≡ codes "sample" ∷ decimal count ∷ []
  pub least : 1 ≤ count
  pub most : count ≤ 1000

-- the words are a form of this command
abbrev pub Means : List (List ℕ) → Command → Type 0
Means words (Check options) = check_options words ≡ Some options
Means words (Run main options) = IsRunOf words main options
Means words (Sample count) = IsSampleOf words count
