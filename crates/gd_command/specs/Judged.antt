-- What a check finds in the scripts of a project.
use Rattle.std.specs.Prelude.{◌≡◌, ◌≢◌, ℕ, false, true, List, [], ◌∷◌, ◌++◌, length}
use Rattle.std.specs.List.{list_all, list_any}
use Rattle.gd_syntax.specs.declared.token.Token.{Token}
use Rattle.gd_syntax.specs.declared.tree.decl.ClassDecl.{ClassDecl}
use Rattle.gd_rules.specs.declared.diag.Diag.{Diag}
use Rattle.gd_rules.specs.declared.diag.Mark.{Mark}
use Rattle.gd_lexis.specs.Lexes.{Lexes}
use Rattle.gd_lexis.specs.Faults.{FirstFault}
use Rattle.gd_grammar.specs.Fault.{StandsAt}
use Rattle.gd_command.specs.Report.{is_error}
use Rattle.gd_command.specs.declared.judge.Reading.{Reading}
use Rattle.gd_command.specs.declared.judge.Reading.TheVariants.{Tree, Fault}
use Rattle.gd_command.specs.declared.words.CheckOptions.{CheckOptions}

-- ---- lexical and syntax faults

-- What is found in the file with this number and these bytes: its first lexical fault, if it has one; else a fault at one of
-- its tokens, or none.
pub data FileFinds (file : ℕ) (bytes : List ℕ) : List Diag → Type 0 where
  lexical : (diag : Diag) → FirstFault file bytes diag.pos diag.rule → FileFinds file bytes (diag ∷ [])
  syntax : (diag : Diag) (tokens : List Token) (k : ℕ) → Lexes file bytes tokens → StandsAt tokens k diag.pos diag.rule → FileFinds file bytes (diag ∷ [])
  nothing : (tokens : List Token) → Lexes file bytes tokens → FileFinds file bytes []

-- what is found in files with these bytes, one after another: a file's number is that of the files before it
pub data Finds : List (List ℕ) → List Diag → Type 0 where
  no_file : Finds [] []
  next_file : (sources : List (List ℕ)) (diags : List Diag) (bytes : List ℕ) (found : List Diag) → Finds sources diags → FileFinds (length sources) bytes found → Finds (sources ++ (bytes ∷ [])) (diags ++ found)

abbrev pub fault_of : Reading → List Diag
fault_of (Tree _) = []
fault_of (Fault diag) = diag ∷ []

-- a fault is in the file with this number
abbrev pub InFile : ℕ → Reading → Type 0
InFile file (Tree _) = Unit {0}
InFile file (Fault diag) = diag.pos.file ≡ file

-- a fault stands at one of the tokens
abbrev pub IsAtToken : List Token → Reading → Type 0
IsAtToken tokens (Tree _) = Unit {0}
IsAtToken tokens (Fault diag) = (k : ℕ) × StandsAt tokens k diag.pos diag.rule

-- ---- the rules about names and types

-- what the analysis finds: warnings and marks only where they are asked for, and marks only where no error holds
pub record Analysed (options : CheckOptions) (diags : List Diag) (marks : List Mark) : Type 0 where
  pub warnings_asked : options.warn ≡ false → list_all is_error diags ≡ true
  pub marks_asked : options.marks ≡ false → marks ≡ []
  pub marks_accepted : list_any is_error diags ≡ true → marks ≡ []

-- What a check of scripts with these bytes finds: the first fault of each script that has a lexical or syntax fault; else, where
-- none has one, what the analysis finds.
pub data CheckFinds (options : CheckOptions) (sources : List (List ℕ)) : List Diag → List Mark → Type 0 where
  faulty : (diags : List Diag) → Finds sources diags → diags ≢ [] → CheckFinds options sources diags []
  whole : (diags : List Diag) (marks : List Mark) → Finds sources [] → Analysed options diags marks → CheckFinds options sources diags marks
