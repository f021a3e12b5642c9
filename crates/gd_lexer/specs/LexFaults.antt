-- What a refusal of the lexer is.
use Rattle.std.specs.Prelude.{◌≤◌, IsTrue, ℕ, List}
use Rattle.gd_lexis.specs.Faults.{FirstFault}
use Rattle.gd_lexer.specs.declared.stop.Stop.{Stop}
use Rattle.gd_lexer.specs.FirstFaults.{IsFirstOf}
use Rattle.gd_lexer.specs.declared.fault.LexFault.{LexFault}
use Rattle.gd_lexer.specs.declared.fault.LexFault.TheVariants.{Fault, NoMemory}
use Rattle.gd_lexer.specs.Lexical.{is_lexical}

-- a fault has a lexical rule, and a line and a column from 1
abbrev pub IsLexicalFault : LexFault → Type 0
IsLexicalFault (Fault pos rule) = IsTrue (is_lexical rule) × (1 ≤ pos.line) × (1 ≤ pos.column)
IsLexicalFault NoMemory = Unit {0}

-- a fault is the first of the file with this number and these bytes
abbrev pub IsFirstFault : ℕ → List ℕ → LexFault → Type 0
IsFirstFault file bytes (Fault pos rule) = FirstFault file bytes pos rule
IsFirstFault file bytes NoMemory = Unit {0}

-- it is the answer where reading stops so
abbrev pub AnswersStop : Stop → LexFault → Type 0
AnswersStop stop fault = (file : ℕ) (bytes : List ℕ) → IsFirstOf file bytes stop → IsFirstFault file bytes fault
