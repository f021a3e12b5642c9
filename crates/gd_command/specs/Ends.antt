-- How a run ends.
use Rattle.std.specs.Prelude.{◌≡◌, ℕ, List, [], ◌∷◌, ◌++◌, codes, decimal, encode_utf8_all, IfOk, Option, Some, None, Result}
use Rattle.gd_syntax.specs.declared.pos.Pos.{Pos}
use Rattle.gd_model.specs.Fault.{fault_code, fault_text}
use Rattle.gd_model.specs.declared.fault.RunFault.{RunFault}
use Rattle.gd_model.specs.declared.outcome.Outcome.{Outcome}
use Rattle.gd_model.specs.declared.outcome.Outcome.TheVariants as outcomes
use Rattle.gd_command.specs.Puts.{Puts}
use Rattle.gd_command.specs.declared.status.Status.{Status}
use Rattle.gd_command.specs.declared.status.Status.TheVariants.{Done, RunError, OutOfTurns}

-- the status of a run that ended so
abbrev pub outcome_status : Outcome → Status
outcome_status outcomes.Done = Done
outcome_status (outcomes.Fault _ _ _) = RunError
outcome_status outcomes.OutOfTurns = OutOfTurns

-- the statuses of runs that ended
abbrev pub IsRunEnd : Status → Type 0
IsRunEnd Done = Unit {0}
IsRunEnd RunError = Unit {0}
IsRunEnd OutOfTurns = Unit {0}
IsRunEnd _ = ⊥

-- the message of an assertion, behind a fault, and the end of the line
abbrev pub message_part : Option (List ℕ) → List ℕ
message_part None = 10 ∷ []
message_part (Some message) = codes ": " ++ (encode_utf8_all message ++ (10 ∷ []))

-- a fault, behind its place
abbrev pub fault_part : RunFault → Option (List ℕ) → List ℕ
fault_part fault message = codes ": error " ++ (fault_code fault ++ (codes ": " ++ (fault_text fault ++ message_part message)))

-- a place in the script with this path
abbrev pub place_part : List ℕ → Pos → List ℕ
place_part path pos = path ++ ((58 ∷ decimal pos.line) ++ (58 ∷ decimal pos.column))

-- the line of a fault in the script with this path
abbrev pub fault_line : List ℕ → RunFault → Pos → Option (List ℕ) → List ℕ
fault_line path fault pos message = place_part path pos ++ fault_part fault message

-- a place in some script was written
abbrev pub PutsPlace : {T E : Type 0} → Option (List ℕ) → Pos → Option (List ℕ) → Result T E → Type 0
PutsPlace old pos new result = (path : List ℕ) × Puts old (place_part path pos) new result

-- the line of a fault in some script was written
abbrev pub PutsFault : {T E : Type 0} → Option (List ℕ) → RunFault → Pos → Option (List ℕ) → Option (List ℕ) → Result T E → Type 0
PutsFault old fault pos message new result = (path : List ℕ) × Puts old (fault_line path fault pos message) new result

-- The text of a run, by its end: the lines that it wrote, and then the line of its end, if there is one.
pub data IsRunText : List ℕ → Status → Type 0 where
  done : (lines : List ℕ) → IsRunText lines Done
  out_of_turns : (lines : List ℕ) → IsRunText (lines ++ codes "out of turns\n") OutOfTurns
  faulted : (lines path : List ℕ) (code : RunFault) (pos : Pos) (message : Option (List ℕ)) → IsRunText (lines ++ fault_line path code pos message) RunError

-- what the end of a run adds to its lines: it answers the run's status, and whatever lines were there before, all are then the
-- text of a run with this status
abbrev pub WritesEnd : {E : Type 0} → Option (List ℕ) → Outcome → Option (List ℕ) → Result Status E → Type 0
WritesEnd old outcome new result = (line : List ℕ) × Puts old line new result × IfOk result
    (λ status. (status ≡ outcome_status outcome) × ((lines : List ℕ) → IsRunText (lines ++ line) status))
