-- When a program of a project does what the project means.
use Rattle.std.specs.Prelude.{ℕ, List, [], ◌∷◌, codes}
use Rattle.gd_bytecode.specs.Running.{MachineRun}
use Rattle.gd_bytecode.specs.State.{State}
use Rattle.gd_model.specs.declared.outcome.Outcome.{Outcome}
use Rattle.gd_model.specs.declared.outcome.Outcome.TheVariants as outcome
use Rattle.store_semantics.specs.World.{Seen}
use Rattle.source_semantics.specs.Project.{Project}
use Rattle.source_semantics.specs.Running.{Ended, done, fault, out_of_turns, run}
use Rattle.source_semantics.specs.Words.{start}
use Rattle.emitted_code.specs.Programs.{emitted}
use Rattle.emitted_code.specs.Sources.{Source}

-- a project of one file
abbrev pub alone : Project → Source
alone p = record { project = p; paths = codes "main.gd" ∷ []; file_of = λ class. 0; name_at = λ class. start; main = 1 }

abbrev pub outcome_of : Ended → Outcome
outcome_of done = outcome.Done
outcome_of (fault f place message) = outcome.Fault f place message
outcome_of out_of_turns = outcome.OutOfTurns

-- what a run of the project is, as one
abbrev pub meant : Source → ℕ → List Seen × Ended
meant s turns = run s.project s.main start turns

-- The machine's run of the program with so many turns sees what a run of the project does, and ends as it does.
abbrev pub RunsAlike : Source → ℕ → Type 0
RunsAlike s turns =
    (end : State) × MachineRun (emitted s) turns (meant s turns).0 (outcome_of (meant s turns).1) end
