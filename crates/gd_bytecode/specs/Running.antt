-- A step of the machine, and a whole run.
use Rattle.std.specs.Prelude.{◌≡◌, ℕ, suc, false, not, nat_lt, nat_eq, codes, List, [], ◌∷◌, ◌++◌, length, map, filter, slice_get, Option, None, Some, Result, Ok, Err, if◌then◌else◌}
use Rattle.std.specs.List.{flat_map}
use Rattle.gd_model.specs.declared.fault.RunFault.{RunFault}
use Rattle.gd_model.specs.declared.fault.RunFault.TheVariants.{NoSuchMethod}
use Rattle.gd_model.specs.declared.outcome.Outcome.{Outcome}
use Rattle.gd_model.specs.declared.outcome.Outcome.TheVariants.{Done}
use Rattle.gd_model.specs.Datum.{Datum}
use Rattle.gd_model.specs.Store.{Thing}
use Rattle.gd_model.specs.Store as thing
use Rattle.gd_syntax.specs.declared.pos.Pos.{Pos}
use Rattle.store_semantics.specs.Holding.{is_held}
use Rattle.store_semantics.specs.Starts.{start}
use Rattle.store_semantics.specs.World.{World, Seen, line, freed, leaked, store_of}
use Rattle.gd_bytecode.specs.declared.program.ClassCode.{ClassCode}
use Rattle.gd_bytecode.specs.declared.program.Instr.{Instr}
use Rattle.gd_bytecode.specs.declared.program.Program.{Program}
use Rattle.gd_bytecode.specs.declared.program.VarCode.{VarCode}
use Rattle.gd_bytecode.specs.Constants.{constants_made}
use Rattle.gd_bytecode.specs.Entering.{enter, frame_of, stop}
use Rattle.gd_bytecode.specs.Instructions.{instruction}
use Rattle.gd_bytecode.specs.Making.{construct, go_on_emitting, go_on_making}
use Rattle.gd_bytecode.specs.Members.{function_at, method_of, type_at}
use Rattle.gd_bytecode.specs.Operands.{Here}
use Rattle.gd_bytecode.specs.State.{Activity, running, making, emitting, Frame, Stage, static_values, static_init, main_instance, test, instance_over, statics_over, finding_leaks, leaking, ended, State, held, Stepped, on, prints, stops}
use Rattle.gd_bytecode.specs.Tables.{text_at}

-- what a step lets the outside see
pub data Answer : Type 0 where
  quiet : Answer
  sees : Seen → Answer
  has_ended : Outcome → Answer

-- what the run asks for by itself stands at the beginning of the main class's file
abbrev pub path_of_class : Option ClassCode → ℕ
path_of_class None = 0
path_of_class (Some c) = c.path

abbrev pub beginning : Program → Pos
beginning p = record { file = path_of_class (slice_get p.classes p.main); line = 1; column = 1 }

-- the things that nothing holds, by rising serial number
abbrev pub unheld : State → List ℕ
unheld st = map (λ q. q.0) (filter (λ q. not (is_held st.world (held st) q.0)) st.world.things)

abbrev pub without_thing : World → ℕ → World
without_thing w s = record w { things = filter (λ q. not (nat_eq q.0 s)) w.things }

abbrev pub gone : Option Thing → ℕ → Answer
gone (Some (thing.object k values)) s = sees (freed s k)
gone t s = quiet

-- one thing of a round goes, and others of the round are still to go
abbrev pub released : State → ℕ → List ℕ → State × Answer
released st s rest = (record st { world = without_thing st.world s; round = rest }, gone (store_of st.world s) s)

-- the stage that the run comes to, and a stage at which nothing is seen
abbrev pub at_stage : State → Stage → State
at_stage st stage = record st { stage = stage }

-- a function of a class that is called where there is one
abbrev pub static_values_of : Option ClassCode → Option ℕ
static_values_of None = None
static_values_of (Some c) = c.static_initial

abbrev pub static_init_of : Option ClassCode → Option ℕ
static_init_of None = None
static_init_of (Some c) = c.static_init

-- static initial values take no turn, and are no call
abbrev pub gives_statics : Program → State → Option ℕ → Stepped
gives_statics p st None = on st
gives_statics p st (Some n) = on (record st { activities = running (frame_of p n None [] false false) ∷ [] })

abbrev pub inits_statics : Program → State → Option ℕ → Stepped
inits_statics p st None = on st
inits_statics p st (Some n) = enter p st (beginning p) n None [] false

-- the main instance's `test`
abbrev pub main_class : Program → ℕ
main_class p = suc p.main

abbrev pub test_called : Program → State → Option ℕ → Stepped
test_called p st None = stop (beginning p) NoSuchMethod
test_called p st (Some n) = enter p st (beginning p) n (slice_get st.hand 0) [] false

-- the objects that are there, by rising serial number
abbrev pub object_of : ℕ × Thing → List (ℕ × ℕ)
object_of (s, thing.object k values) = (s, k) ∷ []
object_of q = []

abbrev pub objects : World → List (ℕ × ℕ)
objects w = flat_map object_of w.things

-- nothing goes on: the run comes to its next stage
abbrev pub stage_step : Program → State → Stage → Stepped
-- of each class in order the static variables get their initial values, and then its `_static_init` is called
stage_step p st (static_values c) =
    if nat_lt c (length p.classes) then gives_statics p (at_stage st (static_init c)) (static_values_of (slice_get p.classes c))
    else on (at_stage st main_instance)
stage_step p st (static_init c) = inits_statics p (at_stage st (static_values (suc c))) (static_init_of (slice_get p.classes c))
-- the main instance is made
stage_step p st main_instance = construct p (at_stage st test) (beginning p) (main_class p) []
-- its `test` is called
stage_step p st test = test_called p (at_stage st instance_over) (method_of p (main_class p) (codes "test"))
-- the instance is given up, and then all static variables together
stage_step p st instance_over = on (record (at_stage st statics_over) { hand = [] })
stage_step p st statics_over = on (record (at_stage st finding_leaks) { world = record st.world { statics = [] } })
-- the objects that are still there are listed
stage_step p st finding_leaks = on (at_stage st (leaking (objects st.world)))
stage_step p st (leaking []) = stops Done
stage_step p st (leaking (o ∷ os)) = on (at_stage st (leaking os))
stage_step p st (ended outcome) = stops outcome

-- what the outside sees of it
abbrev pub stage_seen : Stage → Answer
stage_seen (leaking (o ∷ os)) = sees (leaked o.0 o.1)
stage_seen stage = quiet

-- the state behind a step and what was seen of it
abbrev pub answered : State → Answer → Stepped → State × Answer
answered st seen (on after) = (after, seen)
answered st seen (prints after t) = (after, sees (line t))
answered st seen (stops outcome) = (at_stage st (ended outcome), has_ended outcome)

-- the next instruction of a function
abbrev pub runs_next : Here → Option Instr → Stepped
runs_next h None = on h.state
runs_next h (Some i) = instruction h i

abbrev pub runs : Program → State → List Activity → Frame → Stepped
runs p st around f = runs_next (record { program = p; state = st; frame = f; around = around }) (slice_get (function_at p f.function).code f.at)

-- what goes on goes on
abbrev pub activity_step : Program → State → List Activity → State × Answer
activity_step p st [] = answered st (stage_seen st.stage) (stage_step p st st.stage)
activity_step p st (running f ∷ around) = answered st quiet (runs p st around f)
activity_step p st (making m ∷ around) = answered st quiet (go_on_making p st around m)
activity_step p st (emitting e ∷ around) = answered st quiet (go_on_emitting p st around e)

-- where no round runs: a result that nobody takes is given up, and else what goes on goes on
abbrev pub settled_step : Program → State → List Datum → State × Answer
settled_step p st [] = activity_step p st st.activities
settled_step p st (v ∷ vs) = (record st { owed = [] }, quiet)

-- the running round, or where there is none the next, goes first
abbrev pub round_step : Program → State → List ℕ → State × Answer
round_step p st [] = settled_step p st st.owed
round_step p st (s ∷ rest) = released st s rest

abbrev pub next_round : State → List ℕ → List ℕ
next_round st [] = unheld st
next_round st round = round

-- one step; after the end each gives the end again
abbrev pub step_at : Program → State → Stage → State × Answer
step_at p st (ended outcome) = (st, has_ended outcome)
step_at p st stage = round_step p st (next_round st st.round)

abbrev pub machine_step : Program → State → State × Answer
machine_step p st = step_at p st st.stage

-- a static variable with its start value
abbrev pub with_start : Program → ℕ → VarCode → World → Result (Datum × World) RunFault → World
with_start p k v w (Err fault) = w
with_start p k v w (Ok q) = record q.1 { statics = q.1.statics ++ record { class = k; name = text_at p v.name; value = q.0 } ∷ [] }

-- those of a class, in the order of their declaration; a verified program has so few that all are made
abbrev pub statics_from : Program → ℕ → List VarCode → World → World
statics_from p k [] w = w
statics_from p k (v ∷ vs) w =
    if v.is_static then statics_from p k vs (with_start p k v w (start w (type_at p v.typed))) else statics_from p k vs w

abbrev pub all_statics : Program → ℕ → List ClassCode → World → World
all_statics p k [] w = w
all_statics p k (c ∷ cs) w = all_statics p (suc k) cs (statics_from p k c.variables w)

-- a world with nothing in it
abbrev pub empty_world : World
empty_world = record { things = []; made = 0; statics = []; constants = []; connections = []; events = [] }

-- at its beginning a run has its constants and the start values of its static variables
abbrev pub initial_world : Program → World
initial_world p = all_statics p 1 p.classes (constants_made p empty_world)

abbrev pub initial : Program → ℕ → State
initial p turns = record {
  activities = [];
  world = initial_world p;
  turns = turns;
  round = [];
  owed = [];
  hand = [];
  stage = static_values 0;
}

-- from a state on: what is seen, how it ends, and the state at the end
pub data Runs (p : Program) : State → List Seen → Outcome → State → Type 0 where
  ends : (st : State) (o : Outcome) → (machine_step p st).1 ≡ has_ended o → Runs p st [] o (machine_step p st).0
  quietly : (st : State) (es : List Seen) (o : Outcome) (end : State) → (machine_step p st).1 ≡ quiet → Runs p (machine_step p st).0 es o end → Runs p st es o end
  seeing : (st : State) (e : Seen) (es : List Seen) (o : Outcome) (end : State) → (machine_step p st).1 ≡ sees e
      → Runs p (machine_step p st).0 es o end → Runs p st (e ∷ es) o end

-- the run of a program with so many turns: the events and the outcome, and the state at its end
abbrev pub MachineRun : Program → ℕ → List Seen → Outcome → State → Type 0
MachineRun p turns events outcome end = Runs p (initial p turns) events outcome end
