-- How objects are made, and how a `new` and an emission go on.
use Rattle.std.specs.Prelude.{ℕ, Bool, false, not, List, [], ◌∷◌, length, map, reverse, nat_eq, codes, Option, None, Some, Result, Ok, Err, if◌then◌else◌, option_to_list}
use Rattle.std.specs.List.{flat_map}
use Rattle.gd_model.specs.declared.fault.RunFault.{RunFault}
use Rattle.gd_model.specs.declared.fault.RunFault.TheVariants.{CallsTooDeep, WrongNumberOfArguments}
use Rattle.gd_model.specs.Datum as d
use Rattle.gd_model.specs.Datum.{Datum}
use Rattle.gd_model.specs.Refusal.{refusal}
use Rattle.gd_model.specs.Store as thing
use Rattle.gd_syntax.specs.declared.pos.Pos.{Pos}
use Rattle.value_semantics.specs.Answer.{and_then, in_form}
use Rattle.store_semantics.specs.World.{World, make, write}
use Rattle.gd_bytecode.specs.declared.program.ClassCode.{ClassCode}
use Rattle.gd_bytecode.specs.declared.program.Program.{Program}
use Rattle.gd_bytecode.specs.Calls.{enter_target, is_gone, target_of, unlinked}
use Rattle.gd_bytecode.specs.Entering.{call_fault, enter, frame_of, inside, is_shallow, received, stop, unless_refused, with_turn}
use Rattle.gd_bytecode.specs.Members.{class_at, fields, function_at, lineage, method_of, type_at}
use Rattle.gd_bytecode.specs.Objects.{starts}
use Rattle.gd_bytecode.specs.State.{Activity, Emitting, emitting, Making, making, running, State, Stepped, on}

-- the function `_init` that a `new` of a class calls
abbrev pub init_of : Program → ℕ → Option ℕ
init_of p k = method_of p k (codes "_init")

-- its functions for initial values, those of bases first
abbrev pub own_initial : Option ClassCode → List ℕ
own_initial None = []
own_initial (Some c) = option_to_list c.initial

abbrev pub initials_of : Program → ℕ → List ℕ
initials_of p k = flat_map (λ c. own_initial (class_at p c)) (reverse (lineage p k))

-- the arguments are tested against `_init`, and without one there are none; then whether one more call may stand
abbrev pub init_fault : Program → State → Option ℕ → List Datum → Option RunFault
init_fault p st None args = refusal ((not (nat_eq (length args) 0), WrongNumberOfArguments) ∷ (not (is_shallow st), CallsTooDeep) ∷ [])
init_fault p st (Some n) args = call_fault p st (function_at p n) args

-- an object whose variables have the start values of their types
abbrev pub filled : World → ℕ → ℕ → Result (List Datum × World) RunFault → Result (Datum × World) RunFault
filled w k s r = in_form (λ p. (d.object s, write p.1 s (thing.object k p.0))) r

abbrev pub object_made : Program → World → ℕ → Result (Datum × World) RunFault
object_made p w k =
    and_then (make w (thing.object k [])) (λ q. filled q.1 k q.0 (starts q.1 (map (λ v. type_at p v.typed) (fields p k))))

-- the object is made, and its functions for initial values and its `_init` are still to be called
abbrev pub begun : Program → State → Pos → ℕ → List Datum → Result (Datum × World) RunFault → Stepped
begun p st place k args (Err fault) = stop place fault
begun p st place k args (Ok q) = on (inside (record st { world = q.1 })
    (making (record { made = q.0; initials = initials_of p k; init = init_of p k; arguments = args; place = place })))

-- `new` of a class: arguments, depth, a turn, and then the object
abbrev pub construct : Program → State → Pos → ℕ → List Datum → Stepped
construct p st place k args =
    unless_refused place (init_fault p st (init_of p k) args) (with_turn st (λ turned. begun p turned place k args (object_made p turned.world k)))

-- who asked for the object has it: a function on its stack, or the run as its main instance
abbrev pub delivered : State → List Activity → Datum → State
delivered st [] v = record st { activities = []; hand = v ∷ [] }
delivered st around v = record st { activities = received around v }

-- a `new` goes on: with the next function for initial values, which takes no turn, with `_init`, to which it passes its
-- arguments, or with the object
abbrev pub making_on : Program → State → List Activity → Making → List ℕ → Option ℕ → Stepped
making_on p st around m (n ∷ ns) init =
    on (record st { activities = running (frame_of p n (Some m.made) [] false false) ∷ making (record m { initials = ns }) ∷ around })
making_on p st around m [] (Some n) =
    enter p (record st { activities = making (record m { init = None; arguments = [] }) ∷ around }) m.place n (Some m.made) m.arguments false
making_on p st around m [] None = on (delivered st around m.made)

abbrev pub go_on_making : Program → State → List Activity → Making → Stepped
go_on_making p st around m = making_on p st around m m.initials m.init

-- an emission goes on: a target whose object is gone is passed over, a connection that goes with its first call goes, and the
-- target is called; at the end whoever emitted has null
abbrev pub one_gone : State → Emitting → d.Callee → Bool → State
one_gone st e to one_shot = if one_shot then record st { world = unlinked st.world e.emitter e.signal to } else st

abbrev pub emitting_on : Program → State → List Activity → Emitting → List (d.Callee × Bool) → Stepped
emitting_on p st around e [] = on (record st { activities = received around d.null })
emitting_on p st around e (t ∷ ts) =
    let left : State = record st { activities = emitting (record e { targets = ts }) ∷ around } in
    if is_gone st.world t.0.object then on left
    else enter_target p (one_gone left e t.0 t.1) e.place t.0 e.arguments false (target_of p st.world t.0)

abbrev pub go_on_emitting : Program → State → List Activity → Emitting → Stepped
go_on_emitting p st around e = emitting_on p st around e e.targets
