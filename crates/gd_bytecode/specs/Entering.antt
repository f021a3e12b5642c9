-- How a function is entered and left.
use Rattle.std.specs.Prelude.{ℕ, zero, suc, ◌-◌, Bool, true, not, ◌&&◌, nat_lt, List, [], ◌∷◌, ◌++◌, length, map, replicate, Option, None, Some, if◌then◌else◌}
use Rattle.gd_model.specs.declared.fault.RunFault.{RunFault}
use Rattle.gd_model.specs.declared.fault.RunFault.TheVariants.{CallsTooDeep, ValueOfAnotherType, WrongNumberOfArguments}
use Rattle.gd_model.specs.declared.outcome.Outcome.TheVariants.{Fault, OutOfTurns}
use Rattle.gd_model.specs.Datum.{Datum}
use Rattle.gd_model.specs.Refusal.{refusal}
use Rattle.gd_syntax.specs.declared.pos.Pos.{Pos}
use Rattle.assignability.specs.Fits.{fits}
use Rattle.store_semantics.specs.World.{World, store_of}
use Rattle.gd_bytecode.specs.declared.program.Function.{Function}
use Rattle.gd_bytecode.specs.declared.program.Program.{Program}
use Rattle.gd_bytecode.specs.ClassFields.{takes}
use Rattle.gd_bytecode.specs.Members.{bases, function_at, type_at}
use Rattle.gd_bytecode.specs.State.{Activity, val, Frame, running, State, calls_standing, Stepped, on, stops}

-- a value fits a type of the program
abbrev pub fits_type : Program → World → ℕ → Datum → Bool
fits_type p w t v = fits (bases p) (store_of w) (type_at p t) v

-- and values those of parameters, one for one
abbrev pub all_fit : Program → World → List ℕ → List Datum → Bool
all_fit p w (t ∷ ts) (v ∷ vs) = fits_type p w t v && all_fit p w ts vs
all_fit p w ts vs = true

abbrev pub stop : Pos → RunFault → Stepped
stop place fault = stops (Fault fault place None)

-- fewer than 1,024 calls stand
abbrev pub is_shallow : State → Bool
is_shallow st = nat_lt (calls_standing st) 1024

-- a call is refused by the number of its arguments, by one that does not fit, and where too many calls stand
abbrev pub arguments_fault : Program → State → Function → List Datum → Option RunFault
arguments_fault p st f args = refusal ((not (takes f (length args)), WrongNumberOfArguments) ∷ (not (all_fit p st.world f.types args), ValueOfAnotherType) ∷ [])

abbrev pub call_fault : Program → State → Function → List Datum → Option RunFault
call_fault p st f args =
    refusal ((not (takes f (length args)), WrongNumberOfArguments) ∷ (not (all_fit p st.world f.types args), ValueOfAnotherType)
    ∷ (not (is_shallow st), CallsTooDeep) ∷ [])

-- a function as it begins: its parameters have the arguments, and the other locals are not set
abbrev pub locals_of : Function → List Datum → List (Option Datum)
locals_of f args = map (λ v. Some v) args ++ replicate (length f.types - length args) None

abbrev pub frame_of : Program → ℕ → Option Datum → List Datum → Bool → Bool → Frame
frame_of p n me args is_taken is_call =
    record { function = n; at = 0; me = me; locals = locals_of (function_at p n) args; stack = []; is_taken = is_taken; is_call = is_call }

abbrev pub inside : State → Activity → State
inside st a = record st { activities = a ∷ st.activities }

-- a turn is used, or the run ends
abbrev pub turned : State → (State → Stepped) → ℕ → Stepped
turned st more zero = stops OutOfTurns
turned st more (suc n) = more (record st { turns = n })

abbrev pub with_turn : State → (State → Stepped) → Stepped
with_turn st more = turned st more st.turns

-- where nothing refuses
abbrev pub unless_refused : Pos → Option RunFault → Stepped → Stepped
unless_refused place None s = s
unless_refused place (Some fault) s = stop place fault

-- function n is called on a receiver, or on none, with these arguments: a fault stands at `place`
abbrev pub enter : Program → State → Pos → ℕ → Option Datum → List Datum → Bool → Stepped
enter p st place n me args is_taken =
    unless_refused place (call_fault p st (function_at p n) args)
    (with_turn st (λ turned. on (inside turned (running (frame_of p n me args is_taken true)))))

-- a value goes to the top of the stack of whoever called
abbrev pub received : List Activity → Datum → List Activity
received (running f ∷ rest) v = running (record f { stack = val v ∷ f.stack }) ∷ rest
received rest v = rest

-- a function returns: its result goes to its caller, or is given up once what the frame held has gone
abbrev pub leave : State → Frame → List Activity → Datum → State
leave st f rest v =
    if f.is_taken then record st { activities = received rest v } else record st { activities = rest; owed = v ∷ [] }
