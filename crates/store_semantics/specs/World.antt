-- The store of a run: its things, and what else stands from one operation to the next.
use Rattle.std.specs.Prelude.{ℕ, suc, ◌+◌, Bool, ◌||◌, nat_eq, nat_le, List, [], ◌∷◌, ◌++◌, length, Option, None, Some, Result, Ok, Err, if◌then◌else◌}
use Rattle.std.specs.Map.{lookup}
use Rattle.gd_model.specs.declared.fault.RunFault.{RunFault}
use Rattle.gd_model.specs.declared.fault.RunFault.TheVariants.{TooManyThings}
use Rattle.gd_model.specs.Datum.{Datum, Callee, array, dictionary}
use Rattle.gd_model.specs.Store.{Store, Thing}
use Rattle.gd_model.specs.Store as thing
use Rattle.value_semantics.specs.Made as m
use Rattle.value_semantics.specs.Made.{Made}

-- what the outside sees: a printed line; an object that was freed, or was still there at the end, by its serial number and
-- the number of its class
pub data Seen : Type 0 where
  line : List ℕ → Seen
  freed : ℕ → ℕ → Seen
  leaked : ℕ → ℕ → Seen

-- a static variable of a class
pub record Static : Type 0 where
  pub class : ℕ
  pub name : List ℕ
  pub value : Datum

-- a signal of an object is connected to a target, for one emission or for all
pub record Connection : Type 0 where
  pub emitter : ℕ
  pub signal : List ℕ
  pub to : Callee
  pub one_shot : Bool

-- the things by rising serial number, and how many were made; the statics; the values of the constants; the connections and
-- the events, in the order in which they came
pub record World : Type 0 where
  pub things : List (ℕ × Thing)
  pub made : ℕ
  pub statics : List Static
  pub constants : List Datum
  pub connections : List Connection
  pub events : List Seen

abbrev pub store_of : World → Store
store_of w s = lookup (nat_eq s) w.things

-- whether no further thing can be made: too many are there, or were made
abbrev pub is_full : World → Bool
is_full w = nat_le 16777216 (length w.things) || nat_le 9223372036854775807 w.made

-- a new thing takes the next serial number
abbrev pub with_thing : World → Thing → World
with_thing w t = record w { things = w.things ++ (suc w.made, t) ∷ []; made = suc w.made }

abbrev pub make : World → Thing → Result (ℕ × World) RunFault
make w t = if is_full w then Err TooManyThings else Ok (suc w.made, with_thing w t)

abbrev pub made_as : (ℕ → Datum) → Result (ℕ × World) RunFault → Result (Datum × World) RunFault
made_as form (Err f) = Err f
made_as form (Ok p) = Ok (form p.0, p.1)

-- what an operator or a builtin gave, as a value: a new array or dictionary is made
abbrev pub put : World → Made → Result (Datum × World) RunFault
put w (m.value d) = Ok (d, w)
put w (m.array a) = made_as array (make w (thing.array a))
put w (m.dict d) = made_as dictionary (make w (thing.dict d))

-- the things once the one with a serial number is another
abbrev pub written : List (ℕ × Thing) → ℕ → Thing → List (ℕ × Thing)
written [] s t = []
written (p ∷ ps) s t = if nat_eq p.0 s then (s, t) ∷ ps else p ∷ written ps s t

abbrev pub write : World → ℕ → Thing → World
write w s t = record w { things = written w.things s t }

-- an event goes to the end
abbrev pub see : World → Seen → World
see w e = record w { events = w.events ++ e ∷ [] }
