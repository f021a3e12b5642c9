-- Calls of methods: of objects, of containers and Strings, of Callables and of signals.
use Rattle.std.specs.Prelude.{ℕ, ℤ, pos, Bool, true, false, not, ◌&&◌, ◌||◌, nat_eq, List, [], ◌∷◌, ◌++◌, map, filter, take, replicate, is_none, Option, None, Some, Result, Ok, Err, if◌then◌else◌}
use Rattle.std.specs.List.{list_any}
use Rattle.std.specs.Option.{option_map}
use Rattle.std.specs.Ordering.{int_eq}
use Rattle.std.specs.Str.{bytes_eq}
use Rattle.gd_model.specs.declared.fault.RunFault.{RunFault}
use Rattle.gd_model.specs.declared.fault.RunFault.TheVariants.{NullReceiver, NoSuchMethod, FreedTarget}
use Rattle.gd_model.specs.Datum as d
use Rattle.gd_model.specs.Datum.{Datum, Callee}
use Rattle.gd_model.specs.Same.{same_target}
use Rattle.gd_model.specs.Store.{Store, ArrayThing, DictThing, array_at, dict_at}
use Rattle.gd_model.specs.Store as thing
use Rattle.gd_syntax.specs.declared.pos.Pos.{Pos}
use Rattle.assignability.specs.Fits.{fits}
use Rattle.value_semantics.specs.declared.builtin.Builtin.{Builtin}
use Rattle.value_semantics.specs.declared.builtin.Builtin.TheVariants as b
use Rattle.value_semantics.specs.declared.kind.Kind.TheVariants as k
use Rattle.value_semantics.specs.Answer.{and_then, in_form}
use Rattle.value_semantics.specs.BuiltinRows.{named, row_of}
use Rattle.value_semantics.specs.Builtins.{called}
use Rattle.value_semantics.specs.Kinds.{kind_of}
use Rattle.value_semantics.specs.Parameters.{arguments_fault, writes}
use Rattle.store_semantics.specs.World.{World, Connection, store_of, put, write}
use Rattle.store_semantics.specs.Writes.{array_write, dict_write, resize}
use Rattle.gd_bytecode.specs.declared.program.Instr.{Instr}
use Rattle.gd_bytecode.specs.declared.program.Program.{Program}
use Rattle.gd_bytecode.specs.Entering.{enter, inside, stop, unless_refused}
use Rattle.gd_bytecode.specs.Members.{bases, class_names, method_of, own_method}
use Rattle.gd_bytecode.specs.Objects.{class_of, starts}
use Rattle.gd_bytecode.specs.Operands.{Here, calling, gives, gives_value, place_of}
use Rattle.gd_bytecode.specs.State.{Emitting, emitting, State, Stepped, on}

-- what a method that writes gives: the container is another
abbrev pub array_after : World → ℕ → Result (ArrayThing × Datum) RunFault → Result (Datum × World) RunFault
array_after w s r = in_form (λ p. (p.1, write w s (thing.array p.0))) r

abbrev pub dict_after : World → ℕ → Result (DictThing × Datum) RunFault → Result (Datum × World) RunFault
dict_after w s r = in_form (λ p. (p.1, write w s (thing.dict p.0))) r

-- `resize`: so many elements stay, and start values follow them
abbrev pub resized : World → ℕ → ArrayThing → ℕ × ℕ → Result (Datum × World) RunFault
resized w s a n =
    in_form (λ p. (d.null, write p.1 s (thing.array (record a { items = take n.0 a.items ++ p.0 })))) (starts w (replicate n.1 a.element))

abbrev pub array_call : Program → World → ℕ → Builtin → List Datum → Result (Datum × World) RunFault
array_call p w s b.ArrayResize args =
    let a : ArrayThing = array_at (store_of w) s in and_then (resize a args) (resized w s a)
array_call p w s method args =
    let a : ArrayThing = array_at (store_of w) s in
    array_after w s (array_write (fits (bases p) (store_of w) a.element) (store_of w) method a args)

abbrev pub dict_call : Program → World → ℕ → Builtin → List Datum → Result (Datum × World) RunFault
dict_call p w s method args =
    let m : DictThing = dict_at (store_of w) s in
    dict_after w s (dict_write (fits (bases p) (store_of w) m.key_type) (fits (bases p) (store_of w) m.value_type) (store_of w) method m args)

-- a method that writes
abbrev pub write_call : Program → World → Builtin → Datum → List Datum → Result (Datum × World) RunFault
write_call p w method (d.array s) args = array_call p w s method args
write_call p w method (d.dictionary s) args = dict_call p w s method args
write_call p w method base args = Err NoSuchMethod

-- a method of a container or a String
abbrev pub value_call : Program → World → Builtin → Datum → List Datum → Result (Datum × World) RunFault
value_call p w method base args =
    if writes method then write_call p w method base args
    else and_then (called (store_of w) (class_names p) method (base ∷ args)) (put w)

abbrev pub builtin_call : Here → Instr → ℕ → Datum → List Datum → Option Builtin → Stepped
builtin_call h i n base args None = stop (place_of h i) NoSuchMethod
builtin_call h i n base args (Some method) = gives h i n (value_call h.program h.state.world method base args)

-- a Callable's or a signal's object is gone
abbrev pub is_gone : World → Option ℕ → Bool
is_gone w None = false
is_gone w (Some s) = is_none (store_of w s)

-- the function that a Callable calls
abbrev pub function_of : Program → World → Callee → Option ℕ → Option ℕ
function_of p w c (Some s) = method_of p (class_of w s) c.name
function_of p w c None = own_method p c.name c.class

abbrev pub target_of : Program → World → Callee → Option ℕ
target_of p w c = function_of p w c c.object

-- a Callable is called: it is entered on its object, or on none
abbrev pub enter_target : Program → State → Pos → Callee → List Datum → Bool → Option ℕ → Stepped
enter_target p st place c args is_taken None = stop place NoSuchMethod
enter_target p st place c args is_taken (Some n) = enter p st place n (option_map (λ s. d.object s) c.object) args is_taken

-- the arguments of a method of Callable or Signal are tested, and then whether its object is there
abbrev pub on_object : Here → Instr → Builtin → List Datum → Option ℕ → Stepped → Stepped
on_object h i method args object more =
    unless_refused (place_of h i) (arguments_fault (row_of method).required (row_of method).optional (row_of method).rest args)
    (if is_gone h.state.world object then stop (place_of h i) FreedTarget else more)

-- `is_valid` tells of a Callable whether its object is there; `call` calls it
abbrev pub callable_call : Here → Instr → ℕ → Callee → List Datum → Option Builtin → Stepped
callable_call h i n c args (Some b.CallableCall) =
    on_object h i b.CallableCall args c.object
    (enter_target h.program (calling h n) (place_of h i) c args true (target_of h.program h.state.world c))
callable_call h i n c args (Some b.CallableIsValid) =
    unless_refused (place_of h i) (arguments_fault [] [] None args) (gives_value h i n (Ok (d.bool (not (is_gone h.state.world c.object)))))
callable_call h i n c args m = stop (place_of h i) NoSuchMethod

-- the connections of one signal of one object, and those to one target
abbrev pub is_of : ℕ → List ℕ → Connection → Bool
is_of s name c = nat_eq c.emitter s && bytes_eq c.signal name

abbrev pub is_link : ℕ → List ℕ → Callee → Connection → Bool
is_link s name to c = is_of s name c && same_target c.to to

abbrev pub is_linked : World → ℕ → List ℕ → Callee → Bool
is_linked w s name to = list_any (is_link s name to) w.connections

abbrev pub unlinked : World → ℕ → List ℕ → Callee → World
unlinked w s name to = record w { connections = filter (λ c. not (is_link s name to c)) w.connections }

-- flags are 0, or 4 for a connection that goes with its first call
abbrev pub flags_of : List Datum → ℤ
flags_of (d.int n ∷ []) = n
flags_of args = pos 0

abbrev pub may_link : World → ℕ → List ℕ → Callee → ℤ → Bool
may_link w s name to flags = (int_eq flags (pos 0) || int_eq flags (pos 4)) && not (is_linked w s name to)

abbrev pub linked : World → ℕ → List ℕ → Callee → ℤ → World
linked w s name to flags = record w { connections = w.connections ++ record { emitter = s; signal = name; to = to; one_shot = int_eq flags (pos 4) } ∷ [] }

-- `connect` gives 0, or 31 where it changes nothing: for null, for flags of another value, and for a target that is connected
abbrev pub connected : World → ℕ → List ℕ → List Datum → Datum × World
connected w s name (d.callable to ∷ more) =
    if may_link w s name to (flags_of more) then (d.int (pos 0), linked w s name to (flags_of more)) else (d.int (pos 31), w)
connected w s name args = (d.int (pos 31), w)

abbrev pub disconnected : World → ℕ → List ℕ → List Datum → World
disconnected w s name (d.callable to ∷ more) = unlinked w s name to
disconnected w s name args = w

abbrev pub is_connected : World → ℕ → List ℕ → List Datum → Bool
is_connected w s name (d.callable to ∷ more) = is_linked w s name to
is_connected w s name args = false

-- an emission takes the list as it stands at its start
abbrev pub emission : World → Pos → ℕ → List ℕ → List Datum → Emitting
emission w place s name args = record {
  emitter = s;
  signal = name;
  targets = map (λ (c : Connection). (c.to, c.one_shot)) (filter (is_of s name) w.connections);
  arguments = args;
  place = place;
}

abbrev pub signal_call : Here → Instr → ℕ → ℕ → List ℕ → List Datum → Option Builtin → Stepped
signal_call h i n s name args (Some b.SignalConnect) = on_object h i b.SignalConnect args (Some s) (gives h i n (Ok (connected h.state.world s name args)))
signal_call h i n s name args (Some b.SignalDisconnect) =
    on_object h i b.SignalDisconnect args (Some s) (gives h i n (Ok (d.null, disconnected h.state.world s name args)))
signal_call h i n s name args (Some b.SignalIsConnected) =
    on_object h i b.SignalIsConnected args (Some s) (gives_value h i n (Ok (d.bool (is_connected h.state.world s name args))))
signal_call h i n s name args (Some b.SignalEmit) =
    on_object h i b.SignalEmit args (Some s) (on (inside (calling h n) (emitting (emission h.state.world (place_of h i) s name args))))
signal_call h i n s name args m = stop (place_of h i) NoSuchMethod

-- a function of an object, static or not, is called on that object
abbrev pub object_call : Here → Instr → ℕ → ℕ → List Datum → Option ℕ → Stepped
object_call h i n s args None = stop (place_of h i) NoSuchMethod
object_call h i n s args (Some f) = enter h.program (calling h n) (place_of h i) f (Some (d.object s)) args true

-- a method by its name, the base and its arguments being n entries
abbrev pub method_call : Here → Instr → ℕ → List ℕ → Datum → List Datum → Stepped
method_call h i n name d.null args = stop (place_of h i) NullReceiver
method_call h i n name (d.object s) args = object_call h i n s args (method_of h.program (class_of h.state.world s) name)
method_call h i n name (d.callable c) args = callable_call h i n c args (named (Some k.Callable) name)
method_call h i n name (d.signal s of) args = signal_call h i n s of args (named (Some k.Signal) name)
method_call h i n name base args = builtin_call h i n base args (named (Some (kind_of base)) name)
