-- Attributes of values, and variables named by instructions.
use Rattle.std.specs.Prelude.{ℕ, true, false, List, [], ◌∷◌, Option, None, Some, Result, Ok, Err, if◌then◌else◌}
use Rattle.gd_model.specs.declared.fault.RunFault.{RunFault}
use Rattle.gd_model.specs.declared.fault.RunFault.TheVariants.{NoSuchMember, NullReceiver, ValueOfAnotherType, BadOperands}
use Rattle.gd_model.specs.Datum as d
use Rattle.gd_model.specs.Datum.{Datum}
use Rattle.gd_model.specs.Store.{Store, ArrayThing, DictThing, array_at, dict_at}
use Rattle.gd_model.specs.Store as thing
use Rattle.assignability.specs.Fits.{fits}
use Rattle.value_semantics.specs.Answer.{in_form}
use Rattle.store_semantics.specs.Subscripts.{entry, entry_written, item_written}
use Rattle.store_semantics.specs.World.{World, store_of, write}
use Rattle.gd_bytecode.specs.declared.program.Instr.{Instr}
use Rattle.gd_bytecode.specs.declared.program.Program.{Program}
use Rattle.gd_bytecode.specs.declared.program.VarCode.{VarCode}
use Rattle.gd_bytecode.specs.Entering.{enter, fits_type, stop}
use Rattle.gd_bytecode.specs.Members.{Member, field, static, function, signal, bases, member_of, field_of}
use Rattle.gd_bytecode.specs.Objects.{class_of, field_value, static_value, with_field, with_static}
use Rattle.gd_bytecode.specs.Operands.{Here, calling, changes, gives_value, place_of, top}
use Rattle.gd_bytecode.specs.State.{Stepped}

-- the value of a variable of object s, by its getter where it has one
abbrev pub read_field : Here → Instr → ℕ → ℕ → Option ℕ → Stepped
read_field h i s place None = gives_value h i 1 (Ok (field_value h.state.world s place))
read_field h i s place (Some getter) = enter h.program (calling h 1) (place_of h i) getter (Some (d.object s)) [] true

-- a member of an object that is read: a function as a Callable and a signal are on that object
abbrev pub read_member : Here → Instr → ℕ → List ℕ → Option Member → Stepped
read_member h i s name None = stop (place_of h i) NoSuchMember
read_member h i s name (Some (field place v)) = read_field h i s place v.getter
read_member h i s name (Some (static k v)) = gives_value h i 1 (Ok (static_value h.state.world k name))
read_member h i s name (Some (function n)) =
    gives_value h i 1 (Ok (d.callable (record { object = Some s; class = class_of h.state.world s; name = name })))
read_member h i s name (Some signal) = gives_value h i 1 (Ok (d.signal s name))

-- an attribute of a value: of a dictionary the value at the name as a key
abbrev pub read_attribute : Here → Instr → List ℕ → Datum → Stepped
read_attribute h i name d.null = stop (place_of h i) NullReceiver
read_attribute h i name (d.object s) = read_member h i s name (member_of h.program (class_of h.state.world s) name)
read_attribute h i name (d.dictionary s) = gives_value h i 1 (entry (dict_at (store_of h.state.world) s) (d.text name))
read_attribute h i name base = stop (place_of h i) NoSuchMember

-- a value is tested before it is written
abbrev pub tested : Program → World → ℕ → Datum → World → Result World RunFault
tested p w t v written = if fits_type p w t v then Ok written else Err ValueOfAnotherType

-- into a variable of object s, through its setter where it has one, the value being on the top of the stack and the object
-- below it
abbrev pub write_field : Here → Instr → ℕ → ℕ → VarCode → Datum → Option ℕ → Stepped
write_field h i s place v x None = changes h i 2 (tested h.program h.state.world v.typed x (with_field h.state.world s place x))
write_field h i s place v x (Some setter) =
    if fits_type h.program h.state.world v.typed x
    then enter h.program (calling h 2) (place_of h i) setter (Some (d.object s)) (x ∷ []) false
    else stop (place_of h i) ValueOfAnotherType

abbrev pub write_member : Here → Instr → ℕ → List ℕ → Datum → Option Member → Stepped
write_member h i s name x (Some (field place v)) = write_field h i s place v x v.setter
write_member h i s name x (Some (static k v)) = changes h i 2 (tested h.program h.state.world v.typed x (with_static h.state.world k name x))
write_member h i s name x m = stop (place_of h i) NoSuchMember

-- a value at a key of a dictionary, and at an index of an array
abbrev pub dict_put : Program → World → ℕ → Datum → Datum → Result World RunFault
dict_put p w s k x =
    let m : DictThing = dict_at (store_of w) s in
    in_form (λ t. write w s (thing.dict t))
    (entry_written m k (fits (bases p) (store_of w) m.key_type k) (fits (bases p) (store_of w) m.value_type x) x)

abbrev pub array_put : Program → World → ℕ → Datum → Datum → Result World RunFault
array_put p w s k x =
    let a : ArrayThing = array_at (store_of w) s in
    in_form (λ t. write w s (thing.array t)) (item_written a k (fits (bases p) (store_of w) a.element x) x)

abbrev pub write_attribute : Here → Instr → List ℕ → Datum → Datum → Stepped
write_attribute h i name d.null x = stop (place_of h i) NullReceiver
write_attribute h i name (d.object s) x = write_member h i s name x (member_of h.program (class_of h.state.world s) name)
write_attribute h i name (d.dictionary s) x = changes h i 2 (dict_put h.program h.state.world s (d.text name) x)
write_attribute h i name base x = stop (place_of h i) NoSuchMember

-- a subscript that is written: base, index and value
abbrev pub subscript_put : Program → World → Datum → Datum → Datum → Result World RunFault
subscript_put p w (d.array s) k x = array_put p w s k x
subscript_put p w (d.dictionary s) k x = dict_put p w s k x
subscript_put p w base k x = Err BadOperands

-- the nearest variable of the receiver with a name, without accessors
abbrev pub own_read : Here → Instr → Option Datum → List ℕ → Stepped
own_read h i (Some (d.object s)) name = found (field_of h.program (class_of h.state.world s) name)
  where
    found : Option (ℕ × VarCode) → Stepped
    found None = stop (place_of h i) NoSuchMember
    found (Some q) = gives_value h i 0 (Ok (field_value h.state.world s q.0))
own_read h i me name = stop (place_of h i) NoSuchMember

abbrev pub own_written : Here → Instr → Option Datum → List ℕ → Stepped
own_written h i (Some (d.object s)) name = found (field_of h.program (class_of h.state.world s) name)
  where
    x : Datum
    x = top h.frame.stack

    found : Option (ℕ × VarCode) → Stepped
    found None = stop (place_of h i) NoSuchMember
    found (Some q) = changes h i 1 (tested h.program h.state.world q.1.typed x (with_field h.state.world s q.0 x))
own_written h i me name = stop (place_of h i) NoSuchMember

-- the nearest static variable of a class with a name
abbrev pub static_read : Here → Instr → List ℕ → Option (ℕ × VarCode) → Stepped
static_read h i name None = stop (place_of h i) NoSuchMember
static_read h i name (Some q) = gives_value h i 0 (Ok (static_value h.state.world q.0 name))

abbrev pub static_written : Here → Instr → List ℕ → Datum → Option (ℕ × VarCode) → Stepped
static_written h i name x None = stop (place_of h i) NoSuchMember
static_written h i name x (Some q) = changes h i 1 (tested h.program h.state.world q.1.typed x (with_static h.state.world q.0 name x))
