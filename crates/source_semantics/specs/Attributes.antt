-- Attributes and subscripts: reading and writing them, with accessors.
use Rattle.std.specs.Prelude.{ℕ, ◌==◌, Bool, false, List, [], ◌∷◌, Option, None, Some, option_and_then, slice_get, slice_set, unwrap_or, bytes_eq, if◌then◌else◌, Result, Ok, Err}
use Rattle.gd_model.specs.Datum.{Datum, null, object, array, dictionary, callable, signal, text}
use Rattle.gd_model.specs.Store as thing
use Rattle.gd_model.specs.Store.{Thing, array_at, class_behind, dict_at}
use Rattle.gd_model.specs.declared.fault.RunFault.{RunFault}
use Rattle.gd_model.specs.declared.fault.RunFault.TheVariants.{BadOperands, NoSuchMember, NullReceiver}
use Rattle.gd_model.specs.declared.ty.Ty.{Ty}
use Rattle.gd_model.specs.declared.ty.Ty.TheVariants.{Variant}
use Rattle.gd_syntax.specs.declared.pos.Pos.{Pos}
use Rattle.syntax_trees.specs.Declarations.{Accessor, body, named}
use Rattle.syntax_trees.specs.Expressions.{Text}
use Rattle.syntax_trees.specs.Statements.{no_stmts}
use Rattle.store_semantics.specs.Subscripts.{entry_written, item_written, subscript}
use Rattle.store_semantics.specs.World.{Static, write}
use Rattle.source_semantics.specs.Meaning.{Code, Entry, Frame, Meaning, Parameter, code_of}
use Rattle.source_semantics.specs.Project as of_object
use Rattle.source_semantics.specs.Project.{Attribute, Project, Variable, attribute, bases, name_of, own_function, slot}
use Rattle.source_semantics.specs.State.{Run, Went, failed, gives, read_at, settled, store, tested, then_do, went}
use Rattle.source_semantics.specs.Types.{fits_type}

-- the class of the object with a serial number
abbrev pub class_of : Run → ℕ → ℕ
class_of r s = unwrap_or (class_behind (store r s)) 0

-- the values of the object with a serial number
abbrev pub values_of : Run → ℕ → List Datum
values_of r s = values_behind (store r s)
  where
    values_behind : Option Thing → List Datum
    values_behind (Some (thing.object class values)) = values
    values_behind _ = []

-- ---- accessors

abbrev pub empty_code : ℕ → Text → Ty → Code
empty_code class direct returns = record {
  class = class;
  parameters = [];
  returns = returns;
  body = no_stmts;
  direct =
      direct ∷ [];
}

abbrev pub named_code : Project → Variable → Option Code → Code
named_code p v found = unwrap_or found (empty_code v.class (name_of v) (p.place_type v.decl.variable.pos))

-- the function of an accessor: its body, or the named function of the class that declares the variable. In it the
-- variable's bare name is the variable itself
abbrev pub accessor_code : Project → Variable → Ty → (Text → Pos → List Parameter) → Accessor → Code
accessor_code p v returns parameters (named name pos) =
    named_code p v (option_and_then (λ f. Some (code_of p f)) (own_function p v.class name))
accessor_code p v returns parameters (body parameter block pos tokens) = record {
  class = v.class;
  parameters = parameters (unwrap_or parameter []) pos;
  returns = returns;
  body = block;
  direct = name_of v ∷ [];
}

abbrev pub type_of : Project → Variable → Ty
type_of p v = p.place_type v.decl.variable.pos

abbrev pub getter : Project → Variable → Option Code
getter p v = option_and_then (λ x. Some (accessor_code p v (type_of p v) (λ _ _. []) x)) v.decl.getter

-- the parameter of a setter has the variable's type
abbrev pub setter : Project → Variable → Option Code
setter p v = option_and_then (λ x. Some
    (accessor_code p v Variant (λ name pos. record { name = name; at = pos; takes = type_of p v; default = None } ∷ [])
    x)) v.decl.setter

-- ---- an object's variables

-- a variable of an object without its accessors
abbrev pub stored : Project → Run → ℕ → Text → Datum
stored p r s name = unwrap_or (option_and_then (slice_get (values_of r s)) (slot p (class_of r s) name)) null

-- the call of an accessor
abbrev pub access : Frame → Pos → ℕ → Code → List Datum → Entry
access frame pos s code arguments =
    record { code = code; receiver = Some (object s); arguments = arguments; depth = frame.depth; pos = pos }

abbrev pub read_by : Project → Meaning → Frame → Pos → List Datum → Run → ℕ → Text → Option Code → Went Datum
read_by p m frame pos hand r s name None = gives hand (stored p r s name) r
read_by p m frame pos hand r s name (Some code) = m.enter (access frame pos s code []) hand r

-- a variable of an object: by its getter where it has one
abbrev pub read_variable : Project → Meaning → Frame → Pos → List Datum → Run → ℕ → Variable → Went Datum
read_variable p m frame pos hand r s v = read_by p m frame pos hand r s (name_of v) (getter p v)

abbrev pub put_in_slot : Run → ℕ → Datum → Option ℕ → Run
put_in_slot r s value None = r
put_in_slot r s value (Some i) =
    record r { world = write r.world s (thing.object (class_of r s) (slice_set (values_of r s) i value)) }

abbrev pub with_value : Project → Run → ℕ → Text → Datum → Run
with_value p r s name value = put_in_slot r s value (slot p (class_of r s) name)

-- a value is put into a variable of an object without its accessors; the old value is given up
abbrev pub store_variable : Project → Pos → List Datum → Run → ℕ → Variable → Datum → Went (Unit {0})
store_variable p pos hand r s v value =
    then_do (tested pos (fits_type (bases p) (store r) (type_of p v) value) r)
    (λ _ r. went tt (settled hand (with_value p r s (name_of v) value)))

abbrev pub write_by : Project → Meaning → Frame → Pos → List Datum → Run → ℕ → Variable → Datum → Option Code
    → Went (Unit {0})
write_by p m frame pos hand r s v value None = store_variable p pos hand r s v value
write_by p m frame pos hand r s v value (Some code) =
    then_do (tested pos (fits_type (bases p) (store r) (type_of p v) value) r) (λ _ r.
    then_do (m.enter (access frame pos s code (value ∷ [])) hand r) (λ _ r. went tt (settled hand r)))

-- a value is written to a variable of an object: it is tested, and then the setter is called where there is one, whose
-- result is given up
abbrev pub write_variable : Project → Meaning → Frame → Pos → List Datum → Run → ℕ → Variable → Datum → Went (Unit {0})
write_variable p m frame pos hand r s v value = write_by p m frame pos hand r s v value (setter p v)

-- ---- static variables

abbrev pub is_static_of : ℕ → Text → Static → Bool
is_static_of class name x = if class == x.class then bytes_eq name x.name else false

abbrev pub static_value : ℕ → Text → List Static → Datum
static_value class name [] = null
static_value class name (x ∷ xs) = if is_static_of class name x then x.value else static_value class name xs

abbrev pub read_static : List Datum → Run → Variable → Went Datum
read_static hand r v = gives hand (static_value v.class (name_of v) r.world.statics) r

abbrev pub set_static : ℕ → Text → Datum → List Static → List Static
set_static class name value [] = []
set_static class name value (x ∷ xs) =
    if is_static_of class name x then record x { value = value } ∷ xs else x ∷ set_static class name value xs

abbrev pub write_static : Project → Pos → List Datum → Run → Variable → Datum → Went (Unit {0})
write_static p pos hand r v value =
    then_do (tested pos (fits_type (bases p) (store r) (type_of p v) value) r) (λ _ r.
    went tt (settled hand (record r
    { world = record r.world { statics = set_static v.class (name_of v) value r.world.statics } })))

-- ---- attributes of values

-- a Callable of an object's function, and one of a static function of a class
abbrev pub bound : ℕ → Text → Datum
bound s name = callable (record { object = Some s; class = 0; name = name })

abbrev pub unbound : ℕ → Text → Datum
unbound class name = callable (record { object = None; class = class; name = name })

abbrev pub read_of_object : Project → Meaning → Frame → Pos → List Datum → Run → ℕ → Text → Option Attribute
    → Went Datum
read_of_object p m frame pos hand r s name (Some (of_object.instance v)) = read_variable p m frame pos hand r s v
read_of_object p m frame pos hand r s name (Some (of_object.static v)) = read_static hand r v
read_of_object p m frame pos hand r s name (Some (of_object.function class f)) = gives hand (bound s name) r
read_of_object p m frame pos hand r s name (Some of_object.signal) = gives hand (signal s name) r
read_of_object p m frame pos hand r s name None = failed NoSuchMember pos None r.world

-- An attribute of a value, at the name after the dot: of an object its nearest member of the name, of a dictionary the
-- value at that key. `hand` is what is held beside the value.
abbrev pub read_attribute : Project → Meaning → Frame → Pos → List Datum → Run → Datum → Text → Went Datum
read_attribute p m frame pos hand r (object s) name = read_of_object p m frame pos hand r s name
    (attribute p (class_of r s) name)
read_attribute p m frame pos hand r (dictionary s) name = then_do
    (read_at pos r (subscript (store r) (dictionary s) (text name))) (gives hand)
read_attribute p m frame pos hand r null name = failed NullReceiver pos None r.world
read_attribute p m frame pos hand r _ name = failed NoSuchMember pos None r.world

abbrev pub written_thing : Pos → List Datum → Run → ℕ → Result Thing RunFault → Went (Unit {0})
written_thing pos hand r s (Err f) = failed f pos None r.world
written_thing pos hand r s (Ok t) = went tt (settled hand (record r { world = write r.world s t }))

abbrev pub as_array : Result thing.ArrayThing RunFault → Result Thing RunFault
as_array (Ok a) = Ok (thing.array a)
as_array (Err f) = Err f

abbrev pub as_dict : Result thing.DictThing RunFault → Result Thing RunFault
as_dict (Ok d) = Ok (thing.dict d)
as_dict (Err f) = Err f

-- a value at a key of a dictionary
abbrev pub write_entry : Project → Pos → List Datum → Run → ℕ → Datum → Datum → Went (Unit {0})
write_entry p pos hand r s key value =
    let d = dict_at (store r) s in
    written_thing pos hand r s (as_dict (entry_written d key (fits_type (bases p) (store r) d.key_type key)
    (fits_type (bases p) (store r) d.value_type value) value))

-- a value at a place of an array
abbrev pub write_item : Project → Pos → List Datum → Run → ℕ → Datum → Datum → Went (Unit {0})
write_item p pos hand r s index value =
    let a = array_at (store r) s in
    written_thing pos hand r s (as_array (item_written a index (fits_type (bases p) (store r) a.element value) value))

abbrev pub write_of_object : Project → Meaning → Frame → Pos → List Datum → Run → ℕ → Datum → Option Attribute
    → Went (Unit {0})
write_of_object p m frame pos hand r s value (Some (of_object.instance v)) = write_variable p m frame pos hand r s v
    value
write_of_object p m frame pos hand r s value (Some (of_object.static v)) = write_static p pos hand r v value
write_of_object p m frame pos hand r s value _ = failed NoSuchMember pos None r.world

-- a write to an attribute, at the name after the dot
abbrev pub write_attribute : Project → Meaning → Frame → Pos → List Datum → Run → Datum → Text → Datum → Went (Unit {0})
write_attribute p m frame pos hand r (object s) name value = write_of_object p m frame pos hand r s value
    (attribute p (class_of r s) name)
write_attribute p m frame pos hand r (dictionary s) name value = write_entry p pos hand r s (text name) value
write_attribute p m frame pos hand r null name value = failed NullReceiver pos None r.world
write_attribute p m frame pos hand r _ name value = failed NoSuchMember pos None r.world

-- ---- subscripts, at the `[`

abbrev pub read_index : Pos → List Datum → Run → Datum → Datum → Went Datum
read_index pos hand r base index = then_do (read_at pos r (subscript (store r) base index)) (gives hand)

abbrev pub write_index : Project → Pos → List Datum → Run → Datum → Datum → Datum → Went (Unit {0})
write_index p pos hand r (array s) index value = write_item p pos hand r s index value
write_index p pos hand r (dictionary s) index value = write_entry p pos hand r s index value
write_index p pos hand r _ index value = failed BadOperands pos None r.world
