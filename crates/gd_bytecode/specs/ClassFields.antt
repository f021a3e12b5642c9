-- Which classes a program may have.
use Rattle.std.specs.Prelude.{ℕ, Bool, true, not, ◌&&◌, ◌==◌, nat_lt, nat_le, List, ◌++◌, length, map, take, slice_get, is_none, Option, None, Some, if◌then◌else◌}
use Rattle.std.specs.List.{list_any}
use Rattle.std.specs.Option.{option_or}
use Rattle.gd_bytecode.specs.declared.classes.Use.{Use}
use Rattle.gd_bytecode.specs.declared.classes.Use.TheVariants.{Setter, Getter, Initial, StaticInitial}
use Rattle.gd_bytecode.specs.declared.field.Field.{Field}
use Rattle.gd_bytecode.specs.declared.field.Field.TheVariants.{InClass}
use Rattle.gd_bytecode.specs.declared.field.ClassField.TheVariants as field
use Rattle.gd_bytecode.specs.declared.program.ClassCode.{ClassCode}
use Rattle.gd_bytecode.specs.declared.program.Function.{Function}
use Rattle.gd_bytecode.specs.declared.program.Method.{Method}
use Rattle.gd_bytecode.specs.declared.program.Program.{Program}
use Rattle.gd_bytecode.specs.declared.program.VarCode.{VarCode}
use Rattle.gd_bytecode.specs.First.{first_in, unless, within}
use Rattle.gd_bytecode.specs.Tables.{is_one_text}

-- a function can be called with so many arguments
abbrev pub takes : Function → ℕ → Bool
takes f n = nat_le f.required n && nat_le n f.params

-- a function of a class that may be used so there
abbrev pub serves_as : Function → Use → Bool
serves_as f Setter = takes f 1
serves_as f Getter = takes f 0
serves_as f Initial = not f.is_static && takes f 0
serves_as f StaticInitial = f.is_static && takes f 0

abbrev pub serves : Function → ℕ → Use → Bool
serves f i used = f.class == i && serves_as f used

-- the function that a field of class i names, if it names one, is there and may be used so
abbrev pub found_fault : ℕ → Use → Field → Option Function → Option Field
found_fault i used field None = Some field
found_fault i used field (Some f) = unless (serves f i used) field

abbrev pub use_fault : Program → ℕ → Option ℕ → Use → Field → Option Field
use_fault p i None used field = None
use_fault p i (Some n) used field = found_fault i used field (slice_get p.functions n)

abbrev pub is_earlier : Option ℕ → ℕ → Bool
is_earlier None i = true
is_earlier (Some b) i = nat_lt b i

-- name, path, and a base, which is an earlier class
abbrev pub head_fault : Program → ℕ → ClassCode → Option Field
head_fault p i c =
    option_or (option_or (within c.name (length p.texts) (InClass i field.Name)) (within c.path (length p.paths) (InClass i field.Path)))
    (unless (is_earlier c.base i) (InClass i field.Base))

-- the names that a class has: of its variables, then of its methods, and then of its signals
abbrev pub variable_names : List VarCode → List ℕ
variable_names vs = map (λ v. v.name) vs

abbrev pub method_names : ClassCode → List Method → List ℕ
method_names c ms = variable_names c.variables ++ map (λ m. m.name) ms

abbrev pub signal_names : ClassCode → List ℕ → List ℕ
signal_names c signals = method_names c c.methods ++ signals

-- a name is a text, and none of those before it in its class
abbrev pub name_fault : Program → List ℕ → ℕ → Field → Option Field
name_fault p earlier n field = unless (nat_lt n (length p.texts) && not (list_any (λ m. is_one_text p m n) earlier)) field

abbrev pub the_accessor : VarCode → Use → Option ℕ
the_accessor v Setter = v.setter
the_accessor v used = v.getter

-- a static variable has no accessor, and another has functions of its class
abbrev pub accessor_fault : Program → ℕ → VarCode → Use → Field → Option Field
accessor_fault p i v used field =
    if v.is_static then unless (is_none (the_accessor v used)) field else use_fault p i (the_accessor v used) used field

-- the type and the accessors of variable j of class i
abbrev pub variable_fault : Program → ℕ → ℕ → VarCode → Option Field
variable_fault p i j v =
    option_or (option_or (within v.typed (length p.types) (InClass i (field.VariableType j))) (accessor_fault p i v Setter (InClass i (field.Setter j))))
    (accessor_fault p i v Getter (InClass i (field.Getter j)))

abbrev pub named_variable_fault : Program → ℕ → ClassCode → ℕ → VarCode → Option Field
named_variable_fault p i c j v =
    option_or (name_fault p (variable_names (take j c.variables)) v.name (InClass i (field.Variable j))) (variable_fault p i j v)

abbrev pub variables_fault : Program → ℕ → ClassCode → Option Field
variables_fault p i c = first_in (named_variable_fault p i c) 0 c.variables

abbrev pub function_fault : Program → ℕ → ℕ → Method → Option Field
function_fault p i j m = within m.function (length p.functions) (InClass i (field.MethodFunction j))

abbrev pub method_fault : Program → ℕ → ClassCode → ℕ → Method → Option Field
method_fault p i c j m =
    option_or (name_fault p (method_names c (take j c.methods)) m.name (InClass i (field.Method j))) (function_fault p i j m)

abbrev pub methods_fault : Program → ℕ → ClassCode → Option Field
methods_fault p i c = first_in (method_fault p i c) 0 c.methods

abbrev pub signal_fault : Program → ℕ → ClassCode → ℕ → ℕ → Option Field
signal_fault p i c j n = name_fault p (signal_names c (take j c.signals)) n (InClass i (field.Signal j))

abbrev pub signals_fault : Program → ℕ → ClassCode → Option Field
signals_fault p i c = first_in (signal_fault p i c) 0 c.signals

-- the functions for initial values, and `_static_init`
abbrev pub tail_fault : Program → ℕ → ClassCode → Option Field
tail_fault p i c =
    option_or (option_or (use_fault p i c.initial Initial (InClass i field.Initial)) (use_fault p i c.static_initial StaticInitial (InClass i field.StaticInitial)))
    (use_fault p i c.static_init StaticInitial (InClass i field.StaticInit))

abbrev pub names_fault : Program → ℕ → ClassCode → Option Field
names_fault p i c = option_or (variables_fault p i c) (option_or (methods_fault p i c) (signals_fault p i c))

abbrev pub entry_fault : Program → ℕ → ClassCode → Option Field
entry_fault p i c = option_or (head_fault p i c) (option_or (names_fault p i c) (tail_fault p i c))

abbrev pub class_fault : Program → Option Field
class_fault p = first_in (λ i c. entry_fault p i c) 0 p.classes
