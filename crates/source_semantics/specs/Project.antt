-- What the meaning of a project is told of it: its classes, and what the analysis says of places.
use Rattle.std.specs.Prelude.{ℕ, zero, suc, ◌+◌, ◌-◌, Bool, false, not, ◌==◌, ◌||◌, List, [], ◌∷◌, ◌++◌, length, map, filter, reverse, Option, None, Some, option_map, option_and_then, slice_get, bytes_eq, codes, if◌then◌else◌}
use Rattle.std.specs.List.{flat_map, position}
use Rattle.gd_members.specs.declared.Found.{Found}
use Rattle.gd_model.specs.Datum.{Datum}
use Rattle.gd_model.specs.Store.{Names, Thing}
use Rattle.gd_model.specs.declared.ty.Ty.{Ty}
use Rattle.value_semantics.specs.declared.builtin_rows.Param.{Param}
use Rattle.gd_syntax.specs.declared.pos.Pos.{Pos}
use Rattle.syntax_trees.specs.Declarations.{Accessor, Decl, DeclKind, Function, Property, class_name, kind_of, named, body}
use Rattle.syntax_trees.specs.Declarations as d
use Rattle.syntax_trees.specs.Expressions.{Text}

-- what an argument is tested for, where the analysis foresaw a test: a type, or what a parameter of a builtin takes
pub data Expected : Type 0 where
  a_type : Ty → Expected
  a_parameter : Param → Expected

-- a class: its name as it is printed, its base (0 for RefCounted), and its declarations
pub record Class : Type 0 where
  pub name : Text
  pub base : ℕ
  pub members : List Decl

-- A project that breaks no rule. Class k is the k-th of `classes`; 0 is RefCounted.
pub record Project : Type 0 where
  pub classes : List Class
  -- what the name or the attribute at a place means, where that is no local
  pub found : Pos → Found
  -- the type of the expression at a place, or of what is assigned to there
  pub typed : Pos → Ty
  -- the type of the variable, parameter, local or loop variable that is declared at a place
  pub place_type : Pos → Ty
  -- the type that the function with its name at a place returns
  pub returns : Pos → Ty
  -- the type of a cast or a test, at the place of the written type
  pub written : Pos → Ty
  -- for each argument of the call at a place the test that was foreseen, with the argument's place
  pub tests : Pos → List (Option (Pos × Expected))
  -- the value of the constant, the enum value or the enum that is declared at a place
  pub constant : Pos → Datum
  -- the things that constants hold, in the order in which they are made: the first has the serial number 1
  pub things : List Thing

-- ---- classes and bases

abbrev pub class_at : Project → ℕ → Option Class
class_at p number = if number == 0 then None else slice_get p.classes (number - 1)

-- a class, its base, that one's base and so on, RefCounted aside; as many steps are gone
abbrev pub walk : ℕ → Project → ℕ → List ℕ
walk zero p number = []
walk (suc steps) p number = walk_on number (class_at p number) (λ base. walk steps p base)
  where
    walk_on : ℕ → Option Class → (ℕ → List ℕ) → List ℕ
    walk_on number None further = []
    walk_on number (Some c) further = number ∷ further c.base

abbrev pub line : Project → ℕ → List ℕ
line p number = walk (length p.classes) p number

-- the classes that an object of a class is an instance of
abbrev pub bases : Project → ℕ → List ℕ
bases p number = line p number ++ 0 ∷ []

-- the names of the classes as they are printed
abbrev pub names : Project → Names
names p number = if number == 0 then Some (codes "RefCounted") else option_map (λ (c : Class). c.name)
    (class_at p number)

-- ---- declarations

-- the declarations of a class, each with its place among them and the number of the class
pub record Member : Type 0 where
  pub class : ℕ
  pub index : ℕ
  pub kind : DeclKind

abbrev pub numbered : ℕ → ℕ → List Decl → List Member
numbered class index [] = []
numbered class index (x ∷ xs) = record { class = class; index = index; kind = kind_of x }
    ∷ numbered class (index + 1) xs

abbrev pub members_of : Project → ℕ → List Member
members_of p number = members_in number (class_at p number)
  where
    members_in : ℕ → Option Class → List Member
    members_in number None = []
    members_in number (Some c) = numbered number 0 c.members

-- the first that passes a test
abbrev pub first : {A : Type 0} → (A → Bool) → List A → Option A
first test [] = None
first test (x ∷ xs) = if test x then Some x else first test xs

-- the members of a class and of its bases, the nearest first
abbrev pub all_members : Project → ℕ → List Member
all_members p number = flat_map (members_of p) (line p number)

abbrev pub is_function_named : Text → Member → Bool
is_function_named name m = named_so name m.kind
  where
    named_so : Text → DeclKind → Bool
    named_so name (d.function f) = bytes_eq f.name name
    named_so name _ = false

abbrev pub function_of : Member → Option (ℕ × Function)
function_of m = in_kind m.class m.kind
  where
    in_kind : ℕ → DeclKind → Option (ℕ × Function)
    in_kind class (d.function f) = Some (class, f)
    in_kind class _ = None

-- the nearest function of a name, with the class that declares it
abbrev pub method : Project → ℕ → Text → Option (ℕ × Function)
method p number name = option_and_then function_of (first (is_function_named name) (all_members p number))

-- the function of a name that a class itself declares
abbrev pub own_function : Project → ℕ → Text → Option (ℕ × Function)
own_function p number name = option_and_then function_of (first (is_function_named name) (members_of p number))

-- a variable, with the class that declares it
pub record Variable : Type 0 where
  pub class : ℕ
  pub decl : Property

abbrev pub variable_of : Member → List Variable
variable_of m = in_kind m.class m.kind
  where
    in_kind : ℕ → DeclKind → List Variable
    in_kind class (d.variable v) = record { class = class; decl = v } ∷ []
    in_kind class _ = []

abbrev pub name_of : Variable → Text
name_of v = v.decl.variable.name

abbrev pub is_static : Variable → Bool
is_static v = v.decl.variable.is_static

abbrev pub own_variables : Project → ℕ → List Variable
own_variables p number = flat_map variable_of (members_of p number)

-- the variables of an object, those of its base classes first and then by declaration: the order of its values
abbrev pub instance_variables : Project → ℕ → List Variable
instance_variables p number = filter (λ v. not (is_static v)) (flat_map (own_variables p) (reverse (line p number)))

abbrev pub static_variables : Project → ℕ → List Variable
static_variables p number = filter is_static (own_variables p number)

-- whether an accessor is the function of this name
abbrev pub is_function : Text → Option Accessor → Bool
is_function name None = false
is_function name (Some (named own pos)) = bytes_eq own name
is_function name (Some (body parameter block pos tokens)) = false

abbrev pub has_accessor : Text → Variable → Bool
has_accessor name v = is_function name v.decl.setter || is_function name v.decl.getter

-- the variables of a class that have this function of it as an accessor: in it their bare names are the variables
-- themselves, however it is called
abbrev pub accessed_by : Project → ℕ → Text → List Text
accessed_by p class name = map name_of (filter (has_accessor name) (own_variables p class))

-- the place of a variable among the values of an object
abbrev pub slot : Project → ℕ → Text → Option ℕ
slot p number name = position (λ v. bytes_eq (name_of v) name) (instance_variables p number)

-- what a name is at run time among the members of an object: a variable, a static one, a function or a signal;
-- constants, enums and classes are none
pub data Attribute : Type 0 where
  instance : Variable → Attribute
  static : Variable → Attribute
  function : ℕ → Function → Attribute
  signal : Attribute

abbrev pub attribute_in : Text → Member → Option (Option Attribute)
attribute_in name m = in_kind name m.class m.kind
  where
    of_variable : Variable → Attribute
    of_variable v = if is_static v then static v else instance v

    if_named : Text → Text → Option Attribute → Option (Option Attribute)
    if_named name own x = if bytes_eq own name then Some x else None

    in_kind : Text → ℕ → DeclKind → Option (Option Attribute)
    in_kind name class (d.variable v) = if_named name v.variable.name
        (Some (of_variable (record { class = class; decl = v })))
    in_kind name class (d.constant v) = if_named name v.name None
    in_kind name class (d.function f) = if_named name f.name (Some (function class f))
    in_kind name class (d.signal own pos params) = if_named name own (Some signal)
    in_kind name class (d.enum (Some own) values) = if_named name own.0 None
    in_kind name class (d.enum None values) = None
    in_kind name class (d.class c) = option_and_then (λ own. if_named name own None) (class_name c)
    in_kind name class d.nothing = None

-- the nearest member of the name, where it is an attribute
abbrev pub attribute : Project → ℕ → Text → Option Attribute
attribute p number name = nearest name (all_members p number)
  where
    or_next : Option (Option Attribute) → Option Attribute → Option Attribute
    or_next (Some x) next = x
    or_next None next = next

    nearest : Text → List Member → Option Attribute
    nearest name [] = None
    nearest name (m ∷ ms) = or_next (attribute_in name m) (nearest name ms)
