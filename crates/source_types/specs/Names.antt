-- What names and attributes are: what each resolves to, and its type.
use Rattle.std.specs.Prelude.{ℕ, ◌+◌, Bool, true, false, ◌&&◌, not, Option, None, Some, bytes_eq, codes, is_some, option_and_then, option_map, if◌then◌else◌}
use Rattle.gd_members.specs.declared.Found.{Found}
use Rattle.gd_members.specs.declared.Found.TheVariants as found
use Rattle.gd_members.specs.declared.Item.{Item}
use Rattle.gd_members.specs.declared.MemberId.{MemberId}
use Rattle.gd_model.specs.declared.ty.Ty.{Ty}
use Rattle.gd_model.specs.declared.ty.Ty.TheVariants as ty
use Rattle.gd_typing.specs.Names.{builtin_name, item_of}
use Rattle.gd_typing.specs.Subscripts.{value_attribute}
use Rattle.syntax_trees.specs.Declarations.{DeclKind}
use Rattle.syntax_trees.specs.Declarations as d
use Rattle.syntax_trees.specs.Expressions.{Expr, Text, expr}
use Rattle.syntax_trees.specs.Expressions as e
use Rattle.syntax_trees.specs.Statements.{Variable}
use Rattle.source_types.specs.Knowing.{known_then}
use Rattle.source_types.specs.Projects.{Project, declared, enum_at, needs_instance, value_named}
use Rattle.source_types.specs.Scopes.{Items, Local, Scope, Seen, local_in, named, of_local, plain}
use Rattle.source_types.specs.Written.{written_if}

-- ---- what a declaration is

-- where a type comes from: it is this one, or that of an item
pub data Source : Type 0 where
  is : Ty → Source
  of : Item → Source

-- a variable has its written type; by `:=` that of its item, which is that of its value; else it is Variant
abbrev pub by_typing : MemberId → Bool → Option Ty → Source
by_typing id inferred (Some t) = is t
by_typing id inferred None = if inferred then of (item_of id) else is ty.Variant

abbrev pub of_variable : Project → MemberId → Variable → Source
of_variable p id v = by_typing id v.inferred (written_if p id.class v.typed)

-- constants and enums are items; the name of an enum is one as a whole
abbrev pub of_member : Project → MemberId → Option DeclKind → Source
of_member p id (Some (d.variable v)) = of_variable p id v.variable
of_member p id (Some (d.constant v)) = of (item_of id)
of_member p id (Some (d.function f)) = is ty.Callable
of_member p id (Some (d.signal name pos params)) = is ty.Signal
of_member p id (Some (d.enum name values)) = of (item_of id)
of_member p id _ = is ty.Bad

abbrev pub value_item : MemberId → ℕ → Item
value_item id place = record { member = id; value = place + 1 }

-- a class is no value, but stands before dots; what is not there (A09) is Bad
abbrev pub source_of : Project → Found → Source
source_of p (found.Member id) = of_member p id (declared p id)
source_of p (found.EnumValue id place) = of (value_item id place)
source_of p (found.Class class) = is (ty.Meta class)
source_of p (found.Builtin number) = is (builtin_name number).ty
source_of p found.Missing = is ty.Bad

abbrev pub type_from : Items → Source → Option Ty
type_from items (is t) = Some t
type_from items (of item) = items item

-- a name or an attribute by what was found for it
abbrev pub see_found : Items → Project → Found → Option Seen
see_found items p x = known_then (type_from items (source_of p x)) (λ t. Some (named x t))

-- ---- bare names

-- what needs an instance is Bad in static code (A24)
abbrev pub see_global : Items → Scope → Found → Option Seen
see_global items c x = if c.is_static && needs_instance c.project x then Some (named x ty.Bad) else see_found items c.project x

abbrev pub local_or_global : Items → Scope → Text → Option Local → Option Seen
local_or_global items c name (Some l) = Some (of_local l)
local_or_global items c name None = see_global items c (c.project.find c.class name)

-- the local in force, else what the class finds
abbrev pub see_name : Items → Scope → Text → Option Seen
see_name items c name = local_or_global items c name (local_in name c.locals)

-- ---- what stands before a dot

pub data Receiver : Type 0 where
  -- `self`, in code of a class
  on_me : ℕ → Receiver
  -- the name of an enum
  on_enum : MemberId → Receiver
  -- an object of a class, and a class itself
  on_object : ℕ → Receiver
  on_class : ℕ → Receiver
  -- a value of another type
  on_value : Ty → Receiver

abbrev pub is_me : Expr → Bool
is_me (expr pos e.me) = true
is_me x = false

abbrev pub by_type : Ty → Receiver
by_type (ty.Class c) = on_object c
by_type (ty.Meta c) = on_class c
by_type t = on_value t

-- an enum's name is the enum, unless it is Bad
abbrev pub enum_or_type : Project → MemberId → Ty → Receiver
enum_or_type p id ty.Dict = if is_some (enum_at p id) then on_enum id else on_value ty.Dict
enum_or_type p id t = by_type t

abbrev pub by_found : Project → Ty → Option Found → Receiver
by_found p t (Some (found.Member id)) = enum_or_type p id t
by_found p t x = by_type t

abbrev pub receiver : Scope → Expr → Seen → Receiver
receiver c x seen = if is_me x && not c.is_static then on_me c.class else by_found c.project seen.typed seen.found

-- a void call has no attributes (A29)
abbrev pub before_dot : Seen → Seen
before_dot seen = by_value seen seen.typed
  where
    by_value : Seen → Ty → Seen
    by_value seen ty.Void = plain ty.Bad
    by_value seen t = seen

-- ---- attributes

abbrev pub is_new : Text → Bool
is_new name = bytes_eq name (codes "new")

-- what was found among the members, or this type where nothing was
abbrev pub found_or : Items → Project → Ty → Option Found → Option Seen
found_or items p t None = Some (plain t)
found_or items p t (Some x) = see_found items p x

-- a class has no members of its instances (A25)
abbrev pub of_class : Items → Project → Option Found → Option Seen
of_class items p None = Some (plain ty.Bad)
of_class items p (Some x) = if needs_instance p x then Some (named x ty.Bad) else see_found items p x

-- `new` is the constructor, also where a member is called so
abbrev pub class_member : Project → ℕ → Text → Option Found
class_member p class name = if is_new name then None else p.member class name

-- a value of the enum; another name is a key that its dictionary may have
abbrev pub enum_member : Project → MemberId → Text → Option Found
enum_member p id name = option_map (found.EnumValue id) (option_and_then (value_named name) (enum_at p id))

-- A19 of `self`, a class and builtins; a value may be of a class below its own, so that is not known before a run (W1)
abbrev pub see_attribute : Items → Project → Receiver → Text → Option Seen
see_attribute items p (on_me class) name = found_or items p ty.Bad (p.member class name)
see_attribute items p (on_enum id) name = found_or items p ty.Variant (enum_member p id name)
see_attribute items p (on_object class) name = found_or items p ty.Variant (p.member class name)
see_attribute items p (on_class number) name = of_class items p (class_member p number name)
see_attribute items p (on_value t) name = Some (plain (value_attribute p.bases t).ty)
