-- The types of items: of variables declared by `:=`, of constants, of enum values, and of enums as a whole.
--
-- One step gives the type of an item by those of the items that its value names, and is taken again and again. An item that
-- no step comes to needs itself, or one that does: it is Bad (A11).
use Rattle.std.specs.Prelude.{ℕ, zero, suc, ◌+◌, Bool, true, not, List, [], length, Option, None, Some, is_some, slice_get, sum_by, unwrap_or, if◌then◌else◌}
use Rattle.gd_members.specs.declared.Item.{Item}
use Rattle.gd_members.specs.declared.MemberId.{MemberId}
use Rattle.gd_model.specs.declared.ty.Ty.{Ty}
use Rattle.gd_model.specs.declared.ty.Ty.TheVariants as ty
use Rattle.gd_typing.specs.Operators.{is_bad}
use Rattle.syntax_trees.specs.Declarations.{Decl, DeclKind, kind_of}
use Rattle.syntax_trees.specs.Declarations as d
use Rattle.syntax_trees.specs.Expressions.{Expr}
use Rattle.source_types.specs.Constancy.{is_fixed}
use Rattle.source_types.specs.Judging.{judge, value_of}
use Rattle.source_types.specs.Knowing.{known_then}
use Rattle.source_types.specs.Names.{before_dot}
use Rattle.source_types.specs.Projects.{EnumValue, Project, declared}
use Rattle.source_types.specs.Scopes.{Items, Made, Scope}
use Rattle.source_types.specs.Written.{written_if}

-- the body of a class, outside of functions
abbrev pub in_class : Project → Made → ℕ → Bool → Scope
in_class p made class is_static = record {
  project = p;
  made = made;
  class = class;
  is_static = is_static;
  function = None;
  locals = [];
  parameters = λ id index. None;
}

-- ---- constants

-- a value that is not constant, or whose making goes wrong, makes its constant Bad
abbrev pub if_made : Ty → Bool → Bool → Ty
if_made t is_constant goes_wrong = if is_constant then (if goes_wrong then ty.Bad else t) else ty.Bad

-- a constant without a written type may hold a class
abbrev pub constant_of : Option Bool → Bool → Ty → Option Ty
constant_of is_constant goes_wrong (ty.Meta class) = Some (ty.Meta class)
constant_of is_constant goes_wrong t = known_then is_constant (λ b. Some (if_made t b goes_wrong))

abbrev pub inferred_constant : Items → Scope → Bool → Expr → Option Ty
inferred_constant items c goes_wrong x =
    known_then (judge items c None x) (λ seen. constant_of (is_fixed items c x) goes_wrong (before_dot seen).typed)

-- a written type is the constant's own, once its value is known
abbrev pub constant_by : Items → Scope → Bool → Expr → Option Ty → Option Ty
constant_by items c goes_wrong x (Some t) = known_then (value_of (judge items c (Some t) x)) (λ _. Some t)
constant_by items c goes_wrong x None = inferred_constant items c goes_wrong x

abbrev pub constant_type : Items → Scope → Bool → Option Ty → Option Expr → Option Ty
constant_type items c goes_wrong typed None = Some ty.Bad
constant_type items c goes_wrong typed (Some x) = constant_by items c goes_wrong x typed

-- ---- variables

abbrev pub variable_type : Items → Scope → Option Expr → Option Ty
variable_type items c None = Some ty.Bad
variable_type items c (Some x) = value_of (judge items c None x)

-- ---- enums

-- the value that is written, which is constant and an int
abbrev pub int_if : Option Bool → Bool → Ty → Option Ty
int_if is_constant goes_wrong t =
    known_then is_constant (λ b. Some (if is_bad t then ty.Bad else if_made ty.Int b goes_wrong))

-- else one more than the value before it, and the first is 0
abbrev pub next_value : Items → MemberId → ℕ → Option Ty
next_value items id zero = Some ty.Int
next_value items id (suc before) = items (record { member = id; value = suc before })

abbrev pub written_value : Items → Scope → MemberId → ℕ → Bool → Option Expr → Option Ty
written_value items c id place goes_wrong None = next_value items id place
written_value items c id place goes_wrong (Some x) =
    known_then (value_of (judge items c None x)) (λ t. int_if (is_fixed items c x) goes_wrong t)

abbrev pub value_type : Items → Scope → MemberId → ℕ → Bool → Option EnumValue → Option Ty
value_type items c id place goes_wrong None = Some ty.Bad
value_type items c id place goes_wrong (Some v) = written_value items c id place goes_wrong v.2

-- an enum as a whole is a Dictionary, and Bad where one of its values is; so many values are looked at
abbrev pub whole_type : Items → MemberId → ℕ → Option Ty
whole_type items id zero = Some ty.Dict
whole_type items id (suc count) =
    known_then (items (record { member = id; value = suc count })) (λ t.
    known_then (whole_type items id count) (λ rest. Some (if is_bad t then ty.Bad else rest)))

abbrev pub enum_type : Items → Scope → MemberId → Bool → List EnumValue → ℕ → Option Ty
enum_type items c id goes_wrong values zero = whole_type items id (length values)
enum_type items c id goes_wrong values (suc place) = value_type items c id place goes_wrong (slice_get values place)

-- ---- one step

abbrev pub type_by_kind : Items → Project → Made → Item → Option DeclKind → Option Ty
type_by_kind items p made item (Some (d.variable v)) =
    variable_type items (in_class p made item.member.class v.variable.is_static) v.variable.value
type_by_kind items p made item (Some (d.constant v)) =
    constant_type items (in_class p made item.member.class true) (made.goes_wrong item)
    (written_if p item.member.class v.typed) v.value
type_by_kind items p made item (Some (d.enum name values)) =
    enum_type items (in_class p made item.member.class true) item.member (made.goes_wrong item) values item.value
type_by_kind items p made item _ = Some ty.Bad

-- the type of an item, given those of the items that it names
abbrev pub step : Project → Made → Items → Items
step p made items item = type_by_kind items p made item (declared p item.member)

-- ---- all of them

-- what is known behind so many steps
abbrev pub known_at : Project → Made → ℕ → Items
known_at p made zero item = None
known_at p made (suc depth) item = step p made (known_at p made depth) item

abbrev pub items_in : DeclKind → ℕ
items_in (d.variable v) = if v.variable.inferred then 1 else 0
items_in (d.constant v) = 1
items_in (d.enum name values) = length values + 1
items_in _ = 0

abbrev pub item_count : Project → ℕ
item_count p = sum_by (λ xs. sum_by (λ x. items_in (kind_of x)) xs) p.classes

-- no way along needs is longer than there are items
abbrev pub known : Project → Made → Items
known p made = known_at p made (item_count p)

-- A11
abbrev pub is_cyclic : Project → Made → Item → Bool
is_cyclic p made item = not (is_some (known p made item))

-- once all are settled
abbrev pub settled : Project → Made → Items
settled p made item = Some (unwrap_or (known p made item) ty.Bad)
