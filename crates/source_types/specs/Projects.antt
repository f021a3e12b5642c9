-- What the types of a project rest on: the trees of its classes, and what their names stand for.
use Rattle.std.specs.Prelude.{ℕ, ◌-◌, ◌==◌, Bool, true, false, not, List, [], ◌∷◌, ◌++◌, map, Option, None, Some}
use Rattle.std.specs.Prelude.{option_and_then, option_map, slice_get, unwrap_or, bytes_eq, if◌then◌else◌}
use Rattle.std.specs.List.{position}
use Rattle.gd_members.specs.declared.Found.{Found}
use Rattle.gd_members.specs.declared.Found.TheVariants as found
use Rattle.gd_members.specs.declared.MemberId.{MemberId}
use Rattle.gd_names.specs.Bases.{Names, class_at_path, class_order, constant_class, line_of, order_number, ordered}
use Rattle.gd_names.specs.Bases as names_of
use Rattle.gd_syntax.specs.declared.pos.Pos.{Pos}
use Rattle.syntax_trees.specs.Declarations.{Decl, DeclKind, kind_of}
use Rattle.syntax_trees.specs.Declarations as d
use Rattle.syntax_trees.specs.Expressions.{Expr, Text}

-- Class k, from 1, is the k-th of the class order, and 0 is RefCounted (docs/language.md, "Names and bases").
pub record Project : Type 0 where
  -- the declarations of each class
  pub classes : List (List Decl)
  -- what a bare name in a class is, where no local has it: inner to outer classes, each with its bases, then class names,
  -- then builtins
  pub find : ℕ → Text → Found
  -- what the class or the nearest of its bases declares by a name
  pub member : ℕ → Text → Option Found
  -- the base of a class, which RefCounted has not
  pub base : ℕ → Option ℕ
  -- the class, its base, that one's base and so on, down to RefCounted
  pub bases : ℕ → List ℕ
  -- the class of the file that a path in a class names
  pub preloaded : ℕ → Text → Option ℕ
  -- the class that a constant holds
  pub held : MemberId → Option ℕ

-- ---- by the names of a project

-- the number that gd_names gives a class, by its number in the class order
abbrev pub listed : Names → ℕ → ℕ
listed names class = if class == 0 then 0 else unwrap_or (slice_get (class_order names) (class - 1)) 0

abbrev pub base_in : Names → ℕ → Option ℕ
base_in names class = if class == 0 then None else Some (order_number names (names_of.base_of names (listed names class)))

-- the trees stand in the order of gd_names
abbrev pub project_by : Names → List (List Decl) → Project
project_by names trees = record {
  classes = map (λ number. unwrap_or (slice_get trees (number - 1)) []) (class_order names);
  find = λ class name. ordered names (names_of.find names (listed names class) name);
  member = λ class name. option_map (λ x. ordered names x.0.found) (names_of.member names (listed names class) name);
  base = base_in names;
  bases = λ class. map (order_number names) (line_of names (listed names class)) ++ 0 ∷ [];
  preloaded = λ class path. option_map (order_number names) (class_at_path names (listed names class) path);
  held = λ id. option_map (order_number names) (constant_class names (listed names id.class) id.index);
}

-- ---- declarations

-- the declaration at a place of a class; RefCounted has none
abbrev pub declared : Project → MemberId → Option DeclKind
declared p id =
    if id.class == 0 then None
    else option_map kind_of (option_and_then (λ xs. slice_get xs id.index) (slice_get p.classes (id.class - 1)))

abbrev pub as_function : Option DeclKind → Option d.Function
as_function (Some (d.function f)) = Some f
as_function _ = None

-- the declaration, where it is a function
abbrev pub function_at : Project → MemberId → Option d.Function
function_at p id = as_function (declared p id)

abbrev pub as_found_function : Project → MemberId → Option d.Function → Option (MemberId × d.Function)
as_found_function p id (Some f) = Some (id, f)
as_found_function p id None = None

-- what was found, where it is a function
abbrev pub found_function : Project → Option Found → Option (MemberId × d.Function)
found_function p (Some (found.Member id)) = as_found_function p id (function_at p id)
found_function p _ = None

-- the class that what was found stands for
abbrev pub class_found : Project → Found → Option ℕ
class_found p (found.Class class) = Some class
class_found p (found.Member id) = p.held id
class_found p _ = None

-- a member of instances: a variable or a function that is not static, or a signal
abbrev pub is_of_instances : Option DeclKind → Bool
is_of_instances (Some (d.variable v)) = not v.variable.is_static
is_of_instances (Some (d.function f)) = not f.is_static
is_of_instances (Some (d.signal name pos params)) = true
is_of_instances _ = false

abbrev pub needs_instance : Project → Found → Bool
needs_instance p (found.Member id) = is_of_instances (declared p id)
needs_instance p _ = false

-- ---- enums

abbrev pub EnumValue : Type 0
EnumValue = Text × Pos × Option Expr

-- the values of an enum
abbrev pub values_in : Option DeclKind → Option (List EnumValue)
values_in (Some (d.enum name values)) = Some values
values_in _ = None

abbrev pub enum_at : Project → MemberId → Option (List EnumValue)
enum_at p id = values_in (declared p id)

-- the place of the first value with this name, from 0
abbrev pub value_named : Text → List EnumValue → Option ℕ
value_named name values = position (λ v. bytes_eq v.0 name) values
