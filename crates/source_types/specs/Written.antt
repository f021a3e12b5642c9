-- The type that is written at a place.
use Rattle.std.specs.Prelude.{ℕ, ◌-◌, ◌==◌, Bool, true, false, ◌&&◌, nat_lt, List, [], ◌∷◌, Option, None, Some, option_map, slice_get, unwrap_or, if◌then◌else◌}
use Rattle.gd_members.specs.declared.Found.{Found}
use Rattle.gd_members.specs.declared.Found.TheVariants as found
use Rattle.gd_model.specs.declared.ty.Ty.{Ty, ArrayOf', DictOf'}
use Rattle.gd_model.specs.declared.ty.Ty.TheVariants as ty
use Rattle.syntax_trees.specs.Expressions.{Text, TypeName, TypeNames, no_types, type_and, type_name}
use Rattle.source_types.specs.Projects.{EnumValue, Project, class_found, enum_at}

-- ---- what the names stand for

-- the first name is looked up as a bare name, each further one among the members of the class before the dot
abbrev pub member_of : Project → Text → Option ℕ → Found
member_of p name None = found.Missing
member_of p name (Some class) = unwrap_or (p.member class name) found.Missing

abbrev pub along : Project → Found → List Text → Found
along p x [] = x
along p x (name ∷ more) = along p (member_of p name (class_found p x)) more

abbrev pub found_by : Project → ℕ → List Text → Found
found_by p class [] = found.Missing
found_by p class (name ∷ more) = along p (p.find class name) more

-- the builtins with the numbers 20 and 21, and those from 1,100 on
abbrev pub builtin_types : List Ty
builtin_types = ty.Variant ∷ ty.Str ∷ ty.Callable ∷ ty.Signal ∷ ty.Dict ∷ ty.Array ∷ []

abbrev pub builtin_type : ℕ → Option Ty
builtin_type number =
    if number == 20 then Some ty.Int
    else if number == 21 then Some ty.Bool
    else if nat_lt number 1100 then None
    else slice_get builtin_types (number - 1100)

-- a constant that holds a class is that class, and an enum int
abbrev pub of_member : Option ℕ → Option (List EnumValue) → Option Ty
of_member (Some class) values = Some (ty.Class class)
of_member None (Some values) = Some ty.Int
of_member None None = None

abbrev pub type_found : Project → Found → Option Ty
type_found p (found.Class class) = Some (ty.Class class)
type_found p (found.Member id) = of_member (p.held id) (enum_at p id)
type_found p (found.Builtin number) = builtin_type number
type_found p _ = None

-- ---- types in brackets

-- what stands in brackets is not itself typed; nor is it Bad
abbrev pub may_stand : Ty → Bool
may_stand (ArrayOf' p e) = false
may_stand (DictOf' p k q v) = false
may_stand ty.Bad = false
may_stand t = true

abbrev pub may_be_keys : Ty → Bool
may_be_keys ty.Variant = true
may_be_keys ty.Bool = true
may_be_keys ty.Int = true
may_be_keys ty.Str = true
may_be_keys (ty.Class c) = true
may_be_keys t = false

-- Bad where there are brackets behind another type than theirs, and where there is no such type (A07, A08, A45)
abbrev pub in_brackets : Option Ty → List Ty → Ty
in_brackets (Some t) [] = t
in_brackets (Some ty.Array) (e ∷ []) = if may_stand e then ty.ArrayOf e else ty.Bad
in_brackets (Some ty.Dict) (k ∷ v ∷ []) = if may_stand k && may_be_keys k && may_stand v then ty.DictOf k v else ty.Bad
in_brackets head parts = ty.Bad

abbrev pub unless_void : Bool → Ty → Ty
unless_void is_void t = if is_void then ty.Void else t

abbrev mutual
  -- the type that is written in this class
  pub written : Project → ℕ → TypeName → Ty
  written p class (type_name pos names is_void parts) =
      unless_void is_void (in_brackets (type_found p (found_by p class names)) (all_written p class parts))

  pub all_written : Project → ℕ → TypeNames → List Ty
  all_written p class no_types = []
  all_written p class (type_and t ts) = written p class t ∷ all_written p class ts

-- the type of a place, if one is written
abbrev pub written_if : Project → ℕ → Option TypeName → Option Ty
written_if p class typed = option_map (written p class) typed
