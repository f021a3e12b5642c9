-- What the declarations of a project say of types, and the types that are known so far.
use Rattle.std.specs.Prelude.{ℕ, ◌-◌, ◌==◌, Bool, true, false, not, Option, None, Some, option_and_then, is_some, slice_get, if◌then◌else◌}
use Rattle.std.specs.declared.vec.Vec.{Vec}
use Rattle.gd_members.specs.declared.MemberId.{MemberId}
use Rattle.gd_members.specs.declared.Found.{Found}
use Rattle.gd_members.specs.declared.Found.TheVariants as found
use Rattle.gd_typing.specs.declared.declared.Declared.{Declared}
use Rattle.gd_typing.specs.declared.member.Member.{Member}
use Rattle.gd_typing.specs.declared.member.Member.TheVariants as m
use Rattle.gd_typing.specs.declared.member.Signature.{Signature}
use Rattle.gd_typing.specs.declared.enum_names.EnumNames.{EnumNames}

-- the declaration at a place of a class; RefCounted has none
abbrev pub member_at : Declared → MemberId → Option Member
member_at d id = if id.class == 0 then None else option_and_then (λ members. slice_get members.items id.index) (slice_get d.classes.items (id.class - 1))

abbrev pub as_function : Member → Option Signature
as_function (m.Function f) = Some f
as_function member = None

abbrev pub function_at : Declared → MemberId → Option Signature
function_at d id = option_and_then as_function (member_at d id)

abbrev pub as_enum : Member → Option EnumNames
as_enum (m.Enum names) = Some names
as_enum member = None

abbrev pub enum_at : Declared → MemberId → Option EnumNames
enum_at d id = option_and_then as_enum (member_at d id)

-- the nearest `_init` of a class
abbrev pub constructor_of : Declared → ℕ → Option MemberId
constructor_of d class = if class == 0 then None else option_and_then (λ init. init) (slice_get d.constructors.items (class - 1))

-- a member of instances: a variable or a function that is not static, or a signal
abbrev pub is_of_instances : Option Member → Bool
is_of_instances (Some (m.Variable is_static typing)) = not is_static
is_of_instances (Some (m.Function f)) = not f.is_static
is_of_instances (Some (m.Signal count)) = true
is_of_instances member = false

abbrev pub needs_instance : Declared → Found → Bool
needs_instance d (found.Member id) = is_of_instances (member_at d id)
needs_instance d x = false

abbrev pub is_variable_member : Option Member → Bool
is_variable_member (Some (m.Variable is_static typing)) = true
is_variable_member member = false

abbrev pub is_variable : Declared → Found → Bool
is_variable d (found.Member id) = is_variable_member (member_at d id)
is_variable d x = false
