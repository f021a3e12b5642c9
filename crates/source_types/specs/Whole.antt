-- All expressions of a project, each where it stands, once the items are settled.
use Rattle.std.specs.Prelude.{ℕ, ◌+◌, ◌-◌, Bool, true, false, List, [], ◌∷◌, ◌++◌, length, Option, None, Some, option_map, slice_get, unwrap_or}
use Rattle.gd_members.specs.declared.MemberId.{MemberId}
use Rattle.gd_model.specs.declared.ty.Ty.{Ty}
use Rattle.gd_model.specs.declared.ty.Ty.TheVariants as ty
use Rattle.syntax_trees.specs.Declarations.{Accessor, Decl, DeclKind, Function, Property, body, kind_of, named}
use Rattle.syntax_trees.specs.Declarations as d
use Rattle.syntax_trees.specs.Statements.{Variable}
use Rattle.source_types.specs.Bodies.{declare, in_block, local_of, with_local, written_at}
use Rattle.source_types.specs.Items.{in_class, settled}
use Rattle.source_types.specs.Names.{of_variable, type_from}
use Rattle.source_types.specs.Parts.{Standing, all_if, seen_at}
use Rattle.source_types.specs.Projects.{EnumValue, Project, function_at}
use Rattle.source_types.specs.Scopes.{Items, Local, Made, Scope, Seen}

-- ---- parameters: each is in force behind its default value

abbrev pub behind_params : Items → Scope → List Variable → Scope
behind_params items c [] = c
behind_params items c (v ∷ vs) = behind_params items (declare items c v) vs

abbrev pub in_params : Items → Scope → List Variable → List Standing
in_params items c [] = []
in_params items c (v ∷ vs) = all_if items c (written_at c v.typed) v.value ++ in_params items (declare items c v) vs

abbrev pub in_function : Scope → Function → Scope
in_function c f = record c { is_static = f.is_static; function = Some f.name }

-- The type of a parameter, by its place: that of the local that it is. No type of a default value asks for those of
-- other parameters declared by `:=`, since it depends on no place inside it.
abbrev pub parameter_in : Items → Scope → List Variable → ℕ → Option Ty
parameter_in items c params index =
    option_map (λ (l : Local). l.typed) (slice_get (behind_params items c params).locals (length params - (index + 1)))

abbrev pub parameter_of : Project → Made → MemberId → ℕ → Option Function → Option Ty
parameter_of p made id index None = None
parameter_of p made id index (Some f) =
    parameter_in (settled p made) (in_function (in_class p made id.class f.is_static) f) f.params index

abbrev pub parameter_type : Project → Made → MemberId → ℕ → Option Ty
parameter_type p made id index = parameter_of p made id index (function_at p id)

-- the body of a class, with the types of parameters
abbrev pub body_of : Project → Made → ℕ → Bool → Scope
body_of p made class is_static = record (in_class p made class is_static) { parameters = parameter_type p made }

-- ---- members

-- a setter has a parameter of the variable's type, and a getter returns it
abbrev pub in_accessor : Items → Scope → Ty → Option Accessor → List Standing
in_accessor items c t None = []
in_accessor items c t (Some (named name pos)) = []
in_accessor items c t (Some (body (Some parameter) block pos tokens)) =
    in_block items (with_local c (local_of parameter pos t)) None block
in_accessor items c t (Some (body None block pos tokens)) = in_block items c (Some t) block

abbrev pub variable_type : Items → Project → MemberId → Variable → Ty
variable_type items p id v = unwrap_or (type_from items (of_variable p id v)) ty.Bad

abbrev pub in_variable : Items → Scope → MemberId → Property → List Standing
in_variable items c id v =
    let t = variable_type items c.project id v.variable in
    all_if items c (written_at c v.variable.typed) v.variable.value ++ in_accessor items c t v.setter
    ++ in_accessor items c t v.getter

abbrev pub in_values : Items → Scope → List EnumValue → List Standing
in_values items c [] = []
in_values items c (v ∷ vs) = all_if items c None v.2 ++ in_values items c vs

abbrev pub in_body : Items → Scope → Function → List Standing
in_body items c f =
    in_params items c f.params
    ++ in_block items (behind_params items c f.params) (written_at c f.result) f.body

abbrev pub in_member : Project → Made → MemberId → DeclKind → List Standing
in_member p made id (d.variable v) =
    in_variable (settled p made) (body_of p made id.class v.variable.is_static) id v
in_member p made id (d.constant v) =
    let c = body_of p made id.class true in all_if (settled p made) c (written_at c v.typed) v.value
in_member p made id (d.function f) = in_body (settled p made) (in_function (body_of p made id.class f.is_static) f) f
in_member p made id (d.signal name pos params) = in_params (settled p made) (body_of p made id.class false) params
in_member p made id (d.enum name values) = in_values (settled p made) (body_of p made id.class true) values
in_member p made id _ = []

-- ---- the project

abbrev pub in_members : Project → Made → MemberId → List Decl → List Standing
in_members p made id [] = []
in_members p made id (x ∷ xs) = in_member p made id (kind_of x)
    ++ in_members p made (record { class = id.class; index = id.index + 1 }) xs

abbrev pub in_classes : Project → Made → ℕ → List (List Decl) → List Standing
in_classes p made class [] = []
in_classes p made class (c ∷ cs) = in_members p made (record { class = class; index = 0 }) c
    ++ in_classes p made (class + 1) cs

-- every expression of the project where it stands, class by class
abbrev pub expressions : Project → Made → List Standing
expressions p made = in_classes p made 1 p.classes

-- what each is seen to be; nothing is unknown any more
abbrev pub seen_in : Project → Made → Standing → Option Seen
seen_in p made s = seen_at (settled p made) s
