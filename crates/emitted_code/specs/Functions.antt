-- The functions of a program before their names have numbers. A frame begins with an empty stack.
use Rattle.std.specs.Prelude.{ℕ, suc, ◌+◌, Bool, true, false, not, ◌==◌, ◌&&◌, List, [], ◌∷◌, ◌++◌, length, map, filter, Option, None, Some, is_none, is_some, count_by, if◌then◌else◌}
use Rattle.std.specs.List.{flat_map, list_any}
use Rattle.gd_bytecode.specs.declared.opcode.Opcode.TheVariants as op
use Rattle.gd_members.specs.declared.MemberId.{MemberId}
use Rattle.gd_model.specs.Datum.{null}
use Rattle.gd_model.specs.declared.ty.Ty.{Ty}
use Rattle.gd_model.specs.declared.ty.Ty.TheVariants as ty
use Rattle.gd_syntax.specs.declared.pos.Pos.{Pos}
use Rattle.syntax_trees.specs.Declarations.{Accessor, DeclKind, Property, body, named}
use Rattle.syntax_trees.specs.Declarations as d
use Rattle.syntax_trees.specs.Expressions.{Expr, Text}
use Rattle.syntax_trees.specs.Statements.{Stmts, Variable}
use Rattle.source_semantics.specs.Meaning.{default_of}
use Rattle.source_semantics.specs.Project.{Class, Member, Project, accessed_by, members_of}
use Rattle.emitted_code.specs.Expressions.{code}
use Rattle.emitted_code.specs.Locals.{locals}
use Rattle.emitted_code.specs.Scenes.{Scene, declare}
use Rattle.emitted_code.specs.Sources.{Source}
use Rattle.emitted_code.specs.Statements.{Around, statements}
use Rattle.emitted_code.specs.Steps.{Code, Key, declared, getter, initial, over, plain, push, setter, static, static_initial, step}
use Rattle.emitted_code.specs.Steps as does

-- a function: which one it is, its name and class, how it is called, the types of its result and of its locals, whose
-- first are its parameters, and its code
pub record Written : Type 0 where
  pub key : Key
  pub name : Text
  pub class : ℕ
  pub is_static : Bool
  pub params : ℕ
  pub required : ℕ
  pub returns : Ty
  pub locals : List Ty
  pub code : Code

-- no local is in force, and no loop is around
abbrev pub scene_of : Project → ℕ → List Text → Scene
scene_of p class direct = record { project = p; class = class; direct = direct; names = []; next = 0 }

abbrev pub no_loop : Around
no_loop = record { own = 0; body = 0; iterations = 0; subjects = 0 }

-- the end of a function gives null
abbrev pub end : Pos → Code
end pos = step pos (push null) ++ step pos (plain op.Return 0 0)

-- ---- declared functions

-- where no argument was given, the parameter has its default value, which Set tests at the `=`
abbrev pub default_by : Scene → Option (Pos × Expr) → Code
default_by c None = []
default_by c (Some q) =
    let value : Code = code c q.1 in
    step q.0 (over op.Default c.next (suc (length value))) ++ (value ++ step q.0 (plain op.Set c.next 0))

-- a default value may name the parameters before it
abbrev pub defaults : Scene → List Variable → Code
defaults c [] = []
defaults c (v ∷ vs) = default_by c (default_of v.equals v.value) ++ defaults (declare v.name c) vs

abbrev pub declare_all : List Variable → Scene → Scene
declare_all [] c = c
declare_all (v ∷ vs) c = declare_all vs (declare v.name c)

-- how many parameters have no default value
abbrev pub required : List Variable → ℕ
required vs = count_by (λ (v : Variable). is_none v.value) vs

abbrev pub function_of : Project → MemberId → d.Function → Written
function_of p id f =
    let c : Scene = scene_of p id.class (accessed_by p id.class f.name) in record {
      key = declared id;
      name = f.name;
      class = id.class;
      is_static = f.is_static;
      params = length f.params;
      required = required f.params;
      returns = p.returns f.pos;
      locals = map (λ (v : Variable). p.place_type v.pos) f.params ++ locals p f.body;
      code = defaults c f.params ++ (statements (declare_all f.params c) no_loop f.body ++ end f.pos);
    }

-- ---- the bodies of accessors, which have the name of their variable, and in which that is the variable itself

abbrev pub setter_of : Project → MemberId → Variable → Option Text → Stmts → Pos → Written
setter_of p id v parameter block at = record {
  key = setter id;
  name = v.name;
  class = id.class;
  is_static = false;
  params = 1;
  required = 1;
  returns = ty.Variant;
  locals = p.place_type v.pos ∷ locals p block;
  code = statements (with_value parameter (scene_of p id.class (v.name ∷ []))) no_loop block ++ end at;
}
  where
    with_value : Option Text → Scene → Scene
    with_value None c = c
    with_value (Some name) c = declare name c

abbrev pub getter_of : Project → MemberId → Variable → Stmts → Pos → Written
getter_of p id v block at = record {
  key = getter id;
  name = v.name;
  class = id.class;
  is_static = false;
  params = 0;
  required = 0;
  returns = p.place_type v.pos;
  locals = locals p block;
  code = statements (scene_of p id.class (v.name ∷ [])) no_loop block ++ end at;
}

abbrev pub of_setter : Project → MemberId → Variable → Option Accessor → List Written
of_setter p id v (Some (body parameter block at tokens)) = setter_of p id v parameter block at ∷ []
of_setter p id v accessor = []

abbrev pub of_getter : Project → MemberId → Variable → Option Accessor → List Written
of_getter p id v (Some (body parameter block at tokens)) = getter_of p id v block at ∷ []
of_getter p id v accessor = []

-- ---- initial values: each is put into its variable without accessors, and tested at its `=`

abbrev pub initial_by : Scene → Variable → Option (Pos × Expr) → Code
initial_by c v None = []
initial_by c v (Some q) =
    code c q.1 ++ step q.0 (if v.is_static then static op.SetStatic v.name c.class else does.named op.SetOwn v.name)

abbrev pub initial_code : Scene → List Variable → Code
initial_code c [] = []
initial_code c (v ∷ vs) = initial_by c v (default_of v.equals v.value) ++ initial_code c vs

abbrev pub variable_of : Member → List Variable
variable_of m = in_kind m.kind
  where
    in_kind : DeclKind → List Variable
    in_kind (d.variable v) = v.variable ∷ []
    in_kind kind = []

-- the static variables of a class or its others, those that have an initial value
abbrev pub valued : Bool → Variable → Bool
valued is_static v = is_some v.value && (if is_static then v.is_static else not v.is_static)

abbrev pub with_values : Project → ℕ → Bool → List Variable
with_values p class is_static = filter (valued is_static) (flat_map variable_of (members_of p class))

-- such a function has the name of its class
abbrev pub values_of : Source → Text → ℕ → Bool → List Variable → List Written
values_of s name class is_static [] = []
values_of s name class is_static vs = record {
  key = if is_static then static_initial class else initial class;
  name = name;
  class = class;
  is_static = is_static;
  params = 0;
  required = 0;
  returns = ty.Variant;
  locals = [];
  code = initial_code (scene_of s.project class []) vs ++ end (s.name_at class);
} ∷ []

-- ---- all functions, in their order: of each class its functions and the bodies of accessors by place, then its initial
-- ---- values, and then its static ones

abbrev pub id_of : Member → MemberId
id_of m = record { class = m.class; index = m.index }

abbrev pub written_kind : Project → MemberId → DeclKind → List Written
written_kind p id (d.function f) = function_of p id f ∷ []
written_kind p id (d.variable v) = of_setter p id v.variable v.setter ++ of_getter p id v.variable v.getter
written_kind p id kind = []

abbrev pub written_member : Project → Member → List Written
written_member p m = written_kind p (id_of m) m.kind

abbrev pub written_class : Source → ℕ → Class → List Written
written_class s number class =
    flat_map (written_member s.project) (members_of s.project number)
    ++ (values_of s class.name number false (with_values s.project number false)
    ++ values_of s class.name number true (with_values s.project number true))

abbrev pub written_from : Source → ℕ → List Class → List Written
written_from s number [] = []
written_from s number (c ∷ cs) = written_class s number c ++ written_from s (suc number) cs

abbrev pub written : Source → List Written
written s = written_from s 1 s.project.classes
