-- The code that reads attributes, and the way to a class: what an expression that stands for a class goes through.
use Rattle.std.specs.Prelude.{Bool, true, false, ◌&&◌, ◌||◌, [], ◌++◌, Option, None, Some, if◌then◌else◌}
use Rattle.gd_bytecode.specs.declared.opcode.Opcode.TheVariants as op
use Rattle.gd_members.specs.declared.Found.{Found}
use Rattle.gd_members.specs.declared.Found.TheVariants as found
use Rattle.gd_model.specs.Datum.{Datum}
use Rattle.gd_syntax.specs.declared.pos.Pos.{Pos}
use Rattle.syntax_trees.specs.Declarations.{DeclKind}
use Rattle.syntax_trees.specs.Declarations as d
use Rattle.syntax_trees.specs.Expressions.{Expr, ExprKind, Text, expr, place}
use Rattle.syntax_trees.specs.Expressions as e
use Rattle.source_semantics.specs.Expressions.{enum_value_at, member_at}
use Rattle.source_semantics.specs.Project.{Member, Project}
use Rattle.emitted_code.specs.Names.{read_found}
use Rattle.emitted_code.specs.Scenes.{Scene, is_class}
use Rattle.emitted_code.specs.Steps.{Code, named, over, plain, push, step}

-- ---- what is known before the run

-- the constant, the enum or the enum value that is found behind a value
abbrev pub known_kind : Project → DeclKind → Option Datum
known_kind p (d.constant v) = Some (p.constant v.pos)
known_kind p (d.enum (Some name) values) = Some (p.constant name.1)
known_kind p kind = None

abbrev pub known_member : Project → Option Member → Option Datum
known_member p None = None
known_member p (Some m) = known_kind p m.kind

abbrev pub known : Project → Found → Option Datum
known p (found.Member id) = known_member p (member_at p id)
known p (found.EnumValue id i) = Some (enum_value_at p (member_at p id) i)
known p other = None

abbrev pub is_enum_kind : DeclKind → Bool
is_enum_kind (d.enum name values) = true
is_enum_kind kind = false

abbrev pub is_enum_member : Option Member → Bool
is_enum_member None = false
is_enum_member (Some m) = is_enum_kind m.kind

abbrev pub is_enum : Project → Found → Bool
is_enum p (found.Member id) = is_enum_member (member_at p id)
is_enum p other = false

-- a name or an attribute stands for a class or an enum
abbrev pub is_fixed : Scene → Expr → Bool
is_fixed c x = is_class c x || is_enum c.project (c.project.found (place x))

-- Whether the evaluation of an expression does nothing and never gives null: `self`, a class, an enum, each reached so.
abbrev mutual
  pub is_idle : Scene → Expr → Bool
  is_idle c (expr pos kind) = is_idle_kind c (expr pos kind) kind

  pub is_idle_kind : Scene → Expr → ExprKind → Bool
  is_idle_kind c x e.me = true
  is_idle_kind c x (e.preload path) = true
  is_idle_kind c x (e.name name) = is_fixed c x
  is_idle_kind c x (e.attr base name) = is_fixed c x && is_idle c base
  is_idle_kind c x kind = false

-- ---- their code

-- A value through which a constant or a class is named: null is a fault. A copy of it is asked for its truth; where that
-- is false, Attr faults for null, and gives the attribute else, which goes with the value: nothing is left.
abbrev pub pass_value : Scene → Pos → Expr → Text → Code → Code
pass_value c pos x name code =
    if is_idle c x then []
    else code ++ (step pos (plain op.Dup 0 0) ++ (step pos (over op.JumpIf 0 1) ++ (step pos (named op.Attr name)
    ++ step pos (plain op.Drop 1 0))))

-- the way to a class that is named behind an expression, whose own code and way these are: it leaves nothing
abbrev pub reach_through : Scene → Pos → Expr → Text → Code → Code → Code
reach_through c pos x name code way = if is_class c x then way else pass_value c pos x name code

-- an attribute of a value, which is on the top, or a constant that is known there
abbrev pub of_value : Scene → Pos → Expr → Text → Code → Option Datum → Code
of_value c pos x name code (Some v) = pass_value c pos x name code ++ step pos (push v)
of_value c pos x name code None = code ++ step pos (named op.Attr name)

-- an attribute: of a class it is read as a bare name, once the class is reached
abbrev pub attribute : Scene → Pos → Expr → Text → Code → Code → Code
attribute c pos x name code way =
    if is_class c x then way ++ read_found c pos name (c.project.found pos)
    else of_value c pos x name code (known c.project (c.project.found pos))
