-- The code that reads names: it leaves the value on the stack.
use Rattle.std.specs.Prelude.{ℕ, Bool, ◌||◌, ◌++◌, Option, None, Some, is_none, if◌then◌else◌}
use Rattle.gd_bytecode.specs.declared.opcode.Opcode.TheVariants as op
use Rattle.gd_members.specs.declared.Found.{Found}
use Rattle.gd_members.specs.declared.Found.TheVariants as found
use Rattle.gd_members.specs.declared.MemberId.{MemberId}
use Rattle.gd_model.specs.Datum.{null}
use Rattle.gd_syntax.specs.declared.pos.Pos.{Pos}
use Rattle.syntax_trees.specs.Declarations.{DeclKind, Function, Property}
use Rattle.syntax_trees.specs.Declarations as d
use Rattle.syntax_trees.specs.Expressions.{Text}
use Rattle.source_semantics.specs.Expressions.{builtin_constant, enum_value_at, member_at}
use Rattle.source_semantics.specs.Project.{Member}
use Rattle.emitted_code.specs.Scenes.{Local, Scene, constant, is_direct, local, slot}
use Rattle.emitted_code.specs.Steps.{Code, declared, func, named, plain, push, static, step}

-- an attribute of the receiver: its receiver is taken by Attr
abbrev pub own_attribute : Pos → Text → Code
own_attribute pos name = step pos (plain op.Me 0 0) ++ step pos (named op.Attr name)

-- a variable by its bare name: in its own accessors, or without a getter, it is the variable itself
abbrev pub read_variable : Scene → Pos → Text → ℕ → Property → Code
read_variable c pos name class v =
    if v.variable.is_static then step pos (static op.Static name class)
    else (if is_none v.getter || is_direct c name then step pos (named op.Own name) else own_attribute pos name)

-- a static function is a Callable of its class, another one is an attribute of the receiver
abbrev pub read_function : Pos → Text → MemberId → Function → Code
read_function pos name id f = if f.is_static then step pos (func (declared id)) else own_attribute pos name

abbrev pub read_member : Scene → Pos → Text → MemberId → DeclKind → Code
read_member c pos name id (d.variable v) = read_variable c pos name id.class v
read_member c pos name id (d.function f) = read_function pos name id f
read_member c pos name id (d.signal own at params) = own_attribute pos name
read_member c pos name id (d.constant v) = step pos (push (c.project.constant v.pos))
read_member c pos name id (d.enum (Some own) values) = step pos (push (c.project.constant own.1))
read_member c pos name id kind = step pos (push null)

abbrev pub read_declared : Scene → Pos → Text → MemberId → Option Member → Code
read_declared c pos name id None = step pos (push null)
read_declared c pos name id (Some m) = read_member c pos name id m.kind

-- a bare name that is no local, or a name behind a class; a class is no value, and null stands for it
abbrev pub read_found : Scene → Pos → Text → Found → Code
read_found c pos name (found.Member id) = read_declared c pos name id (member_at c.project id)
read_found c pos name (found.EnumValue id i) = step pos (push (enum_value_at c.project (member_at c.project id) i))
read_found c pos name (found.Builtin number) = step pos (push (builtin_constant number))
read_found c pos name other = step pos (push null)

abbrev pub read_local : Pos → Local → Code
read_local pos (slot k) = step pos (plain op.Get k 0)
read_local pos (constant v) = step pos (push v)

-- a local is in force before what else has its name
abbrev pub read_by : Scene → Pos → Text → Option Local → Code
read_by c pos name (Some l) = read_local pos l
read_by c pos name None = read_found c pos name (c.project.found pos)

abbrev pub read_name : Scene → Pos → Text → Code
read_name c pos name = read_by c pos name (local c name)
