-- The code of calls. Receiver and arguments come on the stack from left to right; the call takes them all, and leaves its
-- result.
use Rattle.std.specs.Prelude.{ℕ, Bool, true, false, not, ◌&&◌, ◌++◌, [], Option, None, Some, codes, bytes_eq, unwrap_or, if◌then◌else◌}
use Rattle.gd_bytecode.specs.declared.opcode.Opcode.TheVariants as op
use Rattle.gd_members.specs.declared.Found.{Found}
use Rattle.gd_members.specs.declared.Found.TheVariants as found
use Rattle.gd_members.specs.declared.MemberId.{MemberId}
use Rattle.gd_model.specs.Datum.{null}
use Rattle.gd_model.specs.declared.ty.Ty.{Ty}
use Rattle.gd_model.specs.declared.ty.Ty.TheVariants as ty
use Rattle.gd_syntax.specs.declared.pos.Pos.{Pos}
use Rattle.syntax_trees.specs.Declarations.{DeclKind}
use Rattle.syntax_trees.specs.Declarations as d
use Rattle.syntax_trees.specs.Expressions.{Expr, ExprKind, Text, expr}
use Rattle.syntax_trees.specs.Expressions as e
use Rattle.source_semantics.specs.Expressions.{class_meant, member_at}
use Rattle.source_semantics.specs.Project.{Member}
use Rattle.emitted_code.specs.Foreseen.{guarded, test_each}
use Rattle.emitted_code.specs.Scenes.{Scene, found, type_of}
use Rattle.emitted_code.specs.Steps.{Code, call, declared, direct, plain, push, step}

-- what is called once its operands stand on the stack
pub data Called : Type 0 where
  -- a method of the value before the dot, and one of the receiver of the code
  method : Text → Called
  own : Text → Called
  -- a function that is known, a builtin one by its number, and the constructor of a class
  function : MemberId → Called
  builtin : ℕ → Called
  new : ℕ → Called
  -- nothing; no project without errors has such a call
  nothing : Called

-- ---- what a call calls

abbrev pub called_kind : Text → MemberId → DeclKind → Called
called_kind name id (d.function f) = if f.is_static then function id else own name
called_kind name id kind = nothing

abbrev pub called_member : Text → MemberId → Option Member → Called
called_member name id None = nothing
called_member name id (Some m) = called_kind name id m.kind

-- a bare name: a static function is known, another one is called through the receiver
abbrev pub called_bare : Scene → Text → Found → Called
called_bare c name (found.Member id) = called_member name id (member_at c.project id)
called_bare c name (found.Builtin number) = builtin number
called_bare c name other = nothing

-- a function that is found behind a class, or as that of the base
abbrev pub called_known : Found → Called
called_known (found.Member id) = function id
called_known other = nothing

abbrev pub called_behind : Scene → Pos → Text → Option ℕ → Called
called_behind c pos name None = method name
called_behind c pos name (Some class) = if bytes_eq name (codes "new") then new class else called_known (found c pos)

abbrev pub called_by : Scene → Pos → ExprKind → Called
called_by c pos (e.name name) = called_bare c name (found c pos)
called_by c pos (e.attr base name) = called_behind c pos name (class_meant c.project base)
called_by c pos kind = nothing

-- ---- a receiver that may be null of which it is known what is called

abbrev pub is_me : Expr → Bool
is_me (expr pos e.me) = true
is_me (expr pos kind) = false

abbrev pub may_hold_null : Ty → Bool
may_hold_null (ty.Class c) = true
may_hold_null ty.Callable = true
may_hold_null ty.Signal = true
may_hold_null t = false

abbrev pub null_receiver : Scene → Called → ExprKind → Bool
null_receiver c (method name) (e.attr base attribute) = not (is_me base) && may_hold_null (type_of c base)
null_receiver c what kind = false

-- ---- the code

-- the receiver of a call by a bare name comes first
abbrev pub own_receiver : Pos → Called → Code
own_receiver pos (own name) = step pos (plain op.Me 0 0)
own_receiver pos other = []

-- the call itself, of so many arguments
abbrev pub calls : Pos → ℕ → Called → Code
calls pos count (method name) = step pos (call count name)
calls pos count (own name) = step pos (call count name)
calls pos count (function id) = step pos (direct count (declared id))
calls pos count (builtin number) = step pos (plain op.Builtin count number)
calls pos count (new class) = step pos (plain op.New count class)
calls pos count nothing = step pos (push null)

-- The arguments with the tests that were foreseen, and the call; of nothing the arguments are not evaluated.
abbrev pub with_arguments : Scene → Pos → Called → Bool → ℕ → Code → Code
with_arguments c pos nothing may_be_null count arguments = calls pos count nothing
with_arguments c pos what may_be_null count arguments =
    arguments ++ (guarded pos count may_be_null (test_each (c.project.tests pos)) ++ calls pos count what)

-- A call: `before` is the code of what stands before the dot, which leaves the receiver, or for a class nothing.
abbrev pub end_call : Scene → Pos → ExprKind → Code → ℕ → Code → Code
end_call c pos callee before count arguments =
    let what : Called = called_by c pos callee in
    own_receiver pos what ++ (before ++ with_arguments c pos what (null_receiver c what callee) count arguments)

-- `super(..)` and `super.f(..)` call the base's function on the receiver
abbrev pub end_super : Scene → Pos → ℕ → Code → Code
end_super c pos count arguments = with_arguments c pos (called_known (found c pos)) false count arguments
