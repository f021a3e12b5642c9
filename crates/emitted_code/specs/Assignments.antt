-- The code of assignments: it leaves nothing. The parts of the target come on the stack first, from left to right, then in
-- a compound assignment the old value, then the right side, and in a compound one its operator.
use Rattle.std.specs.Prelude.{ℕ, Bool, true, false, not, ◌&&◌, [], ◌++◌, Option, None, Some, is_some, if◌then◌else◌}
use Rattle.gd_bytecode.specs.declared.opcode.Opcode.TheVariants as op
use Rattle.gd_members.specs.declared.Found.{Found}
use Rattle.gd_members.specs.declared.Found.TheVariants as found
use Rattle.gd_members.specs.declared.MemberId.{MemberId}
use Rattle.gd_syntax.specs.declared.operator.Operator.{Operator}
use Rattle.gd_syntax.specs.declared.pos.Pos.{Pos}
use Rattle.syntax_trees.specs.Declarations.{DeclKind, Property}
use Rattle.syntax_trees.specs.Declarations as d
use Rattle.syntax_trees.specs.Expressions.{Expr, ExprKind, Text, expr}
use Rattle.syntax_trees.specs.Expressions as e
use Rattle.source_semantics.specs.Expressions.{member_at}
use Rattle.source_semantics.specs.Project.{Member}
use Rattle.emitted_code.specs.Expressions.{code, way}
use Rattle.emitted_code.specs.Names.{read_found, read_local}
use Rattle.emitted_code.specs.Scenes.{Local, Scene, is_class, is_direct, local, slot, constant}
use Rattle.emitted_code.specs.Steps.{Code, named, operate, plain, static, step, test}

-- what is assigned: the place of the assignment's mark, the operator of a compound one, and the right side
pub record Right : Type 0 where
  pub at : Pos
  pub operator : Option Operator
  pub value : Expr

abbrev pub operate_by : Pos → Option Operator → Code
operate_by at None = []
operate_by at (Some o) = operate at o

-- the value that is written, in a compound assignment by the old one under it
abbrev pub new_value : Scene → Right → Code
new_value c r = code c r.value ++ operate_by r.at r.operator

-- what a compound assignment alone does
abbrev pub old : Right → Code → Code
old r reads = if is_some r.operator then reads else []

-- ---- a local: the old value, the new one, and Set, which tests it

abbrev pub write_slot : Pos → Local → Code
write_slot at (slot k) = step at (plain op.Set k 0)
write_slot at (constant v) = []

abbrev pub assign_local : Scene → Pos → Right → Local → Code
assign_local c pos r l = old r (read_local pos l) ++ (new_value c r ++ write_slot r.at l)

-- ---- a variable of the class, by its bare name or behind a class

-- the variable's setter is called, outside of its own accessors: the receiver stands under the value then
abbrev pub has_setter : Scene → Text → Property → Bool
has_setter c name v = not v.variable.is_static && (is_some v.setter && not (is_direct c name))

abbrev pub write_variable : Pos → Text → ℕ → Bool → Bool → Code
write_variable at name class is_static by_setter =
    if is_static then step at (static op.SetStatic name class)
    else (if by_setter then step at (named op.SetAttr name) else step at (named op.SetOwn name))

abbrev pub assign_variable : Scene → Pos → Text → Right → ℕ → Property → Code
assign_variable c pos name r class v =
    let by_setter : Bool = has_setter c name v in
    (if by_setter then step r.at (plain op.Me 0 0) else []) ++ (old r (read_found c pos name (c.project.found pos))
    ++ (new_value c r ++ write_variable r.at name class v.variable.is_static by_setter))

abbrev pub assign_kind : Scene → Pos → Text → Right → ℕ → DeclKind → Code
assign_kind c pos name r class (d.variable v) = assign_variable c pos name r class v
assign_kind c pos name r class kind = []

abbrev pub assign_member : Scene → Pos → Text → Right → Option Member → Code
assign_member c pos name r None = []
assign_member c pos name r (Some m) = assign_kind c pos name r m.class m.kind

abbrev pub assign_found : Scene → Pos → Text → Right → Found → Code
assign_found c pos name r (found.Member id) = assign_member c pos name r (member_at c.project id)
assign_found c pos name r other = []

abbrev pub assign_name : Scene → Pos → Text → Right → Option Local → Code
assign_name c pos name r (Some l) = assign_local c pos r l
assign_name c pos name r None = assign_found c pos name r (c.project.found pos)

-- ---- an attribute of a value: a copy of the value gives the old one; what is written is tested where its type is known

abbrev pub assign_attribute : Scene → Pos → Expr → Text → Right → Code
assign_attribute c pos x name r =
    code c x ++ (old r (step pos (plain op.Dup 0 0) ++ step pos (named op.Attr name))
    ++ (new_value c r ++ (test r.at (c.project.typed pos) ++ step pos (named op.SetAttr name))))

-- ---- a subscript: copies of base and index give the old value

abbrev pub assign_subscript : Scene → Pos → Expr → Expr → Right → Code
assign_subscript c pos x i r =
    code c x ++ (code c i
    ++ (old r (step pos (plain op.Dup 1 0) ++ (step pos (plain op.Dup 1 0) ++ step pos (plain op.Index 0 0)))
    ++ (new_value c r ++ (test r.at (c.project.typed pos) ++ step pos (plain op.SetIndex 0 0)))))

-- ---- an assignment, by its target

abbrev pub assign_to : Scene → Pos → ExprKind → Right → Code
assign_to c pos (e.name name) r = assign_name c pos name r (local c name)
assign_to c pos (e.attr x name) r =
    if is_class c x then way c x ++ assign_found c pos name r (c.project.found pos) else assign_attribute c pos x name r
assign_to c pos (e.index x i) r = assign_subscript c pos x i r
assign_to c pos kind r = []

abbrev pub assign : Scene → Expr → Right → Code
assign c (expr pos kind) r = assign_to c pos kind r
