-- Short words for the trees of small projects, which trials are made on. A place is told by its line and its column.
use Rattle.std.specs.Prelude.{ℕ, pos, nat_eq, Bool, true, false, ◌&&◌, List, [], ◌∷◌, Option, None, Some, codes, if◌then◌else◌}
use Rattle.gd_members.specs.declared.Found.{Found}
use Rattle.gd_members.specs.declared.Found.TheVariants as found
use Rattle.gd_model.specs.Datum.{null}
use Rattle.gd_model.specs.declared.ty.Ty.TheVariants as ty
use Rattle.gd_syntax.specs.declared.operator.Operator.{Operator}
use Rattle.gd_syntax.specs.declared.pos.Pos.{Pos}
use Rattle.syntax_trees.specs.Declarations.{Accessor, Decl, DeclKind, Function, Property, decl}
use Rattle.syntax_trees.specs.Declarations as d
use Rattle.syntax_trees.specs.Expressions.{Expr, ExprKind, Text, expr, exprs}
use Rattle.syntax_trees.specs.Expressions as e
use Rattle.syntax_trees.specs.Statements.{Stmt, StmtKind, Variable, stmt, stmts}
use Rattle.syntax_trees.specs.Statements as s
use Rattle.source_semantics.specs.Project.{Class, Project}

abbrev pub at : ℕ → ℕ → Pos
at y x = record { file = 0; line = y; column = x }

-- the place of what no text asks for
abbrev pub start : Pos
start = at 1 1

-- ---- expressions

abbrev pub number : ℕ → ℕ → ℕ → Expr
number y x n = expr (at y x) (e.int (pos n))

abbrev pub string : ℕ → ℕ → Text → Expr
string y x t = expr (at y x) (e.str t)

abbrev pub word : ℕ → ℕ → Text → Expr
word y x name = expr (at y x) (e.name name)

abbrev pub binary : ℕ → ℕ → Operator → Expr → Expr → Expr
binary y x op a b = expr (at y x) (e.binary op a b)

abbrev pub array : ℕ → ℕ → List Expr → Expr
array y x items = expr (at y x) (e.array_lit (exprs items))

abbrev pub index : ℕ → ℕ → Expr → Expr → Expr
index y x base i = expr (at y x) (e.index base i)

-- `base.name`, with the place of the name
abbrev pub attr : ℕ → ℕ → Expr → Text → Expr
attr y x base name = expr (at y x) (e.attr base name)

-- `name(..)` and `base.name(..)`, with the place of the name
abbrev pub call : ℕ → ℕ → Text → List Expr → Expr
call y x name arguments = expr (at y x) (e.call (word y x name) (exprs arguments))

abbrev pub call_on : ℕ → ℕ → Expr → Text → List Expr → Expr
call_on y x base name arguments = expr (at y x) (e.call (attr y x base name) (exprs arguments))

abbrev pub print : ℕ → ℕ → List Expr → Expr
print y x arguments = call y x (codes "print") arguments

-- ---- statements

abbrev pub statement : ℕ → ℕ → StmtKind → Stmt
statement y x kind = stmt (at y x) (at y x) [] kind

abbrev pub does : ℕ → ℕ → Expr → Stmt
does y x value = statement y x (s.plain value)

-- `target = value` and `target OP= value`: the places of the target's first token and of the mark
abbrev pub sets : ℕ → ℕ → ℕ → Option Operator → Expr → Expr → Stmt
sets y x mark op target value = statement y x (s.assign op (at y mark) target value)

abbrev pub returns : ℕ → ℕ → Expr → Stmt
returns y x value = statement y x (s.return (Some value))

-- ---- variables

-- `name = value`, with the places of the name and of the `=`, and the name alone
abbrev pub variable : ℕ → ℕ → ℕ → Text → Expr → Variable
variable y x equals name value = record {
  name = name;
  pos = at y x;
  is_static = false;
  typed = None;
  inferred = false;
  equals = Some (at y equals);
  value = Some value;
}

abbrev pub named : ℕ → ℕ → Text → Variable
named y x name =
    record { name = name; pos = at y x; is_static = false; typed = None; inferred = false; equals = None; value = None }

-- a block's variable, with the place of `var`
abbrev pub local : ℕ → ℕ → Variable → Stmt
local y x v = statement y x (s.local v)

-- ---- declarations

abbrev pub declares : DeclKind → Decl
declares kind = decl start start [] kind

abbrev pub member : Variable → Decl
member v = declares (d.variable (record { variable = v; setter = None; getter = None }))

abbrev pub with_setter : Variable → Accessor → Decl
with_setter v setter = declares (d.variable (record { variable = v; setter = Some setter; getter = None }))

abbrev pub function_of : Bool → ℕ → ℕ → Text → List Variable → List Stmt → Decl
function_of is_static y x name params body = declares (d.function (record {
  name = name;
  pos = at y x;
  is_static = is_static;
  params = params;
  result = None;
  body = stmts body;
  tokens = 0;
}))

abbrev pub function : ℕ → ℕ → Text → List Variable → List Stmt → Decl
function = function_of false

abbrev pub static_function : ℕ → ℕ → Text → List Variable → List Stmt → Decl
static_function = function_of true

-- ---- projects

abbrev pub same_place : Pos → Pos → Bool
same_place p q = nat_eq p.line q.line && nat_eq p.column q.column

-- what is said of a place, and what of all others
abbrev pub by_place : {A : Type 0} → A → List (Pos × A) → Pos → A
by_place other [] place = other
by_place other (x ∷ xs) place = if same_place x.0 place then x.1 else by_place other xs place

-- the k-th declaration of a class, from 0, at a place
abbrev pub finds : ℕ → ℕ → ℕ → ℕ → Pos × Found
finds y x class k = (at y x, found.Member (record { class = class; index = k }))

abbrev pub finds_print : ℕ → ℕ → Pos × Found
finds_print y x = (at y x, found.Builtin 0)

-- a class of its own, with this name
abbrev pub class_of : Text → List Decl → Class
class_of name members = record { name = name; base = 0; members = members }

-- a project of one file, in which nothing has a type: its classes, and what its names mean
abbrev pub untyped : List Class → List (Pos × Found) → Project
untyped classes names = record {
  classes = classes;
  found = by_place found.Missing names;
  typed = λ place. ty.Variant;
  place_type = λ place. ty.Variant;
  returns = λ place. ty.Variant;
  written = λ place. ty.Variant;
  tests = λ place. [];
  constant = λ place. null;
  things = [];
}

-- a project of one class
abbrev pub script : List Decl → List (Pos × Found) → Project
script members names = untyped (class_of (codes "main.gd") members ∷ []) names

-- a project of one class with the function `test` on the first line alone
abbrev pub test_alone : List Stmt → List (Pos × Found) → Project
test_alone body names = script (function 1 6 (codes "test") [] body ∷ []) names
