-- Short words for the trees of small projects, which trials are made on.
use Rattle.std.specs.Prelude.{ℕ, pos, Bool, true, false, List, [], ◌∷◌, Option, None, Some}
use Rattle.gd_members.specs.declared.Item.{Item}
use Rattle.gd_syntax.specs.declared.operator.Operator.{Operator}
use Rattle.gd_syntax.specs.declared.pos.Pos.{Pos}
use Rattle.gd_syntax.specs.declared.tree.decl.BaseName.{BaseName}
use Rattle.syntax_trees.specs.Declarations.{ClassDecl, Decl, DeclKind, class_decl, decl, decls}
use Rattle.syntax_trees.specs.Declarations as d
use Rattle.syntax_trees.specs.Expressions.{Expr, Text, TypeName, expr, exprs, no_types, type_name}
use Rattle.syntax_trees.specs.Expressions as e
use Rattle.syntax_trees.specs.Statements.{Variable, no_stmts}
use Rattle.source_types.specs.Projects.{EnumValue, Project}
use Rattle.source_types.specs.Scopes.{Local, Made, Scope}

-- the place of all, since no type asks for places
abbrev pub here : Pos
here = record { file = 0; line = 1; column = 1 }

-- ---- expressions

abbrev pub number : ℕ → Expr
number n = expr here (e.int (pos n))

abbrev pub word : Text → Expr
word name = expr here (e.name name)

abbrev pub attr : Expr → Text → Expr
attr x name = expr here (e.attr x name)

abbrev pub binary : Operator → Expr → Expr → Expr
binary op x y = expr here (e.binary op x y)

abbrev pub call : Expr → List Expr → Expr
call f xs = expr here (e.call f (exprs xs))

abbrev pub type : Text → TypeName
type name = type_name here (name ∷ []) false no_types

-- ---- declarations

abbrev pub declares : DeclKind → Decl
declares kind = decl here here [] kind

-- `name := value`, and `name: type = value`
abbrev pub infers : Text → Expr → Variable
infers name value = record {
  name = name;
  pos = here;
  is_static = false;
  typed = None;
  inferred = true;
  equals = Some here;
  value = Some value;
}

abbrev pub writes : Text → TypeName → Expr → Variable
writes name typed value = record {
  name = name;
  pos = here;
  is_static = false;
  typed = Some typed;
  inferred = false;
  equals = Some here;
  value = Some value;
}

abbrev pub variable : Variable → Decl
variable v = declares (d.variable (record { variable = v; setter = None; getter = None }))

abbrev pub constant : Variable → Decl
constant v = declares (d.constant v)

abbrev pub function : Bool → Text → List Variable → Option TypeName → Decl
function is_static name params result = declares (d.function (record {
  name = name;
  pos = here;
  is_static = is_static;
  params = params;
  result = result;
  body = no_stmts;
  tokens = 0;
}))

-- a value of an enum, with and without `=`
abbrev pub value : Text → EnumValue
value name = (name, here, None)

abbrev pub value_is : Text → Expr → EnumValue
value_is name x = (name, here, Some x)

abbrev pub enum : Option Text → List EnumValue → Decl
enum None values = declares (d.enum None values)
enum (Some name) values = declares (d.enum (Some (name, here)) values)

abbrev pub class : Option Text → Option Text → List Decl → ClassDecl
class name base members = class_decl name here (base_named base) (decls members) 0
  where
    base_named : Option Text → Option BaseName
    base_named None = None
    base_named (Some base) = Some (record { pos = here; path = None; names = base ∷ [] })

abbrev pub inner : ClassDecl → Decl
inner c = declares (d.class c)

-- ---- what is asked

-- no constant goes wrong
abbrev pub well : Made
well = record { goes_wrong = λ item. false; goes_wrong_at = λ at. false; repeats_key = λ at. false }

abbrev pub item : ℕ → ℕ → ℕ → Item
item class index value = record { member = record { class = class; index = index }; value = value }

-- code of a class, with locals, in a function or in static code
abbrev pub code : Project → ℕ → Bool → List Local → Scope
code p class is_static locals = record {
  project = p;
  made = well;
  class = class;
  is_static = is_static;
  function = None;
  locals = locals;
  parameters = λ id index. None;
}
