-- The trees of the declarations and classes that the parser makes.
use Rattle.std.specs.Prelude.{map, Option, option_map}
use Rattle.gd_syntax.specs.declared.pos.Pos.{Pos}
use Rattle.gd_syntax.specs.declared.tree.decl.ClassDecl.{ClassDecl as ParsedClass, ClassDecl-F, fold-ClassDecl}
use Rattle.gd_syntax.specs.declared.tree.decl.Decl.{Decl as Parsed, Decl-F, fold-Decl}
use Rattle.gd_syntax.specs.declared.tree.decl.DeclKind.TheOpen.{DeclKind-F}
use Rattle.gd_syntax.specs.declared.tree.decl.FuncDecl.{FuncDecl}
use Rattle.gd_syntax.specs.declared.tree.expr.Expr.{Expr as ParsedExpr}
use Rattle.syntax_trees.specs.Declarations.{ClassDecl, Decl, DeclKind, Function, class_decl, decl, decls}
use Rattle.syntax_trees.specs.Declarations as d
use Rattle.syntax_trees.specs.Expressions.{Expr, Text}
use Rattle.syntax_trees.specs.OfExpressions.{expr_tree, type_tree}
use Rattle.syntax_trees.specs.OfStatements.{block_tree, note_tree, property_tree, variable_tree}

abbrev pub function_tree : FuncDecl → Function
function_tree f = record {
  name = f.name;
  pos = f.pos;
  is_static = f.is_static;
  params = map variable_tree f.params;
  result = option_map type_tree f.result;
  body = block_tree f.body;
  tokens = f.tokens;
}

abbrev pub enum_value_tree : Text × Pos × Option ParsedExpr → Text × Pos × Option Expr
enum_value_tree v = (v.0, v.1, option_map expr_tree v.2)

abbrev pub decl_kind_step : DeclKind-F DeclKind ClassDecl Decl → DeclKind
decl_kind_step (DeclKind-F.Var v) = d.variable (property_tree v)
decl_kind_step (DeclKind-F.Const v) = d.constant (variable_tree v)
decl_kind_step (DeclKind-F.Func f) = d.function (function_tree f)
decl_kind_step (DeclKind-F.Signal name pos params) = d.signal name pos (map variable_tree params)
decl_kind_step (DeclKind-F.Enum name values) = d.enum name (map enum_value_tree values)
decl_kind_step (DeclKind-F.Class c) = d.class c
decl_kind_step DeclKind-F.Nothing = d.nothing

abbrev pub class_step : ClassDecl-F DeclKind ClassDecl Decl → ClassDecl
class_step c = class_decl c.name c.pos c.base (decls c.members) c.initial_tokens

abbrev pub decl_step : Decl-F DeclKind ClassDecl Decl → Decl
decl_step x = decl x.pos x.last (map note_tree x.notes) x.kind

abbrev pub class_tree : ParsedClass → ClassDecl
class_tree c = fold-ClassDecl DeclKind ClassDecl Decl decl_kind_step class_step decl_step c

abbrev pub decl_tree : Parsed → Decl
decl_tree x = fold-Decl DeclKind ClassDecl Decl decl_kind_step class_step decl_step x
