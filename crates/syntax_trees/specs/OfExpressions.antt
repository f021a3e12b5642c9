-- The trees of the written types and expressions that the parser makes: one step for each layer of the parser's tree,
-- whose parts are trees already.
use Rattle.gd_syntax.specs.declared.tree.expr.Expr.{Expr as Parsed, Expr-F, fold-Expr}
use Rattle.gd_syntax.specs.declared.tree.expr.ExprKind.{ExprKind as ParsedKind, fold-ExprKind}
use Rattle.gd_syntax.specs.declared.tree.expr.ExprKind.TheOpen.{ExprKind-F}
use Rattle.gd_syntax.specs.declared.tree.expr.TypeName.{TypeName as ParsedType, TypeName-F, fold-TypeName}
use Rattle.syntax_trees.specs.Expressions.{Expr, ExprKind, TypeName, expr, exprs, pairs, type_name, types}
use Rattle.syntax_trees.specs.Expressions as e

abbrev pub type_step : TypeName-F TypeName → TypeName
type_step t = type_name t.pos t.names t.is_void (types t.elements)

abbrev pub type_tree : ParsedType → TypeName
type_tree t = fold-TypeName TypeName type_step t

abbrev pub kind_step : ExprKind-F ExprKind Expr → ExprKind
kind_step ExprKind-F.Null = e.null
kind_step (ExprKind-F.Bool b) = e.bool b
kind_step (ExprKind-F.Int n) = e.int n
kind_step (ExprKind-F.Str t) = e.str t
kind_step (ExprKind-F.Name name) = e.name name
kind_step ExprKind-F.Me = e.me
kind_step (ExprKind-F.ArrayLit xs) = e.array_lit (exprs xs)
kind_step (ExprKind-F.DictLit xs) = e.dict_lit (pairs xs)
kind_step (ExprKind-F.Unary op x) = e.unary op x
kind_step (ExprKind-F.Binary op x y) = e.binary op x y
kind_step (ExprKind-F.And x y) = e.and x y
kind_step (ExprKind-F.Or x y) = e.or x y
kind_step (ExprKind-F.Choose x c y) = e.choose x c y
kind_step (ExprKind-F.Cast x t) = e.cast x (type_tree t)
kind_step (ExprKind-F.Test x t negated) = e.test x (type_tree t) negated
kind_step (ExprKind-F.Attr x name) = e.attr x name
kind_step (ExprKind-F.Index x i) = e.index x i
kind_step (ExprKind-F.Call f xs) = e.call f (exprs xs)
kind_step (ExprKind-F.Super word name xs) = e.super word name (exprs xs)
kind_step (ExprKind-F.Preload path) = e.preload path

abbrev pub expr_step : Expr-F ExprKind Expr → Expr
expr_step x = expr x.pos x.kind

abbrev pub expr_tree : Parsed → Expr
expr_tree x = fold-Expr ExprKind Expr kind_step expr_step x

abbrev pub kind_tree : ParsedKind → ExprKind
kind_tree x = fold-ExprKind ExprKind Expr kind_step expr_step x
