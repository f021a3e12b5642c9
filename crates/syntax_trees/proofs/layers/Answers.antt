use Rattle.gd_syntax.specs.declared.tree.decl.ClassDecl.{fold-roll-ClassDecl}
use Rattle.gd_syntax.specs.declared.tree.expr.Expr.{fold-roll-Expr}
use Rattle.gd_syntax.specs.declared.tree.expr.ExprKind.{fold-roll-ExprKind}
use Rattle.gd_syntax.specs.declared.tree.stmt.Pattern.{fold-roll-Pattern}
use Rattle.gd_syntax.specs.declared.tree.stmt.PatternKind.{fold-roll-PatternKind}
use Rattle.gd_syntax.specs.declared.tree.stmt.Stmt.{fold-roll-Stmt}
use Rattle.gd_syntax.specs.declared.tree.stmt.StmtKind.{fold-roll-StmtKind}
use Rattle.syntax_trees.specs.Declarations.{Accessor, ClassDecl, Decl, DeclKind, Property}
use Rattle.syntax_trees.specs.Expressions.{Expr, ExprKind}
use Rattle.syntax_trees.specs.OfDeclarations.{class_step, decl_kind_step, decl_step}
use Rattle.syntax_trees.specs.OfExpressions.{expr_step, kind_step}
use Rattle.syntax_trees.specs.OfStatements.{Branch, accessor_step, branch_step, pattern_kind_step, pattern_step, property_step, stmt_kind_step, stmt_step}
use Rattle.syntax_trees.specs.Patterns.{Pattern, PatternKind}
use Rattle.syntax_trees.specs.Statements.{Stmt, StmtKind}
use Rattle.syntax_trees.proofs.layers.Goals as goal

pub returns-clause-expressions : goal.returns-clause-expressions
returns-clause-expressions c = λ x. fold-roll-Expr ExprKind Expr kind_step expr_step x

pub returns-clause-kinds : goal.returns-clause-kinds
returns-clause-kinds c = λ x. fold-roll-ExprKind ExprKind Expr kind_step expr_step x

pub returns-clause-statements : goal.returns-clause-statements
returns-clause-statements c = λ x.
    fold-roll-Stmt Accessor StmtKind Branch Stmt Property accessor_step stmt_kind_step branch_step stmt_step
    property_step x

pub returns-clause-classes : goal.returns-clause-classes
returns-clause-classes c = λ x. fold-roll-ClassDecl DeclKind ClassDecl Decl decl_kind_step class_step decl_step x

pub returns-clause-statement_kinds : goal.returns-clause-statement_kinds
returns-clause-statement_kinds c = λ x.
    fold-roll-StmtKind Accessor StmtKind Branch Stmt Property accessor_step stmt_kind_step branch_step stmt_step
    property_step x

pub returns-clause-patterns : goal.returns-clause-patterns
returns-clause-patterns c = λ x. fold-roll-Pattern PatternKind Pattern pattern_kind_step pattern_step x

pub returns-clause-pattern_kinds : goal.returns-clause-pattern_kinds
returns-clause-pattern_kinds c = λ x. fold-roll-PatternKind PatternKind Pattern pattern_kind_step pattern_step x
