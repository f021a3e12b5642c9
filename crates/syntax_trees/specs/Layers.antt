-- The trees by layers: each layer of the parser's tree gives its step, of the trees of its parts.
use Rattle.std.specs.Prelude.{◌≡◌, map}
use Rattle.gd_syntax.specs.declared.tree.decl.ClassDecl.{ClassDecl, ClassDecl-F, roll-ClassDecl}
use Rattle.gd_syntax.specs.declared.tree.decl.Decl.{Decl}
use Rattle.gd_syntax.specs.declared.tree.decl.DeclKind.{DeclKind}
use Rattle.gd_syntax.specs.declared.tree.expr.Expr.{Expr, Expr-F, roll-Expr}
use Rattle.gd_syntax.specs.declared.tree.expr.ExprKind.{ExprKind, map-ExprKind, roll-ExprKind}
use Rattle.gd_syntax.specs.declared.tree.expr.ExprKind.TheOpen.{ExprKind-F}
use Rattle.gd_syntax.specs.declared.tree.stmt.Accessor.{Accessor}
use Rattle.gd_syntax.specs.declared.tree.stmt.Branch.{Branch}
use Rattle.gd_syntax.specs.declared.tree.stmt.Stmt.{Stmt, Stmt-F, roll-Stmt}
use Rattle.gd_syntax.specs.declared.tree.stmt.Accessor.TheOpen.{StmtKind-F}
use Rattle.gd_syntax.specs.declared.tree.stmt.Pattern.{Pattern, Pattern-F, roll-Pattern}
use Rattle.gd_syntax.specs.declared.tree.stmt.PatternKind.{PatternKind, map-PatternKind, roll-PatternKind}
use Rattle.gd_syntax.specs.declared.tree.stmt.PatternKind.TheOpen.{PatternKind-F}
use Rattle.gd_syntax.specs.declared.tree.stmt.StmtKind.{StmtKind, map-StmtKind, roll-StmtKind}
use Rattle.gd_syntax.specs.declared.tree.stmt.VarDecl.{VarDecl}
use Rattle.syntax_trees.specs.Declarations.{class_decl, decls}
use Rattle.syntax_trees.specs.Declarations as d
use Rattle.syntax_trees.specs.Expressions as e
use Rattle.syntax_trees.specs.Expressions.{expr}
use Rattle.syntax_trees.specs.OfDeclarations.{class_tree, decl_tree}
use Rattle.syntax_trees.specs.OfExpressions.{expr_tree, kind_step, kind_tree}
use Rattle.syntax_trees.specs.OfStatements.{accessor_tree, branch_tree, note_tree, pattern_kind_step, pattern_kind_tree, pattern_tree, property_tree, stmt_kind_step, stmt_kind_tree, stmt_tree}
use Rattle.syntax_trees.specs.OfStatements as o
use Rattle.syntax_trees.specs.Patterns.{pattern}
use Rattle.syntax_trees.specs.Patterns as p
use Rattle.syntax_trees.specs.Statements.{stmt}
use Rattle.syntax_trees.specs.Statements as s

abbrev pub ExprsByLayer : Type 0
ExprsByLayer = (x : Expr-F ExprKind Expr) → expr_tree (roll-Expr x) ≡ expr x.pos (kind_tree x.kind)

abbrev pub KindsByLayer : Type 0
KindsByLayer = (x : ExprKind-F ExprKind Expr)
    → kind_tree (roll-ExprKind x) ≡ kind_step (map-ExprKind ExprKind Expr e.ExprKind e.Expr kind_tree expr_tree x)

abbrev pub StmtsByLayer : Type 0
StmtsByLayer = (x : Stmt-F Accessor StmtKind Branch Stmt VarDecl)
    → stmt_tree (roll-Stmt x) ≡ stmt x.pos x.last (map note_tree x.notes) (stmt_kind_tree x.kind)

abbrev pub StmtKindsByLayer : Type 0
StmtKindsByLayer = (x : StmtKind-F Accessor StmtKind Branch Stmt VarDecl)
    → stmt_kind_tree (roll-StmtKind x) ≡ stmt_kind_step (map-StmtKind Accessor StmtKind Branch Stmt VarDecl
    d.Accessor s.StmtKind o.Branch s.Stmt d.Property accessor_tree stmt_kind_tree branch_tree stmt_tree property_tree x)

abbrev pub PatternsByLayer : Type 0
PatternsByLayer = (x : Pattern-F PatternKind Pattern) → pattern_tree (roll-Pattern x)
    ≡ pattern x.pos (pattern_kind_tree x.kind)

abbrev pub PatternKindsByLayer : Type 0
PatternKindsByLayer = (x : PatternKind-F PatternKind Pattern)
    → pattern_kind_tree (roll-PatternKind x)
    ≡ pattern_kind_step (map-PatternKind PatternKind Pattern p.PatternKind p.Pattern pattern_kind_tree pattern_tree x)

abbrev pub ClassesByLayer : Type 0
ClassesByLayer = (c : ClassDecl-F DeclKind ClassDecl Decl)
    → class_tree (roll-ClassDecl c) ≡ class_decl c.name c.pos c.base (decls (map decl_tree c.members)) c.initial_tokens
