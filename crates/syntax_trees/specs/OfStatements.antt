-- The trees of the patterns, variables and statements that the parser makes.
use Rattle.std.specs.Prelude.{List, map, Option, None, Some, option_map}
use Rattle.gd_syntax.specs.declared.tree.expr.Expr.{Expr as ParsedExpr}
use Rattle.gd_syntax.specs.declared.tree.stmt.Accessor.TheOpen.{Accessor-F, StmtKind-F}
use Rattle.gd_syntax.specs.declared.tree.stmt.Accessor.{Accessor as ParsedAccessor, fold-Accessor}
use Rattle.gd_syntax.specs.declared.tree.stmt.Branch.{Branch as ParsedBranch, Branch-F, fold-Branch}
use Rattle.gd_syntax.specs.declared.tree.stmt.Note.{Note as ParsedNote}
use Rattle.gd_syntax.specs.declared.tree.stmt.Pattern.{Pattern as ParsedPattern, Pattern-F, fold-Pattern}
use Rattle.gd_syntax.specs.declared.tree.stmt.PatternKind.{PatternKind as ParsedPatternKind, fold-PatternKind}
use Rattle.gd_syntax.specs.declared.tree.stmt.PatternKind.TheOpen.{PatternKind-F}
use Rattle.gd_syntax.specs.declared.tree.stmt.Stmt.{Stmt as Parsed, Stmt-F, fold-Stmt}
use Rattle.gd_syntax.specs.declared.tree.stmt.StmtKind.{StmtKind as ParsedKind, fold-StmtKind}
use Rattle.gd_syntax.specs.declared.tree.stmt.VarDecl.{VarDecl, VarDecl-F, fold-VarDecl}
use Rattle.syntax_trees.specs.Declarations.{Accessor, Property, body, named}
use Rattle.syntax_trees.specs.Expressions.{Expr}
use Rattle.syntax_trees.specs.OfExpressions.{expr_tree, type_tree}
use Rattle.syntax_trees.specs.Patterns.{Pattern, PatternKind, entry_list, pattern, patterns}
use Rattle.syntax_trees.specs.Patterns as p
use Rattle.syntax_trees.specs.Statements.{Cases, Note, Stmt, StmtKind, Stmts, Variable, branches, cases, else_do, no_else, stmt, stmts}
use Rattle.syntax_trees.specs.Statements as s

-- ---- patterns

abbrev pub pattern_kind_step : PatternKind-F PatternKind Pattern → PatternKind
pattern_kind_step (PatternKind-F.Value x) = p.value (expr_tree x)
pattern_kind_step PatternKind-F.Any = p.any
pattern_kind_step (PatternKind-F.Bind name) = p.bind name
pattern_kind_step (PatternKind-F.Items xs) = p.items (patterns xs)
pattern_kind_step (PatternKind-F.Pairs xs rests) =
    p.entries (entry_list (map (λ (x : ParsedExpr × Option Pattern). (expr_tree x.0, x.1)) xs)) rests
pattern_kind_step PatternKind-F.Rest = p.rest

abbrev pub pattern_step : Pattern-F PatternKind Pattern → Pattern
pattern_step x = pattern x.pos x.kind

abbrev pub pattern_kind_tree : ParsedPatternKind → PatternKind
pattern_kind_tree x = fold-PatternKind PatternKind Pattern pattern_kind_step pattern_step x

abbrev pub pattern_tree : ParsedPattern → Pattern
pattern_tree x = fold-Pattern PatternKind Pattern pattern_kind_step pattern_step x

-- ---- annotations

abbrev pub note_tree : ParsedNote → Note
note_tree n = record { pos = n.pos; name = n.name; args = map expr_tree n.args }

-- ---- statements, with variables, their accessors and the branches of a `match`

abbrev pub Branch : Type 0
Branch = List Pattern × Option Expr × Stmts

abbrev pub accessor_step : Accessor-F Accessor StmtKind Branch Stmt Property → Accessor
accessor_step (Accessor-F.Named name pos) = named name pos
accessor_step (Accessor-F.Body parameter block pos tokens) = body parameter (stmts block) pos tokens

abbrev pub branch_step : Branch-F Accessor StmtKind Branch Stmt Property → Branch
branch_step b = (map pattern_tree b.patterns, option_map expr_tree b.guard, stmts b.body)

abbrev pub else_tree : Option (List Stmt) → Cases
else_tree None = no_else
else_tree (Some block) = else_do (stmts block)

abbrev pub stmt_kind_step : StmtKind-F Accessor StmtKind Branch Stmt Property → StmtKind
stmt_kind_step StmtKind-F.Pass = s.pass
stmt_kind_step StmtKind-F.Break = s.break
stmt_kind_step StmtKind-F.Continue = s.continue
stmt_kind_step (StmtKind-F.Return x) = s.return (option_map expr_tree x)
stmt_kind_step (StmtKind-F.Plain x) = s.plain (expr_tree x)
stmt_kind_step (StmtKind-F.Assign op at target value) = s.assign op at (expr_tree target) (expr_tree value)
stmt_kind_step (StmtKind-F.Local v) = s.local v.variable
stmt_kind_step (StmtKind-F.LocalConst v) = s.local_const v.variable
stmt_kind_step (StmtKind-F.If conditions other) =
    s.choice (cases (map (λ (c : ParsedExpr × List Stmt). (expr_tree c.0, stmts c.1)) conditions) (else_tree other))
stmt_kind_step (StmtKind-F.While x block) = s.while (expr_tree x) (stmts block)
stmt_kind_step (StmtKind-F.For name pos typed at x block) =
    s.for name pos (option_map type_tree typed) at (expr_tree x) (stmts block)
stmt_kind_step (StmtKind-F.Match x bs) = s.match (expr_tree x) (branches bs)
stmt_kind_step (StmtKind-F.Assert x message) = s.assert (expr_tree x) (option_map expr_tree message)

abbrev pub stmt_step : Stmt-F Accessor StmtKind Branch Stmt Property → Stmt
stmt_step x = stmt x.pos x.last (map note_tree x.notes) x.kind

abbrev pub property_step : VarDecl-F Accessor StmtKind Branch Stmt Property → Property
property_step v = record {
  variable = record {
    name = v.name;
    pos = v.pos;
    is_static = v.is_static;
    typed = option_map type_tree v.typed;
    inferred = v.inferred;
    equals = v.equals;
    value = option_map expr_tree v.value;
  };
  setter = v.setter;
  getter = v.getter;
}

abbrev pub stmt_tree : Parsed → Stmt
stmt_tree x =
    fold-Stmt Accessor StmtKind Branch Stmt Property accessor_step stmt_kind_step branch_step stmt_step property_step x

abbrev pub stmt_kind_tree : ParsedKind → StmtKind
stmt_kind_tree x =
    fold-StmtKind Accessor StmtKind Branch Stmt Property accessor_step stmt_kind_step branch_step stmt_step
    property_step x

abbrev pub block_tree : List Parsed → Stmts
block_tree block = stmts (map stmt_tree block)

abbrev pub property_tree : VarDecl → Property
property_tree v =
    fold-VarDecl Accessor StmtKind Branch Stmt Property accessor_step stmt_kind_step branch_step stmt_step property_step
    v

abbrev pub accessor_tree : ParsedAccessor → Accessor
accessor_tree x =
    fold-Accessor Accessor StmtKind Branch Stmt Property accessor_step stmt_kind_step branch_step stmt_step
    property_step x

abbrev pub branch_tree : ParsedBranch → Branch
branch_tree b =
    fold-Branch Accessor StmtKind Branch Stmt Property accessor_step stmt_kind_step branch_step stmt_step property_step
    b

-- a variable, its accessors aside
abbrev pub variable_tree : VarDecl → Variable
variable_tree v = (property_tree v).variable
