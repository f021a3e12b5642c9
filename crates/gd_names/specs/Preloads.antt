-- The expressions of a class, and the paths that it preloads.
use Rattle.std.specs.Prelude.{ℕ, max, List, [], ◌∷◌, ◌++◌, Option}
use Rattle.std.specs.List.{flat_map}
use Prim.Native.Nat.{zero, suc}
use Rattle.gd_syntax.specs.declared.pos.Pos.{Pos}
use Rattle.gd_syntax.specs.declared.tree.decl.ClassDecl.{ClassDecl}
use Rattle.gd_syntax.specs.declared.tree.decl.DeclKind.{DeclKind}
use Rattle.gd_syntax.specs.declared.tree.decl.DeclKind.TheVariants as d
use Rattle.gd_syntax.specs.declared.tree.expr.Expr.{Expr, out-Expr, size-Expr}
use Rattle.gd_syntax.specs.declared.tree.expr.ExprKind.{out-ExprKind}
use Rattle.gd_syntax.specs.declared.tree.expr.ExprKind.TheOpen.{ExprKind-F}
use Rattle.gd_syntax.specs.declared.tree.stmt.Accessor.{Accessor, out-Accessor}
use Rattle.gd_syntax.specs.declared.tree.stmt.Accessor.TheOpen.{Accessor-F, StmtKind-F}
use Rattle.gd_syntax.specs.declared.tree.stmt.Branch.{Branch, out-Branch}
use Rattle.gd_syntax.specs.declared.tree.stmt.Pattern.{Pattern, out-Pattern, size-Pattern}
use Rattle.gd_syntax.specs.declared.tree.stmt.PatternKind.{PatternKind, out-PatternKind}
use Rattle.gd_syntax.specs.declared.tree.stmt.PatternKind.TheOpen.{PatternKind-F}
use Rattle.gd_syntax.specs.declared.tree.stmt.Stmt.{Stmt, out-Stmt, size-Stmt}
use Rattle.gd_syntax.specs.declared.tree.stmt.StmtKind.{StmtKind, out-StmtKind}
use Rattle.gd_syntax.specs.declared.tree.stmt.VarDecl.{VarDecl, out-VarDecl, size-VarDecl}
use Rattle.gd_names.specs.Trees.{ExprLayer, Text, kind_of, list_of, members_of}

-- ---- expressions

-- the expressions directly in one
abbrev pub parts : ExprLayer → List Expr
parts (ExprKind-F.ArrayLit xs) = xs
parts (ExprKind-F.DictLit pairs) = flat_map (λ (q : Expr × Expr). q.0 ∷ q.1 ∷ []) pairs
parts (ExprKind-F.Unary op x) = x ∷ []
parts (ExprKind-F.Binary op x y) = x ∷ y ∷ []
parts (ExprKind-F.And x y) = x ∷ y ∷ []
parts (ExprKind-F.Or x y) = x ∷ y ∷ []
parts (ExprKind-F.Choose x c y) = x ∷ c ∷ y ∷ []
parts (ExprKind-F.Cast x t) = x ∷ []
parts (ExprKind-F.Test x t negated) = x ∷ []
parts (ExprKind-F.Attr x name) = x ∷ []
parts (ExprKind-F.Index x i) = x ∷ i ∷ []
parts (ExprKind-F.Call f xs) = f ∷ xs
parts (ExprKind-F.Super pos name xs) = xs
parts _ = []

-- the place and the path of each `preload` in an expression; as many levels are looked into
abbrev pub preload_at : Pos → ExprLayer → List (Pos × Text)
preload_at pos (ExprKind-F.Preload path) = (pos, path) ∷ []
preload_at pos _ = []

abbrev pub preloads_in : ℕ → Expr → List (Pos × Text)
preloads_in zero x = []
preloads_in (suc levels) x = preload_at (out-Expr x).pos (out-ExprKind (out-Expr x).kind) ++ flat_map (preloads_in levels) (parts (out-ExprKind (out-Expr x).kind))

abbrev pub in_expression : Expr → List (Pos × Text)
in_expression x = preloads_in (size-Expr x) x

-- ---- patterns

abbrev pub in_pattern_kind : (Pattern → List (Pos × Text)) → PatternKind → List (Pos × Text)
in_pattern_kind inner x = elim (out-PatternKind x) as (λ _. List (Pos × Text)) [
  | PatternKind-F.Value x ↦ in_expression x
  | PatternKind-F.Items xs ↦ flat_map inner xs
  | PatternKind-F.Pairs pairs rests ↦ flat_map (λ (q : Expr × Option Pattern). in_expression q.0 ++ flat_map inner (list_of q.1)) pairs
  | _ ↦ []
]

abbrev pub in_pattern : ℕ → Pattern → List (Pos × Text)
in_pattern zero x = []
in_pattern (suc levels) x = in_pattern_kind (in_pattern levels) (out-Pattern x).kind

-- ---- statements and variables, over the paths of the blocks in them

abbrev pub in_accessor : (List Stmt → List (Pos × Text)) → Accessor → List (Pos × Text)
in_accessor block x = elim (out-Accessor x) as (λ _. List (Pos × Text)) [
  | Accessor-F.Body parameter body pos tokens ↦ block body
  | Accessor-F.Named name pos ↦ []
]

abbrev pub in_variable : (List Stmt → List (Pos × Text)) → VarDecl → List (Pos × Text)
in_variable block v = flat_map in_expression (list_of (out-VarDecl v).value)
    ++ flat_map (in_accessor block) (list_of (out-VarDecl v).setter) ++ flat_map (in_accessor block) (list_of (out-VarDecl v).getter)

abbrev pub in_branch : (List Stmt → List (Pos × Text)) → Branch → List (Pos × Text)
in_branch block b = flat_map (λ x. in_pattern (size-Pattern x) x) (out-Branch b).patterns
    ++ flat_map in_expression (list_of (out-Branch b).guard) ++ block (out-Branch b).body

abbrev pub in_statement : (List Stmt → List (Pos × Text)) → StmtKind → List (Pos × Text)
in_statement block x = elim (out-StmtKind x) as (λ _. List (Pos × Text)) [
  | StmtKind-F.Return x ↦ flat_map in_expression (list_of x)
  | StmtKind-F.Plain x ↦ in_expression x
  | StmtKind-F.Assign op pos target value ↦ in_expression target ++ in_expression value
  | StmtKind-F.Local v ↦ in_variable block v
  | StmtKind-F.LocalConst v ↦ in_variable block v
  | StmtKind-F.If branches other ↦ flat_map (λ (b : Expr × List Stmt). in_expression b.0 ++ block b.1) branches ++ flat_map block (list_of other)
  | StmtKind-F.While x body ↦ in_expression x ++ block body
  | StmtKind-F.For name pos typed at x body ↦ in_expression x ++ block body
  | StmtKind-F.Match x branches ↦ in_expression x ++ flat_map (in_branch block) branches
  | StmtKind-F.Assert x message ↦ in_expression x ++ flat_map in_expression (list_of message)
  | _ ↦ []
]

abbrev pub in_block : ℕ → List Stmt → List (Pos × Text)
in_block zero body = []
in_block (suc levels) body = flat_map (λ x. in_statement (in_block levels) (out-Stmt x).kind) body

-- the most levels of a statement of the block
abbrev pub deepest : List Stmt → ℕ
deepest [] = 0
deepest (x ∷ xs) = max (size-Stmt x) (deepest xs)

abbrev pub in_body : List Stmt → List (Pos × Text)
in_body body = in_block (suc (deepest body)) body

abbrev pub in_member_variable : VarDecl → List (Pos × Text)
in_member_variable v = in_variable (in_block (size-VarDecl v)) v

-- ---- members

abbrev pub in_member : DeclKind → List (Pos × Text)
in_member (d.Var v) = in_member_variable v
in_member (d.Const v) = in_member_variable v
in_member (d.Func f) = flat_map in_member_variable f.params ++ in_body f.body
in_member (d.Signal name pos parameters) = flat_map in_member_variable parameters
in_member (d.Enum name values) = flat_map (λ (v : Text × Pos × Option Expr). flat_map in_expression (list_of v.2)) values
in_member (d.Class c) = []
in_member d.Nothing = []

-- the place and the path of each `preload` in the members of a class, but for those in its inner classes
abbrev pub preloads_of : ClassDecl → List (Pos × Text)
preloads_of c = flat_map (λ x. in_member (kind_of x)) (members_of c)
