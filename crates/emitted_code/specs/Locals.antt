-- The locals of a function's body, in the order of their slots. Each has a slot of its own.
use Rattle.std.specs.Prelude.{List, [], ◌∷◌, ◌++◌, Option, None, Some, map}
use Rattle.std.specs.List.{flat_map}
use Rattle.gd_model.specs.declared.ty.Ty.{Ty}
use Rattle.gd_model.specs.declared.ty.Ty.TheVariants as ty
use Rattle.gd_syntax.specs.declared.pos.Pos.{Pos}
use Rattle.syntax_trees.specs.Expressions.{Expr, ExprKind, Text, expr}
use Rattle.syntax_trees.specs.Expressions as e
use Rattle.syntax_trees.specs.Patterns.{Entries, Pattern, PatternKind, Patterns, entry_and, key_and, no_entries, no_patterns, pattern, pattern_and}
use Rattle.syntax_trees.specs.Patterns as p
use Rattle.syntax_trees.specs.Statements.{Branches, Cases, Stmt, StmtKind, Stmts, branch_and, else_do, if_do, no_branches, no_else, no_stmts, stmt, stmt_and}
use Rattle.syntax_trees.specs.Statements as s
use Rattle.source_semantics.specs.Project.{Project}

-- ---- parts of patterns, in order of place: the keys of dictionary patterns, and the names that are bound

abbrev mutual
  pub keys : Pattern → List Expr
  keys (pattern at kind) = keys_of kind

  pub keys_of : PatternKind → List Expr
  keys_of (p.items xs) = keys_in xs
  keys_of (p.entries xs rests) = keys_at xs
  keys_of kind = []

  pub keys_in : Patterns → List Expr
  keys_in no_patterns = []
  keys_in (pattern_and x xs) = keys x ++ keys_in xs

  pub keys_at : Entries → List Expr
  keys_at no_entries = []
  keys_at (key_and k xs) = k ∷ keys_at xs
  keys_at (entry_and k x xs) = k ∷ (keys x ++ keys_at xs)

abbrev mutual
  pub bound : Pattern → List Text
  bound (pattern at kind) = bound_of kind

  pub bound_of : PatternKind → List Text
  bound_of (p.bind name) = name ∷ []
  bound_of (p.items xs) = bound_in xs
  bound_of (p.entries xs rests) = bound_at xs
  bound_of kind = []

  pub bound_in : Patterns → List Text
  bound_in no_patterns = []
  bound_in (pattern_and x xs) = bound x ++ bound_in xs

  pub bound_at : Entries → List Text
  bound_at no_entries = []
  bound_at (key_and k xs) = bound_at xs
  bound_at (entry_and k x xs) = bound x ++ bound_at xs

-- a key that is a literal needs no local
abbrev pub evaluated : Expr → List Expr
evaluated (expr at e.null) = []
evaluated (expr at (e.bool b)) = []
evaluated (expr at (e.int n)) = []
evaluated (expr at (e.str t)) = []
evaluated (expr at kind) = expr at kind ∷ []

-- the keys of all branches that have locals, which come first
abbrev pub key_locals : Branches → List Expr
key_locals no_branches = []
key_locals (branch_and patterns guard body more) = flat_map evaluated (flat_map keys patterns) ++ key_locals more

-- any value
abbrev pub of_any : {A : Type 0} → List A → List Ty
of_any xs = map (λ x. ty.Variant) xs

-- ---- their types

abbrev mutual
  pub locals : Project → Stmts → List Ty
  locals p no_stmts = []
  locals p (stmt_and x xs) = locals_in p x ++ locals p xs

  pub locals_in : Project → Stmt → List Ty
  locals_in p (stmt pos last notes kind) = locals_of p kind

  pub locals_of : Project → StmtKind → List Ty
  locals_of p (s.local v) = p.place_type v.pos ∷ []
  locals_of p (s.choice xs) = locals_at p xs
  locals_of p (s.while x body) = locals p body
  locals_of p (s.for name at_name typed at x body) = p.place_type at_name ∷ locals p body
  locals_of p (s.match x xs) = of_any (key_locals xs) ++ locals_under p xs
  locals_of p kind = []

  pub locals_at : Project → Cases → List Ty
  locals_at p no_else = []
  locals_at p (else_do body) = locals p body
  locals_at p (if_do x body more) = locals p body ++ locals_at p more

  -- of each branch what it binds, and those of its block
  pub locals_under : Project → Branches → List Ty
  locals_under p no_branches = []
  locals_under p (branch_and patterns guard body more) =
      of_any (flat_map bound patterns) ++ (locals p body ++ locals_under p more)
