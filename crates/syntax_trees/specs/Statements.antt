-- Variables and statements.
use Rattle.std.specs.Prelude.{Bool, List, [], ◌∷◌, Option}
use Rattle.gd_syntax.specs.declared.operator.Operator.{Operator}
use Rattle.gd_syntax.specs.declared.pos.Pos.{Pos}
use Rattle.syntax_trees.specs.Expressions.{Expr, Text, TypeName}
use Rattle.syntax_trees.specs.Patterns.{Pattern}

-- an annotation, with the place of its `@`
pub record Note : Type 0 where
  pub pos : Pos
  pub name : Text
  pub args : List Expr

-- A variable, a constant or a parameter, with the place of its name. A block's variable has no accessors; those of a
-- class's variable stand beside it (`Property`).
pub record Variable : Type 0 where
  pub name : Text
  pub pos : Pos
  pub is_static : Bool
  pub typed : Option TypeName
  -- whether `:=` stands behind the name
  pub inferred : Bool
  -- the place of the `=`
  pub equals : Option Pos
  pub value : Option Expr

mutual
  -- the first token behind the annotations, the last token other than line ends, block ends and `;`, and the
  -- annotations
  pub data Stmt : Type 0 where
    stmt : Pos → Pos → List Note → StmtKind → Stmt

  pub data StmtKind : Type 0 where
    pass : StmtKind
    break : StmtKind
    continue : StmtKind
    return : Option Expr → StmtKind
    plain : Expr → StmtKind
    -- the operator of a compound assignment, the place of the mark, target and value
    assign : Option Operator → Pos → Expr → Expr → StmtKind
    local : Variable → StmtKind
    local_const : Variable → StmtKind
    choice : Cases → StmtKind
    while : Expr → Stmts → StmtKind
    -- the variable, its place and written type, the place of the word `in`, subject and block
    for : Text → Pos → Option TypeName → Pos → Expr → Stmts → StmtKind
    match : Expr → Branches → StmtKind
    -- the condition and the message
    assert : Expr → Option Expr → StmtKind

  pub data Stmts : Type 0 where
    no_stmts : Stmts
    stmt_and : Stmt → Stmts → Stmts

  -- the conditions of an `if` with their blocks, and the block of `else` where there is one
  pub data Cases : Type 0 where
    no_else : Cases
    else_do : Stmts → Cases
    if_do : Expr → Stmts → Cases → Cases

  -- the branches of a `match`: patterns, guard and block
  pub data Branches : Type 0 where
    no_branches : Branches
    branch_and : List Pattern → Option Expr → Stmts → Branches → Branches

-- ---- lists of them

abbrev pub stmts : List Stmt → Stmts
stmts [] = no_stmts
stmts (x ∷ xs) = stmt_and x (stmts xs)

abbrev pub branches : List (List Pattern × Option Expr × Stmts) → Branches
branches [] = no_branches
branches (x ∷ xs) = branch_and x.0 x.1 x.2 (branches xs)

abbrev pub cases : List (Expr × Stmts) → Cases → Cases
cases [] other = other
cases (x ∷ xs) other = if_do x.0 x.1 (cases xs other)
