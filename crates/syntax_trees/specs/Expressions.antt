-- Written types and expressions. A type cannot hold lists of itself, so that each such list is a type of its own beside
-- it.
use Rattle.std.specs.Prelude.{ℕ, ℤ, Bool, List, [], ◌∷◌, Option}
use Rattle.gd_syntax.specs.declared.operator.Operator.{Operator}
use Rattle.gd_syntax.specs.declared.pos.Pos.{Pos}

-- a text is its code points
abbrev pub Text : Type 0
Text = List ℕ

mutual
  -- its first token, the names between dots, whether it is `void` behind `->`, and the types in brackets
  pub data TypeName : Type 0 where
    type_name : Pos → List Text → Bool → TypeNames → TypeName

  pub data TypeNames : Type 0 where
    no_types : TypeNames
    type_and : TypeName → TypeNames → TypeNames

mutual
  -- The place is that of the operation: the operator, the name behind the dot, the `[`, the `if` of a conditional
  -- expression, and else the first token.
  pub data Expr : Type 0 where
    expr : Pos → ExprKind → Expr

  pub data ExprKind : Type 0 where
    null : ExprKind
    bool : Bool → ExprKind
    int : ℤ → ExprKind
    str : Text → ExprKind
    name : Text → ExprKind
    -- `self`
    me : ExprKind
    array_lit : Exprs → ExprKind
    -- a key of the form `NAME = value` is a `str`
    dict_lit : Pairs → ExprKind
    unary : Operator → Expr → ExprKind
    binary : Operator → Expr → Expr → ExprKind
    and : Expr → Expr → ExprKind
    or : Expr → Expr → ExprKind
    -- `value if condition else other`: the value, the condition, the other value
    choose : Expr → Expr → Expr → ExprKind
    cast : Expr → TypeName → ExprKind
    -- `x is T`, and with `true` `x is not T`
    test : Expr → TypeName → Bool → ExprKind
    attr : Expr → Text → ExprKind
    index : Expr → Expr → ExprKind
    call : Expr → Exprs → ExprKind
    -- `super(..)` or `super.NAME(..)`, with the place of the word `super`
    super : Pos → Option Text → Exprs → ExprKind
    preload : Text → ExprKind

  pub data Exprs : Type 0 where
    no_exprs : Exprs
    expr_and : Expr → Exprs → Exprs

  -- keys and values
  pub data Pairs : Type 0 where
    no_pairs : Pairs
    pair_and : Expr → Expr → Pairs → Pairs

-- ---- parts of them

abbrev pub place : Expr → Pos
place (expr pos kind) = pos

abbrev pub type_place : TypeName → Pos
type_place (type_name pos names is_void elements) = pos

-- The first token of an expression, parentheses left out: that of the part that stands first, and else the expression's
-- own place.
abbrev mutual
  pub first_token : Expr → Pos
  first_token (expr pos kind) = first_of pos kind

  pub first_of : Pos → ExprKind → Pos
  first_of pos (binary op x y) = first_token x
  first_of pos (and x y) = first_token x
  first_of pos (or x y) = first_token x
  first_of pos (choose x c y) = first_token x
  first_of pos (cast x t) = first_token x
  first_of pos (test x t negated) = first_token x
  first_of pos (attr x field) = first_token x
  first_of pos (index x i) = first_token x
  first_of pos (call f xs) = first_token f
  first_of pos (super word method xs) = word
  first_of pos _ = pos

-- ---- lists of them

abbrev pub types : List TypeName → TypeNames
types [] = no_types
types (t ∷ ts) = type_and t (types ts)

abbrev pub exprs : List Expr → Exprs
exprs [] = no_exprs
exprs (x ∷ xs) = expr_and x (exprs xs)

abbrev pub pairs : List (Expr × Expr) → Pairs
pairs [] = no_pairs
pairs (x ∷ xs) = pair_and x.0 x.1 (pairs xs)
