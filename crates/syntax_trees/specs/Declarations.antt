-- Declarations and classes.
use Rattle.std.specs.Prelude.{ℕ, Bool, List, [], ◌∷◌, Option}
use Rattle.gd_syntax.specs.declared.pos.Pos.{Pos}
use Rattle.gd_syntax.specs.declared.tree.decl.BaseName.{BaseName}
use Rattle.syntax_trees.specs.Expressions.{Expr, Text, TypeName}
use Rattle.syntax_trees.specs.Statements.{Note, Stmts, Variable}

-- `set = f` or `get = f`, the function's name and its place; or the parameter of a setter, the block, the place of the
-- word `set` or `get`, and the number of tokens
pub data Accessor : Type 0 where
  named : Text → Pos → Accessor
  body : Option Text → Stmts → Pos → ℕ → Accessor

-- a variable of a class
pub record Property : Type 0 where
  pub variable : Variable
  pub setter : Option Accessor
  pub getter : Option Accessor

-- a function, with the place of its name and the number of its tokens
pub record Function : Type 0 where
  pub name : Text
  pub pos : Pos
  pub is_static : Bool
  pub params : List Variable
  pub result : Option TypeName
  pub body : Stmts
  pub tokens : ℕ

mutual
  -- with its first and last token and its annotations, as at a statement
  pub data Decl : Type 0 where
    decl : Pos → Pos → List Note → DeclKind → Decl

  pub data DeclKind : Type 0 where
    variable : Property → DeclKind
    constant : Variable → DeclKind
    function : Function → DeclKind
    -- the name, its place and the parameters
    signal : Text → Pos → List Variable → DeclKind
    -- the name with its place, and the values: name, place and expression
    enum : Option (Text × Pos) → List (Text × Pos × Option Expr) → DeclKind
    class : ClassDecl → DeclKind
    -- `pass`
    nothing : DeclKind

  pub data Decls : Type 0 where
    no_decls : Decls
    decl_and : Decl → Decls → Decls

  -- the name, where it has one; the place of the name, or 1:1; the base; the declarations; and the number of tokens of
  -- all initial values of its variables
  pub data ClassDecl : Type 0 where
    class_decl : Option Text → Pos → Option BaseName → Decls → ℕ → ClassDecl

-- ---- parts of them

abbrev pub kind_of : Decl → DeclKind
kind_of (decl pos last notes kind) = kind

abbrev pub class_name : ClassDecl → Option Text
class_name (class_decl name pos base members tokens) = name

-- ---- lists of them

abbrev pub decls : List Decl → Decls
decls [] = no_decls
decls (x ∷ xs) = decl_and x (decls xs)

abbrev pub decl_list : Decls → List Decl
decl_list no_decls = []
decl_list (decl_and x xs) = x ∷ decl_list xs

-- the declarations of a class
abbrev pub members_of : ClassDecl → List Decl
members_of (class_decl name pos base members tokens) = decl_list members
