-- The parts of trees that names are read from.
use Rattle.std.specs.Prelude.{ℕ, List, [], ◌∷◌, Option, None, Some}
use Rattle.gd_syntax.specs.declared.tree.decl.ClassDecl.{ClassDecl, out-ClassDecl}
use Rattle.gd_syntax.specs.declared.tree.decl.Decl.{Decl, out-Decl}
use Rattle.gd_syntax.specs.declared.tree.decl.DeclKind.{DeclKind}
use Rattle.gd_syntax.specs.declared.tree.expr.Expr.{Expr}
use Rattle.gd_syntax.specs.declared.tree.expr.ExprKind.{ExprKind}
use Rattle.gd_syntax.specs.declared.tree.expr.ExprKind.TheOpen.{ExprKind-F}

-- a text is its code points
abbrev pub Text : Type 0
Text = List ℕ

-- the files, each with the bytes of its path and its tree, by rising paths
abbrev pub Project : Type 0
Project = List (List ℕ × ClassDecl)

abbrev pub members_of : ClassDecl → List Decl
members_of c = (out-ClassDecl c).members

abbrev pub kind_of : Decl → DeclKind
kind_of x = (out-Decl x).kind

-- an expression, as `out-ExprKind` opens it
abbrev pub ExprLayer : Type 0
ExprLayer = ExprKind-F ExprKind Expr

abbrev pub list_of : {A : Type 0} → Option A → List A
list_of None = []
list_of (Some x) = x ∷ []
