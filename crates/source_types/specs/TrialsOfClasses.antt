-- Classes tried: bases, `super`, constants that hold a class, and types that are written through one.
use Rattle.std.specs.Prelude.{◌≡◌, true, false, [], ◌∷◌, Option, None, Some, map, codes, option_map, Bool}
use Rattle.gd_model.specs.declared.ty.Ty.{Ty}
use Rattle.gd_model.specs.declared.ty.Ty.TheVariants as ty
use Rattle.gd_syntax.specs.declared.operator.Operator.TheVariants as op
use Rattle.syntax_trees.specs.Expressions.{Expr, Text, expr, exprs, pairs}
use Rattle.syntax_trees.specs.Expressions as e
use Rattle.source_types.specs.Files.{project_of}
use Rattle.source_types.specs.Items.{known, settled}
use Rattle.source_types.specs.Judging.{judge}
use Rattle.source_types.specs.Projects.{Project}
use Rattle.source_types.specs.Scopes.{Seen}
use Rattle.source_types.specs.Words.{attr, binary, call, class, code, constant, enum, function, here}
use Rattle.source_types.specs.Words.{infers, item, number, type, value, value_is, variable, well, word, writes}

-- ---- a.gd: extends Base
-- ----       const B = preload("b.gd")
-- ----       var b: B = null
-- ----       enum { X, Y = X }
-- ----       var k := b.y
-- ----       var m := B.LIMIT
-- ----       const C: int = C
-- ----       func f() -> int: ..
-- ---- b.gd: class_name Base
-- ----       const LIMIT = "text"
-- ----       var y: Array = null
-- ----       func f() -> String: ..

abbrev pub preloads : Text → Expr
preloads path = expr here (e.preload path)

abbrev pub derived : Project
derived = project_of ((
  codes "a.gd",
  class None (Some (codes "Base"))
      (constant (record (infers (codes "B") (preloads (codes "b.gd"))) { inferred = false })
      ∷ variable (writes (codes "b") (type (codes "B")) (expr here e.null))
      ∷ enum None (value (codes "X") ∷ value_is (codes "Y") (word (codes "X")) ∷ [])
      ∷ variable (infers (codes "k") (attr (word (codes "b")) (codes "y")))
      ∷ variable (infers (codes "m") (attr (word (codes "B")) (codes "LIMIT")))
      ∷ constant (writes (codes "C") (type (codes "int")) (word (codes "C")))
      ∷ function false (codes "f") [] (Some (type (codes "int")))
      ∷ []),
)
    ∷ (
      codes "b.gd",
      class (Some (codes "Base")) None
          (constant (record (infers (codes "LIMIT") (expr here (e.str (codes "text")))) { inferred = false })
          ∷ variable (writes (codes "y") (type (codes "Array")) (expr here e.null))
          ∷ function false (codes "f") [] (Some (type (codes "String")))
          ∷ []),
    )
    ∷ [])

-- Base is class 1, since the other one extends it. The value of a constant is needed also where its type is written, so C
-- needs itself
abbrev pub HoldsBase : Type 0
HoldsBase = map (known derived well) (item 2 0 0 ∷ item 2 2 1 ∷ item 2 2 2 ∷ item 2 3 0 ∷ item 2 4 0 ∷ item 2 5 0 ∷ [])
    ≡ Some (ty.Meta 1) ∷ Some ty.Int ∷ Some ty.Int ∷ Some ty.Array ∷ Some ty.Str ∷ None ∷ []

abbrev pub type_in : Bool → Expr → Option Ty
type_in is_static x =
    option_map (λ (s : Seen). s.typed) (judge (settled derived well) (code derived 2 is_static []) None x)

-- super.f(), self.f(), preload("b.gd"), preload("c.gd") (A01), {1: 2}, not b, b == null, b
abbrev pub TypesInDerived : Type 0
TypesInDerived = map (type_in false) (expr here (e.super here (Some (codes "f")) (exprs [])) ∷ call (attr (expr here e.me) (codes "f")) []
    ∷ preloads (codes "b.gd") ∷ preloads (codes "c.gd") ∷ expr here (e.dict_lit (pairs ((number 1, number 2) ∷ [])))
    ∷ expr here (e.unary op.Not (word (codes "b"))) ∷ binary op.Equal (word (codes "b")) (expr here e.null) ∷ word (codes "b") ∷ [])
    ≡ Some ty.Str ∷ Some ty.Int ∷ Some (ty.Meta 1) ∷ Some ty.Bad ∷ Some ty.Dict ∷ Some ty.Bool ∷ Some ty.Bool ∷ Some (ty.Class 1) ∷ []

-- `super` in static code (A24)
abbrev pub NoStaticSuper : Type 0
NoStaticSuper = type_in true (expr here (e.super here (Some (codes "f")) (exprs []))) ≡ Some ty.Bad
