-- Inference tried on small projects.
use Rattle.std.specs.Prelude.{◌≡◌, true, false, [], ◌∷◌, None, Some, map, codes}
use Rattle.gd_model.specs.declared.ty.Ty.TheVariants as ty
use Rattle.gd_syntax.specs.declared.operator.Operator.TheVariants as op
use Rattle.source_types.specs.Files.{project_of}
use Rattle.source_types.specs.Items.{is_cyclic, item_count, known, known_at, settled}
use Rattle.source_types.specs.Projects.{Project}
use Rattle.source_types.specs.Words.{attr, binary, call, class, constant, enum, function, infers, inner, item, number}
use Rattle.source_types.specs.Words.{type, value, value_is, variable, well, word, writes}

-- ---- var a := b + 1
-- ---- var b := LIMIT
-- ---- const LIMIT = 3
-- ---- enum Kind { TOOL, FOOD = LIMIT }
-- ---- var k := Kind.FOOD
-- ---- func f() -> String: ..
-- ---- var s := f()
-- ---- const BAD = f()
-- ---- var all := Kind

abbrev pub shop : Project
shop = project_of ((
  codes "a.gd",
  class None None
      (variable (infers (codes "a") (binary op.Add (word (codes "b")) (number 1)))
      ∷ variable (infers (codes "b") (word (codes "LIMIT")))
      ∷ constant (infers (codes "LIMIT") (number 3))
      ∷ enum (Some (codes "Kind")) (value (codes "TOOL") ∷ value_is (codes "FOOD") (word (codes "LIMIT")) ∷ [])
      ∷ variable (infers (codes "k") (attr (word (codes "Kind")) (codes "FOOD")))
      ∷ function false (codes "f") [] (Some (type (codes "String")))
      ∷ variable (infers (codes "s") (call (word (codes "f")) []))
      ∷ constant (infers (codes "BAD") (call (word (codes "f")) []))
      ∷ variable (infers (codes "all") (word (codes "Kind")))
      ∷ []),
) ∷ [])

abbrev pub HasItems : Type 0
HasItems = item_count shop ≡ 10

-- each has the type of its value; a call is not constant
abbrev pub InfersByNeed : Type 0
InfersByNeed = map (known shop well) (item 1 0 0 ∷ item 1 1 0 ∷ item 1 2 0 ∷ item 1 3 1 ∷ item 1 3 2 ∷ item 1 4 0 ∷ item 1 6 0
    ∷ item 1 7 0 ∷ item 1 8 0 ∷ [])
    ≡ Some ty.Int ∷ Some ty.Int ∷ Some ty.Int ∷ Some ty.Int ∷ Some ty.Int ∷ Some ty.Int ∷ Some ty.Str ∷ Some ty.Bad
    ∷ Some ty.Dict ∷ []

-- `a` needs `b`, and that one LIMIT: three steps
abbrev pub TakesThreeSteps : Type 0
TakesThreeSteps = map (λ depth. known_at shop well depth (item 1 0 0)) (1 ∷ 2 ∷ 3 ∷ []) ≡ None ∷ None ∷ Some ty.Int ∷ []

-- ---- var a := b
-- ---- var b := a
-- ---- var c := a
-- ---- var d: int = d
-- ---- var e := d

abbrev pub circle : Project
circle = project_of ((
  codes "a.gd",
  class None None
      (variable (infers (codes "a") (word (codes "b")))
      ∷ variable (infers (codes "b") (word (codes "a")))
      ∷ variable (infers (codes "c") (word (codes "a")))
      ∷ variable (writes (codes "d") (type (codes "int")) (word (codes "d")))
      ∷ variable (infers (codes "e") (word (codes "d")))
      ∷ []),
) ∷ [])

-- an item that needs itself, or one that does, is Bad (A11); a written type cuts such a circle
abbrev pub FindsCircle : Type 0
FindsCircle = map (is_cyclic circle well) (item 1 0 0 ∷ item 1 1 0 ∷ item 1 2 0 ∷ item 1 4 0 ∷ [])
    ≡ true ∷ true ∷ true ∷ false ∷ []

abbrev pub CircleIsBad : Type 0
CircleIsBad = map (settled circle well) (item 1 2 0 ∷ item 1 4 0 ∷ []) ≡ Some ty.Bad ∷ Some ty.Int ∷ []

-- ---- a.gd: class_name A
-- ----       extends B
-- ----       var x := y
-- ----       class In:
-- ----           var u := LIMIT
-- ----           var w := y
-- ---- b.gd: class_name B
-- ----       var y := "text"
-- ----       const LIMIT = 3

abbrev pub two_files : Project
two_files = project_of ((
  codes "a.gd",
  class (Some (codes "A")) (Some (codes "B"))
      (variable (infers (codes "x") (word (codes "y")))
      ∷ inner (class (Some (codes "In")) None
      (variable (infers (codes "u") (word (codes "LIMIT"))) ∷ variable (infers (codes "w") (word (codes "y"))) ∷ []))
      ∷ []),
)
    ∷ (
      codes "b.gd",
      class (Some (codes "B")) None
          (variable (infers (codes "y") (call (word (codes "str")) [])) ∷ constant (infers (codes "LIMIT") (number 3)) ∷ []),
    )
    ∷ [])

-- B is class 1, since A extends it, A is 2 and In 3. A finds the variable of its base. In finds the constant of the base
-- of the class around it, and no variable of an instance there
abbrev pub FindsAlongBases : Type 0
FindsAlongBases = map (known two_files well) (item 1 0 0 ∷ item 2 0 0 ∷ item 3 0 0 ∷ item 3 1 0 ∷ [])
    ≡ Some ty.Str ∷ Some ty.Str ∷ Some ty.Int ∷ Some ty.Bad ∷ []
