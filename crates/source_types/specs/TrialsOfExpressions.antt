-- Expressions tried at places of a small project.
use Rattle.std.specs.Prelude.{◌≡◌, ℕ, ◌+◌, List, true, false, [], ◌∷◌, Option, None, Some, map, codes, option_map, option_and_then}
use Rattle.gd_members.specs.declared.Found.{Found}
use Rattle.gd_members.specs.declared.Found.TheVariants as found
use Rattle.gd_model.specs.declared.ty.Ty.{Ty}
use Rattle.gd_model.specs.declared.ty.Ty.TheVariants as ty
use Rattle.gd_syntax.specs.declared.operator.Operator.TheVariants as op
use Rattle.syntax_trees.specs.Expressions.{Expr, expr, exprs}
use Rattle.syntax_trees.specs.Expressions as e
use Rattle.value_semantics.specs.BuiltinRows as rows
use Rattle.value_semantics.specs.declared.builtin.Builtin.{Builtin}
use Rattle.source_types.specs.Calls.{number_of}
use Rattle.source_types.specs.Files.{project_of}
use Rattle.source_types.specs.Items.{settled}
use Rattle.source_types.specs.Judging.{judge}
use Rattle.source_types.specs.Projects.{Project}
use Rattle.source_types.specs.Scopes.{Scope, Seen}
use Rattle.source_types.specs.Words.{attr, binary, call, class, code, enum, function, here, inner, number, type, value, variable, well, word, writes}

-- ---- class_name A
-- ---- var n: int = 1
-- ---- func f() -> String: ..
-- ---- static func g(): ..
-- ---- enum Kind { TOOL }
-- ---- class In:
-- ----     func _init(): ..
-- ----     var xs: Array = 1

abbrev pub small : Project
small = project_of ((
  codes "a.gd",
  class (Some (codes "A")) None
      (variable (writes (codes "n") (type (codes "int")) (number 1))
      ∷ function false (codes "f") [] (Some (type (codes "String")))
      ∷ function true (codes "g") [] None
      ∷ enum (Some (codes "Kind")) (value (codes "TOOL") ∷ [])
      ∷ inner (class (Some (codes "In")) None
      (function false (codes "_init") [] None
      ∷ variable (writes (codes "xs") (type (codes "Array")) (number 1)) ∷ []))
      ∷ []),
) ∷ [])

-- in a function of A, where `s` is a local String, and in a static one
abbrev pub inside : Scope
inside = code small 1 false (record { name = codes "s"; pos = here; typed = ty.Str; is_constant = false } ∷ [])

abbrev pub inside_static : Scope
inside_static = code small 1 true []

abbrev pub type_of : Scope → Expr → Option Ty
type_of c x = option_map (λ (s : Seen). s.typed) (judge (settled small well) c None x)

abbrev pub found_as : Scope → Expr → Option Found
found_as c x = option_and_then (λ (s : Seen). s.found) (judge (settled small well) c None x)

abbrev pub me : Expr
me = expr here e.me

-- ---- names: a member, a local, a function, an enum, a class, a builtin, and none (A09); in static code a member (A24)

abbrev pub TypesOfNames : Type 0
TypesOfNames = map (λ name. type_of inside (word name)) (codes "n" ∷ codes "s" ∷ codes "f" ∷ codes "Kind" ∷ codes "In"
    ∷ codes "TYPE_INT" ∷ codes "none" ∷ [])
    ≡ Some ty.Int ∷ Some ty.Str ∷ Some ty.Callable ∷ Some ty.Dict ∷ Some (ty.Meta 2) ∷ Some ty.Int ∷ Some ty.Bad ∷ []

abbrev pub FindsNames : Type 0
FindsNames = map (λ name. found_as inside (word name)) (codes "n" ∷ codes "s" ∷ codes "A" ∷ codes "print" ∷ codes "none" ∷ [])
    ≡ Some (found.Member (record { class = 1; index = 0 })) ∷ None ∷ Some (found.Class 1) ∷ Some (found.Builtin 0)
    ∷ Some found.Missing ∷ []

abbrev pub StaticHasNoInstance : Type 0
StaticHasNoInstance = (type_of inside_static (word (codes "n")) ≡ Some ty.Bad) × (type_of inside_static me ≡ Some ty.Bad)

-- ---- calls: self.f(), g(), In.new(), In.new().xs.size(), s.length(), print(), s()

abbrev pub TypesOfCalls : Type 0
TypesOfCalls = map (λ f. type_of inside (call f [])) (attr me (codes "f") ∷ word (codes "g") ∷ attr (word (codes "In")) (codes "new")
    ∷ attr (attr (call (attr (word (codes "In")) (codes "new")) []) (codes "xs")) (codes "size")
    ∷ attr (word (codes "s")) (codes "length") ∷ word (codes "print") ∷ word (codes "s") ∷ [])
    ≡ Some ty.Str ∷ Some ty.Variant ∷ Some (ty.Class 2) ∷ Some ty.Int ∷ Some ty.Int ∷ Some ty.Void ∷ Some ty.Bad ∷ []

-- ---- attributes: Kind.TOOL, In.xs (A25), self.none (A19), In.new().none (W1), s.none (A19)

abbrev pub TypesOfAttributes : Type 0
TypesOfAttributes = map (type_of inside) (attr (word (codes "Kind")) (codes "TOOL") ∷ attr (word (codes "In")) (codes "xs")
    ∷ attr me (codes "none") ∷ attr (call (attr (word (codes "In")) (codes "new")) []) (codes "none") ∷ [])
    ≡ Some ty.Int ∷ Some ty.Bad ∷ Some ty.Bad ∷ Some ty.Variant ∷ []

-- ---- operators: n + 1, n + s (A18), n < 1, g() + 1, print() + 1 (A29), [n], [none]

abbrev pub TypesOfOperators : Type 0
TypesOfOperators = map (type_of inside) (binary op.Add (word (codes "n")) (number 1) ∷ binary op.Add (word (codes "n")) (word (codes "s"))
    ∷ binary op.Less (word (codes "n")) (number 1) ∷ binary op.Add (call (word (codes "g")) []) (number 1)
    ∷ binary op.Add (call (word (codes "print")) []) (number 1) ∷ expr here (e.array_lit (exprs (word (codes "n") ∷ [])))
    ∷ expr here (e.array_lit (exprs (word (codes "none") ∷ []))) ∷ [])
    ≡ Some ty.Int ∷ Some ty.Bad ∷ Some ty.Bool ∷ Some ty.Variant ∷ Some ty.Bad ∷ Some ty.Array ∷ Some ty.Bad ∷ []

-- ---- the numbers of builtins are their places among all of them

abbrev pub places_from : ℕ → List Builtin → List ℕ
places_from place [] = []
places_from place (x ∷ xs) = place ∷ places_from (place + 1) xs

abbrev pub NumbersBuiltins : Type 0
NumbersBuiltins = map (λ x. number_of (rows.row_of x)) rows.all ≡ places_from 0 rows.all
