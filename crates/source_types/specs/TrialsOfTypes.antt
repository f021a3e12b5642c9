-- Typed arrays, conditional expressions and casts tried, which ask whether types are one and what typed ones hold.
use Rattle.std.specs.Prelude.{◌≡◌, true, false, [], ◌∷◌, Option, None, Some, codes, option_map}
use Rattle.gd_model.specs.declared.ty.Ty.{Ty}
use Rattle.gd_model.specs.declared.ty.Ty.TheVariants as ty
use Rattle.syntax_trees.specs.Expressions.{Expr, expr, exprs}
use Rattle.syntax_trees.specs.Expressions as e
use Rattle.source_types.specs.Items.{settled}
use Rattle.source_types.specs.Judging.{judge}
use Rattle.source_types.specs.Scopes.{Scope, Seen}
use Rattle.source_types.specs.TrialsOfExpressions.{small}
use Rattle.source_types.specs.Words.{code, here, number, type, well, word}

-- a place of the type Array[int], and a local of it
abbrev pub ints : Ty
ints = ty.ArrayOf ty.Int

abbrev pub inside : Scope
inside = code small 1 false (record { name = codes "xs"; pos = here; typed = ints; is_constant = false } ∷ [])

abbrev pub type_for : Option Ty → Expr → Option Ty
type_for place x = option_map (λ (s : Seen). s.typed) (judge (settled small well) inside place x)

-- `[1]` as the value of such a place is an Array[int]
abbrev pub TypedLiteral : Type 0
TypedLiteral = type_for (Some ints) (expr here (e.array_lit (exprs (number 1 ∷ [])))) ≡ Some ints

-- `xs[0]` is an int
abbrev pub TypedElement : Type 0
TypedElement = type_for None (expr here (e.index (word (codes "xs")) (number 0))) ≡ Some ty.Int

-- `1 if true else 2` is an int
abbrev pub ChoosesSame : Type 0
ChoosesSame = type_for None (expr here (e.choose (number 1) (expr here (e.bool true)) (number 2))) ≡ Some ty.Int

-- `1 as int` is an int
abbrev pub CastsToSame : Type 0
CastsToSame = type_for None (expr here (e.cast (number 1) (type (codes "int")))) ≡ Some ty.Int
