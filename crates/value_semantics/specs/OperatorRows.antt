-- The rows of the operators.
use Rattle.std.specs.Prelude.{Bool, true, false, List, [], ◌∷◌, map, Option, None, Some, if◌then◌else◌}
use Rattle.gd_syntax.specs.declared.operator.Operator.{Operator}
use Rattle.gd_syntax.specs.declared.operator.Operator.TheVariants.{Power, Multiply, Divide, Remainder, Add, Subtract, ShiftLeft, ShiftRight, BitAnd, BitXor, BitOr, Equal, NotEqual, Less, LessEqual, Greater, GreaterEqual, In, NotIn, Negate, Plus, Complement, Not}
use Rattle.value_semantics.specs.declared.kind.Kind.{Kind}
use Rattle.value_semantics.specs.declared.kind.Kind.TheVariants as k
use Rattle.value_semantics.specs.declared.rows.Given.{Given}
use Rattle.value_semantics.specs.declared.rows.Given.TheVariants as g
use Rattle.value_semantics.specs.declared.rows.Operands.{Operands}
use Rattle.value_semantics.specs.declared.rows.Operands.TheVariants as o
use Rattle.value_semantics.specs.declared.rows.OperatorRow.{OperatorRow}
use Rattle.value_semantics.specs.Kinds.{ints, texts, arrays, pattern, alike, is_key, one_int}

-- an operator: whether it stands before one operand, the operands that it takes with what it gives for each, and what it
-- gives where an operand may be of any kind
pub record Row : Type 0 where
  pub operator : Operator
  pub is_unary : Bool
  pub cases : List (Operands × Given)
  pub unknown : Given

-- a row as the code has it
abbrev pub seen : OperatorRow → Row
seen r = record { operator = r.operator; is_unary = r.is_unary; cases = map (λ c. (c.operands, c.gives)) r.cases.now; unknown = r.unknown }

abbrev pub between : Operator → Given → List (Operands × Given) → Row
between op unknown cases = record { operator = op; is_unary = false; cases = cases; unknown = unknown }

abbrev pub before : Operator → Given → List (Operands × Given) → Row
before op unknown cases = record { operator = op; is_unary = true; cases = cases; unknown = unknown }

-- the row of each operator
abbrev pub row_of : Operator → Row
row_of Power = between Power g.Variant ((o.Ints, g.Int) ∷ [])
row_of Multiply = between Multiply g.Variant ((o.Ints, g.Int) ∷ [])
row_of Divide = between Divide g.Variant ((o.Ints, g.Int) ∷ [])
row_of Remainder = between Remainder g.Variant ((o.Ints, g.Int) ∷ (o.Pattern, g.Str) ∷ [])
row_of Add = between Add g.Variant ((o.Ints, g.Int) ∷ (o.Strings, g.Str) ∷ (o.Arrays, g.Array) ∷ [])
row_of Subtract = between Subtract g.Variant ((o.Ints, g.Int) ∷ [])
row_of ShiftLeft = between ShiftLeft g.Variant ((o.Ints, g.Int) ∷ [])
row_of ShiftRight = between ShiftRight g.Variant ((o.Ints, g.Int) ∷ [])
row_of BitAnd = between BitAnd g.Variant ((o.Ints, g.Int) ∷ [])
row_of BitXor = between BitXor g.Variant ((o.Ints, g.Int) ∷ [])
row_of BitOr = between BitOr g.Variant ((o.Ints, g.Int) ∷ [])
row_of Equal = between Equal g.Bool ((o.Alike, g.Bool) ∷ [])
row_of NotEqual = between NotEqual g.Bool ((o.Alike, g.Bool) ∷ [])
row_of Less = between Less g.Bool ((o.Ints, g.Bool) ∷ (o.Strings, g.Bool) ∷ [])
row_of LessEqual = between LessEqual g.Bool ((o.Ints, g.Bool) ∷ (o.Strings, g.Bool) ∷ [])
row_of Greater = between Greater g.Bool ((o.Ints, g.Bool) ∷ (o.Strings, g.Bool) ∷ [])
row_of GreaterEqual = between GreaterEqual g.Bool ((o.Ints, g.Bool) ∷ (o.Strings, g.Bool) ∷ [])
row_of In = between In g.Bool ((o.Strings, g.Bool) ∷ (o.Element, g.Bool) ∷ (o.Key, g.Bool) ∷ [])
row_of NotIn = between NotIn g.Bool ((o.Strings, g.Bool) ∷ (o.Element, g.Bool) ∷ (o.Key, g.Bool) ∷ [])
row_of Negate = before Negate g.Variant ((o.OneInt, g.Int) ∷ [])
row_of Plus = before Plus g.Variant ((o.OneInt, g.Int) ∷ [])
row_of Complement = before Complement g.Variant ((o.OneInt, g.Int) ∷ [])
row_of Not = before Not g.Bool ((o.One, g.Bool) ∷ [])

-- whether operands of these kinds are such
abbrev pub fits : Operands → Kind → Kind → Bool
fits o.Ints a b = ints a b
fits o.Strings a b = texts a b
fits o.Arrays a b = arrays a b
fits o.Pattern a b = pattern a
fits o.Alike a b = alike a b
fits o.Element a k.Array = true
fits o.Element a b = false
fits o.Key a k.Dict = is_key a
fits o.Key a b = false
fits o.OneInt a b = one_int a
fits o.One a b = true

-- what is given by the first case that takes operands of these kinds
abbrev pub first_given : List (Operands × Given) → Kind → Kind → Option Given
first_given [] a b = None
first_given (c ∷ rest) a b = if fits c.0 a b then Some c.1 else first_given rest a b

-- arrays of one type give one of that type
abbrev pub of_one_type : Option Given → Bool → Option Given
of_one_type (Some g.Array) true = Some g.Left
of_one_type given same = given
