-- The rows of the operators say what the definition does.
use Rattle.std.proofs.Common.{◌≡◌, Bool, true, false, ◌||◌, is_some, Option, None, Some, refl, ap, ◌∙◌, if◌then◌else◌}
use Rattle.gd_syntax.specs.declared.operator.Operator.{Operator}
use Rattle.gd_syntax.specs.declared.operator.Operator.TheVariants.{Power, Multiply, Divide, Remainder, Add, Subtract, ShiftLeft, ShiftRight, BitAnd, BitXor, BitOr, Equal, NotEqual, Less, LessEqual, Greater, GreaterEqual, In, NotIn, Negate, Plus, Complement, Not}
use Rattle.value_semantics.specs.declared.kind.Kind.{Kind}
use Rattle.value_semantics.specs.declared.kind.Kind.TheVariants as k
use Rattle.value_semantics.specs.declared.rows.Given.{Given}
use Rattle.value_semantics.specs.declared.rows.Given.TheVariants as g
use Rattle.value_semantics.specs.declared.rows.Operands.TheVariants as o
use Rattle.value_semantics.specs.Kinds.{ints, texts, arrays, pattern, alike, inside, one_int, takes, is_unary, is_test, by_kinds, type_by_left}
use Rattle.value_semantics.specs.OperatorRows.{row_of, fits, first_given, of_one_type}

pub unary_by_table : (op : Operator) → (row_of op).is_unary ≡ is_unary op
unary_by_table Power = refl
unary_by_table Multiply = refl
unary_by_table Divide = refl
unary_by_table Remainder = refl
unary_by_table Add = refl
unary_by_table Subtract = refl
unary_by_table ShiftLeft = refl
unary_by_table ShiftRight = refl
unary_by_table BitAnd = refl
unary_by_table BitXor = refl
unary_by_table BitOr = refl
unary_by_table Equal = refl
unary_by_table NotEqual = refl
unary_by_table Less = refl
unary_by_table LessEqual = refl
unary_by_table Greater = refl
unary_by_table GreaterEqual = refl
unary_by_table In = refl
unary_by_table NotIn = refl
unary_by_table Negate = refl
unary_by_table Plus = refl
unary_by_table Complement = refl
unary_by_table Not = refl

pub unknown_by_table : (op : Operator) → (row_of op).unknown ≡ (if is_test op then g.Bool else g.Variant)
unknown_by_table Power = refl
unknown_by_table Multiply = refl
unknown_by_table Divide = refl
unknown_by_table Remainder = refl
unknown_by_table Add = refl
unknown_by_table Subtract = refl
unknown_by_table ShiftLeft = refl
unknown_by_table ShiftRight = refl
unknown_by_table BitAnd = refl
unknown_by_table BitXor = refl
unknown_by_table BitOr = refl
unknown_by_table Equal = refl
unknown_by_table NotEqual = refl
unknown_by_table Less = refl
unknown_by_table LessEqual = refl
unknown_by_table Greater = refl
unknown_by_table GreaterEqual = refl
unknown_by_table In = refl
unknown_by_table NotIn = refl
unknown_by_table Negate = refl
unknown_by_table Plus = refl
unknown_by_table Complement = refl
unknown_by_table Not = refl

-- one case, two and three
one_case : (x : Bool) (g : Given) → is_some (if x then Some g else None) ≡ x
one_case true g = refl
one_case false g = refl

more_cases : (x t : Bool) (g : Given) (rest : Option Given) → is_some rest ≡ t → is_some (if x then Some g else rest) ≡ (x || t)
more_cases true t g rest e = refl
more_cases false t g rest e = e

any_of_three : (x y z : Bool) → (x || (y || z)) ≡ (x || y || z)
any_of_three true y z = refl
any_of_three false y z = refl

-- an element or a key
inside_cases : (a b : Kind) → (fits o.Element a b || fits o.Key a b) ≡ inside a b
inside_cases a k.Array = refl
inside_cases a k.Dict = refl
inside_cases a _ = refl

pub takes_by_table : (op : Operator) (a b : Kind) → is_some (first_given (row_of op).cases a b) ≡ takes op a b
takes_by_table Power a b = one_case (ints a b) g.Int
takes_by_table Multiply a b = one_case (ints a b) g.Int
takes_by_table Divide a b = one_case (ints a b) g.Int
takes_by_table Remainder a b = more_cases (ints a b) (pattern a) g.Int _ (one_case (pattern a) g.Str)
takes_by_table Add a b = more_cases (ints a b) (texts a b || arrays a b) g.Int _ (more_cases (texts a b) (arrays a b) g.Str _ (one_case (arrays a b) g.Array)) ∙ any_of_three (ints a b) (texts a b) (arrays a b)
takes_by_table Subtract a b = one_case (ints a b) g.Int
takes_by_table ShiftLeft a b = one_case (ints a b) g.Int
takes_by_table ShiftRight a b = one_case (ints a b) g.Int
takes_by_table BitAnd a b = one_case (ints a b) g.Int
takes_by_table BitXor a b = one_case (ints a b) g.Int
takes_by_table BitOr a b = one_case (ints a b) g.Int
takes_by_table Equal a b = one_case (alike a b) g.Bool
takes_by_table NotEqual a b = one_case (alike a b) g.Bool
takes_by_table Less a b = more_cases (ints a b) (texts a b) g.Bool _ (one_case (texts a b) g.Bool)
takes_by_table LessEqual a b = more_cases (ints a b) (texts a b) g.Bool _ (one_case (texts a b) g.Bool)
takes_by_table Greater a b = more_cases (ints a b) (texts a b) g.Bool _ (one_case (texts a b) g.Bool)
takes_by_table GreaterEqual a b = more_cases (ints a b) (texts a b) g.Bool _ (one_case (texts a b) g.Bool)
takes_by_table In a b = more_cases (texts a b) (inside a b) g.Bool _ (more_cases (fits o.Element a b) (fits o.Key a b) g.Bool _ (one_case (fits o.Key a b) g.Bool) ∙ inside_cases a b)
takes_by_table NotIn a b = more_cases (texts a b) (inside a b) g.Bool _ (more_cases (fits o.Element a b) (fits o.Key a b) g.Bool _ (one_case (fits o.Key a b) g.Bool) ∙ inside_cases a b)
takes_by_table Negate a b = one_case (one_int a) g.Int
takes_by_table Plus a b = one_case (one_int a) g.Int
takes_by_table Complement a b = one_case (one_int a) g.Int
takes_by_table Not a b = refl

-- what is given where one case or the ones behind it take the operands
step_one : (x same : Bool) (g w : Given) → (x ≡ true → of_one_type (Some g) same ≡ Some w) → of_one_type (if x then Some g else None) same ≡ (if x then Some w else None)
step_one true same g w p = p refl
step_one false same g w p = refl

step_more : (x t same : Bool) (g w : Given) (rest : Option Given) → (x ≡ true → of_one_type (Some g) same ≡ Some w) → of_one_type rest same ≡ (if t then Some w else None) → of_one_type (if x then Some g else rest) same ≡ (if x || t then Some w else None)
step_more true t same g w rest p q = p refl
step_more false t same g w rest p q = q

-- an operator other than a test gives what its left operand says
left_ints : (a b : Kind) (same : Bool) → ints a b ≡ true → of_one_type (Some g.Int) same ≡ Some (type_by_left a same)
left_ints k.Int b same e = refl
left_ints _ b same e = cc

left_texts : (a b : Kind) (same : Bool) → texts a b ≡ true → of_one_type (Some g.Str) same ≡ Some (type_by_left a same)
left_texts k.Str b same e = refl
left_texts _ b same e = cc

left_pattern : (a : Kind) (same : Bool) → pattern a ≡ true → of_one_type (Some g.Str) same ≡ Some (type_by_left a same)
left_pattern k.Str same e = refl
left_pattern _ same e = cc

left_arrays : (a b : Kind) (same : Bool) → arrays a b ≡ true → of_one_type (Some g.Array) same ≡ Some (type_by_left a same)
left_arrays k.Array b true e = refl
left_arrays k.Array b false e = refl
left_arrays _ b same e = cc

left_int : (a : Kind) (same : Bool) → one_int a ≡ true → of_one_type (Some g.Int) same ≡ Some (type_by_left a same)
left_int k.Int same e = refl
left_int _ same e = cc

pub known_by_table : (op : Operator) (a b : Kind) (same : Bool) → of_one_type (first_given (row_of op).cases a b) same ≡ by_kinds op (Some a) (Some b) same
known_by_table Power a b same = step_one (ints a b) same g.Int (type_by_left a same) (left_ints a b same)
known_by_table Multiply a b same = step_one (ints a b) same g.Int (type_by_left a same) (left_ints a b same)
known_by_table Divide a b same = step_one (ints a b) same g.Int (type_by_left a same) (left_ints a b same)
known_by_table Remainder a b same = step_more (ints a b) (pattern a) same g.Int (type_by_left a same) _ (left_ints a b same) (step_one (pattern a) same g.Str (type_by_left a same) (left_pattern a same))
known_by_table Add a b same = step_more (ints a b) (texts a b || arrays a b) same g.Int (type_by_left a same) _ (left_ints a b same) (step_more (texts a b) (arrays a b) same g.Str (type_by_left a same) _ (left_texts a b same) (step_one (arrays a b) same g.Array (type_by_left a same) (left_arrays a b same))) ∙ ap (λ x. if x then Some (type_by_left a same) else None) (any_of_three (ints a b) (texts a b) (arrays a b))
known_by_table Subtract a b same = step_one (ints a b) same g.Int (type_by_left a same) (left_ints a b same)
known_by_table ShiftLeft a b same = step_one (ints a b) same g.Int (type_by_left a same) (left_ints a b same)
known_by_table ShiftRight a b same = step_one (ints a b) same g.Int (type_by_left a same) (left_ints a b same)
known_by_table BitAnd a b same = step_one (ints a b) same g.Int (type_by_left a same) (left_ints a b same)
known_by_table BitXor a b same = step_one (ints a b) same g.Int (type_by_left a same) (left_ints a b same)
known_by_table BitOr a b same = step_one (ints a b) same g.Int (type_by_left a same) (left_ints a b same)
known_by_table Equal a b same = step_one (alike a b) same g.Bool g.Bool (λ _. refl)
known_by_table NotEqual a b same = step_one (alike a b) same g.Bool g.Bool (λ _. refl)
known_by_table Less a b same = step_more (ints a b) (texts a b) same g.Bool g.Bool _ (λ _. refl) (step_one (texts a b) same g.Bool g.Bool (λ _. refl))
known_by_table LessEqual a b same = step_more (ints a b) (texts a b) same g.Bool g.Bool _ (λ _. refl) (step_one (texts a b) same g.Bool g.Bool (λ _. refl))
known_by_table Greater a b same = step_more (ints a b) (texts a b) same g.Bool g.Bool _ (λ _. refl) (step_one (texts a b) same g.Bool g.Bool (λ _. refl))
known_by_table GreaterEqual a b same = step_more (ints a b) (texts a b) same g.Bool g.Bool _ (λ _. refl) (step_one (texts a b) same g.Bool g.Bool (λ _. refl))
known_by_table In a b same = step_more (texts a b) (inside a b) same g.Bool g.Bool _ (λ _. refl) (step_more (fits o.Element a b) (fits o.Key a b) same g.Bool g.Bool _ (λ _. refl) (step_one (fits o.Key a b) same g.Bool g.Bool (λ _. refl)) ∙ ap (λ x. if x then Some g.Bool else None) (inside_cases a b))
known_by_table NotIn a b same = step_more (texts a b) (inside a b) same g.Bool g.Bool _ (λ _. refl) (step_more (fits o.Element a b) (fits o.Key a b) same g.Bool g.Bool _ (λ _. refl) (step_one (fits o.Key a b) same g.Bool g.Bool (λ _. refl)) ∙ ap (λ x. if x then Some g.Bool else None) (inside_cases a b))
known_by_table Negate a b same = step_one (one_int a) same g.Int (type_by_left a same) (left_int a same)
known_by_table Plus a b same = step_one (one_int a) same g.Int (type_by_left a same) (left_int a same)
known_by_table Complement a b same = step_one (one_int a) same g.Int (type_by_left a same) (left_int a same)
known_by_table Not a b same = refl
