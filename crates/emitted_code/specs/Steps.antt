-- Instructions that name things as the source does, and lead on by how many instructions lie between.
use Rattle.std.specs.Prelude.{ℕ, ◌+◌, nat_lt, ◌==◌, List, [], ◌∷◌, length, if◌then◌else◌}
use Rattle.gd_bytecode.specs.declared.opcode.Opcode.{Opcode}
use Rattle.gd_bytecode.specs.declared.opcode.Opcode.TheVariants as op
use Rattle.gd_members.specs.declared.MemberId.{MemberId}
use Rattle.gd_model.specs.Datum.{Datum}
use Rattle.gd_model.specs.declared.ty.Ty.{Ty}
use Rattle.gd_model.specs.declared.ty.Ty.TheVariants as ty
use Rattle.gd_syntax.specs.declared.operator.Operator.{Operator}
use Rattle.gd_syntax.specs.declared.operator.Operator.TheVariants as operator
use Rattle.gd_syntax.specs.declared.pos.Pos.{Pos}
use Rattle.syntax_trees.specs.Expressions.{Text}

-- A function of a program, by what it is made of: a declared one, the body of the setter or the getter of a variable,
-- and the initial values of a class, of its static variables or of the others.
pub data Key : Type 0 where
  declared : MemberId → Key
  setter : MemberId → Key
  getter : MemberId → Key
  initial : ℕ → Key
  static_initial : ℕ → Key

pub data Does : Type 0 where
  -- an operation with two numbers that mean themselves
  plain : Opcode → ℕ → ℕ → Does
  -- a value of the source is put on the stack
  push : Datum → Does
  -- a jump, with its first number, over so many of the instructions that follow
  over : Opcode → ℕ → ℕ → Does
  -- a jump to so many instructions before
  back : Opcode → ℕ → Does
  -- jumps out of the loop around and to its next turn: the loop says where that is
  out : Does
  again : Does
  -- jumps to a node of the `match` around, by its number, and to its end: the `match` says where that is
  to : Opcode → ℕ → Does
  ended : Does
  -- an operation with a name
  named : Opcode → Text → Does
  -- with a name and a class
  static : Opcode → Text → ℕ → Does
  -- a call with so many arguments: of a method, and of a function that is known
  call : ℕ → Text → Does
  direct : ℕ → Key → Does
  -- a static function as a Callable
  func : Key → Does
  -- an operation with a type, and a literal of so many parts with one
  typed : Opcode → Ty → Does
  made : Opcode → ℕ → Ty → Does

-- with the place that its faults name
pub record Step : Type 0 where
  pub does : Does
  pub at : Pos

abbrev pub Code : Type 0
Code = List Step

abbrev pub step : Pos → Does → Code
step pos does = record { does = does; at = pos } ∷ []

-- ---- instructions that stand only where they do something

-- so many entries of the stack are given up together
abbrev pub give_up : Pos → ℕ → Code
give_up pos n = if n == 0 then [] else step pos (plain op.Drop n 0)

-- the locals from one slot to another become unset together
abbrev pub clear : Pos → ℕ → ℕ → Code
clear pos first end = if nat_lt first end then step pos (plain op.Clear first end) else []

-- the top is tested against a type, unless every value fits
abbrev pub test : Pos → Ty → Code
test pos ty.Variant = []
test pos t = step pos (typed op.Test t)

-- ---- the jumps out of the body of a loop

abbrev pub led : ℕ → ℕ → Does → Does
led next behind again = over op.Jump 0 next
led next behind out = over op.Jump 0 behind
led next behind other = other

-- The body of a loop whose next turn begins so many instructions behind it, and which is left so many behind it.
abbrev pub closed : ℕ → ℕ → Code → Code
closed next behind [] = []
closed next behind (s ∷ ss) =
    record s { does = led (length ss + next) (length ss + behind) s.does } ∷ closed next behind ss

-- ---- operators by their numbers

abbrev pub operator_number : Operator → ℕ
operator_number operator.Power = 0
operator_number operator.Multiply = 1
operator_number operator.Divide = 2
operator_number operator.Remainder = 3
operator_number operator.Add = 4
operator_number operator.Subtract = 5
operator_number operator.ShiftLeft = 6
operator_number operator.ShiftRight = 7
operator_number operator.BitAnd = 8
operator_number operator.BitXor = 9
operator_number operator.BitOr = 10
operator_number operator.Equal = 11
operator_number operator.NotEqual = 12
operator_number operator.Less = 13
operator_number operator.LessEqual = 14
operator_number operator.Greater = 15
operator_number operator.GreaterEqual = 16
operator_number operator.In = 17
operator_number operator.NotIn = 18
operator_number operator.Negate = 19
operator_number operator.Plus = 20
operator_number operator.Complement = 21
operator_number operator.Not = 22

-- an operator on the values on the top
abbrev pub operate : Pos → Operator → Code
operate pos o = step pos (plain op.Op (operator_number o) 0)
