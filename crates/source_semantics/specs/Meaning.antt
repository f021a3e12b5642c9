-- What an evaluation is given: the project, the running function, and what entering a function means with fewer turns.
use Rattle.std.specs.Prelude.{ℕ, List, Option, None, Some, map}
use Rattle.gd_model.specs.Datum.{Datum}
use Rattle.gd_model.specs.declared.ty.Ty.{Ty}
use Rattle.gd_syntax.specs.declared.pos.Pos.{Pos}
use Rattle.syntax_trees.specs.Declarations.{Function}
use Rattle.syntax_trees.specs.Expressions.{Expr, Text}
use Rattle.syntax_trees.specs.Statements.{Stmts, Variable}
use Rattle.source_semantics.specs.Project.{Project, accessed_by}
use Rattle.source_semantics.specs.State.{Run, Went}

-- the running function: its receiver, the class that it stands in, how many calls stand, the type that it returns, and
-- the variables whose bare names are the variables themselves, in an accessor
pub record Frame : Type 0 where
  pub receiver : Option Datum
  pub class : ℕ
  pub depth : ℕ
  pub returns : Ty
  pub direct : List Text

-- a parameter: its name with the place, its type, and its default value with the place of its `=`
pub record Parameter : Type 0 where
  pub name : Text
  pub at : Pos
  pub takes : Ty
  pub default : Option (Pos × Expr)

-- a function with its body, or an accessor with one
pub record Code : Type 0 where
  pub class : ℕ
  pub parameters : List Parameter
  pub returns : Ty
  pub body : Stmts
  pub direct : List Text

abbrev pub default_of : Option Pos → Option Expr → Option (Pos × Expr)
default_of (Some equals) (Some value) = Some (equals, value)
default_of _ _ = None

abbrev pub parameter_of : Project → Variable → Parameter
parameter_of p v = record {
  name = v.name;
  at = v.pos;
  takes = p.place_type v.pos;
  default = default_of v.equals v.value;
}

-- a function as it is called
abbrev pub code_of : Project → ℕ × Function → Code
code_of p f = record {
  class = f.0;
  parameters = map (parameter_of p) f.1.params;
  returns = p.returns f.1.pos;
  body = f.1.body;
  direct = accessed_by p f.0 f.1.name;
}

-- Entering a function, when the arguments are tested: what it is entered on and with, how many calls stand, the place
-- of the call, and what is held beside receiver and arguments. It gives the function's result.
pub record Entry : Type 0 where
  pub code : Code
  pub receiver : Option Datum
  pub arguments : List Datum
  pub depth : ℕ
  pub pos : Pos

-- Making an object of a class: the arguments, how many calls stand, and the place of `new`.
pub record Making : Type 0 where
  pub class : ℕ
  pub arguments : List Datum
  pub depth : ℕ
  pub pos : Pos

-- what entering and making mean, over the values that are held meanwhile
pub record Meaning : Type 0 where
  pub enter : Entry → List Datum → Run → Went Datum
  pub make : Making → List Datum → Run → Went Datum
