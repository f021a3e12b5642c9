-- Where code stands: the project with what the analysis says of it, the class, and the locals that are in force.
use Rattle.std.specs.Prelude.{ℕ, ◌+◌, Bool, false, ◌||◌, List, [], ◌∷◌, Option, None, Some, is_some, bytes_eq, if◌then◌else◌}
use Rattle.std.specs.List.{list_any}
use Rattle.gd_members.specs.declared.Found.{Found}
use Rattle.gd_model.specs.Datum.{Datum}
use Rattle.gd_model.specs.declared.ty.Ty.{Ty}
use Rattle.gd_syntax.specs.declared.pos.Pos.{Pos}
use Rattle.syntax_trees.specs.Expressions.{Expr, Text, place}
use Rattle.source_semantics.specs.Expressions.{class_meant}
use Rattle.source_semantics.specs.Project.{Project}

-- a local: its slot, or the value of a constant
pub data Local : Type 0 where
  slot : ℕ → Local
  constant : Datum → Local

pub record Scene : Type 0 where
  pub project : Project
  -- the class in which the code stands
  pub class : ℕ
  -- the variables whose bare names are the variables themselves, in an accessor
  pub direct : List Text
  -- the locals by name, the latest first
  pub names : List (Text × Local)
  -- the slot of the next local
  pub next : ℕ

abbrev pub local_in : Text → List (Text × Local) → Option Local
local_in name [] = None
local_in name (x ∷ xs) = if bytes_eq x.0 name then Some x.1 else local_in name xs

abbrev pub local : Scene → Text → Option Local
local c name = local_in name c.names

-- one more local, in the next slot
abbrev pub declare : Text → Scene → Scene
declare name c = record c { names = (name, slot c.next) ∷ c.names; next = c.next + 1 }

abbrev pub declare_constant : Text → Datum → Scene → Scene
declare_constant name v c = record c { names = (name, constant v) ∷ c.names }

abbrev pub is_direct : Scene → Text → Bool
is_direct c name = list_any (bytes_eq name) c.direct

-- what the name, the attribute or the call at a place means, a local aside
abbrev pub found : Scene → Pos → Found
found c pos = c.project.found pos

-- the type of an expression, or of what is assigned to there
abbrev pub type_of : Scene → Expr → Ty
type_of c x = c.project.typed (place x)

-- whether an expression stands for a class
abbrev pub is_class : Scene → Expr → Bool
is_class c x = is_some (class_meant c.project x)
