-- Where an expression stands, and what its names are seen to be.
use Rattle.std.specs.Prelude.{ℕ, Bool, List, [], ◌∷◌, Option, None, Some, bytes_eq, if◌then◌else◌}
use Rattle.gd_members.specs.declared.Found.{Found}
use Rattle.gd_members.specs.declared.Item.{Item}
use Rattle.gd_members.specs.declared.MemberId.{MemberId}
use Rattle.gd_model.specs.declared.ty.Ty.{Ty}
use Rattle.gd_syntax.specs.declared.pos.Pos.{Pos}
use Rattle.gd_typing.specs.declared.verdict.Verdict.{Verdict}
use Rattle.syntax_trees.specs.Expressions.{Text}
use Rattle.source_types.specs.Projects.{Project}

-- a local variable, a parameter, a loop variable, a binding or a local constant: its name with the place, and its type
pub record Local : Type 0 where
  pub name : Text
  pub pos : Pos
  pub typed : Ty
  pub is_constant : Bool

-- What the values of constants say of types: whether the making of an item's value comes to a fault (A43) or to no value,
-- or to no int where it is that of an enum; the same of the local constant whose name stands at a place; and whether the
-- literal at a place repeats a constant key (A35).
pub record Made : Type 0 where
  pub goes_wrong : Item → Bool
  pub goes_wrong_at : Pos → Bool
  pub repeats_key : Pos → Bool

-- Where an expression stands: its class, whether in a static function, a static initial value, a constant or the value of
-- an enum, the name of the function around it, and the locals in force, the innermost first.
pub record Scope : Type 0 where
  pub project : Project
  pub made : Made
  pub class : ℕ
  pub is_static : Bool
  pub function : Option Text
  pub locals : List Local
  -- the types of parameters that are declared by `:=`, by the function and the place among its parameters; none are known
  -- while items are typed
  pub parameters : MemberId → ℕ → Option Ty

-- the types of items, as far as they are known
abbrev pub Items : Type 0
Items = Item → Option Ty

-- the local that a name means
abbrev pub local_in : Text → List Local → Option Local
local_in name [] = None
local_in name (x ∷ xs) = if bytes_eq x.name name then Some x else local_in name xs

-- what an expression is seen to be: its type; what its name, its attribute or what it calls was found to be, none for a
-- local and where that is not known before a run; and the local that its name means
pub record Seen : Type 0 where
  pub typed : Ty
  pub found : Option Found
  pub local : Option Local

-- no name
abbrev pub plain : Ty → Seen
plain t = record { typed = t; found = None; local = None }

abbrev pub judged : Verdict → Seen
judged v = plain v.ty

abbrev pub named : Found → Ty → Seen
named x t = record { typed = t; found = Some x; local = None }

abbrev pub of_local : Local → Seen
of_local l = record { typed = l.typed; found = None; local = Some l }
