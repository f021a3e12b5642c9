-- What an evaluation has besides the tree: the world, the locals of the running function, and the turns that are left;
-- and how it ends.
use Rattle.std.specs.Prelude.{ℕ, Bool, true, false, List, [], ◌∷◌, ◌++◌, Option, None, Some, option_map, unwrap_or, Result, Ok, Err, bytes_eq, if◌then◌else◌}
use Rattle.std.specs.List.{flat_map}
use Rattle.gd_model.specs.Datum.{Datum, null}
use Rattle.gd_model.specs.Store.{Store}
use Rattle.gd_model.specs.declared.fault.RunFault.{RunFault}
use Rattle.gd_model.specs.declared.fault.RunFault.TheVariants.{ValueOfAnotherType}
use Rattle.gd_syntax.specs.declared.pos.Pos.{Pos}
use Rattle.store_semantics.specs.World.{World, store_of}
use Rattle.store_semantics.specs.Holding.{settle}
use Rattle.syntax_trees.specs.Expressions.{Text}
use Rattle.source_semantics.specs.Project.{first}

-- a local: its name, the place of the name that declares it, and its value, if one is set
pub record Local : Type 0 where
  pub name : Text
  pub at : Pos
  pub value : Option Datum

-- a block's locals, the latest first
abbrev pub Block : Type 0
Block = List Local

-- the world, the blocks of the running function that are open, the innermost first, and the turns that are left
pub record Run : Type 0 where
  pub world : World
  pub blocks : List Block
  pub turns : ℕ

abbrev pub store : Run → Store
store r = store_of r.world

-- An evaluation that went well, one that ended in a fault with its place and message, or one that had no turn left.
pub data Went (A : Type 0) : Type 0 where
  went : A → Run → Went A
  failed : RunFault → Pos → Option Text → World → Went A
  ran_out : World → Went A

-- the one evaluation, and then the other
abbrev pub then_do : {A B : Type 0} → Went A → (A → Run → Went B) → Went B
then_do (went x r) more = more x r
then_do (failed f pos message w) more = failed f pos message w
then_do (ran_out w) more = ran_out w

-- the one way where it is so, and else the other
abbrev pub if_so : {A : Type 0} → Bool → (Run → Went A) → (Run → Went A) → Run → Went A
if_so true this other r = this r
if_so false this other r = other r

-- what an operation gives at its place: a value and a world
abbrev pub at_place : {A : Type 0} → Pos → Run → Result (A × World) RunFault → Went A
at_place pos r (Ok p) = went p.0 (record r { world = p.1 })
at_place pos r (Err f) = failed f pos None r.world

-- what one that reads alone gives at its place
abbrev pub read_at : {A : Type 0} → Pos → Run → Result A RunFault → Went A
read_at pos r (Ok x) = went x r
read_at pos r (Err f) = failed f pos None r.world

-- ---- locals

abbrev pub is_named : Text → Local → Bool
is_named name l = bytes_eq l.name name

-- the local of a name that is in force: the latest of the innermost block that has one
abbrev pub local : List Block → Text → Option Local
local [] name = None
local (b ∷ bs) name = nearest (first (is_named name) b) (local bs name)
  where
    nearest : Option Local → Option Local → Option Local
    nearest (Some l) outer = Some l
    nearest None outer = outer

-- a local that is not set reads as null
abbrev pub value_of : Local → Datum
value_of l = unwrap_or l.value null

abbrev pub declare_in : Local → List Block → List Block
declare_in l [] = (l ∷ []) ∷ []
declare_in l (b ∷ bs) = (l ∷ b) ∷ bs

abbrev pub declare : Local → Run → Run
declare l r = record r { blocks = declare_in l r.blocks }

-- a block with another value of the local of a name, if it has one
abbrev pub set_in : Text → Datum → Block → Option Block
set_in name v [] = None
set_in name v (l ∷ ls) = if is_named name l then Some (record l { value = Some v } ∷ ls) else option_map
    (λ rest. l ∷ rest) (set_in name v ls)

abbrev pub set_local : Text → Datum → List Block → List Block
set_local name v [] = []
set_local name v (b ∷ bs) = in_nearest (set_in name v b) b bs (set_local name v bs)
  where
    in_nearest : Option Block → Block → List Block → List Block → List Block
    in_nearest (Some set) b bs outer = set ∷ bs
    in_nearest None b bs outer = b ∷ outer

-- ---- what is held

-- the values of the locals that are set
abbrev pub held_in : Block → List Datum
held_in b = flat_map (λ (l : Local). value_held l.value) b
  where
    value_held : Option Datum → List Datum
    value_held None = []
    value_held (Some v) = v ∷ []

abbrev pub locals_held : Run → List Datum
locals_held r = flat_map held_in r.blocks

-- What one operation used up is given up, and the store settles: held are these values and those of the locals.
abbrev pub settled : List Datum → Run → Run
settled hand r = record r { world = settle r.world (hand ++ locals_held r) }

-- an operation's result, which is held before what it used is given up
abbrev pub gives : List Datum → Datum → Run → Went Datum
gives hand v r = went v (settled (v ∷ hand) r)

-- a test that a value fits what a place takes, at this place
abbrev pub tested : Pos → Bool → Run → Went (Unit {0})
tested pos fits r = if fits then went tt r else failed ValueOfAnotherType pos None r.world
