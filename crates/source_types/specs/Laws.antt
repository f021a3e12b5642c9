-- What holds of the types of all projects.
use Rattle.std.specs.Prelude.{◌≡◌, ℕ, suc, true, Option, is_some}
use Rattle.gd_members.specs.declared.Item.{Item}
use Rattle.gd_model.specs.declared.ty.Ty.{Ty}
use Rattle.syntax_trees.specs.Expressions.{Expr}
use Rattle.source_types.specs.Items.{known_at, step}
use Rattle.source_types.specs.Judging.{judge}
use Rattle.source_types.specs.Knowing.{Stays}
use Rattle.source_types.specs.Projects.{Project}
use Rattle.source_types.specs.Scopes.{Items, Made, Scope}

-- where more items are known, those that were known have the same types
abbrev pub MoreKnown : Items → Items → Type 0
MoreKnown items more = (item : Item) → Stays (items item) (more item)

-- an expression that was seen is seen to be the same where more items are known
abbrev pub SeenStays : Type 0
SeenStays = (items more : Items) → MoreKnown items more → (c : Scope) (place : Option Ty) (x : Expr)
    → Stays (judge items c place x) (judge more c place x)

-- so is the type of an item, by one step
abbrev pub StepStays : Type 0
StepStays = (p : Project) (made : Made) (items more : Items) → MoreKnown items more → MoreKnown (step p made items)
    (step p made more)

-- what is known behind so many steps is the same behind one more
abbrev pub KnownStays : Type 0
KnownStays = (p : Project) (made : Made) (depth : ℕ) → MoreKnown (known_at p made depth) (known_at p made (suc depth))

-- the type of each item is known
abbrev pub AllKnown : Items → Type 0
AllKnown items = (item : Item) → is_some (items item) ≡ true

-- then each expression is seen, so that nothing is unknown once the items are settled
abbrev pub AllSeen : Type 0
AllSeen = (items : Items) → AllKnown items → (c : Scope) (place : Option Ty) (x : Expr)
    → is_some (judge items c place x) ≡ true
