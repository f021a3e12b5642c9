-- Ways along needs.
use Rattle.std.proofs.Common.{List}
use Rattle.std.specs.List.{All, Contains}
use Rattle.std.proofs.lemmas.List.Elements.{All-contains}
use Rattle.gd_members.specs.declared.Item.{Item}
use Rattle.cycle_resolver.specs.Needs.{Leads, LeadsToCycle, directly, through}

-- one need more, at the end of a way
pub Leads-then : {needs : Item → List Item} {a b c : Item} → Leads needs a b → Contains (needs b) c → Leads needs a c
Leads-then (directly a b first) last = through a b _ first (directly b _ last)
Leads-then (through a next b first rest) last = through a next _ first (Leads-then rest last)

-- the first need of a way to a cycle leads to it too
pub first-need : {needs : Item → List Item} {a b : Item} → Leads needs a b → Leads needs b b
    → (next : Item) × Contains (needs a) next × LeadsToCycle needs next
first-need (directly a b first) round = (b, first, (b, round, round))
first-need (through a next b first rest) round = (next, first, (b, rest, round))

pub LeadsToCycle-need : {needs : Item → List Item} {a next : Item} → Contains (needs a) next → LeadsToCycle needs next → LeadsToCycle needs a
LeadsToCycle-need {needs} {a} {next} first (other, way, round) = (other, through a next other first way, round)

-- an item whose needs lead to no cycle leads to none
pub no-cycle : (needs : Item → List Item) (a : Item) → All (λ item. ¬ LeadsToCycle needs item) (needs a) → ¬ LeadsToCycle needs a
no-cycle needs a none (other, way, round) =
    let next = first-need way round in
    All-contains (λ item. ¬ LeadsToCycle needs item) (needs a) next.0 none next.1 next.2
