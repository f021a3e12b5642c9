use Rattle.std.proofs.Common.{IsSome}
use Rattle.std.specs.List.{All}
use Rattle.std.proofs.lemmas.List.Elements.{All-contains}
use Rattle.slot_arena.specs.Slots.{find_at}
use Rattle.gd_holding.specs.Holding.{filled}
use Rattle.counted_heap.proofs.laws.alive_in_thing.Goals as goal

pub returns : goal.returns
returns g c = λ es hand e h held there inside.
    All-contains (λ x. IsSome (find_at es x)) (filled (g.T.Holds.places e.value)) h
    (All-contains (λ x. All (λ y. IsSome (find_at es y)) (filled (g.T.Holds.places x.value))) es e held.alive there) inside
