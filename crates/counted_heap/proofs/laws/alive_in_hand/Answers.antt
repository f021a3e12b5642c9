use Rattle.std.proofs.Common.{IsSome}
use Rattle.std.proofs.lemmas.List.Elements.{All-contains}
use Rattle.slot_arena.specs.Slots.{find_at}
use Rattle.counted_heap.proofs.laws.alive_in_hand.Goals as goal

pub returns : goal.returns
returns g c = λ es hand h held there. All-contains (λ x. IsSome (find_at es x)) hand h held.hand_alive there
