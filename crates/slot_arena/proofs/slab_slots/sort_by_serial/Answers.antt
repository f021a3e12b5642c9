use Rattle.std.proofs.Common.{rules}
use Rattle.std.proofs.lemmas.List.Sorted.{IsNonDecreasingBy-from_sort_by_key}
use Rattle.slot_arena.proofs.slab_slots.sort_by_serial.Goals as goal

pub returns-clause-rising : goal.returns-clause-rising
returns-clause-rising c = IsNonDecreasingBy-from_sort_by_key (λ h. h.serial) _ c.sort_unstable_by_key.ensures.sorted (λ a r q k. search rules)
