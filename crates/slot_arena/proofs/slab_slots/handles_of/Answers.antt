use Rattle.std.proofs.Common.{◌++◌, map, ap, ◌∙◌}
use Rattle.slot_arena.proofs.Listing.{of_pair, handles_from}
use Rattle.slot_arena.proofs.slab_slots.handles_of.Goals as goal

pub loop-index-init : goal.loop-index-init
loop-index-init g c =
    ap (λ l. l ++ map of_pair c.into_iter-index-iterator.result) c.new-handles.ensures.items
    ∙ ap (map of_pair) (c.into_iter-index-iterator.ensures.into_iter_gives ∙ c.iter-index-items.ensures.rest)
    ∙ handles_from 0 c.args.slots.now.slots
