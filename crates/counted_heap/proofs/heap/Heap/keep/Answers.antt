use Rattle.std.proofs.Common.{◌++◌, Option, subst}
use Rattle.std.specs.Option.{option_to_list}
use Rattle.slot_arena.specs.declared.handle.Handle.{Handle}
use Rattle.gd_holding.specs.Holding.{AreCounted}
use Rattle.counted_heap.proofs.heap.Heap.keep.Goals as goal

pub returns-in-Some-clause-holders : goal.returns-in-Some-clause-holders
returns-in-Some-clause-holders g c = λ hand held.
    subst (λ (o : Option Handle). AreCounted g.T.Holds.places c.keep_handle.new.self.things (option_to_list o ++ hand)) c.in-Some.ensures (c.keep_handle.ensures.holders hand held)
