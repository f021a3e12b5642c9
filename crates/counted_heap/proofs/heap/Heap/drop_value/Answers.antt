use Rattle.std.proofs.Common.{◌++◌, Option, sym, subst}
use Rattle.std.specs.Option.{option_to_list}
use Rattle.slot_arena.specs.declared.handle.Handle.{Handle}
use Rattle.gd_holding.specs.Holding.{AreCounted}
use Rattle.counted_heap.proofs.heap.Heap.drop_value.Goals as goal

pub returns-in-Some-clause-holders : goal.returns-in-Some-clause-holders
returns-in-Some-clause-holders g c = λ hand held.
    c.drop_handle.ensures.holders hand (subst (λ (o : Option Handle). AreCounted g.T.Holds.places c.args.self.now.things (option_to_list o ++ hand)) (sym c.in-Some.ensures) held)
