use Rattle.std.proofs.Common.{List, sym, subst}
use Rattle.slot_arena.specs.declared.handle.Handle.{Handle}
use Rattle.gd_holding.specs.Holding.{AreCounted}
use Rattle.counted_heap.specs.Thing.{thing_places}
use Rattle.counted_heap.proofs.tests.hold_new.Goals as goal

pub returns : goal.returns
returns g c =
    subst (λ (hs : List Handle). AreCounted thing_places c.make.new.self.things hs) (sym c.in_ok-insert.ensures.items) (c.in_ok-h.ensures.holders c.args.hand.now.items c.requires)
