use Rattle.std.proofs.Common.{List, ap, subst}
use Rattle.slot_arena.specs.Slots.{Entry}
use Rattle.gd_holding.specs.Holding.{filled}
use Rattle.counted_heap.specs.Heap.{RisesFrom, serials}
use Rattle.counted_heap.proofs.Holders.{held_written_value}
use Rattle.counted_heap.proofs.heap.Heap.write_law.Goals as goal

pub returns : goal.returns
returns g c = λ was is value hand left moves held.
    let rising = subst (λ (es : List (Entry g.row.T.Denot)). RisesFrom 0 (serials es)) (ap (λ v. v.things) c.self.view_is) c.self.invariant.rising in
    held_written_value (λ (t : g.row.T.Denot). filled (g.T.Holds.places t)) c.args.self.now.things c.args.h was value hand left rising is moves held
