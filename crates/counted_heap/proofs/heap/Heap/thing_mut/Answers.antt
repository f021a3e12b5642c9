use Rattle.counted_heap.proofs.Taken.{sound_written}
use Rattle.counted_heap.proofs.heap.Heap.thing_mut.Goals as goal

pub invariant_of-self-lent : goal.invariant_of-self-lent
invariant_of-self-lent g c = λ w.
    rw (g.met.S.Slots.written c.self.inside.slots c.args.h w, g.met.S.Slots.last_stays c.self.inside.slots c.args.h w) (sound_written c.self.invariant c.args.h w)
