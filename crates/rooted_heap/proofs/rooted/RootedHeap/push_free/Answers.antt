use Rattle.std.proofs.Common.{ap}
use Rattle.rooted_heap.proofs.Values.{sound_pushed_free, room_left}
use Rattle.rooted_heap.proofs.rooted.RootedHeap.push_free.Goals as goal

pub invariant_of-self : goal.invariant_of-self
invariant_of-self c =
    sound_pushed_free c.self.invariant
    (room_left c.self.inside.slots.items c.args.self.now.values c.args.self.now.slots (ap (λ w. w.values) c.self.view_is) (ap (λ w. w.slots) c.self.view_is) c.self.invariant.within c.requires.room)
    c.args.value c.requires.free
