use Rattle.std.proofs.Common.{◌≡◌, ◌+◌, ◌-◌, ◌≤◌, take, vec_len}
use Rattle.rooted_heap.proofs.rooted.grow.Given as goal

abbrev pub invariant-room : goal.invariant-room
invariant-room l = (l.top ≤ vec_len l.slots) × (vec_len l.initial.slots ≤ vec_len l.slots) × (take l.top l.slots.items ≡ take l.top l.initial.slots.items)

abbrev pub decreases-room : goal.decreases-room
decreases-room l = l.top + l.more - vec_len l.slots
