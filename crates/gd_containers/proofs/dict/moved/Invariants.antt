use Rattle.std.proofs.Common.{◌≡◌, ◌≤◌, ◌+◌, ◌++◌, length, reverse, vec_len, vec_capacity}
use Rattle.gd_containers.proofs.dict.moved.Given as goal

abbrev pub invariant-loop-pair : goal.invariant-loop-pair
invariant-loop-pair l = record {
  moved : l.map.entries ++ reverse l.room.items ≡ l.fn.map.entries;
  places : length l.map.entries + vec_len l.room ≤ vec_capacity l.room;
}

abbrev pub decreases-loop-pair : goal.decreases-loop-pair
decreases-loop-pair l = length l.map.entries
