use Rattle.std.proofs.Common.{◌≤◌, length, drop}
use Rattle.gd_outside.specs.MemoryShelf.{AreDistinct, files_of}
use Rattle.gd_outside.proofs.memory_shelf.are_distinct.Given as goal

abbrev pub invariant-loop-from : goal.invariant-loop-from
invariant-loop-from l = (l.from ≤ length l.files) × AreDistinct (files_of (drop l.from l.files))

abbrev pub decreases-loop-from : goal.decreases-loop-from
decreases-loop-from l = l.from
