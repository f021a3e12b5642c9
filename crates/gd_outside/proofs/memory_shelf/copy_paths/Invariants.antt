use Rattle.std.proofs.Common.{◌≡◌, take}
use Rattle.gd_outside.specs.Files.{paths_of}
use Rattle.gd_outside.specs.MemoryShelf.{files_of}
use Rattle.gd_outside.proofs.memory_shelf.copy_paths.Given as goal

abbrev pub invariant-loop-file : goal.invariant-loop-file
invariant-loop-file l = l.paths.items ≡ take l.file-index (paths_of (files_of l.files))
