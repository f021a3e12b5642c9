use Rattle.gd_outside.proofs.Places.{take-paths_of}
use Rattle.gd_outside.proofs.memory_shelf.copy_paths.Goals as goal

pub loop-file-preserved : goal.loop-file-preserved
loop-file-preserved c = cc (take-paths_of c.args.files.now c.loop-file.file-index c.file-item.result c.loop-file-test.true c.file-item.is, c.in_ok-push.ensures.items, c.in_ok-clone.ensures.cases, c.loop-file.invariant)
