use Rattle.std.proofs.Common.{arith}
use Rattle.gd_command.proofs.CheckLemmas.{found_long, found_source}
use Rattle.gd_command.proofs.check.read_script.Goals as goal

pub returns-then-len-clause-told : goal.returns-then-len-clause-told
returns-then-len-clause-told g c = found_long (g.H.Shelf.files c.args.shelf.now) c.args.path.now c.in_ok-clone.field-0 c.in-Ok.source.items (g.H.Shelf.failed c.read.new.self) c.in_ok-clone.ensures.cases c.in-Ok.ensures.bytes (omega (arith, c.in-Ok.source.ok.0))

pub returns-clause-told : goal.returns-clause-told
returns-clause-told g c = found_source (g.H.Shelf.files c.args.shelf.now) c.args.path.now c.in-Ok.source.items c.in-Ok.ensures.bytes (omega (arith, c.in-Ok.source.ok.0))
