use Rattle.std.proofs.Common.{◌-◌, arith}
use Rattle.std.proofs.lemmas.Grind.{common_steps}
use Rattle.gd_outside.proofs.memory_sink.MemorySinkSink.put.Goals as goal

pub returns-clause-part : goal.returns-clause-part
returns-clause-part c = (c.self.inside.room - c.len.result, grind (arith, common_steps))
