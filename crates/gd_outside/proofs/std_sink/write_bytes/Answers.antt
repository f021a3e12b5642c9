use Rattle.std.proofs.Common.{arith}
use Rattle.std.proofs.lemmas.List.{take_rest}
use Rattle.std.proofs.lemmas.Grind.{common_steps}
use Rattle.gd_outside.proofs.Known.{appends-keeps, appends-more}
use Rattle.gd_outside.proofs.std_sink.write_bytes.Goals as goal
use Rattle.gd_outside.proofs.std_sink.write_bytes.Goals.{in-Ok, in-Err+else-ne}

pub loop-preserved : goal.loop-preserved
loop-preserved g c =
    elim c.match-write.branch [
      | in-Ok w ↦ (
        grind (arith, common_steps),
        rw w.written-is (appends-more _ _ _ c.args.bytes.now c.loop.written w.in-Ok.count c.loop.invariant.1 (rw take_rest at w.in-Ok.ensures.bytes)),
      )
      | in-Err+else-ne w ↦ (
        grind (arith, common_steps),
        rw w.written-is (appends-keeps _ _ _ _ c.loop.invariant.1 w.in-Err.ensures.bytes),
      )
    ]
