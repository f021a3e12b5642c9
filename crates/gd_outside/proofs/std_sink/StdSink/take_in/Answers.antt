use Rattle.std.proofs.Common.{length, rules}
use Rattle.gd_outside.proofs.Known.{kept-whole}
use Rattle.gd_outside.proofs.std_sink.StdSink.take_in.Goals as goal

pub returns-then-has_many_lines-clause-part : goal.returns-then-has_many_lines-clause-part
returns-then-has_many_lines-clause-part g c =
    kept-whole _ _ _ c.args.piece.now c.flush.result c.in_ok-keep.ensures.whole c.flush.ensures.keeps
