use Rattle.std.proofs.Common.{sym, subst, arith}
use Rattle.gd_outside.specs.Sink.{AppendsPrefix}
use Rattle.gd_command.specs.Report.{mark_line}
use Rattle.gd_command.proofs.PutsLemmas.{Puts-err, AppendsPrefix-then, AppendsPrefix-more, flat_map_round}
use Rattle.gd_command.proofs.print.print_marks.Goals as goal

pub returns-in_err-print_mark-clause-puts : goal.returns-in_err-print_mark-clause-puts
returns-in_err-print_mark-clause-puts g c =
    let printed = AppendsPrefix-then _ _ _ _ _ c.loop-mark.invariant.0 c.in_err-print_mark.ensures.puts in
    let round = flat_map_round (mark_line c.args.paths.now) c.args.marks.now c.loop-mark.mark-index _ (omega arith) in
    Puts-err _ _ _ _ c.from_residual.ensures.0 (subst (λ text. AppendsPrefix (g.K.Sink.contents c.args.out.now) text (g.K.Sink.contents c.print_mark.new.out)) (sym round) (AppendsPrefix-more _ _ _ _ printed))
