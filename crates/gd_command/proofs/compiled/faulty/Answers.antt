use Rattle.std.proofs.Common.{rules}
use Rattle.gd_command.proofs.CompiledLemmas.{faulty_tree}
use Rattle.gd_command.proofs.compiled.faulty.Goals as goal

pub returns : goal.returns
returns c = faulty_tree c.args.paths.items c.args.faults.now c.in_ok-report.report (search rules) (search rules) (search rules) (search rules) (search rules)
