use Rattle.std.proofs.Common.{rules, arith, ap, sym, ◌∙◌, length}
use Rattle.gd_command.specs.Check.{bytes_of}
use Rattle.gd_command.proofs.JudgeLemmas.{faulty_of, whole_of}
use Rattle.gd_command.proofs.judge.judge.Goals as goal

pub returns-then-not-is_empty-clause-finds : goal.returns-then-not-is_empty-clause-finds
returns-then-not-is_empty-clause-finds c =
    faulty_of c.args.options (bytes_of c.args.sources.now) c.in_ok-trees.field-0.faults.items _ _ c.in_ok-trees.ensures.finds (search rules) (search rules) (search rules)

pub returns-clause-finds : goal.returns-clause-finds
returns-clause-finds c =
    whole_of c.args.options (bytes_of c.args.sources.now) c.in_ok-trees.field-0.faults.items _ (search rules) c.in_ok-trees.ensures.finds c.analyse.ensures.finds
