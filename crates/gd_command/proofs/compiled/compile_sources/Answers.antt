use Rattle.std.proofs.Common.{rules}
use Rattle.gd_command.specs.Check.{bytes_of}
use Rattle.gd_command.proofs.CompiledLemmas.{faulty_compiled, whole_compiled}
use Rattle.gd_command.proofs.compiled.compile_sources.Goals as goal

pub returns-then-not-is_empty : goal.returns-then-not-is_empty
returns-then-not-is_empty c =
    faulty_compiled c.args.paths.items (bytes_of c.args.sources.now) c.in_ok-trees.faults.items c.new-then-not-is_empty.result
    (search rules) (search rules) (search rules) (search rules) (search rules)

pub returns : goal.returns
returns c =
    whole_compiled c.args.paths.items (bytes_of c.args.sources.now) c.in_ok-trees.faults.items c.compile_trees.result (search rules)
    (search rules) c.compile_trees.ensures
