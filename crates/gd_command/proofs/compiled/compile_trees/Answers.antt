use Rattle.gd_command.proofs.CompiledLemmas.{accepted_tree}
use Rattle.gd_command.proofs.compiled.compile_trees.Goals as goal

pub returns-in-Ok : goal.returns-in-Ok
returns-in-Ok c = accepted_tree _ _ c.compile_accepted.ensures
