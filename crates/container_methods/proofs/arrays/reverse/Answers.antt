use Rattle.std.proofs.Common.{arith}
use Rattle.container_methods.proofs.Places.{reverse_given}
use Rattle.container_methods.proofs.arrays.reverse.Goals as goal

pub returns-in-empty-clause-meant : goal.returns-in-empty-clause-meant
returns-in-empty-clause-meant c = λ fits store. reverse_given c.args.a.now fits store c.args.args.now (omega arith)
