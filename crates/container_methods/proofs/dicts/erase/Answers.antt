use Rattle.std.proofs.Common.{arith}
use Rattle.container_methods.proofs.Pairs.{erase_called}
use Rattle.container_methods.proofs.Places.{one_arg}
use Rattle.container_methods.proofs.dicts.erase.Goals as goal

pub returns-in-Ok-clause-meant : goal.returns-in-Ok-clause-meant
returns-in-Ok-clause-meant c =
    λ key_fits value_fits things. erase_called c.args.d.now c.k-item.result c.in-Ok.key c.in-Ok.ensures.faults c.in-Ok.ensures.meant key_fits value_fits things c.args.args.now
    (one_arg c.args.args.now c.k-item.result c.k-item.is (omega arith))
