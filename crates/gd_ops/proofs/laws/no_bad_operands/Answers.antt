use Rattle.gd_ops.proofs.Operands as operands
use Rattle.gd_ops.proofs.laws.no_bad_operands.Goals as goal

pub returns : goal.returns
returns c = operands.no_bad_operands
