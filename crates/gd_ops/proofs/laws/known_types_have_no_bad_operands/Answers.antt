use Rattle.gd_ops.proofs.KnownTypes.{known_types}
use Rattle.gd_ops.proofs.laws.known_types_have_no_bad_operands.Goals as goal

pub returns : goal.returns
returns c = known_types
