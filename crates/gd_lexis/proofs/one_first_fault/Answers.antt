use Rattle.gd_lexis.proofs.Firsts.{one_first_fault}
use Rattle.gd_lexis.proofs.one_first_fault.Goals as goal

pub returns : goal.returns
returns c = one_first_fault
