use Rattle.gd_lexis.proofs.Later.{no_fault_before}
use Rattle.gd_lexis.proofs.no_fault_before.Goals as goal

pub returns : goal.returns
returns c = no_fault_before
