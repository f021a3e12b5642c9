use Rattle.gd_lexis.proofs.Later.{first_here}
use Rattle.gd_lexis.proofs.first_fault_here.Goals as goal

pub returns : goal.returns
returns c = first_here
