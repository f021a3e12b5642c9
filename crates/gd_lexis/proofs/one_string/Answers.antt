use Rattle.gd_lexis.proofs.Bodies.{one_string}
use Rattle.gd_lexis.proofs.one_string.Goals as goal

pub returns : goal.returns
returns c = one_string
