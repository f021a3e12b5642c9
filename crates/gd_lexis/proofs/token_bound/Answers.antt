use Rattle.gd_lexis.proofs.Counts.{token_bound}
use Rattle.gd_lexis.proofs.token_bound.Goals as goal

pub returns : goal.returns
returns c = token_bound
