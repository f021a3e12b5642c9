use Rattle.gd_lexis.proofs.Cuts.{one_token_list}
use Rattle.gd_lexis.proofs.one_token_list.Goals as goal

pub returns : goal.returns
returns c = one_token_list
