use Rattle.gd_lexis.proofs.Tokens.{one_kind}
use Rattle.gd_lexis.proofs.one_kind.Goals as goal

pub returns : goal.returns
returns c = one_kind
