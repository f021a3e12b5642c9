use Rattle.gd_lexis.proofs.Digits.{one_number}
use Rattle.gd_lexis.proofs.one_number.Goals as goal

pub returns : goal.returns
returns c = one_number
