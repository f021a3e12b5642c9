use Rattle.gd_text.proofs.Readings.{one_text}
use Rattle.gd_text.proofs.laws.one_text.Goals as goal

pub returns : goal.returns
returns c = one_text
