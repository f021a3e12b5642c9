use Rattle.gd_text.proofs.Formatted.{agrees}
use Rattle.gd_text.proofs.laws.one_function.Goals as goal

pub returns : goal.returns
returns c = agrees
