use Rattle.gd_text.proofs.Digits.{numerals}
use Rattle.gd_text.proofs.laws.numerals.Goals as goal

pub returns : goal.returns
returns c = numerals
