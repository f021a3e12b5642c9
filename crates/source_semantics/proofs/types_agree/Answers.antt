use Rattle.source_semantics.proofs.Opened.{elements_agree, fits_agree, starts_agree}
use Rattle.source_semantics.proofs.types_agree.Goals as goal

pub returns-clause-starts : goal.returns-clause-starts
returns-clause-starts c = starts_agree

pub returns-clause-fits : goal.returns-clause-fits
returns-clause-fits c = fits_agree

pub returns-clause-elements : goal.returns-clause-elements
returns-clause-elements c = elements_agree
