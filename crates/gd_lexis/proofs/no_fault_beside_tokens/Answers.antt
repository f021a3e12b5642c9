use Rattle.gd_lexis.proofs.Faultless.{no_fault_beside_tokens}
use Rattle.gd_lexis.proofs.no_fault_beside_tokens.Goals as goal

pub returns : goal.returns
returns c = no_fault_beside_tokens
