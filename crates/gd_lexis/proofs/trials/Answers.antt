use Rattle.gd_lexis.proofs.Samples.{one_name, one_mark, one_string, one_pair, one_marked, two_blocks, one_bracketed, one_comment}
use Rattle.gd_lexis.proofs.SampleFault.{one_float}
use Rattle.gd_lexis.proofs.SampleRaw.{one_raw}
use Rattle.gd_lexis.proofs.trials.Goals as goal

pub returns : goal.returns
returns c =
    record { name = one_name; mark = one_mark; string = one_string; pair = one_pair; marked = one_marked; blocks = two_blocks; bracketed = one_bracketed; comment = one_comment; float = one_float; raw = one_raw }
