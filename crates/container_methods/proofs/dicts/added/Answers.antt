use Rattle.assignability.specs.Fits.{fits}
use Rattle.container_methods.proofs.Pairs.{added_given, added_refused}
use Rattle.container_methods.proofs.dicts.added.Goals as goal

pub returns-in_ok-answer-in-Ok-clause-meant : goal.returns-in_ok-answer-in-Ok-clause-meant
returns-in_ok-answer-in-Ok-clause-meant g c =
    added_given c.args.d.now c.args.k.now c.args.key c.requires.named (fits (g.B.Bases.bases c.args.bases.now) (g.K.Look.store c.args.look.now) c.args.d.now.key_type) (fits (g.B.Bases.bases c.args.bases.now) (g.K.Look.store c.args.look.now) c.args.d.now.value_type) c.args.other.now
    c.in_ok-value-in-Ok.value c.in_ok-answer-in-Ok.answer c.in-Ok.ensures.meant c.in_ok-value-in-Ok.ensures c.in_ok-answer-in-Ok.ensures

pub returns-in-Err-clause-meant : goal.returns-in-Err-clause-meant
returns-in-Err-clause-meant g c =
    added_refused c.args.d.now c.args.k.now c.args.key c.requires.named (fits (g.B.Bases.bases c.args.bases.now) (g.K.Look.store c.args.look.now) c.args.d.now.key_type) (fits (g.B.Bases.bases c.args.bases.now) (g.K.Look.store c.args.look.now) c.args.d.now.value_type) c.args.other.now
    c.in-Err.fault c.in-Err.ensures.meant
