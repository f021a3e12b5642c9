use Rattle.std.proofs.Common.{None, sym, subst}
use Rattle.assignability.specs.Fits.{fits}
use Rattle.gd_model.specs.Store.{DictThing}
use Rattle.gd_answers.specs.Answers.{AnswersAs}
use Rattle.store_semantics.specs.Writes.{Written}
use Rattle.container_methods.specs.Dicts.{made}
use Rattle.container_methods.proofs.Pairs.{found_as, kept_given}
use Rattle.container_methods.proofs.dicts.at_key.Goals as goal

pub returns-in_ok-share-in-Some-clause-meant : goal.returns-in_ok-share-in-Some-clause-meant
returns-in_ok-share-in-Some-clause-meant g c =
    kept_given c.args.d.now c.args.k.now c.args.key c.requires.named (fits (g.B.Bases.bases c.args.bases.now) (g.K.Look.store c.args.look.now) c.args.d.now.key_type) (fits (g.B.Bases.bases c.args.bases.now) (g.K.Look.store c.args.look.now) c.args.d.now.value_type) c.args.other.now
    c.in-Some.there.now c.in_ok-share-in-Some.field-0 c.in-Some.ensures c.in_ok-share-in-Some.ensures

pub returns-in-None-clause-meant : goal.returns-in-None-clause-meant
returns-in-None-clause-meant g c =
    subst (λ (w : Written DictThing). AnswersAs (made c.args.d.now) w c.added.result)
    (sym (found_as c.args.d.now c.args.k.now c.args.key c.requires.named (fits (g.B.Bases.bases c.args.bases.now) (g.K.Look.store c.args.look.now) c.args.d.now.key_type) (fits (g.B.Bases.bases c.args.bases.now) (g.K.Look.store c.args.look.now) c.args.d.now.value_type) c.args.other.now None c.in-None.ensures))
    c.added.ensures.meant
