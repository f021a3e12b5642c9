use Rattle.std.proofs.Common.{sym, subst}
use Rattle.assignability.specs.Fits.{fits}
use Rattle.gd_answers.specs.Answers.{AnswersAs}
use Rattle.value_semantics.specs.declared.builtin.Builtin.{Builtin}
use Rattle.container_methods.specs.Dicts.{gives, made}
use Rattle.container_methods.proofs.dicts.decided.Goals as goal

pub returns-in-DictionaryErase-clause-meant : goal.returns-in-DictionaryErase-clause-meant
returns-in-DictionaryErase-clause-meant g c =
    subst (λ (m : Builtin). AnswersAs (made c.args.d.now) (gives (g.B.Bases.bases c.args.bases.now) (g.K.Look.store c.args.look.now) m c.args.d.now c.args.args.now) c.erase.result) (sym c.in-DictionaryErase.is)
    (c.erase.ensures.meant (fits (g.B.Bases.bases c.args.bases.now) (g.K.Look.store c.args.look.now) c.args.d.now.key_type) (fits (g.B.Bases.bases c.args.bases.now) (g.K.Look.store c.args.look.now) c.args.d.now.value_type) (g.K.Look.store c.args.look.now))

pub returns-in-DictionaryClear-clause-meant : goal.returns-in-DictionaryClear-clause-meant
returns-in-DictionaryClear-clause-meant g c =
    subst (λ (m : Builtin). AnswersAs (made c.args.d.now) (gives (g.B.Bases.bases c.args.bases.now) (g.K.Look.store c.args.look.now) m c.args.d.now c.args.args.now) c.clear.result) (sym c.in-DictionaryClear.is)
    (c.clear.ensures.meant (fits (g.B.Bases.bases c.args.bases.now) (g.K.Look.store c.args.look.now) c.args.d.now.key_type) (fits (g.B.Bases.bases c.args.bases.now) (g.K.Look.store c.args.look.now) c.args.d.now.value_type) (g.K.Look.store c.args.look.now))
