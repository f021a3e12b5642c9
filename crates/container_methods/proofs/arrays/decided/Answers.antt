use Rattle.std.proofs.Common.{sym, subst}
use Rattle.assignability.specs.Fits.{fits}
use Rattle.gd_answers.specs.Answers.{AnswersAs}
use Rattle.value_semantics.specs.declared.builtin.Builtin.{Builtin}
use Rattle.container_methods.specs.Arrays.{gives, made}
use Rattle.container_methods.proofs.arrays.decided.Goals as goal

pub returns-in-ArrayPopBack-clause-meant : goal.returns-in-ArrayPopBack-clause-meant
returns-in-ArrayPopBack-clause-meant g c =
    subst (λ (m : Builtin). AnswersAs (made c.args.a.now) (gives (g.B.Bases.bases c.args.bases.now) (g.K.Look.store c.args.look.now) m c.args.a.now c.args.args.now) c.pop_back.result) (sym c.in-ArrayPopBack.is)
    (c.pop_back.ensures.meant (fits (g.B.Bases.bases c.args.bases.now) (g.K.Look.store c.args.look.now) c.args.a.now.element) (g.K.Look.store c.args.look.now))

pub returns-in-ArrayPopFront-clause-meant : goal.returns-in-ArrayPopFront-clause-meant
returns-in-ArrayPopFront-clause-meant g c =
    subst (λ (m : Builtin). AnswersAs (made c.args.a.now) (gives (g.B.Bases.bases c.args.bases.now) (g.K.Look.store c.args.look.now) m c.args.a.now c.args.args.now) c.pop_front.result) (sym c.in-ArrayPopFront.is)
    (c.pop_front.ensures.meant (fits (g.B.Bases.bases c.args.bases.now) (g.K.Look.store c.args.look.now) c.args.a.now.element) (g.K.Look.store c.args.look.now))

pub returns-in-ArrayRemoveAt-clause-meant : goal.returns-in-ArrayRemoveAt-clause-meant
returns-in-ArrayRemoveAt-clause-meant g c =
    subst (λ (m : Builtin). AnswersAs (made c.args.a.now) (gives (g.B.Bases.bases c.args.bases.now) (g.K.Look.store c.args.look.now) m c.args.a.now c.args.args.now) c.remove_at.result) (sym c.in-ArrayRemoveAt.is)
    (c.remove_at.ensures.meant (fits (g.B.Bases.bases c.args.bases.now) (g.K.Look.store c.args.look.now) c.args.a.now.element) (g.K.Look.store c.args.look.now))

pub returns-in-ArrayErase-clause-meant : goal.returns-in-ArrayErase-clause-meant
returns-in-ArrayErase-clause-meant g c =
    subst (λ (m : Builtin). AnswersAs (made c.args.a.now) (gives (g.B.Bases.bases c.args.bases.now) (g.K.Look.store c.args.look.now) m c.args.a.now c.args.args.now) c.erase.result) (sym c.in-ArrayErase.is)
    (c.erase.ensures.meant (fits (g.B.Bases.bases c.args.bases.now) (g.K.Look.store c.args.look.now) c.args.a.now.element))

pub returns-in-ArrayClear-clause-meant : goal.returns-in-ArrayClear-clause-meant
returns-in-ArrayClear-clause-meant g c =
    subst (λ (m : Builtin). AnswersAs (made c.args.a.now) (gives (g.B.Bases.bases c.args.bases.now) (g.K.Look.store c.args.look.now) m c.args.a.now c.args.args.now) c.clear.result) (sym c.in-ArrayClear.is)
    (c.clear.ensures.meant (fits (g.B.Bases.bases c.args.bases.now) (g.K.Look.store c.args.look.now) c.args.a.now.element) (g.K.Look.store c.args.look.now))

pub returns-in-ArrayReverse-clause-meant : goal.returns-in-ArrayReverse-clause-meant
returns-in-ArrayReverse-clause-meant g c =
    subst (λ (m : Builtin). AnswersAs (made c.args.a.now) (gives (g.B.Bases.bases c.args.bases.now) (g.K.Look.store c.args.look.now) m c.args.a.now c.args.args.now) c.reverse.result) (sym c.in-ArrayReverse.is)
    (c.reverse.ensures.meant (fits (g.B.Bases.bases c.args.bases.now) (g.K.Look.store c.args.look.now) c.args.a.now.element) (g.K.Look.store c.args.look.now))

pub returns-in-ArraySort-clause-meant : goal.returns-in-ArraySort-clause-meant
returns-in-ArraySort-clause-meant g c =
    subst (λ (m : Builtin). AnswersAs (made c.args.a.now) (gives (g.B.Bases.bases c.args.bases.now) (g.K.Look.store c.args.look.now) m c.args.a.now c.args.args.now) c.sort.result) (sym c.in-ArraySort.is)
    (c.sort.ensures.meant (fits (g.B.Bases.bases c.args.bases.now) (g.K.Look.store c.args.look.now) c.args.a.now.element) (g.K.Look.store c.args.look.now))
