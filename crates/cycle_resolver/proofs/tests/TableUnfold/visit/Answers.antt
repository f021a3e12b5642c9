use Rattle.cycle_resolver.proofs.Tables.{cause-at}
use Rattle.cycle_resolver.proofs.tests.TableUnfold.visit.Goals as goal

pub returns-in_ok-push-in-Typed-clause-cause : goal.returns-in_ok-push-in-Typed-clause-cause
returns-in_ok-push-in-Typed-clause-cause c = cause-at c.args.item c.deref.ensures.value c.deref-2.ensures.value c.deref-3.ensures.value c.in-Typed.is c.visit_of.ensures

pub returns-in-Needs-clause-cause : goal.returns-in-Needs-clause-cause
returns-in-Needs-clause-cause c = cause-at c.args.item c.deref.ensures.value c.deref-2.ensures.value c.deref-3.ensures.value c.in-Needs.is c.visit_of.ensures

pub returns-in-Cyclic-clause-cause : goal.returns-in-Cyclic-clause-cause
returns-in-Cyclic-clause-cause c = cause-at c.args.item c.deref.ensures.value c.deref-2.ensures.value c.deref-3.ensures.value c.in-Cyclic.is c.visit_of.ensures
