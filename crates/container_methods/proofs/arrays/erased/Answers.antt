use Rattle.gd_model.specs.Datum.{Datum}
use Rattle.gd_model.specs.Meant.{datum}
use Rattle.value_semantics.specs.Equality.{same}
use Rattle.container_methods.proofs.Places.{erased_given, erased_place}
use Rattle.container_methods.proofs.arrays.erased.Goals as goal

pub returns-in-Ok-clause-meant : goal.returns-in-Ok-clause-meant
returns-in-Ok-clause-meant g c =
    erased_given c.args.a.now (g.K.Look.store c.args.look.now) (datum c.args.v.now) c.in-Ok.found c.without.result c.in-Ok.ensures c.without.ensures

pub returns-in-Ok-clause-place : goal.returns-in-Ok-clause-place
returns-in-Ok-clause-place g c =
    erased_place (λ (x : Datum). same (g.K.Look.store c.args.look.now) x (datum c.args.v.now)) c.args.a.now.items c.in-Ok.found c.without.result c.in-Ok.ensures c.without.ensures
