use Rattle.std.proofs.Common.{Some}
use Rattle.gd_model.specs.Place.{place}
use Rattle.container_methods.proofs.Places.{taken_given, meant_place}
use Rattle.container_methods.proofs.arrays.taken.Goals as goal

pub returns-in-Some-clause-meant : goal.returns-in-Some-clause-meant
returns-in-Some-clause-meant c =
    taken_given c.args.a.now c.args.at c.in-Some.i (meant_place place c.args.at c.size.result (Some c.in-Some.i) c.args.a.now.items c.ranges.at c.in-Some.ensures.value c.size.ensures.value)
