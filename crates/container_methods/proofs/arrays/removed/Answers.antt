use Rattle.std.proofs.Common.{Some, length, map}
use Rattle.gd_model.specs.Meant.{datum}
use Rattle.gd_model.specs.Place.{place}
use Rattle.container_methods.proofs.Places.{removed_given, meant_place}
use Rattle.container_methods.proofs.arrays.removed.Goals as goal

pub returns-in-Some-clause-meant : goal.returns-in-Some-clause-meant
returns-in-Some-clause-meant c =
    let items = c.args.a.now.items in
    removed_given c.args.a.now (place c.args.at (length (map datum items))) c.in-Some.i (meant_place place c.args.at c.size.result (Some c.in-Some.i) items c.ranges.at c.in-Some.ensures.value c.size.ensures.value)
