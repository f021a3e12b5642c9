use Rattle.std.proofs.Common.{◌≡◌, length, map, Some}
use Rattle.assignability.specs.Fits.{fits}
use Rattle.gd_model.specs.Meant.{datum}
use Rattle.gd_model.specs.Place.{gap}
use Rattle.container_methods.proofs.Places.{inserted_given, inserted_refused, meant_place}
use Rattle.container_methods.proofs.arrays.inserted.Goals as goal

pub returns-in-Ok-clause-meant : goal.returns-in-Ok-clause-meant
returns-in-Ok-clause-meant g c =
    let items = c.args.a.now.items in
    let at : gap c.args.at (length (map datum items)) ≡ Some c.in-Some.i = meant_place gap c.args.at c.size.result (Some c.in-Some.i) items c.ranges.at c.in-Some.ensures.value c.size.ensures.value in
    inserted_given c.args.a.now (fits (g.B.Bases.bases c.args.bases.now) (g.K.Look.store c.args.look.now) c.args.a.now.element) c.args.v.now (gap c.args.at (length (map datum items))) c.in-Some.i at c.in-Ok.entered c.in-Ok.ensures.meant c.in-Ok.ensures.value

pub returns-in-Err-clause-meant : goal.returns-in-Err-clause-meant
returns-in-Err-clause-meant g c =
    let items = c.args.a.now.items in
    let at : gap c.args.at (length (map datum items)) ≡ Some c.in-Some.i = meant_place gap c.args.at c.size.result (Some c.in-Some.i) items c.ranges.at c.in-Some.ensures.value c.size.ensures.value in
    inserted_refused c.args.a.now (fits (g.B.Bases.bases c.args.bases.now) (g.K.Look.store c.args.look.now) c.args.a.now.element) c.args.v.now (gap c.args.at (length (map datum items))) c.in-Some.i at c.in-Err.fault c.in-Err.ensures.meant
