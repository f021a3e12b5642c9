use Rattle.gd_model.specs.SameType.{by_deciding}
use Rattle.gd_model.proofs.ty.Ty.same.Goals as goal

pub returns : goal.returns
returns c = by_deciding _ _ _ c.is.ensures
