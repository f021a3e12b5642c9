use Rattle.std.proofs.Common.{◌≡◌, ap, refl, sym, ◌∙◌}
use Rattle.std.specs.Prelude.{true}
use Rattle.gd_model.specs.SameType.{same_type, same_type-Decides}
use Rattle.gd_model.specs.declared.ty.Ty.{out-Ty}
use Rattle.gd_model.specs.declared.ty.Ty.TheOpen as open_ty
use Rattle.gd_model.specs.declared.ty.Ty.TheVariants as ty
use Rattle.gd_model.specs.declared.ty.Ty.TheViews.{out-roll-Ty}
use Rattle.source_types.proofs.Computing.{computes}
use Rattle.source_types.specs.TrialsOfTypes.{ints}
use Rattle.source_types.proofs.type_trials.Goals as goal

opens_ints : out-Ty ints ≡ open_ty.ArrayOf ty.Int
opens_ints = ap out-Ty (sym (ty.rolls-ArrayOf ty.Int)) ∙ out-roll-Ty (open_ty.ArrayOf ty.Int)

same_int : same_type ty.Int ty.Int ≡ true
same_int = (same_type-Decides ty.Int ty.Int).1 refl

pub returns-clause-literal : goal.returns-clause-literal
unfolding computes
returns-clause-literal c = rw opens_ints refl

pub returns-clause-element : goal.returns-clause-element
unfolding computes
returns-clause-element c = rw opens_ints refl

pub returns-clause-chooses : goal.returns-clause-chooses
unfolding computes
returns-clause-chooses c = rw same_int refl

pub returns-clause-casts : goal.returns-clause-casts
unfolding computes
returns-clause-casts c = rw same_int refl
