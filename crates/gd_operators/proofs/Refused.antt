-- An operator that there is not for the kinds of its operands refuses them as bad ones.
use Rattle.std.proofs.Common.{◌≡◌, Bool, true, false, ◌||◌, not, Err, refl, ap, if◌then◌else◌}
use Rattle.gd_syntax.specs.declared.operator.Operator.{Operator}
use Rattle.gd_syntax.specs.declared.operator.Operator.TheVariants.{Remainder, Add, Equal, NotEqual, In, NotIn, Negate, Plus, Complement, Not}
use Rattle.gd_model.specs.declared.fault.RunFault.TheVariants.{BadOperands}
use Rattle.gd_model.specs.Datum as d
use Rattle.gd_model.specs.Datum.{Datum}
use Rattle.gd_model.specs.Store.{Store, Names}
use Rattle.value_semantics.specs.Answer.{in_form}
use Rattle.value_semantics.specs.Equality.{same}
use Rattle.value_semantics.specs.Kinds as kinds
use Rattle.value_semantics.specs.Kinds.{kind_of, takes, is_membership, alike}
use Rattle.value_semantics.specs.Made.{bool_made}
use Rattle.value_semantics.specs.Operators.{others_give, sum_gives, rest_gives, equal, one_int}

right_false : (p q : Bool) → p || q ≡ false → q ≡ false
right_false false q e = e
right_false true q e = cc

bad_sum : (store : Store) (a b : Datum) → kinds.arrays (kind_of a) (kind_of b) ≡ false → sum_gives store a b ≡ Err BadOperands
bad_sum store (d.array s) (d.array t) e = cc
bad_sum store _ _ e = refl

bad_rest : (store : Store) (names : Names) (a b : Datum) → kinds.pattern (kind_of a) ≡ false → rest_gives store names a b ≡ Err BadOperands
bad_rest store names (d.text p) b e = cc
bad_rest store names _ b e = refl

bad_equal : (store : Store) (a b : Datum) → alike (kind_of a) (kind_of b) ≡ false → equal store a b ≡ Err BadOperands
bad_equal store a b e = ap (λ yes. if yes then same store a b else Err BadOperands) e

bad_int : (op : Operator) (a : Datum) → kinds.one_int (kind_of a) ≡ false → one_int op a ≡ Err BadOperands
bad_int op (d.int x) e = cc
bad_int op _ e = refl

pub untaken : (store : Store) (names : Names) (op : Operator) (a b : Datum) → is_membership op ≡ false → takes op (kind_of a) (kind_of b) ≡ false → others_give store names op a b ≡ Err BadOperands
untaken store names Add a b m t = bad_sum store a b (right_false _ _ t)
untaken store names Remainder a b m t = bad_rest store names a b (right_false _ _ t)
untaken store names Equal a b m t = ap (in_form bool_made) (bad_equal store a b t)
untaken store names NotEqual a b m t = ap (in_form (λ yes. bool_made (not yes))) (bad_equal store a b t)
untaken store names Not a b m t = cc
untaken store names In a b m t = cc
untaken store names NotIn a b m t = cc
untaken store names Negate a b m t = bad_int Negate a t
untaken store names Plus a b m t = bad_int Plus a t
untaken store names Complement a b m t = bad_int Complement a t
untaken store names _ a b m t = refl
