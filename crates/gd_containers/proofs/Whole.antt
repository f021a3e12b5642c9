-- What lies in the things to which a whole value leads.
use Rattle.std.proofs.Common.{◌≡◌, Bool, true, false, Option, Some, None, List, ap, sym, subst, true≢false, ◌∙◌}
use Rattle.std.specs.Prelude.{is_some, unwrap_or}
use Rattle.gd_model.specs.View.{ThingView, ArrayView, DictView, object, array, dict, array_in, dict_in}
use Rattle.gd_model.specs.Whole.{lying_in, pair_values}

-- what is there is not none
pub not_none : {A : Type 0} (o : Option A) → o ≡ None → is_some o ≡ true → ⊥
not_none o e there = absurd (true≢false (sym there ∙ ap is_some e))

pub array_lies : (t : Option ThingView) (a : ArrayView) → array_in t ≡ Some a → lying_in t ≡ a.items
array_lies (Some (array b)) a e = ap (λ o. (unwrap_or o b).items) e
array_lies (Some (object c vs)) a e = cc
array_lies (Some (dict d)) a e = cc
array_lies None a e = cc

pub dict_lies : (t : Option ThingView) (d : DictView) → dict_in t ≡ Some d → lying_in t ≡ pair_values d.pairs
dict_lies (Some (dict b)) d e = ap (λ o. pair_values (unwrap_or o b).pairs) e
dict_lies (Some (object c vs)) d e = cc
dict_lies (Some (array a)) d e = cc
dict_lies None d e = cc
