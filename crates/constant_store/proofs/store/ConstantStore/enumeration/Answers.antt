use Rattle.std.proofs.Common.{◌≡◌, true, List, map, ap, sym, ◌∙◌, subst}
use Rattle.gd_model.specs.Datum.{Datum}
use Rattle.constant_store.specs.Things.{all_data_held, pair_data, value_pair}
use Rattle.constant_store.proofs.Literal.{enum_held}
use Rattle.constant_store.proofs.store.ConstantStore.enumeration.Goals as goal

pub dictionary-requires : goal.dictionary-requires
dictionary-requires c =
    subst (λ (ps : List (Datum × Datum)). all_data_held c.args.self.now (pair_data ps) ≡ true) (sym (ap (map value_pair) c.as_slice.ensures.value ∙ c.in_ok-pairs.ensures)) (enum_held c.args.self.now c.args.values.now)
