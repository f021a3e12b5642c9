use Rattle.std.proofs.Common.{◌≡◌, ◌++◌, ◌∷◌, [], map, take, Some, ap, sym, ◌∙◌}
use Rattle.std.specs.Option.{option_map}
use Rattle.std.specs.Map.Iter.{deref_pair}
use Rattle.constant_store.specs.Fixing.{fixed_pair}
use Rattle.constant_store.proofs.Put.{dict_pair_at, pairs_more}
use Rattle.constant_store.proofs.store.ConstantStore.fixed_pairs.Goals as goal

pub fixed_key-requires : goal.fixed_key-requires
fixed_key-requires c = (dict_pair_at c.args.self.now c.args.dict.now.pairs c.loop-i.i c.in-Some.key.now c.in-Some.value.now (sym (ap (option_map deref_pair) c.in-Some.is) ∙ c.at.ensures) c.requires).0

pub fixed-requires : goal.fixed-requires
fixed-requires c = (dict_pair_at c.args.self.now c.args.dict.now.pairs c.loop-i.i c.in-Some.key.now c.in-Some.value.now (sym (ap (option_map deref_pair) c.in-Some.is) ∙ c.at.ensures) c.requires).1

pub loop-i-preserved : goal.loop-i-preserved
loop-i-preserved c =
    let more = pairs_more fixed_pair c.args.dict.now.pairs c.loop-i.i c.in-Some.key.now c.in-Some.value.now (sym (ap (option_map deref_pair) c.in-Some.is) ∙ c.at.ensures) in
    c.in_ok-push.ensures.items
    ∙ (λ j. c.loop-i.invariant j ++ (c.in_ok-fixed_key.ensures j, c.in_ok-fixed.ensures j) ∷ [])
    ∙ sym more
