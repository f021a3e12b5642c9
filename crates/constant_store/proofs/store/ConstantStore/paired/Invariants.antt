use Rattle.std.proofs.Common.{◌≡◌, [], map, drop, false}
use Rattle.gd_model.specs.Meant.{pair_datum}
use Rattle.constant_store.specs.Literals.{with_all}
use Rattle.constant_store.specs.Things.{value_pair}
use Rattle.constant_store.proofs.store.ConstantStore.paired.Given as goal

-- putting the pairs that are left gives what putting all of them gives
abbrev pub invariant-loop-i : goal.invariant-loop-i
invariant-loop-i l = record {
  shape : l.dict ≡ record { key_type = l.fn.key; value_type = l.fn.value; fixed = false; pairs = l.dict.pairs };
  rest : with_all l.self l.fn.key l.fn.value l.i (drop l.i (map value_pair l.pairs)) (map pair_datum l.dict.pairs) ≡ with_all l.self l.fn.key l.fn.value 0 (map value_pair l.pairs) [];
}
